-- The configuration of the code that stands for what one of the code stands for is that one again.
use Rattle.std.proofs.Common.{◌≡◌, ℕ, zero, suc, ◌+◌, ◌<◌, ◌≤◌, Bool, true, false, List, [], ◌∷◌, ◌++◌, length, map, get_or, bytes_eq, refl, sym, ap, subst, ◌∙◌, if◌then◌else◌, le-add_left, le_of_suc-le-suc, length-append, lt_of_le_of_lt, not-suc-le-zero, suc-add, suc-le-suc, suc-ne-zero, zero-add, zero-le, zero-lt-suc}
use Rattle.std.proofs.lemmas.List.Elements.{All-head, All-tail}
use Rattle.std.specs.Cmp.{both_ways, ranks}
use Rattle.std.specs.List.{All}
use Rattle.std.specs.Ordering.{MatchOrdering, nat_cmp}
use Rattle.std.specs.declared.cmp.Ordering.TheVariants.{Equal}
use Rattle.syntax_equality.specs.Equality.{name_one}
use Rattle.graph_numbers.specs.Lists.{AreDifferent}
use Rattle.semantics.proofs.LabelOrder.{names-alike}
use Rattle.semantics.proofs.Pairs.{All-more}
use Rattle.semantics.specs.Entries.{name_cmp}
use Rattle.semantics.specs.Items.{Item}
use Rattle.config_parts.proofs.Naming.{make_legend}
use Rattle.config_parts.specs.Legend.{component_by, config_by, connection_by, data_by, default_by, end_by, entries_by, frame_by, frame_with, going_by, mapping_by, message_by, queue_by, state_by}
use Rattle.config_parts.specs.Names.{AreInOrder, legend_of, name_of, names_behind, zeros}
use Rattle.config_parts.specs.Views.{IsConfigWithin, IsFrameWithin, IsGoingWithin, IsWithin}
use Rattle.config_parts.specs.declared.component.Component.{Component}
use Rattle.config_parts.specs.declared.component.Message.{Message}
use Rattle.config_parts.specs.declared.component.Queue.{Queue}
use Rattle.config_parts.specs.declared.component.State.{State}
use Rattle.config_parts.specs.declared.component.State.TheVariants as state
use Rattle.config_parts.specs.declared.config.Config.{Config}
use Rattle.config_parts.specs.declared.config.Config.TheVariants as config
use Rattle.config_parts.specs.declared.config.Going.{Going}
use Rattle.config_parts.specs.declared.connection.Connection.{Connection}
use Rattle.config_parts.specs.declared.connection.End.{End}
use Rattle.config_parts.specs.declared.frame.ActiveDefault.{ActiveDefault}
use Rattle.config_parts.specs.declared.frame.Cells.{Cells}
use Rattle.config_parts.specs.declared.frame.Data.{Data}
use Rattle.config_parts.specs.declared.frame.Frame.{Frame}
use Rattle.ttcnx_runs.specs.CodeEquality.{config_itself, config_one, equal_configs}
use Rattle.ttcnx_runs.specs.Codes.{cells_code, code_of, component_code, connection_code, data_code, default_code, end_code, entries_code, first_below, frame_code, going_code, mapping_code, message_code, position_of, queue_code, size_of, slot_of, state_code}
use Rattle.ttcnx_runs.specs.SameConfigurations.{configuration_itself, configuration_one, name_itself, same_configuration}
use Rattle.ttcnx_runs.specs.SameItems.{items_itself, items_one, same_items}
use native.Mathlib.Nat.{suc_inj}

-- ---- the first number that passes a test

refuted : (b : Bool) → (b ≡ true → ⊥) → b ≡ false
refuted true never = absurd (never refl)
refuted false never = refl

first_is : (test : ℕ → Bool) (wanted bound : ℕ) → test wanted ≡ true → ((n : ℕ) → n ≤ wanted → test n ≡ true → n ≡ wanted) → wanted < bound → first_below test bound ≡ wanted
first_is test wanted zero is alone lt = absurd (not-suc-le-zero lt)
first_is test zero (suc bound) is alone lt = ap (λ t. if t then zero else suc (first_below (λ n. test (suc n)) bound)) is
first_is test (suc wanted) (suc bound) is alone lt =
    ap (λ t. if t then zero else suc (first_below (λ n. test (suc n)) bound)) (refuted (test zero) (λ e. suc-ne-zero wanted (sym (alone zero zero-le e))))
    ∙ ap suc (first_is (λ n. test (suc n)) wanted bound is (λ n le e. suc_inj (alone (suc n) (suc-le-suc le) e)) (le_of_suc-le-suc lt))

-- ---- positions and slots come back

pub position_back : (lists : List (List Item)) → AreDifferent lists → (p : ℕ) → p < length lists → position_of lists (get_or lists p []) ≡ p
position_back lists different p lt =
    first_is (λ position. same_items (get_or lists position []) (get_or lists p [])) p (length lists) (items_itself (get_or lists p []))
    (λ n le same. different n p (lt_of_le_of_lt le lt) lt (items_one (get_or lists n []) (get_or lists p []) same)) lt

zeros_length : (n : ℕ) → length (zeros n) ≡ suc n
zeros_length zero = refl
zeros_length (suc n) = ap suc (zeros_length n)

slot_early : (before : List ℕ) (names : List (List ℕ)) (slot : ℕ) → slot < length names + length (names_behind before names slot)
slot_early before [] slot =
    subst (λ n. slot < n) (sym (zero-add (length (before ++ zeros slot)) ∙ length-append before (zeros slot) ∙ ap (λ n. length before + n) (zeros_length slot)))
    (le-add_left (suc slot) (length before))
slot_early before (name ∷ names) zero = subst (λ n. 0 < n) (sym (suc-add (length names) (length name))) (zero-lt-suc (length names + length name))
slot_early before (name ∷ names) (suc slot) =
    subst (λ n. suc slot < n) (sym (suc-add (length names) (length (names_behind name names slot)))) (suc-le-suc (slot_early name names slot))

numbers_tied : (n m : ℕ) → nat_cmp n m ≡ Equal → n ≡ m
numbers_tied n m e = subst (λ o. MatchOrdering o (n < m) (n ≡ m) (m < n)) e (ranks n m)

pub slot_back : (names : List (List ℕ)) → AreInOrder names → (slot : ℕ) → slot_of names (name_of names slot) ≡ slot
slot_back names ordered slot =
    first_is (λ s. bytes_eq (name_of names s) (name_of names slot)) slot (length names + length (name_of names slot)) (name_itself (name_of names slot))
    (λ n le same.
    let one = name_one (name_of names n) (name_of names slot) same in
    numbers_tied n slot (sym ((make_legend [] names ordered).ordered n slot) ∙ ap (λ name. name_cmp name (name_of names slot)) one ∙ names-alike (name_of names slot)))
    (slot_early [] names slot)

-- ---- lists come back

list_back : {A B : Type 0} (code : B → A) (by : A → B) (xs : List A) → All (λ x. code (by x) ≡ x) xs → map code (map by xs) ≡ xs
list_back code by [] all = refl
list_back code by (x ∷ xs) all = λ i. All-head (λ a. code (by a) ≡ a) x xs all i ∷ list_back code by xs (All-tail (λ a. code (by a) ≡ a) x xs all) i

each_back : {A B : Type 0} (code : B → A) (by : A → B) → ((x : A) → code (by x) ≡ x) → (xs : List A) → map code (map by xs) ≡ xs
each_back code by back [] = refl
each_back code by back (x ∷ xs) = λ i. back x i ∷ each_back code by back xs i

-- ---- configurations come back

default_back : (d : ActiveDefault) → default_code (default_by d) ≡ d
default_back d = refl

state_back : (s : State) → state_code (state_by s) ≡ s
state_back state.Created = refl
state_back state.Running = refl
state_back state.Terminated = refl

message_back : (message : Message) → message_code (message_by message) ≡ message
message_back message = refl

module _ (lists : List (List Item)) (names : List (List ℕ)) (different : AreDifferent lists) (ordered : AreInOrder names) where
  entries_back : {A : Type 0} (entries : List (ℕ × A)) → entries_code names (entries_by (legend_of lists names) entries) ≡ entries
  entries_back {A} = each_back (λ (e : List ℕ × A). (slot_of names e.0, e.1)) (λ (e : ℕ × A). (name_of names e.0, e.1)) (λ e i. (slot_back names ordered e.0 i, e.1))

  cells_back : (items : List Item) (cells : Cells) → cells_code names (frame_with (legend_of lists names) items cells) ≡ cells
  cells_back items cells = λ i. record { values = entries_back cells.values i; timers = entries_back cells.timers i }

  frame_back : (frame : Frame) → IsFrameWithin (size_of lists names) frame → frame_code lists names (frame_by (legend_of lists names) frame) ≡ frame
  frame_back frame within = λ i. record {
    remaining = position_back lists different frame.remaining within.remaining i;
    cells = cells_back (get_or lists frame.remaining []) frame.cells i;
  }

  data_back : (own : Data) → IsWithin (size_of lists names) own → data_code lists names (data_by (legend_of lists names) own) ≡ own
  data_back own within = λ i. record {
    members = cells_back [] own.members i;
    calls =
        list_back (frame_code lists names) (frame_by (legend_of lists names)) own.calls
        (All-more (IsFrameWithin (size_of lists names)) (λ frame. frame_code lists names (frame_by (legend_of lists names) frame) ≡ frame) frame_back own.calls within.calls) i;
    defaults = each_back default_code default_by default_back own.defaults i;
    activations = own.activations;
    children = own.children;
  }

  queue_back : (queue : Queue) → queue_code names (queue_by (legend_of lists names) queue) ≡ queue
  queue_back queue = λ i. record { port = slot_back names ordered queue.port i; messages = each_back message_code message_by message_back queue.messages i }

  component_back : (component : Component) → IsWithin (size_of lists names) component.own → component_code lists names (component_by (legend_of lists names) component) ≡ component
  component_back component within = λ i. record {
    itself = component.itself;
    own = data_back component.own within i;
    state = state_back component.state i;
    verdict = component.verdict;
    queues = each_back (queue_code names) (queue_by (legend_of lists names)) queue_back component.queues i;
  }

  end_back : (e : End) → end_code names (end_by (legend_of lists names) e) ≡ e
  end_back e = λ i. record { component = e.component; port = slot_back names ordered e.port i }

  connection_back : (k : Connection) → connection_code names (connection_by (legend_of lists names) k) ≡ k
  connection_back k = λ i. record { one = end_back k.one i; other = end_back k.other i }

  mapping_back : (m : ℕ × End) → mapping_code names (mapping_by (legend_of lists names) m) ≡ m
  mapping_back m = λ i. (slot_back names ordered m.0 i, end_back m.1 i)

  going_back : (going : Going) → IsGoingWithin (size_of lists names) going → going_code lists names (going_by (legend_of lists names) going) ≡ going
  going_back going within = λ i. record {
    components =
        list_back (component_code lists names) (component_by (legend_of lists names)) going.components
        (All-more (λ component. IsWithin (size_of lists names) component.own) (λ component. component_code lists names (component_by (legend_of lists names) component) ≡ component) component_back going.components within.components) i;
    links = record {
      connections = each_back (connection_code names) (connection_by (legend_of lists names)) connection_back going.links.connections i;
      mappings = each_back (mapping_code names) (mapping_by (legend_of lists names)) mapping_back going.links.mappings i;
      delivered = entries_back going.links.delivered i;
    };
    forgotten = going.forgotten;
  }

  pub code_of_config : (c : Config) → IsConfigWithin (size_of lists names) c → code_of lists names (config_by (legend_of lists names) c) ≡ c
  code_of_config (config.Ended v) within = refl
  code_of_config (config.Going going) within = ap config.Going (going_back going within)

  -- `==` on configurations of the code is the test on what they stand for
  pub eq_is_same : (a b : Config) → IsConfigWithin (size_of lists names) a → IsConfigWithin (size_of lists names) b
      → equal_configs a b ≡ same_configuration (config_by (legend_of lists names) a) (config_by (legend_of lists names) b)
  eq_is_same a b within within' =
      both_ways (equal_configs a b) (same_configuration (config_by (legend_of lists names) a) (config_by (legend_of lists names) b))
      (λ is. subst (λ c. same_configuration (config_by (legend_of lists names) a) (config_by (legend_of lists names) c) ≡ true) (config_one a b is) (configuration_itself (config_by (legend_of lists names) a)))
      (λ is.
      let one = configuration_one (config_by (legend_of lists names) a) (config_by (legend_of lists names) b) is in
      let same = sym (code_of_config a within) ∙ ap (code_of lists names) one ∙ code_of_config b within' in
      subst (λ c. equal_configs a c ≡ true) same (config_itself a))
