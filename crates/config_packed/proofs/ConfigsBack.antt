-- Configurations are read back from the bytes that spell them, whatever follows.
use Rattle.std.proofs.Common.{◌≡◌, ℕ, nat_eq, nat_lt, Bool, true, false, cond, if◌then◌else◌, List, [], ◌∷◌, ◌++◌, length, map, Option, Some, None, refl, sym, ap, ◌∙◌, arith, append_assoc}
use Rattle.std.proofs.lemmas.Bool.{ne_eqb}
use Rattle.std.proofs.lemmas.List.{append-nil}
use Rattle.std.specs.Cmp.Lexicographic.{same_text}
use Rattle.std.specs.List.{flat_map}
use Rattle.config_packed.specs.Packs.{same_bytes, same_bytes_equiv}
use Rattle.config_packed.specs.Reading.{Reads, config_in, identity_from, read_byte, read_cells, read_component, read_config, read_connection, read_contents, read_default, read_end, read_entry, read_frame, read_going, read_links, read_list, read_items, read_long, read_message, read_name, read_own, read_queue, read_sender, state_of, read_timer, read_value, read_verdict, verdict_of}
use Rattle.config_packed.specs.Spelling.{name_of, spell_cells, spell_config, spell_connection, spell_content, spell_default, spell_end, spell_entry, spell_frame, spell_head, spell_links, spell_list, spell_long, spell_message, spell_name, spell_outline, spell_own, spell_queue, spell_sender, spell_sized, state_code, spell_timer, spell_value, spell_verdict, verdict_code}
use Rattle.config_packed.proofs.NumbersBack.{items-back, read-list-back, read-long-back, read-long-pair-back, read-number-back, read-pair-back}
use Rattle.config_packed.proofs.ValuesBack.{identity-begins, read-path-back, read-value-back}
use Rattle.ttcn_syntax.specs.declared.tree.statement.Verdict.{Verdict}
use Rattle.ttcn_syntax.specs.declared.tree.statement.Verdict.TheVariants as verdict
use Rattle.value_types.specs.declared.frame.TimerState.{TimerState}
use Rattle.value_types.specs.declared.frame.TimerState.TheVariants as timer
use Rattle.value_types.specs.declared.value.ComponentId.{ComponentId}
use Rattle.config_parts.specs.declared.component.Component.{Component}
use Rattle.config_parts.specs.declared.component.Message.{Message}
use Rattle.config_parts.specs.declared.component.Queue.{Queue}
use Rattle.config_parts.specs.declared.component.State.{State}
use Rattle.config_parts.specs.declared.component.State.TheVariants as state
use Rattle.config_parts.specs.declared.config.Config.{Config}
use Rattle.config_parts.specs.declared.config.Config.TheVariants as config
use Rattle.config_parts.specs.declared.config.Going.{Going}
use Rattle.config_parts.specs.declared.connection.Connection.{Connection}
use Rattle.config_parts.specs.declared.connection.End.{End}
use Rattle.config_parts.specs.declared.connection.Links.{Links}
use Rattle.config_parts.specs.declared.frame.ActiveDefault.{ActiveDefault}
use Rattle.config_parts.specs.declared.frame.Cells.{Cells}
use Rattle.config_parts.specs.declared.frame.Data.{Data}
use Rattle.config_parts.specs.declared.frame.Frame.{Frame}

-- ---- what components have of their own

timer-back : (s : TimerState) (rest : List ℕ) → read_timer (spell_timer s ++ rest) ≡ (s, rest)
unfolding read_timer read_byte
timer-back timer.Inactive rest = refl
timer-back timer.Running rest = refl
timer-back timer.Expired rest = refl

module _ {A : Type 0} (spell : A → List ℕ) (read : Reads A) (back : (a : A) (rest : List ℕ) → read (spell a ++ rest) ≡ (a, rest)) where
  entry-back : (entry : ℕ × A) (rest : List ℕ) → read_entry read (spell_entry spell entry ++ rest) ≡ (entry, rest)
  unfolding read_entry
  entry-back entry rest = simp (append_assoc, read-number-back, back)

  entries_back : (entries : List (ℕ × A)) (rest : List ℕ) → read_list (read_entry read) (spell_list (spell_entry spell) entries ++ rest) ≡ (entries, rest)
  entries_back = read-list-back (spell_entry spell) (read_entry read) entry-back

  entry_items_back : (entries : List (ℕ × A)) (rest : List ℕ) → read_items (read_entry read) (length entries) (flat_map (spell_entry spell) entries ++ rest) ≡ (entries, rest)
  entry_items_back = items-back (spell_entry spell) (read_entry read) entry-back

cells_back : (cells : Cells) (rest : List ℕ) → read_cells (spell_cells cells ++ rest) ≡ (cells, rest)
unfolding read_cells spell_cells
cells_back cells rest = simp (append_assoc, read-long-pair-back, entry_items_back spell_value read_value read-value-back, entry_items_back spell_timer read_timer timer-back)

frame_back : (frame : Frame) (rest : List ℕ) → read_frame (spell_frame frame ++ rest) ≡ (frame, rest)
unfolding read_frame spell_frame
frame_back frame rest = simp (append_assoc, read-long-back, cells_back)

default_back : (active : ActiveDefault) (rest : List ℕ) → read_default (spell_default active ++ rest) ≡ (active, rest)
unfolding read_default spell_default
default_back active rest = simp (append_assoc, read-number-back, read-long-back, read-list-back spell_value read_value read-value-back)

-- ---- components, connections and mappings

pub verdict-back : (v : Verdict) (rest : List ℕ) → read_verdict (spell_verdict v ++ rest) ≡ (v, rest)
unfolding read_verdict read_byte
verdict-back verdict.None rest = refl
verdict-back verdict.Pass rest = refl
verdict-back verdict.Inconc rest = refl
verdict-back verdict.Fail rest = refl
verdict-back verdict.Error rest = refl

verdict-of-code : (v : Verdict) → verdict_of (verdict_code v) ≡ v
verdict-of-code verdict.None = refl
verdict-of-code verdict.Pass = refl
verdict-of-code verdict.Inconc = refl
verdict-of-code verdict.Fail = refl
verdict-of-code verdict.Error = refl

state-of-code : (s : State) → state_of (state_code s) ≡ s
state-of-code state.Created = refl
state-of-code state.Running = refl
state-of-code state.Terminated = refl

pub own_back : (v : Verdict) (own : Data) (rest : List ℕ) → read_own (spell_own v own ++ rest) ≡ ((v, own), rest)
unfolding read_own spell_own
own_back v own rest =
    simp (append_assoc, read-pair-back, cells_back, read-list-back spell_frame read_frame frame_back, items-back spell_default read_default default_back)
    (ap (λ (w : Verdict). ((w, own), rest)) (verdict-of-code v))

sender-back : (sender : Option ComponentId) (rest : List ℕ) → read_sender (spell_sender sender ++ rest) ≡ (sender, rest)
unfolding read_sender read_byte spell_sender
sender-back None rest = refl
sender-back (Some component) rest =
    let b = identity-begins component in
    let begun : nat_eq b.first 102 ≡ false = ne_eqb b.first 102 (λ e. let h = b.small in absurd (omega arith)) in
    ap (λ (bytes : List ℕ). read_sender (bytes ++ rest)) b.begins
    ∙ ap (λ (is : Bool). cond {A = Reads (Option ComponentId)} is (λ bytes. (None, bytes)) (λ bytes. (Some (identity_from b.first bytes).0, (identity_from b.first bytes).1)) (b.behind ++ rest)) begun
    ∙ ap (λ (p : ComponentId × List ℕ). (Some p.0, p.1)) (b.back rest)

pub message_back : (message : Message) (rest : List ℕ) → read_message (spell_message message ++ rest) ≡ (message, rest)
unfolding read_message spell_message
message_back message rest = simp (append_assoc, read-value-back, sender-back)

pub queue_back : (queue : Queue) (rest : List ℕ) → read_queue (spell_queue queue ++ rest) ≡ (queue, rest)
unfolding read_queue spell_queue spell_sized
queue_back queue rest = simp (append_assoc, read-pair-back, read-long-back, items-back spell_message read_message message_back)

end_back : (e : End) (rest : List ℕ) → read_end (spell_end e ++ rest) ≡ (e, rest)
unfolding read_end spell_end
end_back e rest = simp (append_assoc, read-path-back, read-number-back)

connection_back : (connection : Connection) (rest : List ℕ) → read_connection (spell_connection connection ++ rest) ≡ (connection, rest)
unfolding read_connection spell_connection
connection_back connection rest = simp (append_assoc, end_back)

pub links-back : (links : Links) (rest : List ℕ) → read_links (spell_links links ++ rest) ≡ (links, rest)
unfolding read_links spell_links
links-back links rest = simp (append_assoc, read-list-back spell_connection read_connection connection_back, entries_back spell_end read_end end_back, entries_back spell_long read_long read-long-back)

-- ---- configurations

pub name_back : (name : ComponentId × State) (rest : List ℕ) → read_name (spell_name name ++ rest) ≡ (name, rest)
unfolding read_name spell_name
name_back name rest =
    simp (append_assoc, read-path-back, read-long-pair-back) (ap (λ (s : State). ((name.0, s), rest)) (state-of-code name.1))

component-back : (c : Component) (rest : List ℕ) → read_component (name_of c) (spell_content c ++ rest) ≡ (c, rest)
unfolding read_component spell_content spell_sized
component-back c rest = simp (append_assoc, read-long-back, own_back, read-list-back spell_queue read_queue queue_back)

contents-back : (cs : List Component) (rest : List ℕ) → read_contents (map name_of cs) (flat_map spell_content cs ++ rest) ≡ (cs, rest)
unfolding read_contents
contents-back [] rest = refl
contents-back (c ∷ cs) rest =
    let behind = flat_map spell_content cs ++ rest in
    ap (read_contents (map name_of (c ∷ cs))) (append_assoc (spell_content c) (flat_map spell_content cs) rest)
    ∙ ap (λ (p : Component × List ℕ). (p.0 ∷ (read_contents (map name_of cs) p.1).0, (read_contents (map name_of cs) p.1).1)) (component-back c behind)
    ∙ ap (λ (p : List Component × List ℕ). (c ∷ p.0, p.1)) (contents-back cs rest)

going_back : (going : Going) (rest : List ℕ)
    → read_going (((spell_long (length going.components) ++ spell_sized (spell_outline going)) ++ flat_map spell_content going.components) ++ rest) ≡ (going, rest)
unfolding read_going spell_sized spell_outline
going_back going rest = simp (append_assoc, read-long-back, verdict-back, links-back, read-list-back spell_name read_name name_back, contents-back)

-- a test case that goes on, behind either of its first bytes
begun-back : (mapped : Bool) (going : Going) (rest : List ℕ)
    → read_config (((if mapped then 2 else 1) ∷ (spell_long (length going.components) ++ spell_sized (spell_outline going)) ++ flat_map spell_content going.components) ++ rest) ≡ (config.Going going, rest)
unfolding read_config read_byte
begun-back true going rest = ap (λ (p : Going × List ℕ). (config.Going p.0, p.1)) (going_back going rest)
begun-back false going rest = ap (λ (p : Going × List ℕ). (config.Going p.0, p.1)) (going_back going rest)

pub read_config_back : (c : Config) (rest : List ℕ) → read_config (spell_config c ++ rest) ≡ (c, rest)
unfolding read_config read_byte spell_config spell_head
read_config_back (config.Ended v) rest = ap (λ (p : Verdict × List ℕ). (config.Ended p.0, p.1)) (verdict-back v rest)
read_config_back (config.Going going) rest = begun-back (nat_lt 0 (length going.links.mappings)) going rest

-- the bytes that spell a configuration spell no other
pub config_back : (c : Config) → config_in (spell_config c) ≡ c
config_back c =
    ap (λ (bytes : List ℕ). (read_config bytes).0) (sym (append-nil (spell_config c)))
    ∙ ap (λ (p : Config × List ℕ). p.0) (read_config_back c [])

pub spelled_once : (a b : Config) → spell_config a ≡ spell_config b → a ≡ b
spelled_once a b same = sym (config_back a) ∙ ap config_in same ∙ config_back b

pub same_bytes_one : (a b : Config) → same_bytes a b ≡ true → a ≡ b
same_bytes_one a b same = spelled_once a b (same_text (spell_config a) (spell_config b) (sym same))

pub same_bytes_itself : (a : Config) → same_bytes a a ≡ true
same_bytes_itself a = same_bytes_equiv.refl a
