-- Timers by the names of their slots.
use Rattle.std.proofs.Common.{◌≡◌, ℕ, ◌+◌, ◌<◌, Bool, true, false, List, [], ◌∷◌, map, length, Option, Some, None, IfSome, option_map, nat_eq, bytes_eq, refl, ap, ◌∙◌, if◌then◌else◌}
use Rattle.std.specs.List.{All, Contains, find}
use Rattle.std.specs.Option.{option_and_then}
use Rattle.std.proofs.lemmas.List.Elements.{All-head, All-map, All-tail}
use Rattle.std.proofs.lemmas.Option.{get_or_from_slice_get}
use Rattle.std.proofs.lemmas.Slice.Eq.{bytes_eq-Decides}
use Rattle.laws_steps.proofs.Found.{found-each}
use Rattle.semantics.proofs.Pairs.{All-more}
use Rattle.semantics.specs.Configurations as rules
use Rattle.semantics.specs.Configurations.{component_at, is_running_state, path_of, same_path}
use Rattle.semantics.specs.Items.{Item}
use Rattle.semantics.specs.Snapshots.{Test}
use Rattle.semantics.specs.Steps.{Expiry, exchanged, expire_in, expired, expired_call, expired_frame, expiry_step, if_running, step_in, touch}
use Rattle.semantics.specs.Storing.{with_calls, with_members, with_timers}
use Rattle.config_parts.specs.Legend.{Legend, component_by, data_by, entries_by, frame_by, frame_with, going_by}
use Rattle.config_parts.specs.Views.{AreAllWithin, AreNames, AreWithin, Extent, HasSlotsWithin, IsFrameWithin, IsWithin}
use Rattle.config_parts.specs.declared.component.Component.{Component}
use Rattle.config_parts.specs.declared.config.Going.{Going}
use Rattle.config_parts.specs.declared.frame.Cells.{Cells}
use Rattle.config_parts.specs.declared.frame.Data.{Data}
use Rattle.config_parts.specs.declared.frame.Frame.{Frame}
use Rattle.value_types.specs.Frames.{entry}
use Rattle.value_types.specs.Outcomes.{Outcome, Yields}
use Rattle.value_types.specs.declared.path.Path.{Path}

-- ---- names of slots

-- no slot stands for a name that has none
module _ (legend : Legend) (names : List (List ℕ)) (name : List ℕ) (are : AreNames legend names) (missing : ¬ Contains names name) where
  pub other-name : (slot : ℕ) → slot < length names → (b : Bool) → bytes_eq (legend.names slot) name ≡ b → bytes_eq (legend.names slot) name ≡ false
  other-name slot less true is =
      absurd (missing (slot, less, get_or_from_slice_get names slot (legend.names slot) name (are slot less) ∙ (bytes_eq-Decides (legend.names slot) name).0 is))
  other-name slot less false is = is

  pub first-other : {A : Type 0} (a : A) (o : Option A) (b : Bool) → b ≡ false → o ≡ None → (if b then Some a else o) ≡ None
  first-other a o true is none = absurd (let no = is in cc)
  first-other a o false is none = none

  none-found : {A : Type 0} (es : List (ℕ × A)) → AreWithin (length names) es → find (λ e. bytes_eq e.0 name) (entries_by legend es) ≡ None
  none-found [] within = refl
  none-found {A} (e ∷ es) within =
      first-other (legend.names e.0, e.1) (find (λ e. bytes_eq e.0 name) (entries_by legend es)) (bytes_eq (legend.names e.0) name)
      (other-name e.0 (All-head (λ (x : ℕ × A). x.0 < length names) e es within) (bytes_eq (legend.names e.0) name) refl)
      (none-found es (All-tail (λ (x : ℕ × A). x.0 < length names) e es within))

  no-entry : {A : Type 0} (es : List (ℕ × A)) → AreWithin (length names) es → entry (entries_by legend es) name ≡ None
  no-entry {A} es within = ap (option_map (λ (e : List ℕ × A). e.1)) (none-found es within)

  -- ---- frames

  frame-still : (items : List Item) (cells : Cells) → HasSlotsWithin (length names) cells → expired_frame name (frame_with legend items cells) ≡ None
  frame-still items cells within =
      ap (λ o. option_map (λ timers. with_timers timers (frame_with legend items cells)) (expire_in (entries_by legend cells.timers) name o)) (no-entry cells.timers within.timers)

  call-still : (frame : Frame) (frames : List Frame) (b : Bool) (o : Option rules.Frame) (others : Option (List rules.Frame)) → o ≡ None → others ≡ None
      → (if b then option_map (λ changed. changed ∷ map (frame_by legend) frames) o else option_map (λ changed. frame_by legend frame ∷ changed) others) ≡ None
  call-still frame frames true o others none still = ap (option_map (λ changed. changed ∷ map (frame_by legend) frames)) none
  call-still frame frames false o others none still = ap (option_map (λ changed. frame_by legend frame ∷ changed)) still

  -- so many lists have positions, and these names have slots
  abbrev size : ℕ → Extent
  size lists = record { lists = lists; names = length names }

  calls-still : (lists number : ℕ) (frames : List Frame) → All (IsFrameWithin (size lists)) frames → expired_call number name (map (frame_by legend) frames) ≡ None
  calls-still lists number [] within = refl
  calls-still lists number (frame ∷ frames) within =
      call-still frame frames (nat_eq number (length (map (frame_by legend) frames) + 1)) (expired_frame name (frame_by legend frame)) (expired_call number name (map (frame_by legend) frames))
      (frame-still (legend.lists frame.remaining) frame.cells (All-head (IsFrameWithin (size lists)) frame frames within).cells)
      (calls-still lists number frames (All-tail (IsFrameWithin (size lists)) frame frames within))

  -- ---- components

  data-still-if : (own : Data) (b : Bool) (o : Option rules.Frame) (others : Option (List rules.Frame)) → o ≡ None → others ≡ None
      → (if b then option_map (λ members. with_members members (data_by legend own)) o else option_map (λ calls. with_calls calls (data_by legend own)) others) ≡ None
  data-still-if own true o others none still = ap (option_map (λ members. with_members members (data_by legend own))) none
  data-still-if own false o others none still = ap (option_map (λ calls. with_calls calls (data_by legend own))) still

  data-still : (lists number : ℕ) (own : Data) → IsWithin (size lists) own → expired number name (data_by legend own) ≡ None
  data-still lists number own within =
      data-still-if own (nat_eq number 0) (expired_frame name (data_by legend own).members) (expired_call number name (data_by legend own).calls)
      (frame-still [] own.members within.members) (calls-still lists number own.calls within.calls)

  either-same : {A : Type 0} (b : Bool) (x : A) → (if b then x else x) ≡ x
  either-same true x = refl
  either-same false x = refl

  component-still : (c : rules.Going) (lists number : ℕ) (x : Component) → IsWithin (size lists) x.own → expiry_step c number name (component_by legend x) ≡ None
  component-still c lists number x within =
      ap (λ o. if_running (component_by legend x) (option_map (λ own. Yields (rules.Goes (touch c (path_of (component_by legend x)) (exchanged own)))) o)) (data-still lists number x.own within)
      ∙ either-same {A = Option (Outcome rules.Configuration)} (is_running_state (component_by legend x).state) None

  found-still : (c : rules.Going) (number : ℕ) (o : Option rules.Component) → IfSome o (λ x. expiry_step c number name x ≡ None) → option_and_then (expiry_step c number name) o ≡ None
  found-still c number None is = refl
  found-still c number (Some x) is = is

  pub no-expiry : (test : Test) (going : Going) (path : Path) (lists number : ℕ) → AreAllWithin (size lists) going.components → step_in test (going_by legend going) (Expiry path number name) ≡ None
  no-expiry test going path lists number within =
      found-still (going_by legend going) number (component_at (going_by legend going) path)
      (found-each (λ x. expiry_step (going_by legend going) number name x ≡ None) (λ x. same_path (path_of x) path) (map (component_by legend) going.components)
      (All-map (λ x. expiry_step (going_by legend going) number name x ≡ None) (component_by legend) going.components
      (All-more (λ (x : Component). IsWithin (size lists) x.own) (λ x. expiry_step (going_by legend going) number name (component_by legend x) ≡ None)
      (component-still (going_by legend going) lists number) going.components within)))
