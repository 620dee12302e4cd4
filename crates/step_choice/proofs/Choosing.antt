-- Branches one after the other.
use Rattle.std.proofs.Common.{◌≡◌, ℕ, ◌+◌, ◌<◌, List, [], ◌∷◌, map, length, drop, get_or, Some, refl, sym, ap, ◌∙◌}
use Rattle.std.proofs.lemmas.List.{at_drop_more}
use Rattle.std.proofs.lemmas.Option.{slice_get-map, slice_get_read}
use Rattle.std.specs.List.{flat_map, slice_get}
use Rattle.std.specs.Option.{option_map}
use Rattle.ttcn_syntax.specs.declared.tree.statement.Branch.{Branch}
use Rattle.semantics.specs.Branches.{written_branch}
use Rattle.semantics.specs.Events as events
use Rattle.semantics.specs.Events.{Choice}
use Rattle.semantics.specs.Items.{Item}
use Rattle.semantics.specs.Sites.{Site}
use Rattle.step_choice.proofs.Firsts.{first-append}
use Rattle.step_choice.specs.internal.Judged.{Is, IsAmong, below, first_of, judge_of, test_of}
use Rattle.step_choice.specs.internal.Later.{or_later}
use Rattle.step_snapshot.specs.Seen.{own_by, seen_by}
use Rattle.step_snapshot.specs.declared.snapshot.Snapshot.{Snapshot}
use Rattle.config_parts.specs.declared.frame.Cells.{Cells}

-- the choice at one branch
abbrev pub first_of_branch : Snapshot → ℕ → Site → Cells → Branch → Choice
first_of_branch s levels site inner b = first_of s (written_branch (below levels s) (test_of s) (seen_by s) (own_by s) (judge_of s site inner) b)

-- the choice among branches
abbrev pub first_of_branches : Snapshot → ℕ → Site → Cells → List Branch → Choice
first_of_branches s levels site inner branches = first_of s (flat_map (written_branch (below levels s) (test_of s) (seen_by s) (own_by s) (judge_of s site inner)) branches)

first-of-cons : (s : Snapshot) (levels : ℕ) (site : Site) (inner : Cells) (b : Branch) (branches : List Branch)
    → first_of_branches s levels site inner (b ∷ branches) ≡ or_later (first_of_branch s levels site inner b) (first_of_branches s levels site inner branches)
first-of-cons s levels site inner b branches =
    let write = written_branch (below levels s) (test_of s) (seen_by s) (own_by s) (judge_of s site inner) in
    first-append (test_of s) (seen_by s) (own_by s) (write b) (flat_map write branches)

-- a branch, and those behind it
pub branch-next : (s : Snapshot) (levels : ℕ) (site : Site) (inner : Cells) (branches : List Branch) (k : ℕ) (b : Branch) → k < length branches → b ≡ get_or branches k b
    → first_of_branches s levels site inner (drop k branches) ≡ or_later (first_of_branch s levels site inner b) (first_of_branches s levels site inner (drop (k + 1) branches))
branch-next s levels site inner branches k b within is =
    at_drop_more (first_of_branches s levels site inner) branches k b within
    ∙ ap (λ (x : Branch). first_of_branches s levels site inner (x ∷ drop (k + 1) branches)) (sym is)
    ∙ first-of-cons s levels site inner b (drop (k + 1) branches)

pub none-chosen : (one later : Choice) → one ≡ events.Nothing → or_later one later ≡ later
none-chosen one later none = ap (λ c. or_later c later) none

-- this branch's way is among those of all
pub among : {A : Type 0} (f : A → List Item) (xs : List A) (k : ℕ) (a : A) → k < length xs → a ≡ get_or xs k a → (way : ℕ) (block : List Item) → Is k (f a) way block → IsAmong (map f xs) way block
among f xs k a within is way block (same, so) =
    ap (slice_get (map f xs)) same ∙ slice_get-map f xs k ∙ ap (option_map f) (slice_get_read xs (length xs) k a refl within is) ∙ ap Some (sym so)

-- what is known of all is known of each
pub known-at : {A B C : Type 0} (f : A → C) (g : B → C) (xs : List A) (bs : List B) (k : ℕ) (a : A) (b : B) → map f xs ≡ map g bs → k < length xs → a ≡ get_or xs k a → k < length bs → b ≡ get_or bs k b → f a ≡ g b
known-at f g xs bs k a b same within is inside so =
    let both : Some (f a) ≡ Some (g b) =
    sym (slice_get-map f xs k ∙ ap (option_map f) (slice_get_read xs (length xs) k a refl within is))
    ∙ ap (λ xs. slice_get xs k) same
    ∙ slice_get-map g bs k ∙ ap (option_map g) (slice_get_read bs (length bs) k b refl inside so) in
    let one : f a ≡ g b = cc in one
