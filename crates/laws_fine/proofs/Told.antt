-- The run that a fine run stands for, by what came of each choice: the fate of a snapshot is that of the first later choice of its component.
use Rattle.std.proofs.Common.{◌≡◌, Bool, true, false, List, [], ◌∷◌, Option, Some, None, inl, inr, refl, sym, ap, subst, ◌∙◌, if◌then◌else◌}
use Rattle.std.specs.Option.{option_and_then}
use Rattle.laws_steps.proofs.Finding.{found-path, path-is, path-same}
use Rattle.laws_fine.proofs.Leading.{fine_of, fine_run}
use Rattle.laws_fine.proofs.Moves.{HasSnapped, moves}
use Rattle.laws_fine.proofs.Pending.{StaysStored, fate-here, fate-on, fine-after-is, stored-stays, touches, unstored}
use Rattle.laws_fine.specs.Fates.{Fate, Lapses, by_fate, coarse_from, fate, fine_after, is_choice_of, judged_in}
use Rattle.laws_fine.specs.Fine.{Choose, Fine, FineLabel, Plain, Snap, Stored, fine_next, stored_at}
use Rattle.laws_fine.specs.Gathering.{Told, first_by, first_told, gathered}
use Rattle.semantics.specs.Configurations.{Configuration, Ended, Goes, Going, same_path}
use Rattle.semantics.specs.Runs.{option_elim}
use Rattle.semantics.specs.Snapshots.{Snapshot, Test}
use Rattle.value_types.specs.declared.path.Path.{Path}

-- what comes of the choice that a label makes; any other label makes none
abbrev pub told_at : Test → Fine → FineLabel → Fate
told_at test f (Snap r) = Lapses
told_at test f (Choose r) = option_elim Lapses (λ s. judged_in test s r f.now) (stored_at f.stored r)
told_at test f (Plain label) = Lapses

-- each label, with what comes of its choice
abbrev pub told : Test → Fine → List FineLabel → List Told
told test f [] = []
told test f (label ∷ labels) = (label, told_at test f label) ∷ told test (fine_after test f label) labels

-- ---- fates

unstored-on : (test : Test) (p : Path) (f g : Fine) (labels : List FineLabel) → stored_at f.stored p ≡ None → StaysStored p f.stored g.stored → fate test p g labels ≡ Lapses
unstored-on test p f g labels none (inl same) = unstored test p g labels (same ∙ none)
unstored-on test p f g labels none (inr gone) = unstored test p g labels gone

-- a label that is neither a snapshot nor a choice of the component leaves what comes of its snapshot
pass-on : (test : Test) (p : Path) (f g : Fine) (label : FineLabel) (labels : List FineLabel) (o : Option Snapshot) → is_choice_of p label ≡ false → fine_next test f label ≡ Some g → StaysStored p f.stored g.stored
    → stored_at f.stored p ≡ o → fate test p g labels ≡ fate test p f (label ∷ labels)
pass-on test p f g label labels None other next stays has = unstored-on test p f g labels has stays ∙ sym (unstored test p f (label ∷ labels) has)
pass-on test p f g label labels (Some s) other next stays has = sym (fate-on test p f g s label labels has other next)

snapped-first : (test : Test) (c : Going) (stored : Stored) (p r : Path) (g : Fine) (labels : List FineLabel) (o : Option Snapshot) → same_path r p ≡ true → HasSnapped test c stored r g → stored_at stored p ≡ o
    → Lapses ≡ fate test p (fine_of (Goes c) stored) (Snap r ∷ labels)
snapped-first test c stored p r g labels None at is has = sym (unstored test p (fine_of (Goes c) stored) (Snap r ∷ labels) has)
snapped-first test c stored p r g labels (Some s) at is has =
    absurd (let no : Some s ≡ None = sym has ∙ ap (stored_at stored) (sym (found-path c r is.x is.there ∙ path-is r p at)) ∙ is.new in cc)

chosen-first : (test : Test) (f : Fine) (p : Path) (labels : List FineLabel) (o : Option Snapshot) → stored_at f.stored p ≡ o → told_at test f (Choose p) ≡ fate test p f (Choose p ∷ labels)
chosen-first test f p labels None has = ap (option_elim Lapses (λ s. judged_in test s p f.now)) has ∙ sym (unstored test p f (Choose p ∷ labels) has)
chosen-first test f p labels (Some s) has = ap (option_elim Lapses (λ t. judged_in test t p f.now)) has ∙ sym (fate-here test p f s (Choose p) labels has (path-same p))

-- a label in front
label-first : (test : Test) (c : Going) (stored : Stored) (p : Path) (label : FineLabel) (g : Fine) (labels : List FineLabel) (b : Bool) → touches p label ≡ b → fine_next test (fine_of (Goes c) stored) label ≡ Some g
    → first_by p label (told_at test (fine_of (Goes c) stored) label) (fate test p g labels) ≡ fate test p (fine_of (Goes c) stored) (label ∷ labels)
label-first test c stored p (Plain label) g labels b at next =
    pass-on test p (fine_of (Goes c) stored) g (Plain label) labels (stored_at stored p) refl next (stored-stays test c stored p (Plain label) g refl (moves test c stored (Plain label) g next)) refl
label-first test c stored p (Snap r) g labels true at next =
    ap (λ b. if b then Lapses else fate test p g labels) at ∙ snapped-first test c stored p r g labels (stored_at stored p) at (moves test c stored (Snap r) g next) refl
label-first test c stored p (Snap r) g labels false at next =
    ap (λ b. if b then Lapses else fate test p g labels) at
    ∙ pass-on test p (fine_of (Goes c) stored) g (Snap r) labels (stored_at stored p) refl next (stored-stays test c stored p (Snap r) g at (moves test c stored (Snap r) g next)) refl
label-first test c stored p (Choose r) g labels true at next =
    ap (λ b. if b then told_at test (fine_of (Goes c) stored) (Choose r) else fate test p g labels) at
    ∙ subst (λ q. told_at test (fine_of (Goes c) stored) (Choose q) ≡ fate test p (fine_of (Goes c) stored) (Choose q ∷ labels)) (sym (path-is r p at))
    (chosen-first test (fine_of (Goes c) stored) p labels (stored_at stored p) refl)
label-first test c stored p (Choose r) g labels false at next =
    ap (λ b. if b then told_at test (fine_of (Goes c) stored) (Choose r) else fate test p g labels) at
    ∙ pass-on test p (fine_of (Goes c) stored) g (Choose r) labels (stored_at stored p) at next (stored-stays test c stored p (Choose r) g at (moves test c stored (Choose r) g next)) refl

now-first : (test : Test) (now : Configuration) (stored : Stored) (p : Path) (label : FineLabel) (g : Fine) (labels : List FineLabel) → fine_next test (fine_of now stored) label ≡ Some g
    → first_by p label (told_at test (fine_of now stored) label) (fate test p g labels) ≡ fate test p (fine_of now stored) (label ∷ labels)
now-first test (Ended v) stored p label g labels next = absurd (let no = next in cc)
now-first test (Goes c) stored p label g labels next = label-first test c stored p label g labels (touches p label) refl next

some-first : (test : Test) (p : Path) (label : FineLabel) (labels : List FineLabel) (f g : Fine) (o : Option Fine) → ((h : Fine) → fine_run test labels h ≡ Some g → first_told p (told test h labels) ≡ fate test p h labels)
    → fine_next test f label ≡ o → option_and_then (fine_run test labels) o ≡ Some g → first_told p (told test f (label ∷ labels)) ≡ fate test p f (label ∷ labels)
some-first test p label labels f g None rest next run = absurd (let no = run in cc)
some-first test p label labels f g (Some h) rest next run =
    ap (first_by p label (told_at test f label)) (ap (λ e. first_told p (told test e labels)) (fine-after-is test f h label next) ∙ rest h run)
    ∙ now-first test f.now f.stored p label h labels next

-- of labels that can follow, the first later choice tells what comes of a snapshot
pub first-is : (test : Test) (p : Path) (labels : List FineLabel) (f g : Fine) → fine_run test labels f ≡ Some g → first_told p (told test f labels) ≡ fate test p f labels
first-is test p [] f g run = refl
first-is test p (label ∷ labels) f g run = some-first test p label labels f g (fine_next test f label) (λ h on. first-is test p labels h g on) refl run

-- ---- labels

label-gathers : (test : Test) (label : FineLabel) (labels : List FineLabel) (f h : Fine) → fine_after test f label ≡ h → ((p : Path) → first_told p (told test h labels) ≡ fate test p h labels)
    → gathered (told test h labels) ≡ coarse_from test h labels → gathered (told test f (label ∷ labels)) ≡ coarse_from test f (label ∷ labels)
label-gathers test (Snap p) labels f h after first rest =
    ap (λ e. by_fate p (first_told p (told test e labels)) (gathered (told test e labels))) after
    ∙ ap (λ k. by_fate p k (gathered (told test h labels))) (first p) ∙ ap (by_fate p (fate test p h labels)) rest
    ∙ sym (ap (λ e. by_fate p (fate test p e labels) (coarse_from test e labels)) after)
label-gathers test (Choose p) labels f h after first rest = ap (λ e. gathered (told test e labels)) after ∙ rest ∙ sym (ap (λ e. coarse_from test e labels) after)
label-gathers test (Plain label) labels f h after first rest =
    ap (λ ls. label ∷ ls) (ap (λ e. gathered (told test e labels)) after ∙ rest ∙ sym (ap (λ e. coarse_from test e labels) after))

some-gathers : (test : Test) (label : FineLabel) (labels : List FineLabel) (f g : Fine) (o : Option Fine) → ((h : Fine) → fine_run test labels h ≡ Some g → gathered (told test h labels) ≡ coarse_from test h labels)
    → fine_next test f label ≡ o → option_and_then (fine_run test labels) o ≡ Some g → gathered (told test f (label ∷ labels)) ≡ coarse_from test f (label ∷ labels)
some-gathers test label labels f g None rest next run = absurd (let no = run in cc)
some-gathers test label labels f g (Some h) rest next run = label-gathers test label labels f h (fine-after-is test f h label next) (λ p. first-is test p labels h g run) (rest h run)

-- of labels that can follow, these are the labels that they stand for
pub gathered-is : (test : Test) (labels : List FineLabel) (f g : Fine) → fine_run test labels f ≡ Some g → gathered (told test f labels) ≡ coarse_from test f labels
gathered-is test [] f g run = refl
gathered-is test (label ∷ labels) f g run = some-gathers test label labels f g (fine_next test f label) (λ h on. gathered-is test labels h g on) refl run
