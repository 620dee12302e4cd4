-- The doubling of a run, label by label.
use Rattle.std.proofs.Common.{◌≡◌, ℕ, ◌+◌, ◌<◌, ◌≤◌, Bool, true, false, List, [], ◌∷◌, ◌++◌, length, drop, get_or, Some, None, Result, Ok, Err, refl, sym, ap, subst, ◌∙◌, append_assoc}
use Rattle.std.specs.Result.{IsErr, IsErrAnd}
use Rattle.std.proofs.lemmas.List.{append-nil, drop_all, drop_more}
use Rattle.laws_fine.specs.Doubling.{doubled_from, doubled_label, is_alt_in}
use Rattle.laws_fine.specs.Fine.{FineLabel}
use Rattle.semantics.specs.Configurations.{Configuration, Ended, Goes}
use Rattle.semantics.specs.Runs.{option_elim, replay, replay_from}
use Rattle.semantics.specs.Snapshots.{Test}
use Rattle.semantics.specs.Steps.{Delivery, Expiry, Label, Statement, next}
use Rattle.ttcn_step.proofs.Coarsening.{has-led}
use Rattle.ttcn_step.proofs.Replaying.{Left, next-left}
use Rattle.ttcn_step.specs.FineAnswers.{Doubles, HasLed}
use Rattle.ttcn_step.specs.Machines.{Machine}
use Rattle.ttcn_step.specs.declared.error.ReplayError.{ReplayError}
use Rattle.ttcn_step.specs.declared.error.ReplayError.TheVariants as replaying
use Rattle.ttcn_step.specs.internal.Runs.{Follows}
use Rattle.value_types.specs.declared.path.Path.{Path}

in-front : (b : Bool) (label : Label) (others : List FineLabel) → doubled_label b label others ≡ doubled_label b label [] ++ others
in-front true (Statement path) others = refl
in-front true (Expiry path number name) others = refl
in-front true (Delivery name) others = refl
in-front false label others = refl

-- one label more
pub doubled-more : (test : Test) (run : List Label) (place : ℕ) (label : Label) (c d : Configuration) (fine new whole : List FineLabel) → place < length run → label ≡ get_or run place label → next test c label ≡ Some d
    → new ≡ fine ++ doubled_label (is_alt_in test c label) label [] → fine ++ doubled_from test c (drop place run) ≡ whole
    → new ++ doubled_from test d (drop (place + 1) run) ≡ whole
doubled-more test run place label c d fine new whole less read leads grows holds =
    ap (λ ls. ls ++ doubled_from test d (drop (place + 1) run)) grows
    ∙ append_assoc fine (doubled_label (is_alt_in test c label) label []) (doubled_from test d (drop (place + 1) run))
    ∙ ap (λ ls. fine ++ ls)
    (sym (in-front (is_alt_in test c label) label (doubled_from test d (drop (place + 1) run)))
    ∙ ap (λ o. doubled_label (is_alt_in test c label) label (doubled_from test (option_elim c (λ e. e) o) (drop (place + 1) run))) (sym leads)
    ∙ ap (λ x. doubled_from test c (x ∷ drop (place + 1) run)) read
    ∙ ap (doubled_from test c) (sym (drop_more run place label less)))
    ∙ holds

-- an expiry is no statement
pub expiry-no-alt : (test : Test) (c : Configuration) (label : Label) (path : Path) (number : ℕ) (name : List ℕ) → label ≡ Expiry path number name → is_alt_in test c label ≡ false
expiry-no-alt test (Ended v) label path number name is = refl
expiry-no-alt test (Goes c) label path number name is = ap (is_alt_in test (Goes c)) is

-- nor is a delivery
pub delivery-no-alt : (test : Test) (c : Configuration) (label : Label) (name : List ℕ) → label ≡ Delivery name → is_alt_in test c label ≡ false
delivery-no-alt test (Ended v) label name is = refl
delivery-no-alt test (Goes c) label name is = ap (is_alt_in test (Goes c)) is

-- ---- the end

pub doubled-end : (test : Test) (run : List Label) (place : ℕ) (c : Configuration) (labels whole : List FineLabel) → length run ≤ place → labels ++ doubled_from test c (drop place run) ≡ whole → labels ≡ whole
doubled-end test run place c labels whole done holds =
    sym (append-nil labels) ∙ ap (λ xs. labels ++ doubled_from test c xs) (sym (drop_all place run done)) ∙ holds

pub led-end : (test : Test) (run : List Label) (place : ℕ) (c : Configuration) → length run ≤ place → Left test run place c ≡ replay test run → HasLed (replay test run)
led-end test run place c done holds = has-led (replay test run) c (ap (λ xs. replay_from test xs (place + 1) c) (sym (drop_all place run done)) ∙ holds)

-- the first label that is not enabled
pub double-refused : (machine : Machine) (run : List Label) (place : ℕ) (label : Label) (c : Configuration) (e : ReplayError) → place < length run → label ≡ get_or run place label
    → Follows machine (place + 1) (next machine.test c label) (Err e) → Left machine.test run place c ≡ replay machine.test run → Doubles machine run (Err e)
double-refused machine run place label c (replaying.NotEnabled k) less read follows holds =
    sym holds ∙ next-left machine.test run place label c less read ∙ ap (option_elim (Err (place + 1)) (Left machine.test run (place + 1))) follows.0 ∙ ap Err (sym follows.1)
double-refused machine run place label c replaying.Memory less read follows holds = tt

-- an error that was made of another one, as a result
pub as-error : {A E : Type 0} (r : Result A E) (why : E) (P : Result A E → Type 0) → IsErr r → IsErrAnd r (λ x. x ≡ why) → P (Err why) → P r
as-error (Ok a) why P is-err is holds = cc
as-error (Err x) why P is-err is holds = subst (λ y. P (Err y)) (sym is) holds
