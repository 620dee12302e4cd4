-- The doubling of a run stands for this run again.
use Rattle.std.proofs.Common.{◌≡◌, Bool, true, false, List, [], ◌∷◌, Option, Some, None, Ok, option_map, refl, sym, ap, ◌∙◌}
use Rattle.std.specs.Option.{option_and_then}
use Rattle.ttcn_syntax.specs.declared.tree.statement.Verdict.TheVariants as verdict
use Rattle.laws_fine.proofs.Coarse.{faulting, lapsing}
use Rattle.laws_fine.proofs.Doubled.{choose-next, plain-next, snap-next, stands-found, stored_of}
use Rattle.laws_steps.proofs.Finding.{found-path, path-same, some-is}
use Rattle.laws_fine.proofs.Leading.{fine_of, leads}
use Rattle.laws_fine.proofs.Moves.{HasActed, acted}
use Rattle.laws_fine.proofs.Pending.{fate-here, fine-after-is}
use Rattle.laws_fine.proofs.Replays.{replay-leads}
use Rattle.laws_fine.proofs.Sound.{consed-at}
use Rattle.laws_fine.specs.Doubling.{doubled, doubled_from, doubled_label}
use Rattle.laws_fine.specs.Fates.{Fate, Faults, Lapses, Takes, by_fate, coarse, coarse_from, fate, fate_of, judged}
use Rattle.laws_fine.specs.Fine.{Choose, FineLabel, Plain, Snap, is_found, is_of_alt, stands_at_alt, stored_at}
use Rattle.semantics.specs.Configurations.{Component, Configuration, Ended, Goes, Going, component_at, path_of}
use Rattle.semantics.specs.Runs.{option_elim, replay, start}
use Rattle.semantics.specs.Snapshots.{Test, snapshot_of}
use Rattle.semantics.specs.Statements.{act}
use Rattle.semantics.specs.Steps.{Delivery, Expiry, Label, Statement, apply, next, settled}
use Rattle.value_types.specs.Outcomes.{Outcome}
use Rattle.value_types.specs.declared.path.Path.{Path}

ended-none : (test : Test) (labels : List Label) (c d : Configuration) → c ≡ Ended verdict.Error → leads test labels c ≡ Some d → labels ≡ []
ended-none test [] c d ended e = refl
ended-none test (label ∷ labels) c d ended e = absurd (let no = ap (λ x. option_and_then (leads test labels) (next test x label)) (sym ended) ∙ e in cc)

-- ---- one step at an `alt`

fated : (test : Test) (c : Going) (p : Path) (x : Component) (o : Outcome Configuration) (d : Configuration) (labels : List Label) (k : Fate) → fate_of (act test (snapshot_of c x) x.own) ≡ k
    → apply test c x.itself (act test (snapshot_of c x) x.own) ≡ Some o → leads test labels (settled o) ≡ Some d → by_fate p k labels ≡ Statement p ∷ labels
fated test c p x o d labels Lapses is applied e = absurd (let no = sym (lapsing test c x.itself (act test (snapshot_of c x) x.own) is) ∙ applied in cc)
fated test c p x o d labels Takes is applied e = refl
fated test c p x o d labels Faults is applied e =
    ap (λ ls. Statement p ∷ ls)
    (sym (ended-none test labels (settled o) d
    (some-is (settled o) (Ended verdict.Error) (sym (ap (option_map settled) applied) ∙ faulting test c x.itself (act test (snapshot_of c x) x.own) is)) e))

stored-is : (c : Going) (p : Path) (x : Component) → component_at c p ≡ Some x → stored_at (stored_of c x) p ≡ Some (snapshot_of c x)
stored-is c p x there =
    ap (stored_at (stored_of c x)) (sym (found-path c p x there)) ∙ consed-at (path_of x) (path_of x) (snapshot_of c x) [] true (path-same (path_of x))

alt-returns : (test : Test) (c : Going) (p : Path) (between d : Configuration) (labels : List Label) (others : List FineLabel) → is_found (stands_at_alt test) (component_at c p) ≡ true
    → next test (Goes c) (Statement p) ≡ Some between → leads test labels between ≡ Some d → coarse_from test (fine_of between []) others ≡ labels
    → coarse_from test (fine_of (Goes c) []) (Snap p ∷ Choose p ∷ others) ≡ Statement p ∷ labels
alt-returns test c p between d labels others is e leads-on rest =
    let at : HasActed test c p between = acted test c p between e in
    ap (λ f. by_fate p (fate test p f (Choose p ∷ others)) (coarse_from test f (Choose p ∷ others)))
    (fine-after-is test (fine_of (Goes c) []) (fine_of (Goes c) (stored_of c at.x)) (Snap p) (snap-next test c p at.x at.there (stands-found test c p at.x at.there is)))
    ∙ ap (λ k. by_fate p k (coarse_from test (fine_of (Goes c) (stored_of c at.x)) (Choose p ∷ others)))
    (fate-here test p (fine_of (Goes c) (stored_of c at.x)) (snapshot_of c at.x) (Choose p) others (stored-is c p at.x at.there) (path-same p) ∙ ap (judged test (snapshot_of c at.x)) at.there)
    ∙ ap (λ f. by_fate p (fate_of (act test (snapshot_of c at.x) at.x.own)) (coarse_from test f others))
    (fine-after-is test (fine_of (Goes c) (stored_of c at.x)) (fine_of (settled at.outcome) []) (Choose p) (choose-next test c p at.x at.outcome at.there at.applied))
    ∙ ap (λ ls. by_fate p (fate_of (act test (snapshot_of c at.x) at.x.own)) ls) (ap (λ b. coarse_from test (fine_of b []) others) (sym at.to) ∙ rest)
    ∙ fated test c p at.x at.outcome d labels (fate_of (act test (snapshot_of c at.x) at.x.own)) refl at.applied (ap (leads test labels) (sym at.to) ∙ leads-on)

-- ---- all steps

label-returns : (test : Test) (c : Going) (label : Label) (between d : Configuration) (labels : List Label) (others : List FineLabel) (b : Bool) → is_of_alt test c label ≡ b → next test (Goes c) label ≡ Some between
    → leads test labels between ≡ Some d → coarse_from test (fine_of between []) others ≡ labels → coarse_from test (fine_of (Goes c) []) (doubled_label b label others) ≡ label ∷ labels
label-returns test c (Statement p) between d labels others true is e leads-on rest = alt-returns test c p between d labels others is e leads-on rest
label-returns test c (Expiry p n name) between d labels others true is e leads-on rest = absurd (let no = is in cc)
label-returns test c (Delivery system_port) between d labels others true is e leads-on rest = absurd (let no = is in cc)
label-returns test c label between d labels others false is e leads-on rest =
    ap (λ f. label ∷ coarse_from test f others) (fine-after-is test (fine_of (Goes c) []) (fine_of between []) (Plain label) (plain-next test c label between is e)) ∙ ap (λ ls. label ∷ ls) rest

next-returns : (test : Test) (label : Label) (labels : List Label) (c d : Configuration) (o : Option Configuration)
    → ((between : Configuration) → leads test labels between ≡ Some d → coarse_from test (fine_of between []) (doubled_from test between labels) ≡ labels)
    → next test c label ≡ o → option_and_then (leads test labels) o ≡ Some d → coarse_from test (fine_of c []) (doubled_from test c (label ∷ labels)) ≡ label ∷ labels
next-returns test label labels c d None rest e leads-on = absurd (let no = leads-on in cc)
next-returns test label labels (Ended v) d (Some between) rest e leads-on = absurd (let no = e in cc)
next-returns test label labels (Goes c) d (Some between) rest e leads-on =
    ap (λ x. coarse_from test (fine_of (Goes c) []) (doubled_label (is_of_alt test c label) label (doubled_from test x labels))) (ap (option_elim (Goes c) (λ x. x)) e)
    ∙ label-returns test c label between d labels (doubled_from test between labels) (is_of_alt test c label) refl e leads-on (rest between leads-on)

returns-from : (test : Test) (labels : List Label) (c d : Configuration) → leads test labels c ≡ Some d → coarse_from test (fine_of c []) (doubled_from test c labels) ≡ labels
returns-from test [] c d e = refl
returns-from test (label ∷ labels) c d e = next-returns test label labels c d (next test c label) (λ between is. returns-from test labels between d is) refl e

pub doubled_returns : (test : Test) (run : List Label) (d : Configuration) → replay test run ≡ Ok d → coarse test (doubled test run) ≡ run
doubled_returns test run d e = returns-from test run (start test) d (replay-leads test run 1 (start test) d e)
