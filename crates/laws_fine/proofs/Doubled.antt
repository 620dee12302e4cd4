-- The doubling of a run is a fine run with the same end, and no snapshot is left.
use Rattle.std.proofs.Common.{◌≡◌, Bool, true, false, ◌&&◌, not, List, [], ◌∷◌, Option, Some, None, option_map, refl, sym, ap, ◌∙◌, if◌then◌else◌}
use Rattle.std.specs.Option.{option_and_then}
use Rattle.laws_fine.proofs.Moves.{HasActed, acted}
use Rattle.laws_fine.proofs.Sound.{consed-at}
use Rattle.laws_fine.specs.Doubling.{doubled_from, doubled_label}
use Rattle.laws_fine.specs.Fine.{Choose, FineLabel, Plain, Snap, Stored, behind, choose, chosen, fine_next, is_found, is_of_alt, snap, stands_at_alt, still_stored, stored_at, without_stored}
use Rattle.laws_steps.proofs.Finding.{found-path, path-same, some-is}
use Rattle.laws_fine.proofs.Leading.{fine_of, fine_run, leads}
use Rattle.semantics.specs.Configurations.{Component, Configuration, Ended, Goes, Going, component_at, path_of}
use Rattle.semantics.specs.Runs.{graph_of, option_elim}
use Rattle.semantics.specs.Snapshots.{Test, snapshot_of}
use Rattle.semantics.specs.Statements.{act}
use Rattle.semantics.specs.Steps.{Delivery, Expiry, Label, Statement, apply, next, settled}
use Rattle.value_types.specs.Outcomes.{Outcome}
use Rattle.value_types.specs.declared.path.Path.{Path}

-- no snapshot is left of none
pub none-still : (d : Configuration) → still_stored d [] ≡ []
none-still (Ended v) = refl
none-still (Goes c) = refl

-- a label that is no statement of an `alt`
pub plain-next : (test : Test) (c : Going) (label : Label) (d : Configuration) → is_of_alt test c label ≡ false → next test (Goes c) label ≡ Some d → fine_next test (fine_of (Goes c) []) (Plain label) ≡ Some (fine_of d [])
plain-next test c label d other e =
    ap (λ b. if b then None else option_map (behind []) (next test (Goes c) label)) other ∙ ap (option_map (behind [])) e ∙ ap Some (ap (fine_of d) (none-still d))

pub stands-found : (test : Test) (c : Going) (p : Path) (x : Component) → component_at c p ≡ Some x → is_found (stands_at_alt test) (component_at c p) ≡ true → stands_at_alt test x ≡ true
stands-found test c p x there is = sym (ap (is_found (stands_at_alt test)) there) ∙ is

abbrev pub stored_of : Going → Component → Stored
stored_of c x = (path_of x, snapshot_of c x) ∷ []

-- the snapshot
pub snap-next : (test : Test) (c : Going) (p : Path) (x : Component) → component_at c p ≡ Some x → stands_at_alt test x ≡ true → fine_next test (fine_of (Goes c) []) (Snap p) ≡ Some (fine_of (Goes c) (stored_of c x))
snap-next test c p x there is =
    ap (option_and_then (snap test c [])) there ∙ ap (λ b. if b && true then Some (fine_of (Goes c) (stored_of c x)) else None) is

without-one : (c : Going) (x : Component) → without_stored (path_of x) (stored_of c x) ≡ []
without-one c x = ap (λ b. if not b then stored_of c x else []) (path-same (path_of x))

-- the choice by it
pub choose-next : (test : Test) (c : Going) (p : Path) (x : Component) (o : Outcome Configuration) → component_at c p ≡ Some x → apply test c x.itself (act test (snapshot_of c x) x.own) ≡ Some o
    → fine_next test (fine_of (Goes c) (stored_of c x)) (Choose p) ≡ Some (fine_of (settled o) [])
choose-next test c p x o there applied =
    ap (option_and_then (λ y. choose test c (stored_of c x) y (stored_at (stored_of c x) p))) there
    ∙ ap (choose test c (stored_of c x) x) (ap (stored_at (stored_of c x)) (sym (found-path c p x there)) ∙ consed-at (path_of x) (path_of x) (snapshot_of c x) [] true (path-same (path_of x)))
    ∙ ap (λ others. Some (chosen c others (apply test c x.itself (act test (snapshot_of c x) x.own)))) (without-one c x)
    ∙ ap (λ out. Some (chosen c [] out)) applied
    ∙ ap (λ stored. Some (fine_of (settled o) stored)) (none-still (settled o))

-- both together
alt-next : (test : Test) (c : Going) (p : Path) (d : Configuration) (others : List FineLabel) → is_found (stands_at_alt test) (component_at c p) ≡ true → next test (Goes c) (Statement p) ≡ Some d
    → fine_run test (Snap p ∷ Choose p ∷ others) (fine_of (Goes c) []) ≡ fine_run test others (fine_of d [])
alt-next test c p d others is e =
    let at : HasActed test c p d = acted test c p d e in
    ap (option_and_then (fine_run test (Choose p ∷ others))) (snap-next test c p at.x at.there (stands-found test c p at.x at.there is))
    ∙ ap (option_and_then (fine_run test others)) (choose-next test c p at.x at.outcome at.there at.applied)
    ∙ ap (λ x. fine_run test others (fine_of x [])) (sym at.to)

label-told : (test : Test) (c : Going) (label : Label) (d : Configuration) (others : List FineLabel) (b : Bool) → is_of_alt test c label ≡ b → next test (Goes c) label ≡ Some d
    → fine_run test (doubled_label b label others) (fine_of (Goes c) []) ≡ fine_run test others (fine_of d [])
label-told test c (Statement p) d others true is e = alt-next test c p d others is e
label-told test c (Expiry p n name) d others true is e = absurd (let no = is in cc)
label-told test c (Delivery system_port) d others true is e = absurd (let no = is in cc)
label-told test c label d others false is e = ap (option_and_then (fine_run test others)) (plain-next test c label d is e)

after-next : (test : Test) (c : Going) (label : Label) (d : Configuration) → next test (Goes c) label ≡ Some d → (graph_of test).after (Goes c) label ≡ d
after-next test c label d e = ap (option_elim (Goes c) (λ x. x)) e

next-told : (test : Test) (label : Label) (labels : List Label) (c d : Configuration) (o : Option Configuration)
    → ((between : Configuration) → leads test labels between ≡ Some d → fine_run test (doubled_from test between labels) (fine_of between []) ≡ Some (fine_of d []))
    → next test c label ≡ o → option_and_then (leads test labels) o ≡ Some d → fine_run test (doubled_from test c (label ∷ labels)) (fine_of c []) ≡ Some (fine_of d [])
next-told test label labels c d None rest next e = absurd (let no = e in cc)
next-told test label labels (Ended v) d (Some between) rest next e = absurd (let no = next in cc)
next-told test label labels (Goes c) d (Some between) rest next e =
    ap (λ x. fine_run test (doubled_label (is_of_alt test c label) label (doubled_from test x labels)) (fine_of (Goes c) [])) (after-next test c label between next)
    ∙ label-told test c label between (doubled_from test between labels) (is_of_alt test c label) refl next
    ∙ rest between e

-- where labels lead, the doubling leads, and no snapshot is left
pub doubled-leads : (test : Test) (labels : List Label) (c d : Configuration) → leads test labels c ≡ Some d → fine_run test (doubled_from test c labels) (fine_of c []) ≡ Some (fine_of d [])
doubled-leads test [] c d e = ap (λ x. Some (fine_of x [])) (some-is c d e)
doubled-leads test (label ∷ labels) c d e = next-told test label labels c d (next test c label) (λ between is. doubled-leads test labels between d is) refl e
