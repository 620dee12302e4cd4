-- A fine run that ends with a verdict stands for a run that ends with it.
use Rattle.std.proofs.Common.{◌≡◌, Bool, true, false, List, [], ◌∷◌, Option, Some, None, option_map, inl, inr, refl, sym, ap, subst, ◌∙◌, if◌then◌else◌}
use Rattle.std.specs.Option.{option_and_then}
use Rattle.ttcn_syntax.specs.declared.tree.statement.Verdict.{Verdict}
use Rattle.ttcn_syntax.specs.declared.tree.statement.Verdict.TheVariants as verdict
use Rattle.laws_fine.proofs.Choices.{IsOfAlt, act-of-alt}
use Rattle.laws_fine.proofs.Early.{Pending, early, early-at, early_in, hastened, hastened-state, next-early, snapshot-early}
use Rattle.laws_fine.proofs.EarlySteps.{IsMore, IsOnly, OutcomeIs, chosen-early, delivery-early, expiry-early, first-early, made_at, only-early, outcome-is, free}
use Rattle.laws_fine.proofs.Moves.{HasChosen, HasComeIn, HasExpired, HasMoved, HasSnapped, HasStepped, has-come-in, has-expired, moves}
use Rattle.laws_fine.proofs.Pending.{StaysStored, fine-after-is, all-ready, all-run, chosen-gone, early-in-same, early-same, fate-here, fate-now, fate-on, is-bound, is-free, moved-other, pending, pending-is, pending-none, pending-not, pending-on, stored-stays, takes, touches, unstored}
use Rattle.laws_fine.proofs.Sound.{IsKeptBySteps, IsSound, IsSoundIn, Stores, consed-at, moved-sound, only-there}
use Rattle.laws_fine.specs.Fates.{Fate, Faults, Lapses, Takes, by_fate, coarse_from, fate, fate_of, is_choice_of, judged}
use Rattle.laws_fine.specs.Fine.{Choose, Fine, FineLabel, Plain, Snap, Stored, chosen, fine_next, is_at_alt, stored_at, without_stored}
use Rattle.laws_steps.proofs.Finding.{found-path, path-is, path-same, some-is}
use Rattle.laws_fine.proofs.Leading.{ended-run, fine_of, fine_run, leads}
use Rattle.semantics.specs.Configurations.{Component, Configuration, Ended, Goes, Going, component_at, is_running_state, path_of, same_path}
use Rattle.semantics.specs.Snapshots.{Snapshot, Test, snapshot_of}
use Rattle.semantics.specs.Statements.{Act, Connects, Continues, Creates, Errs, Maps, Removes, Requests, Sends, Starts, Stops, Unmaps, Waits, Worsens, act}
use Rattle.semantics.specs.Steps as steps
use Rattle.semantics.specs.Steps.{Delivery, Expiry, Label, Statement, apply, next, settled, statement_step}
use Rattle.value_types.specs.Outcomes.{Outcome, Yields}
use Rattle.value_types.specs.declared.path.Path.{Path}
use Rattle.value_types.specs.declared.value.ComponentId.{ComponentId}

-- ---- what is asked for, by its fate

pub lapsing : (test : Test) (c : Going) (itself : ComponentId) (a : Act) → fate_of a ≡ Lapses → apply test c itself a ≡ None
lapsing test c itself Waits is = refl
lapsing test c itself (Errs why) is = absurd (let no = is in cc)
lapsing test c itself (Requests request own) is = absurd (let no = is in cc)

pub faulting : (test : Test) (c : Going) (itself : ComponentId) (a : Act) → fate_of a ≡ Faults → option_map settled (apply test c itself a) ≡ Some (Ended verdict.Error)
faulting test c itself Waits is = absurd (let no = is in cc)
faulting test c itself (Errs why) is = refl
faulting test c itself (Requests request own) is = absurd (let no = is in cc)

taking : (test : Test) (c : Going) (x : Component) (a : Act) → fate_of a ≡ Takes → IsOfAlt a → OutcomeIs test c x a → apply test c x.itself a ≡ Some (Yields (Goes (made_at a (path_of x) c)))
taking test c x Waits is alt outcome = absurd (let no = is in cc)
taking test c x (Errs why) is alt outcome = absurd (let no = is in cc)
taking test c x (Requests Continues own) is alt outcome = outcome
taking test c x (Requests (Worsens v) own) is alt outcome = absurd alt
taking test c x (Requests (Removes port) own) is alt outcome = outcome
taking test c x (Requests (Sends port to v) own) is alt outcome = absurd alt
taking test c x (Requests (Creates new) own) is alt outcome = absurd alt
taking test c x (Requests (Starts path frame) own) is alt outcome = absurd alt
taking test c x (Requests (Stops path) own) is alt outcome = absurd alt
taking test c x (Requests (Connects d e) own) is alt outcome = absurd alt
taking test c x (Requests (Maps d system_port) own) is alt outcome = absurd alt
taking test c x (Requests (Unmaps d system_port) own) is alt outcome = absurd alt

-- ---- the step of a component that chooses at once

asked-early : (test : Test) (pending : Pending) (c : Going) (p : Path) (x : Component) → component_at c p ≡ Some x → is_running_state x.state ≡ true → pending (path_of x) ≡ None
    → next test (Goes (early test pending c)) (Statement p) ≡ option_map settled (apply test (early test pending c) x.itself (act test (snapshot_of c x) x.own))
asked-early test pending c p x there runs none =
    ap (λ o. option_map settled (option_and_then (statement_step test (early test pending c)) o)) (early-at test pending c p ∙ ap (option_map (hastened test pending)) there ∙ ap Some (free test pending (path_of x) x refl none))
    ∙ ap (λ b. option_map settled (if b then apply test (early test pending c) x.itself (act test (snapshot_of (early test pending c) x) x.own) else None)) runs
    ∙ ap (λ s. option_map settled (apply test (early test pending c) x.itself (act test s x.own))) (snapshot-early test pending c x)

taken-early : (test : Test) (pending others : Pending) (c : Going) (p : Path) (x : Component) → component_at c p ≡ Some x → is_running_state x.state ≡ true → is_at_alt test x.own.calls ≡ true
    → IsMore (path_of x) (snapshot_of c x) pending others → IsOnly (path_of x) x c → fate_of (act test (snapshot_of c x) x.own) ≡ Takes
    → next test (Goes (early test pending c)) (Statement p) ≡ Some (Goes (early test others c))
taken-early test pending others c p x there runs alt more only is =
    asked-early test pending c p x there runs more.1
    ∙ ap (option_map settled)
    (taking test (early test pending c) x (act test (snapshot_of c x) x.own) is (act-of-alt test (snapshot_of c x) x.own alt)
    (outcome-is test (early test pending c) x (act test (snapshot_of c x) x.own) runs (only-early test pending c x more.1 only)))
    ∙ ap (λ d. Some (Goes d)) (first-early test pending others (snapshot_of c x) c x more only)

module _ (Lawful : Going → Type 0) (test : Test) (laws : IsKeptBySteps test Lawful) where
  -- no snapshot is stored by which a fault will be met
  abbrev pub NoFaults : Fine → List FineLabel → Type 0
  NoFaults f labels = (p : Path) (s : Snapshot) → stored_at f.stored p ≡ Some s → fate test p f labels ≡ Faults → ⊥

  faults-next : (c : Going) (stored : Stored) (label : FineLabel) (labels : List FineLabel) (f : Fine) → NoFaults (fine_of (Goes c) stored) (label ∷ labels) → fine_next test (fine_of (Goes c) stored) label ≡ Some f
      → HasMoved test c stored label f → ((p : Path) (s : Snapshot) → touches p label ≡ true → stored_at f.stored p ≡ Some s → fate test p f labels ≡ Faults → ⊥) → NoFaults f labels
  faults-next c stored label labels f none next is mine p s has e = told (touches p label) refl
    where
      stays : (touches p label ≡ false) → StaysStored p stored f.stored → ⊥
      stays other (inl same) =
          none p s (sym same ∙ has) (fate-on test p (fine_of (Goes c) stored) f s label labels (sym same ∙ has) (not-choice label other) next ∙ e)
        where
          not-choice : (l : FineLabel) → touches p l ≡ false → is_choice_of p l ≡ false
          not-choice (Snap r) is = refl
          not-choice (Choose r) is = is
          not-choice (Plain l) is = refl
      stays other (inr gone) = let no : None ≡ Some s = sym gone ∙ has in cc

      told : (b : Bool) → touches p label ≡ b → ⊥
      told true at = mine p s at has e
      told false at = stays at (stored-stays test c stored p label f at is)

  -- ---- a fault

  abbrev EndsInError : Fine → Type 0
  EndsInError g = g.now ≡ Ended verdict.Error

  ended-here : (labels : List FineLabel) (f g : Fine) → f.now ≡ Ended verdict.Error → fine_run test labels f ≡ Some g → g.now ≡ Ended verdict.Error
  ended-here labels f g at run =
      let none : labels ≡ [] = ended-run test labels f g (Ended verdict.Error) verdict.Error at refl run in
      let same : f ≡ g = some-is f g (ap (λ ls. fine_run test ls f) (sym none) ∙ run) in
      sym (ap (λ (h : Fine). h.now) same) ∙ at

  now-of : (c : Going) (others : Stored) (o : Option (Outcome Configuration)) (d : Configuration) → option_map settled o ≡ Some d → (chosen c others o).now ≡ d
  now-of c others None d e = absurd (let no = e in cc)
  now-of c others (Some outcome) d e = some-is (settled outcome) d e

  fault-chosen : (c : Going) (stored : Stored) (p r : Path) (s : Snapshot) (labels : List FineLabel) (f g : Fine) → IsSound Lawful test c stored → stored_at stored p ≡ Some s → same_path r p ≡ true
      → judged test s (component_at c p) ≡ Faults → HasChosen test c stored r f → fine_run test labels f ≡ Some g → EndsInError g
  fault-chosen c stored p r s labels f g sound has at e is run =
      ended-here labels f g
      (ap (λ (h : Fine). h.now) is.to
      ∙ now-of c (without_stored (path_of is.x) stored) (apply test c is.x.itself (act test is.snapshot is.x.own)) (Ended verdict.Error) (faulting test c is.x.itself (act test is.snapshot is.x.own) faults)) run
    where
      there : component_at c p ≡ Some is.x
      there = ap (component_at c) (sym (path-is r p at)) ∙ is.there

      one : s ≡ is.snapshot
      one = some-is s is.snapshot (sym has ∙ ap (stored_at stored) (sym (path-is r p at)) ∙ is.has)

      faults : fate_of (act test is.snapshot is.x.own) ≡ Faults
      faults = ap (λ t. fate_of (act test t is.x.own)) (sym one) ∙ sym (ap (judged test s) there) ∙ e

  abbrev ErrorLater : List FineLabel → Path → Snapshot → Fine → Type 0
  ErrorLater labels p s g = (d : Going) (others : Stored) → IsSound Lawful test d others → stored_at others p ≡ Some s → fate test p (fine_of (Goes d) others) labels ≡ Faults
      → fine_run test labels (fine_of (Goes d) others) ≡ Some g → EndsInError g

  error-in : (labels : List FineLabel) (p : Path) (s : Snapshot) (stored : Stored) (f g : Fine) (now : Configuration) → f.now ≡ now → stored_at stored p ≡ Some s → IsSoundIn Lawful test now f.stored → StaysStored p stored f.stored
      → fate test p f labels ≡ Faults → fine_run test labels f ≡ Some g → ErrorLater labels p s g → EndsInError g
  error-in labels p s stored f g (Ended v) at has sound stays e run later =
      absurd (let no : Lapses ≡ Faults = sym (ap (fate test p f) (ended-run test labels f g (Ended v) v at refl run)) ∙ e in cc)
  error-in labels p s stored f g (Goes d) at has sound (inl same) e run later =
      let one : f ≡ fine_of (Goes d) f.stored = ap (λ n. fine_of n f.stored) at in
      later d f.stored sound (same ∙ has) (ap (λ h. fate test p h labels) (sym one) ∙ e) (ap (fine_run test labels) (sym one) ∙ run)
  error-in labels p s stored f g (Goes d) at has sound (inr none) e run later =
      absurd (let no : Lapses ≡ Faults = sym (unstored test p f labels none) ∙ e in cc)

  choice-error : (c : Going) (stored : Stored) (p : Path) (s : Snapshot) (label : FineLabel) (labels : List FineLabel) (f g : Fine) → IsSound Lawful test c stored → stored_at stored p ≡ Some s → is_choice_of p label ≡ true
      → judged test s (component_at c p) ≡ Faults → HasMoved test c stored label f → fine_run test labels f ≡ Some g → EndsInError g
  choice-error c stored p s (Snap r) labels f g sound has is e moved run = absurd (let no = is in cc)
  choice-error c stored p s (Choose r) labels f g sound has is e moved run = fault-chosen c stored p r s labels f g sound has is e moved run
  choice-error c stored p s (Plain label) labels f g sound has is e moved run = absurd (let no = is in cc)

  error-moved : (c : Going) (stored : Stored) (p : Path) (s : Snapshot) (label : FineLabel) (labels : List FineLabel) (f g : Fine) (b : Bool) → is_choice_of p label ≡ b → IsSound Lawful test c stored → stored_at stored p ≡ Some s
      → fine_next test (fine_of (Goes c) stored) label ≡ Some f → fate test p (fine_of (Goes c) stored) (label ∷ labels) ≡ Faults → HasMoved test c stored label f → fine_run test labels f ≡ Some g → ErrorLater labels p s g
      → EndsInError g
  error-moved c stored p s label labels f g true is sound has next e moved run later =
      choice-error c stored p s label labels f g sound has is (sym (fate-here test p (fine_of (Goes c) stored) s label labels has is) ∙ e) moved run
  error-moved c stored p s label labels f g false is sound has next e moved run later =
      error-in labels p s stored f g f.now refl has (moved-sound Lawful test laws c stored label f sound moved)
      (stored-stays test c stored p label f (moved-other Lawful test laws c stored p s label f has is moved) moved)
      (sym (fate-on test p (fine_of (Goes c) stored) f s label labels has is next) ∙ e) run later

  error-next : (c : Going) (stored : Stored) (p : Path) (s : Snapshot) (label : FineLabel) (labels : List FineLabel) (g : Fine) (o : Option Fine) → IsSound Lawful test c stored → stored_at stored p ≡ Some s
      → fine_next test (fine_of (Goes c) stored) label ≡ o → fate test p (fine_of (Goes c) stored) (label ∷ labels) ≡ Faults → option_and_then (fine_run test labels) o ≡ Some g → ErrorLater labels p s g → EndsInError g
  error-next c stored p s label labels g None sound has next e run later = absurd (let no = run in cc)
  error-next c stored p s label labels g (Some f) sound has next e run later =
      error-moved c stored p s label labels f g (is_choice_of p label) refl sound has next e (moves test c stored label f next) run later

  -- a fault by a stored snapshot ends the test case
  faults-end : (labels : List FineLabel) (p : Path) (s : Snapshot) (g : Fine) → ErrorLater labels p s g
  faults-end [] p s g c stored sound has e run = absurd (let no = e in cc)
  faults-end (label ∷ labels) p s g c stored sound has e run =
      error-next c stored p s label labels g (fine_next test (fine_of (Goes c) stored) label) sound has refl e run (faults-end labels p s g)

  -- ---- label by label

  -- what fine labels stand for leads, from where what will be chosen is done early, to the same verdict
  abbrev pub LeadsOn : List FineLabel → Fine → Verdict → Type 0
  LeadsOn labels g v = (now : Configuration) (stored : Stored) → IsSoundIn Lawful test now stored → NoFaults (fine_of now stored) labels → fine_run test labels (fine_of now stored) ≡ Some g
      → leads test (coarse_from test (fine_of now stored) labels) (early_in test (pending test (fine_of now stored) labels) now) ≡ Some (Ended v)

  found-own : (c : Going) (r : Path) (x : Component) → component_at c r ≡ Some x → component_at c (path_of x) ≡ Some x
  found-own c r x there = ap (component_at c) (found-path c r x there) ∙ there

  stepped-early : (c : Going) (stored : Stored) (label : Label) (labels : List FineLabel) (f : Fine) → IsSound Lawful test c stored → fine_next test (fine_of (Goes c) stored) (Plain label) ≡ Some f → HasStepped test c stored label f
      → next test (Goes (early test (pending test (fine_of (Goes c) stored) (Plain label ∷ labels)) c)) label ≡ Some (early_in test (pending test f labels) f.now)
  stepped-early c stored label labels f sound moved is = start label is moved ∙ ap Some same
    where
      before : Pending
      before = pending test (fine_of (Goes c) stored) (Plain label ∷ labels)

      same : early_in test before is.d ≡ early_in test (pending test f labels) f.now
      same = early-in-same test before (pending test f labels) (λ p. pending-on test c stored f (Plain label) labels p refl moved is) is.d
          ∙ ap (early_in test (pending test f labels)) (sym (ap (λ (h : Fine). h.now) is.to))

      start : (l : Label) → (at : HasStepped test c stored l f) → fine_next test (fine_of (Goes c) stored) (Plain l) ≡ Some f
          → next test (Goes (early test (pending test (fine_of (Goes c) stored) (Plain l ∷ labels)) c)) l ≡ Some (early_in test (pending test (fine_of (Goes c) stored) (Plain l ∷ labels)) at.d)
      start (Statement r) at next =
          next-early test (pending test (fine_of (Goes c) stored) (Plain (Statement r) ∷ labels)) c r
          (is-free Lawful test laws c stored (Plain (Statement r) ∷ labels) r sound at.other) (all-run Lawful test laws c stored (Plain (Statement r) ∷ labels) sound)
          (all-ready Lawful test laws c stored (Plain (Statement r) ∷ labels) sound)
          ∙ ap (option_map (early_in test (pending test (fine_of (Goes c) stored) (Plain (Statement r) ∷ labels)))) at.goes
      start (Expiry r n name) at next =
          let ex : HasExpired c r n name at.d = has-expired test c r n name at.d at.goes in
          expiry-early test (pending test (fine_of (Goes c) stored) (Plain (Expiry r n name) ∷ labels)) c r n name ex.x ex.there ex.runs
          (hastened-state test (pending test (fine_of (Goes c) stored) (Plain (Expiry r n name) ∷ labels)) ex.x)
          (only-there c r ex.x sound.ascend ex.there) (is-bound Lawful test laws c stored (Plain (Expiry r n name) ∷ labels) ex.x sound (found-own c r ex.x ex.there)) ex.ran
          ∙ ap (λ d. Some (early_in test (pending test (fine_of (Goes c) stored) (Plain (Expiry r n name) ∷ labels)) d)) (sym ex.to)
      start (Delivery system_port) at next =
          let came : HasComeIn test c system_port at.d = has-come-in test c system_port at.d at.goes in
          delivery-early test (pending test (fine_of (Goes c) stored) (Plain (Delivery system_port) ∷ labels)) c system_port came.e came.v came.mapped came.found
          (all-ready Lawful test laws c stored (Plain (Delivery system_port) ∷ labels) sound)
          ∙ ap (λ d. Some (early_in test (pending test (fine_of (Goes c) stored) (Plain (Delivery system_port) ∷ labels)) d)) (sym came.to)

  plain-leads : (c : Going) (stored : Stored) (label : Label) (labels : List FineLabel) (f g : Fine) (v : Verdict) → IsSound Lawful test c stored → NoFaults (fine_of (Goes c) stored) (Plain label ∷ labels)
      → fine_next test (fine_of (Goes c) stored) (Plain label) ≡ Some f → HasStepped test c stored label f → fine_run test labels f ≡ Some g → LeadsOn labels g v
      → leads test (coarse_from test (fine_of (Goes c) stored) (Plain label ∷ labels)) (Goes (early test (pending test (fine_of (Goes c) stored) (Plain label ∷ labels)) c)) ≡ Some (Ended v)
  plain-leads c stored label labels f g v sound none next is run later =
      ap (λ h. option_and_then (leads test (coarse_from test h labels)) (steps.next test (Goes (early test (pending test (fine_of (Goes c) stored) (Plain label ∷ labels)) c)) label))
      (fine-after-is test (fine_of (Goes c) stored) f (Plain label) next)
      ∙ ap (option_and_then (leads test (coarse_from test f labels))) (stepped-early c stored label labels f sound next is)
      ∙ later f.now f.stored (moved-sound Lawful test laws c stored (Plain label) f sound is)
      (faults-next c stored (Plain label) labels f none next is (λ p s at. absurd (let no = at in cc))) run

  -- ---- snapshots

  swapped : (p q : Path) → same_path p q ≡ false → same_path q p ≡ false
  swapped p q other = told (same_path q p) refl
    where
      told : (b : Bool) → same_path q p ≡ b → b ≡ false
      told true is = let no : true ≡ false = sym (path-same p) ∙ ap (same_path p) (sym (path-is q p is)) ∙ other in no
      told false is = refl

  snap-at : (c : Going) (stored : Stored) (r : Path) (f : Fine) → (is : HasSnapped test c stored r f) → stored_at f.stored (path_of is.x) ≡ Some (snapshot_of c is.x)
  snap-at c stored r f is =
      ap (λ (h : Fine). stored_at h.stored (path_of is.x)) is.to ∙ consed-at (path_of is.x) (path_of is.x) (snapshot_of c is.x) stored true (path-same (path_of is.x))

  snap-pending : (c : Going) (stored : Stored) (r : Path) (labels : List FineLabel) (f : Fine) → fine_next test (fine_of (Goes c) stored) (Snap r) ≡ Some f → (is : HasSnapped test c stored r f) → (q : Path)
      → same_path q (path_of is.x) ≡ false → pending test f labels q ≡ pending test (fine_of (Goes c) stored) (Snap r ∷ labels) q
  snap-pending c stored r labels f next is q other =
      sym (pending-on test c stored f (Snap r) labels q (ap (λ p. same_path p q) (sym (found-path c r is.x is.there)) ∙ swapped q (path_of is.x) other) next is)

  -- a snapshot by which nothing comes
  lapsed-leads : (c : Going) (stored : Stored) (r : Path) (labels : List FineLabel) (f g : Fine) (v : Verdict) → IsSound Lawful test c stored → NoFaults (fine_of (Goes c) stored) (Snap r ∷ labels)
      → fine_next test (fine_of (Goes c) stored) (Snap r) ≡ Some f → (is : HasSnapped test c stored r f) → fine_run test labels f ≡ Some g → LeadsOn labels g v → fate test r f labels ≡ Lapses
      → leads test (coarse_from test f labels) (Goes (early test (pending test (fine_of (Goes c) stored) (Snap r ∷ labels)) c)) ≡ Some (Ended v)
  lapsed-leads c stored r labels f g v sound none next is run later lapses =
      ap (leads test (coarse_from test f labels))
      (ap Goes (early-same test (pending test (fine_of (Goes c) stored) (Snap r ∷ labels)) (pending test f labels) same c)
      ∙ ap (early_in test (pending test f labels)) (sym (ap (λ (h : Fine). h.now) is.to)))
      ∙ later f.now f.stored (moved-sound Lawful test laws c stored (Snap r) f sound is)
      (faults-next c stored (Snap r) labels f none next is
      (λ p s at has e. let no : Lapses ≡ Faults = sym lapses ∙ ap (λ q. fate test q f labels) (path-is r p at) ∙ e in cc)) run
    where
      at-own : pending test f labels (path_of is.x) ≡ None
      at-own = pending-not test f labels (path_of is.x) (ap takes (ap (λ q. fate test q f labels) (found-path c r is.x is.there) ∙ lapses))

      same : (q : Path) → pending test (fine_of (Goes c) stored) (Snap r ∷ labels) q ≡ pending test f labels q
      same q = told (same_path q (path_of is.x)) refl
        where
          told : (b : Bool) → same_path q (path_of is.x) ≡ b → pending test (fine_of (Goes c) stored) (Snap r ∷ labels) q ≡ pending test f labels q
          told true at =
              ap (pending test (fine_of (Goes c) stored) (Snap r ∷ labels)) (path-is q (path_of is.x) at)
              ∙ pending-none test (fine_of (Goes c) stored) (Snap r ∷ labels) (path_of is.x) is.new ∙ sym at-own ∙ ap (pending test f labels) (sym (path-is q (path_of is.x) at))
          told false at = sym (snap-pending c stored r labels f next is q at)

  -- what is asked for at once has the fate of the snapshot
  snap-fate : (c : Going) (stored : Stored) (r : Path) (labels : List FineLabel) (f g : Fine) (k : Fate) → IsSound Lawful test c stored → (is : HasSnapped test c stored r f) → fine_run test labels f ≡ Some g
      → fate test r f labels ≡ k → (k ≡ Lapses → ⊥) → fate_of (act test (snapshot_of c is.x) is.x.own) ≡ k
  snap-fate c stored r labels f g k sound is run e not =
      ap (λ (z : Component). fate_of (act test (snapshot_of c is.x) z.own)) one
      ∙ fate-now Lawful test laws labels c ((path_of is.x, snapshot_of c is.x) ∷ stored) (path_of is.x) (snapshot_of c is.x) k g behind-is at-own mine
      (ap (λ h. fate test (path_of is.x) h labels) (sym is.to) ∙ ap (λ q. fate test q f labels) (found-path c r is.x is.there) ∙ e) not
      (ap (fine_run test labels) (sym is.to) ∙ run)
    where
      behind-is : IsSound Lawful test c ((path_of is.x, snapshot_of c is.x) ∷ stored)
      behind-is = subst (λ (h : Fine). IsSoundIn Lawful test h.now h.stored) is.to (moved-sound Lawful test laws c stored (Snap r) f sound is)

      at-own : stored_at ((path_of is.x, snapshot_of c is.x) ∷ stored) (path_of is.x) ≡ Some (snapshot_of c is.x)
      at-own = consed-at (path_of is.x) (path_of is.x) (snapshot_of c is.x) stored true (path-same (path_of is.x))

      mine : Stores test c (path_of is.x) (snapshot_of c is.x)
      mine = behind-is.stores (path_of is.x) (snapshot_of c is.x) at-own

      one : is.x ≡ mine.x
      one = some-is is.x mine.x (sym (found-own c r is.x is.there) ∙ mine.there)

  takes-leads : (c : Going) (stored : Stored) (r : Path) (labels : List FineLabel) (f g : Fine) (v : Verdict) → IsSound Lawful test c stored → NoFaults (fine_of (Goes c) stored) (Snap r ∷ labels)
      → fine_next test (fine_of (Goes c) stored) (Snap r) ≡ Some f → (is : HasSnapped test c stored r f) → fine_run test labels f ≡ Some g → LeadsOn labels g v → fate test r f labels ≡ Takes
      → leads test (Statement r ∷ coarse_from test f labels) (Goes (early test (pending test (fine_of (Goes c) stored) (Snap r ∷ labels)) c)) ≡ Some (Ended v)
  takes-leads c stored r labels f g v sound none next is run later take =
      ap (option_and_then (leads test (coarse_from test f labels)))
      (taken-early test (pending test (fine_of (Goes c) stored) (Snap r ∷ labels)) (pending test f labels) c r is.x is.there is.runs is.alt (
        pending-is test f labels (path_of is.x) (snapshot_of c is.x) (ap (λ q. fate test q f labels) (found-path c r is.x is.there) ∙ take) (snap-at c stored r f is),
        pending-none test (fine_of (Goes c) stored) (Snap r ∷ labels) (path_of is.x) is.new,
        snap-pending c stored r labels f next is,
      )
      (only-there c r is.x sound.ascend is.there)
      (snap-fate c stored r labels f g Takes sound is run take (λ no. let e = no in cc)))
      ∙ ap (λ d. leads test (coarse_from test f labels) (early_in test (pending test f labels) d)) (sym (ap (λ (h : Fine). h.now) is.to))
      ∙ later f.now f.stored (moved-sound Lawful test laws c stored (Snap r) f sound is)
      (faults-next c stored (Snap r) labels f none next is
      (λ p s at has e. let no : Takes ≡ Faults = sym take ∙ ap (λ q. fate test q f labels) (path-is r p at) ∙ e in cc)) run

  fault-leads : (c : Going) (stored : Stored) (r : Path) (labels : List FineLabel) (f g : Fine) (v : Verdict) → IsSound Lawful test c stored → (is : HasSnapped test c stored r f) → fine_run test labels f ≡ Some g → g.now ≡ Ended v
      → fate test r f labels ≡ Faults → leads test (Statement r ∷ []) (Goes (early test (pending test (fine_of (Goes c) stored) (Snap r ∷ labels)) c)) ≡ Some (Ended v)
  fault-leads c stored r labels f g v sound is run ends fault =
      ap (option_and_then (leads test []))
      (asked-early test (pending test (fine_of (Goes c) stored) (Snap r ∷ labels)) c r is.x is.there is.runs (pending-none test (fine_of (Goes c) stored) (Snap r ∷ labels) (path_of is.x) is.new)
      ∙ faulting test (early test (pending test (fine_of (Goes c) stored) (Snap r ∷ labels)) c) is.x.itself (act test (snapshot_of c is.x) is.x.own)
      (snap-fate c stored r labels f g Faults sound is run fault (λ no. let e = no in cc)))
      ∙ ap Some (sym error ∙ ends)
    where
      behind-is : IsSound Lawful test c ((path_of is.x, snapshot_of c is.x) ∷ stored)
      behind-is = subst (λ (h : Fine). IsSoundIn Lawful test h.now h.stored) is.to (moved-sound Lawful test laws c stored (Snap r) f sound is)

      error : g.now ≡ Ended verdict.Error
      error = faults-end labels (path_of is.x) (snapshot_of c is.x) g c ((path_of is.x, snapshot_of c is.x) ∷ stored) behind-is
          (consed-at (path_of is.x) (path_of is.x) (snapshot_of c is.x) stored true (path-same (path_of is.x)))
          (ap (λ h. fate test (path_of is.x) h labels) (sym is.to) ∙ ap (λ q. fate test q f labels) (found-path c r is.x is.there) ∙ fault)
          (ap (fine_run test labels) (sym is.to) ∙ run)

  fate-leads : (c : Going) (stored : Stored) (r : Path) (labels : List FineLabel) (f g : Fine) (v : Verdict) (k : Fate) → IsSound Lawful test c stored → NoFaults (fine_of (Goes c) stored) (Snap r ∷ labels)
      → fine_next test (fine_of (Goes c) stored) (Snap r) ≡ Some f → (is : HasSnapped test c stored r f) → fine_run test labels f ≡ Some g → g.now ≡ Ended v → LeadsOn labels g v → fate test r f labels ≡ k
      → leads test (by_fate r k (coarse_from test f labels)) (Goes (early test (pending test (fine_of (Goes c) stored) (Snap r ∷ labels)) c)) ≡ Some (Ended v)
  fate-leads c stored r labels f g v Lapses sound none next is run ends later e = lapsed-leads c stored r labels f g v sound none next is run later e
  fate-leads c stored r labels f g v Takes sound none next is run ends later e = takes-leads c stored r labels f g v sound none next is run later e
  fate-leads c stored r labels f g v Faults sound none next is run ends later e = fault-leads c stored r labels f g v sound is run ends e

  snap-leads : (c : Going) (stored : Stored) (r : Path) (labels : List FineLabel) (f g : Fine) (v : Verdict) → IsSound Lawful test c stored → NoFaults (fine_of (Goes c) stored) (Snap r ∷ labels)
      → fine_next test (fine_of (Goes c) stored) (Snap r) ≡ Some f → HasSnapped test c stored r f → fine_run test labels f ≡ Some g → g.now ≡ Ended v → LeadsOn labels g v
      → leads test (coarse_from test (fine_of (Goes c) stored) (Snap r ∷ labels)) (Goes (early test (pending test (fine_of (Goes c) stored) (Snap r ∷ labels)) c)) ≡ Some (Ended v)
  snap-leads c stored r labels f g v sound none next is run ends later =
      ap (λ h. leads test (by_fate r (fate test r h labels) (coarse_from test h labels)) (Goes (early test (pending test (fine_of (Goes c) stored) (Snap r ∷ labels)) c)))
      (fine-after-is test (fine_of (Goes c) stored) f (Snap r) next)
      ∙ fate-leads c stored r labels f g v (fate test r f labels) sound none next is run ends later refl

  -- ---- choices

  choice-fate : (c : Going) (stored : Stored) (r : Path) (labels : List FineLabel) (f : Fine) → (is : HasChosen test c stored r f) → fate test r (fine_of (Goes c) stored) (Choose r ∷ labels) ≡ fate_of (act test is.snapshot is.x.own)
  choice-fate c stored r labels f is =
      fate-here test r (fine_of (Goes c) stored) is.snapshot (Choose r) labels is.has (path-same r) ∙ ap (judged test is.snapshot) is.there

  gone-at : (c : Going) (stored : Stored) (r : Path) (f : Fine) → (is : HasChosen test c stored r f) → stored_at f.stored (path_of is.x) ≡ None
  gone-at c stored r f is =
      ap (λ (h : Fine). stored_at h.stored (path_of is.x)) is.to ∙ chosen-gone (path_of is.x) c stored (apply test c is.x.itself (act test is.snapshot is.x.own))

  choice-pending : (c : Going) (stored : Stored) (r : Path) (labels : List FineLabel) (f : Fine) → fine_next test (fine_of (Goes c) stored) (Choose r) ≡ Some f → (is : HasChosen test c stored r f) → (q : Path)
      → same_path q (path_of is.x) ≡ false → pending test (fine_of (Goes c) stored) (Choose r ∷ labels) q ≡ pending test f labels q
  choice-pending c stored r labels f next is q other =
      pending-on test c stored f (Choose r) labels q (ap (λ p. same_path p q) (sym (found-path c r is.x is.there)) ∙ swapped q (path_of is.x) other) next is

  choice-none : (c : Going) (stored : Stored) (r : Path) (labels : List FineLabel) (f : Fine) → NoFaults (fine_of (Goes c) stored) (Choose r ∷ labels) → fine_next test (fine_of (Goes c) stored) (Choose r) ≡ Some f
      → HasChosen test c stored r f → NoFaults f labels
  choice-none c stored r labels f none next is =
      faults-next c stored (Choose r) labels f none next is
      (λ p s at has e. let no : Some s ≡ None = sym has ∙ ap (stored_at f.stored) (sym (path-is r p at) ∙ sym (found-path c r is.x is.there)) ∙ gone-at c stored r f is in cc)

  -- nothing can be chosen
  nothing-same : (c : Going) (stored : Stored) (r : Path) (labels : List FineLabel) (f : Fine) → fine_next test (fine_of (Goes c) stored) (Choose r) ≡ Some f → (is : HasChosen test c stored r f)
      → fate_of (act test is.snapshot is.x.own) ≡ Lapses → Goes (early test (pending test (fine_of (Goes c) stored) (Choose r ∷ labels)) c) ≡ early_in test (pending test f labels) f.now
  nothing-same c stored r labels f next is lapses =
      ap Goes (early-same test (pending test (fine_of (Goes c) stored) (Choose r ∷ labels)) (pending test f labels) same c)
      ∙ ap (early_in test (pending test f labels)) (sym (ap (λ (h : Fine). h.now) to))
    where
      to : f ≡ fine_of (Goes c) (without_stored (path_of is.x) stored)
      to = is.to ∙ ap (chosen c (without_stored (path_of is.x) stored)) (lapsing test c is.x.itself (act test is.snapshot is.x.own) lapses)

      same : (q : Path) → pending test (fine_of (Goes c) stored) (Choose r ∷ labels) q ≡ pending test f labels q
      same q = told (same_path q (path_of is.x)) refl
        where
          told : (b : Bool) → same_path q (path_of is.x) ≡ b → pending test (fine_of (Goes c) stored) (Choose r ∷ labels) q ≡ pending test f labels q
          told true at =
              ap (pending test (fine_of (Goes c) stored) (Choose r ∷ labels)) (path-is q (path_of is.x) at ∙ found-path c r is.x is.there)
              ∙ pending-not test (fine_of (Goes c) stored) (Choose r ∷ labels) r (ap takes (choice-fate c stored r labels f is ∙ lapses))
              ∙ sym (ap (pending test f labels) (path-is q (path_of is.x) at) ∙ pending-none test f labels (path_of is.x) (gone-at c stored r f is))
          told false at = choice-pending c stored r labels f next is q at

  -- a branch is taken
  taken-same : (c : Going) (stored : Stored) (r : Path) (labels : List FineLabel) (f : Fine) → IsSound Lawful test c stored → fine_next test (fine_of (Goes c) stored) (Choose r) ≡ Some f → (is : HasChosen test c stored r f)
      → fate_of (act test is.snapshot is.x.own) ≡ Takes → Goes (early test (pending test (fine_of (Goes c) stored) (Choose r ∷ labels)) c) ≡ early_in test (pending test f labels) f.now
  taken-same c stored r labels f sound next is take =
      sym (ap (early_in test (pending test f labels)) (ap (λ (h : Fine). h.now) to)
      ∙ ap Goes (chosen-early test (pending test f labels) (pending test (fine_of (Goes c) stored) (Choose r ∷ labels)) is.snapshot c is.x (
        pending-is test (fine_of (Goes c) stored) (Choose r ∷ labels) (path_of is.x) is.snapshot
            (ap (λ q. fate test q (fine_of (Goes c) stored) (Choose r ∷ labels)) (found-path c r is.x is.there) ∙ choice-fate c stored r labels f is ∙ take)
            (ap (stored_at stored) (found-path c r is.x is.there) ∙ is.has),
        pending-none test f labels (path_of is.x) (gone-at c stored r f is),
        choice-pending c stored r labels f next is,
      ) only))
    where
      mine : Stores test c r is.snapshot
      mine = sound.stores r is.snapshot is.has

      one : mine.x ≡ is.x
      one = some-is mine.x is.x (sym mine.there ∙ is.there)

      only : IsOnly (path_of is.x) is.x c
      only = only-there c r is.x sound.ascend is.there

      to : f ≡ chosen c (without_stored (path_of is.x) stored) (Some (Yields (Goes (made_at (act test is.snapshot is.x.own) (path_of is.x) c))))
      to = is.to ∙ ap (chosen c (without_stored (path_of is.x) stored))
          (taking test c is.x (act test is.snapshot is.x.own) take
          (subst (λ (z : Component). IsOfAlt (act test is.snapshot z.own)) one (act-of-alt test is.snapshot mine.x.own mine.alt))
          (outcome-is test c is.x (act test is.snapshot is.x.own) (ap (λ (z : Component). is_running_state z.state) (sym one) ∙ mine.runs) only))

  choice-same : (c : Going) (stored : Stored) (r : Path) (labels : List FineLabel) (f : Fine) (k : Fate) → IsSound Lawful test c stored → NoFaults (fine_of (Goes c) stored) (Choose r ∷ labels)
      → fine_next test (fine_of (Goes c) stored) (Choose r) ≡ Some f → (is : HasChosen test c stored r f) → fate_of (act test is.snapshot is.x.own) ≡ k
      → Goes (early test (pending test (fine_of (Goes c) stored) (Choose r ∷ labels)) c) ≡ early_in test (pending test f labels) f.now
  choice-same c stored r labels f Lapses sound none next is e = nothing-same c stored r labels f next is e
  choice-same c stored r labels f Takes sound none next is e = taken-same c stored r labels f sound next is e
  choice-same c stored r labels f Faults sound none next is e = absurd (none r is.snapshot is.has (choice-fate c stored r labels f is ∙ e))

  choose-leads : (c : Going) (stored : Stored) (r : Path) (labels : List FineLabel) (f g : Fine) (v : Verdict) → IsSound Lawful test c stored → NoFaults (fine_of (Goes c) stored) (Choose r ∷ labels)
      → fine_next test (fine_of (Goes c) stored) (Choose r) ≡ Some f → HasChosen test c stored r f → fine_run test labels f ≡ Some g → LeadsOn labels g v
      → leads test (coarse_from test (fine_of (Goes c) stored) (Choose r ∷ labels)) (Goes (early test (pending test (fine_of (Goes c) stored) (Choose r ∷ labels)) c)) ≡ Some (Ended v)
  choose-leads c stored r labels f g v sound none next is run later =
      ap (λ h. leads test (coarse_from test h labels) (Goes (early test (pending test (fine_of (Goes c) stored) (Choose r ∷ labels)) c))) (fine-after-is test (fine_of (Goes c) stored) f (Choose r) next)
      ∙ ap (leads test (coarse_from test f labels)) (choice-same c stored r labels f (fate_of (act test is.snapshot is.x.own)) sound none next is refl)
      ∙ later f.now f.stored (moved-sound Lawful test laws c stored (Choose r) f sound is) (choice-none c stored r labels f none next is) run

  -- ---- all labels

  label-leads : (c : Going) (stored : Stored) (label : FineLabel) (labels : List FineLabel) (f g : Fine) (v : Verdict) → IsSound Lawful test c stored → NoFaults (fine_of (Goes c) stored) (label ∷ labels)
      → fine_next test (fine_of (Goes c) stored) label ≡ Some f → HasMoved test c stored label f → fine_run test labels f ≡ Some g → g.now ≡ Ended v → LeadsOn labels g v
      → leads test (coarse_from test (fine_of (Goes c) stored) (label ∷ labels)) (Goes (early test (pending test (fine_of (Goes c) stored) (label ∷ labels)) c)) ≡ Some (Ended v)
  label-leads c stored (Snap r) labels f g v sound none next is run ends later = snap-leads c stored r labels f g v sound none next is run ends later
  label-leads c stored (Choose r) labels f g v sound none next is run ends later = choose-leads c stored r labels f g v sound none next is run later
  label-leads c stored (Plain label) labels f g v sound none next is run ends later = plain-leads c stored label labels f g v sound none next is run later

  goes-leads : (c : Going) (stored : Stored) (label : FineLabel) (labels : List FineLabel) (g : Fine) (v : Verdict) (o : Option Fine) → IsSound Lawful test c stored → NoFaults (fine_of (Goes c) stored) (label ∷ labels)
      → fine_next test (fine_of (Goes c) stored) label ≡ o → option_and_then (fine_run test labels) o ≡ Some g → g.now ≡ Ended v → LeadsOn labels g v
      → leads test (coarse_from test (fine_of (Goes c) stored) (label ∷ labels)) (Goes (early test (pending test (fine_of (Goes c) stored) (label ∷ labels)) c)) ≡ Some (Ended v)
  goes-leads c stored label labels g v None sound none next run ends later = absurd (let no = run in cc)
  goes-leads c stored label labels g v (Some f) sound none next run ends later =
      label-leads c stored label labels f g v sound none next (moves test c stored label f next) run ends later

  pub coarse-leads : (labels : List FineLabel) (g : Fine) (v : Verdict) → g.now ≡ Ended v → LeadsOn labels g v
  coarse-leads [] g v ends now stored sound none run =
      let same : fine_of now stored ≡ g = some-is (fine_of now stored) g run in
      ap (λ d. Some (early_in test (pending test (fine_of now stored) []) d)) (ap (λ (h : Fine). h.now) same ∙ ends)
  coarse-leads (label ∷ labels) g v ends (Ended w) stored sound none run = absurd (let no = run in cc)
  coarse-leads (label ∷ labels) g v ends (Goes c) stored sound none run =
      goes-leads c stored label labels g v (fine_next test (fine_of (Goes c) stored) label) sound none refl run ends (coarse-leads labels g v ends)
