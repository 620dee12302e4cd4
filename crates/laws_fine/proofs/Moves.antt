-- What is known where a fine label can follow.
use Rattle.std.proofs.Common.{◌≡◌, ℕ, Bool, true, false, ◌&&◌, not, List, ◌∷◌, Option, Some, None, is_some, option_map, refl, sym, ap, ◌∙◌, if◌then◌else◌}
use Rattle.std.specs.Option.{option_and_then}
use Rattle.laws_fine.proofs.EarlySteps.{behind_expiry}
use Rattle.laws_fine.proofs.Lapses.{expired-is, expiring, lapsed, timer_in}
use Rattle.laws_fine.specs.Fine.{Choose, Fine, FineLabel, Plain, Snap, Stored, behind, choose, chosen, fine_step_in, is_at_alt, is_of_alt, snap, stands_at_alt, stored_at, without_stored}
use Rattle.laws_steps.proofs.Finding.{some-is}
use Rattle.semantics.specs.Configurations.{Component, Configuration, End, Goes, Going, component_at, is_running_state, path_of}
use Rattle.semantics.specs.Snapshots.{Snapshot, Test, snapshot_of}
use Rattle.semantics.specs.Statements.{act}
use Rattle.semantics.specs.Steps.{Delivery, Expiry, Label, Statement, apply, come_in, exchanged, expired, expiry_step, next, next_message, settled, statement_step, touch}
use Rattle.value_types.specs.Frames.{entry}
use Rattle.value_types.specs.Outcomes.{Outcome, Yields}
use Rattle.value_types.specs.declared.frame.TimerState.{TimerState}
use Rattle.value_types.specs.declared.frame.TimerState.TheVariants as timer
use Rattle.value_types.specs.declared.path.Path.{Path}
use Rattle.value_types.specs.declared.value.Value.{Value}

-- a component took its snapshot
pub record HasSnapped (test : Test) (c : Going) (stored : Stored) (p : Path) (f : Fine) : Type 0 where
  pub x : Component
  pub there : component_at c p ≡ Some x
  pub runs : is_running_state x.state ≡ true
  pub alt : is_at_alt test x.own.calls ≡ true
  pub new : stored_at stored (path_of x) ≡ None
  pub to : f ≡ record { now = Goes c; stored = (path_of x, snapshot_of c x) ∷ stored }

-- a component chose
pub record HasChosen (test : Test) (c : Going) (stored : Stored) (p : Path) (f : Fine) : Type 0 where
  pub x : Component
  pub snapshot : Snapshot
  pub there : component_at c p ≡ Some x
  pub has : stored_at stored p ≡ Some snapshot
  pub to : f ≡ chosen c (without_stored (path_of x) stored) (apply test c x.itself (act test snapshot x.own))

-- there was a step that isn't one at an `alt`
pub record HasStepped (test : Test) (c : Going) (stored : Stored) (label : Label) (f : Fine) : Type 0 where
  pub d : Configuration
  pub other : is_of_alt test c label ≡ false
  pub goes : next test (Goes c) label ≡ Some d
  pub to : f ≡ behind stored d

abbrev pub HasMoved : Test → Going → Stored → FineLabel → Fine → Type 0
HasMoved test c stored (Snap p) f = HasSnapped test c stored p f
HasMoved test c stored (Choose p) f = HasChosen test c stored p f
HasMoved test c stored (Plain label) f = HasStepped test c stored label f

both : (a b : Bool) → (a && b) ≡ true → (a ≡ true) × (b ≡ true)
both true true e = (refl, refl)
both true false e = absurd (let no = e in cc)
both false b e = absurd (let no = e in cc)

no-snapshot : (o : Option Snapshot) → not (is_some o) ≡ true → o ≡ None
no-snapshot None e = refl
no-snapshot (Some s) e = absurd (let no = e in cc)

snapped-told : (test : Test) (c : Going) (stored : Stored) (p : Path) (f : Fine) (x : Component) (b : Bool) → component_at c p ≡ Some x
    → (stands_at_alt test x && not (is_some (stored_at stored (path_of x)))) ≡ b → (if b then Some (record { now = Goes c; stored = (path_of x, snapshot_of c x) ∷ stored }) else None) ≡ Some f
    → HasSnapped test c stored p f
snapped-told test c stored p f x true there is e =
    let parts = both (stands_at_alt test x) (not (is_some (stored_at stored (path_of x)))) is in
    let stands = both (is_running_state x.state) (is_at_alt test x.own.calls) parts.0 in
    record {
      x = x;
      there = there;
      runs = stands.0;
      alt = stands.1;
      new = no-snapshot (stored_at stored (path_of x)) parts.1;
      to = sym (some-is (record { now = Goes c; stored = (path_of x, snapshot_of c x) ∷ stored }) f e);
    }
snapped-told test c stored p f x false there is e = absurd (let no = e in cc)

snapped : (test : Test) (c : Going) (stored : Stored) (p : Path) (f : Fine) (o : Option Component) → component_at c p ≡ o → option_and_then (snap test c stored) o ≡ Some f → HasSnapped test c stored p f
snapped test c stored p f None there e = absurd (let no = e in cc)
snapped test c stored p f (Some x) there e = snapped-told test c stored p f x (stands_at_alt test x && not (is_some (stored_at stored (path_of x)))) there refl e

chosen-told : (test : Test) (c : Going) (stored : Stored) (p : Path) (f : Fine) (x : Component) (o : Option Snapshot) → component_at c p ≡ Some x → stored_at stored p ≡ o → choose test c stored x o ≡ Some f
    → HasChosen test c stored p f
chosen-told test c stored p f x None there has e = absurd (let no = e in cc)
chosen-told test c stored p f x (Some s) there has e =
    record { x = x; snapshot = s; there = there; has = has; to = sym (some-is (chosen c (without_stored (path_of x) stored) (apply test c x.itself (act test s x.own))) f e) }

chose : (test : Test) (c : Going) (stored : Stored) (p : Path) (f : Fine) (o : Option Component) → component_at c p ≡ o → option_and_then (λ x. choose test c stored x (stored_at stored p)) o ≡ Some f
    → HasChosen test c stored p f
chose test c stored p f None there e = absurd (let no = e in cc)
chose test c stored p f (Some x) there e = chosen-told test c stored p f x (stored_at stored p) there refl e

stepped-on : (test : Test) (c : Going) (stored : Stored) (label : Label) (f : Fine) (o : Option Configuration) → is_of_alt test c label ≡ false → next test (Goes c) label ≡ o → option_map (behind stored) o ≡ Some f
    → HasStepped test c stored label f
stepped-on test c stored label f None other goes e = absurd (let no = e in cc)
stepped-on test c stored label f (Some d) other goes e = record { d = d; other = other; goes = goes; to = sym (some-is (behind stored d) f e) }

stepped : (test : Test) (c : Going) (stored : Stored) (label : Label) (f : Fine) (b : Bool) → is_of_alt test c label ≡ b → (if b then None else option_map (behind stored) (next test (Goes c) label)) ≡ Some f
    → HasStepped test c stored label f
stepped test c stored label f true is e = absurd (let no = e in cc)
stepped test c stored label f false is e = stepped-on test c stored label f (next test (Goes c) label) is refl e

pub moves : (test : Test) (c : Going) (stored : Stored) (label : FineLabel) (f : Fine) → fine_step_in test c stored label ≡ Some f → HasMoved test c stored label f
moves test c stored (Snap p) f e = snapped test c stored p f (component_at c p) refl e
moves test c stored (Choose p) f e = chose test c stored p f (component_at c p) refl e
moves test c stored (Plain label) f e = stepped test c stored label f (is_of_alt test c label) refl e

-- ---- steps

-- a component did what its statement asks for
pub record HasActed (test : Test) (c : Going) (p : Path) (d : Configuration) : Type 0 where
  pub x : Component
  pub there : component_at c p ≡ Some x
  pub runs : is_running_state x.state ≡ true
  pub outcome : Outcome Configuration
  pub applied : apply test c x.itself (act test (snapshot_of c x) x.own) ≡ Some outcome
  pub to : d ≡ settled outcome

-- a timer expired
pub record HasExpired (c : Going) (p : Path) (n : ℕ) (name : List ℕ) (d : Configuration) : Type 0 where
  pub x : Component
  pub there : component_at c p ≡ Some x
  pub runs : is_running_state x.state ≡ true
  pub ran : timer_in n name x.own ≡ Some timer.Running
  pub to : d ≡ Goes (behind_expiry n name x c)

-- a message came in
pub record HasComeIn (test : Test) (c : Going) (system_port : List ℕ) (d : Configuration) : Type 0 where
  pub e : End
  pub v : Value
  pub mapped : entry c.mappings system_port ≡ Some e
  pub found : next_message test c system_port ≡ Some v
  pub to : d ≡ Goes (come_in system_port e v c)

acted-out : (test : Test) (c : Going) (p : Path) (d : Configuration) (x : Component) (o : Option (Outcome Configuration)) → component_at c p ≡ Some x → is_running_state x.state ≡ true
    → apply test c x.itself (act test (snapshot_of c x) x.own) ≡ o → option_map settled o ≡ Some d → HasActed test c p d
acted-out test c p d x None there runs applied e = absurd (let no = e in cc)
acted-out test c p d x (Some outcome) there runs applied e = record { x = x; there = there; runs = runs; outcome = outcome; applied = applied; to = sym (some-is (settled outcome) d e) }

acted-runs : (test : Test) (c : Going) (p : Path) (d : Configuration) (x : Component) (b : Bool) → component_at c p ≡ Some x → is_running_state x.state ≡ b
    → option_map settled (if b then apply test c x.itself (act test (snapshot_of c x) x.own) else None) ≡ Some d → HasActed test c p d
acted-runs test c p d x true there runs e = acted-out test c p d x (apply test c x.itself (act test (snapshot_of c x) x.own)) there runs refl e
acted-runs test c p d x false there runs e = absurd (let no = e in cc)

acted-found : (test : Test) (c : Going) (p : Path) (d : Configuration) (o : Option Component) → component_at c p ≡ o → option_map settled (option_and_then (statement_step test c) o) ≡ Some d → HasActed test c p d
acted-found test c p d None there e = absurd (let no = e in cc)
acted-found test c p d (Some x) there e = acted-runs test c p d x (is_running_state x.state) there refl e

pub acted : (test : Test) (c : Going) (p : Path) (d : Configuration) → next test (Goes c) (Statement p) ≡ Some d → HasActed test c p d
acted test c p d e = acted-found test c p d (component_at c p) refl e

expired-state : (c : Going) (p : Path) (n : ℕ) (name : List ℕ) (d : Configuration) (x : Component) (o : Option TimerState) → component_at c p ≡ Some x → is_running_state x.state ≡ true → timer_in n name x.own ≡ o
    → option_map settled (option_map (λ own. Yields (Goes (touch c (path_of x) (exchanged own)))) (expiring o (lapsed n name x.own))) ≡ Some d → HasExpired c p n name d
expired-state c p n name d x (Some timer.Running) there runs is e =
    record { x = x; there = there; runs = runs; ran = is; to = sym (some-is (Goes (behind_expiry n name x c)) d e) }
expired-state c p n name d x (Some timer.Inactive) there runs is e = absurd (let no = e in cc)
expired-state c p n name d x (Some timer.Expired) there runs is e = absurd (let no = e in cc)
expired-state c p n name d x None there runs is e = absurd (let no = e in cc)

expired-runs : (c : Going) (p : Path) (n : ℕ) (name : List ℕ) (d : Configuration) (x : Component) (b : Bool) → component_at c p ≡ Some x → is_running_state x.state ≡ b
    → option_map settled (if b then option_map (λ own. Yields (Goes (touch c (path_of x) (exchanged own)))) (expired n name x.own) else None) ≡ Some d → HasExpired c p n name d
expired-runs c p n name d x true there runs e =
    expired-state c p n name d x (timer_in n name x.own) there runs refl
    (ap (λ o. option_map settled (option_map (λ own. Yields (Goes (touch c (path_of x) (exchanged own)))) o)) (sym (expired-is n name x.own)) ∙ e)
expired-runs c p n name d x false there runs e = absurd (let no = e in cc)

expired-found : (c : Going) (p : Path) (n : ℕ) (name : List ℕ) (d : Configuration) (o : Option Component) → component_at c p ≡ o → option_map settled (option_and_then (expiry_step c n name) o) ≡ Some d
    → HasExpired c p n name d
expired-found c p n name d None there e = absurd (let no = e in cc)
expired-found c p n name d (Some x) there e = expired-runs c p n name d x (is_running_state x.state) there refl e

pub has-expired : (test : Test) (c : Going) (p : Path) (n : ℕ) (name : List ℕ) (d : Configuration) → next test (Goes c) (Expiry p n name) ≡ Some d → HasExpired c p n name d
has-expired test c p n name d e = expired-found c p n name d (component_at c p) refl e

come-found : (test : Test) (c : Going) (system_port : List ℕ) (d : Configuration) (e : End) (o : Option Value) → entry c.mappings system_port ≡ Some e → next_message test c system_port ≡ o
    → option_map settled (option_map (λ v. Yields (Goes (come_in system_port e v c))) o) ≡ Some d → HasComeIn test c system_port d
come-found test c system_port d e None mapped found is = absurd (let no = is in cc)
come-found test c system_port d e (Some v) mapped found is = record { e = e; v = v; mapped = mapped; found = found; to = sym (some-is (Goes (come_in system_port e v c)) d is) }

come-mapped : (test : Test) (c : Going) (system_port : List ℕ) (d : Configuration) (o : Option End) → entry c.mappings system_port ≡ o
    → option_map settled (option_and_then (λ e. option_map (λ v. Yields (Goes (come_in system_port e v c))) (next_message test c system_port)) o) ≡ Some d → HasComeIn test c system_port d
come-mapped test c system_port d None mapped is = absurd (let no = is in cc)
come-mapped test c system_port d (Some e) mapped is = come-found test c system_port d e (next_message test c system_port) mapped refl is

pub has-come-in : (test : Test) (c : Going) (system_port : List ℕ) (d : Configuration) → next test (Goes c) (Delivery system_port) ≡ Some d → HasComeIn test c system_port d
has-come-in test c system_port d is = come-mapped test c system_port d (entry c.mappings system_port) refl is
