-- What is kept of a stored snapshot: the configuration in which it was taken, and the timers that expired since.
use Rattle.std.proofs.Common.{◌≡◌, ℕ, Bool, true, false, not, List, [], ◌∷◌, ◌++◌, map, Option, Some, None, IfSome, option_map, refl, sym, ap, subst, ◌∙◌, if◌then◌else◌}
use Rattle.std.specs.List.{filter}
use Rattle.laws_fine.proofs.EarlySteps.{behind_expiry}
use Rattle.laws_steps.proofs.Finding.{alive, found-path, path-is, path-same, some-is, none-if}
use Rattle.laws_fine.proofs.Kept.{kept-safe}
use Rattle.laws_fine.proofs.Lapses.{lapsed, timer_in}
use Rattle.laws_fine.proofs.Later.{IsChoice, chosen-later, chosen-now}
use Rattle.laws_fine.proofs.Moves.{HasActed, HasComeIn, HasExpired, acted, has-come-in, has-expired}
use Rattle.laws_fine.proofs.Sound.{IsKeptBySteps, IsSound, Stores, consed-at, filtered-at, found-stands, runs_at, without-told}
use Rattle.laws_fine.proofs.Stays.{Stays, apply-stays, come-stays, touched-at}
use Rattle.laws_fine.specs.Fine.{Stored, is_found, is_of_alt, stands_at_alt, still_stored, stored_at, without_stored}
use Rattle.laws_fine.specs.Holding.{Held, held_at, noted, without_held}
use Rattle.semantics.specs.Configurations.{Component, Configuration, Data, Ended, Goes, Going, component_at, is_running_state, is_terminated_state, path_of, same_path}
use Rattle.semantics.specs.Snapshots.{Snapshot, Test, snapshot_of}
use Rattle.semantics.specs.Statements.{Act, act}
use Rattle.semantics.specs.Steps.{Delivery, Expiry, Label, Statement, apply, come_in, exchanged, next, settled, unless_terminated}
use Rattle.value_types.specs.Outcomes.{Fails, IfYields, Outcome, Yields}
use Rattle.value_types.specs.declared.frame.TimerState.TheVariants as timer
use Rattle.value_types.specs.declared.path.Path.{Path}

-- this is what is kept of a snapshot of a component that has these data now
pub record IsHeld (test : Test) (p : Path) (s : Snapshot) (own : Data) (h : Held) : Type 0 where
  pub x : Component
  pub there : component_at h.taken p ≡ Some x
  pub is : s ≡ snapshot_of h.taken x
  pub choice : IsChoice test p s own (act test s x.own) h.since

abbrev pub AreHeldAs : Test → Going → Path → Option Held → Option Snapshot → Type 0
AreHeldAs test c p None None = Unit {0}
AreHeldAs test c p None (Some s) = ⊥
AreHeldAs test c p (Some h) None = ⊥
AreHeldAs test c p (Some h) (Some s) = (y : Component) → component_at c p ≡ Some y → IsHeld test p s y.own h

-- these are kept of the stored snapshots
abbrev pub AreHeld : Test → Going → List Held → Stored → Type 0
AreHeld test c held stored = (p : Path) → AreHeldAs test c p (held_at held p) (stored_at stored p)

-- ---- what is found

first-kept : (keep : Path → Bool) (p : Path) (h : Held) (held : List Held) (a b : Bool) → keep h.path ≡ a → same_path h.path p ≡ b → held_at (filter (λ g. keep g.path) held) p ≡ (if keep p then held_at held p else None)
    → held_at (if a then h ∷ filter (λ g. keep g.path) held else filter (λ g. keep g.path) held) p ≡ (if keep p then (if b then Some h else held_at held p) else None)
first-kept keep p h held true true keeps at rest =
    ap (λ t. if t then Some h else held_at (filter (λ g. keep g.path) held) p) at
    ∙ sym (ap (λ t. if t then Some h else None) (ap keep (sym (path-is h.path p at)) ∙ keeps))
first-kept keep p h held true false keeps at rest = ap (λ t. if t then Some h else held_at (filter (λ g. keep g.path) held) p) at ∙ rest
first-kept keep p h held false true keeps at rest =
    rest ∙ ap (λ t. if t then held_at held p else None) (ap keep (sym (path-is h.path p at)) ∙ keeps)
    ∙ sym (ap (λ t. if t then Some h else None) (ap keep (sym (path-is h.path p at)) ∙ keeps))
first-kept keep p h held false false keeps at rest = rest

-- what is kept for some paths
pub kept-at : (keep : Path → Bool) (p : Path) (held : List Held) → held_at (filter (λ h. keep h.path) held) p ≡ (if keep p then held_at held p else None)
kept-at keep p [] = sym (none-if {A = Held} (keep p) None refl)
kept-at keep p (h ∷ held) = first-kept keep p h held (keep h.path) (same_path h.path p) refl refl (kept-at keep p held)

noted-path-told : (h g : Held) (b : Bool) → g.path ≡ h.path → (if b then g else h).path ≡ h.path
noted-path-told h g true same = same
noted-path-told h g false same = refl

noted-path : (label : Label) (h : Held) → (noted label h).path ≡ h.path
noted-path (Statement r) h = refl
noted-path (Expiry r n name) h = noted-path-told h (record { path = h.path; taken = h.taken; since = h.since ++ Expiry r n name ∷ [] }) (same_path h.path r) refl
noted-path (Delivery system_port) h = refl

first-noted : (label : Label) (p : Path) (h : Held) (b : Bool) (r o : Option Held) → same_path (noted label h).path p ≡ b → r ≡ option_map (noted label) o
    → (if same_path (noted label h).path p then Some (noted label h) else r) ≡ option_map (noted label) (if b then Some h else o)
first-noted label p h true r o at rest = ap (λ t. if t then Some (noted label h) else r) at
first-noted label p h false r o at rest = ap (λ t. if t then Some (noted label h) else r) at ∙ rest

pub noted-at : (label : Label) (p : Path) (held : List Held) → held_at (map (noted label) held) p ≡ option_map (noted label) (held_at held p)
noted-at label p [] = refl
noted-at label p (h ∷ held) =
    first-noted label p h (same_path h.path p) (held_at (map (noted label) held) p) (held_at held p) (ap (λ q. same_path q p) (noted-path label h)) (noted-at label p held)

first-path : (h : Held) (p : Path) (others : Option Held) (b : Bool) → same_path h.path p ≡ b → IfSome others (λ g. g.path ≡ p) → IfSome (if b then Some h else others) (λ g. g.path ≡ p)
first-path h p others true at rest = path-is h.path p at
first-path h p others false at rest = rest

-- what is found at a path is of this path
pub held-path : (held : List Held) (p : Path) → IfSome (held_at held p) (λ h. h.path ≡ p)
held-path [] p = tt
held-path (h ∷ held) p = first-path h p (held_at held p) (same_path h.path p) refl (held-path held p)

-- ---- behind each step

-- where some of both go, those that stay are as they were
both-kept : (test : Test) (c : Going) (p : Path) (b : Bool) (h : Option Held) (s : Option Snapshot) → AreHeldAs test c p h s → AreHeldAs test c p (if b then h else None) (if b then s else None)
both-kept test c p true h s are = are
both-kept test c p false h s are = tt

pub some-kept : (test : Test) (c : Going) (keep : Path → Bool) (held : List Held) (stored : Stored) → AreHeld test c held stored → AreHeld test c (filter (λ h. keep h.path) held) (filter (λ e. keep e.0) stored)
some-kept test c keep held stored are p =
    subst (λ o. AreHeldAs test c p (held_at (filter (λ h. keep h.path) held) p) o) (sym (filtered-at keep p stored))
    (subst (λ o. AreHeldAs test c p o (if keep p then stored_at stored p else None)) (sym (kept-at keep p held))
    (both-kept test c p (keep p) (held_at held p) (stored_at stored p) (are p)))

pub none-held : (test : Test) (c : Going) (p : Path) (h : Option Held) → AreHeldAs test c p h None → h ≡ None
none-held test c p None are = refl
none-held test c p (Some h) are = absurd are

-- a new snapshot
new-told : (test : Test) (c : Going) (p : Path) (x : Component) (b : Bool) (h : Option Held) (s : Option Snapshot) → component_at c (path_of x) ≡ Some x → same_path (path_of x) p ≡ b → AreHeldAs test c p h s
    → AreHeldAs test c p (if b then Some (record { path = path_of x; taken = c; since = [] }) else h) (if b then Some (snapshot_of c x) else s)
new-told test c p x true h s there at are =
    let here : component_at c p ≡ Some x = ap (component_at c) (sym (path-is (path_of x) p at)) ∙ there in
    λ y found. record {
      x = x;
      there = here;
      is = refl;
      choice = subst (λ (z : Component). IsChoice test p (snapshot_of c x) z.own (act test (snapshot_of c x) x.own) []) (some-is x y (sym here ∙ found)) (chosen-now test p (snapshot_of c x) x.own);
    }
new-told test c p x false h s there at are = are

pub snapped-held : (test : Test) (c : Going) (held : List Held) (stored : Stored) (x : Component) → component_at c (path_of x) ≡ Some x → AreHeld test c held stored
    → AreHeld test c (record { path = path_of x; taken = c; since = [] } ∷ held) ((path_of x, snapshot_of c x) ∷ stored)
snapped-held test c held stored x there are p =
    subst (AreHeldAs test c p (held_at (record { path = path_of x; taken = c; since = [] } ∷ held) p)) (sym (consed-at (path_of x) p (snapshot_of c x) stored (same_path (path_of x) p) refl))
    (new-told test c p x (same_path (path_of x) p) (held_at held p) (stored_at stored p) there refl (are p))

-- the data of a component behind a label
abbrev pub lapse_by : Label → Path → Data → Data
lapse_by (Statement r) p own = own
lapse_by (Expiry r n name) p own = if same_path p r then lapsed n name own else own
lapse_by (Delivery system_port) p own = own

-- a component is there, and its data are these
pub record HasData (p : Path) (own : Data) (c : Going) : Type 0 where
  pub y : Component
  pub there : component_at c p ≡ Some y
  pub own-is : y.own ≡ own

abbrev pub HasDataIn : Path → Data → Configuration → Type 0
HasDataIn p own (Ended v) = Unit {0}
HasDataIn p own (Goes d) = HasData p own d

stays-data : (p : Path) (x : Component) (d : Configuration) → Stays p x d → HasDataIn p x.own d
stays-data p x (Ended v) stays = tt
stays-data p x (Goes d) stays = record { y = stays.y; there = stays.there; own-is = stays.steady.own }

settled-data : (p : Path) (x : Component) (o : Outcome Configuration) → IfYields o (Stays p x) → HasDataIn p x.own (settled o)
settled-data p x (Yields d) stays = stays-data p x d stays
settled-data p x (Fails why) stays = tt

-- another component's step changes none of them
pub others-data : (test : Test) (c : Going) (p : Path) (x y : Component) (a : Act) (o : Outcome Configuration) → component_at c p ≡ Some x → is_running_state x.state ≡ true → (p ≡ path_of y → ⊥)
    → apply test c y.itself a ≡ Some o → HasDataIn p x.own (settled o)
others-data test c p x y a o there runs other applied =
    settled-data p x o (subst (λ e. IfSome e (λ out. IfYields out (Stays p x))) applied (apply-stays test c y.itself a p x there runs other))

-- an expiry changes those of its component
expired-data : (c : Going) (p r : Path) (n : ℕ) (name : List ℕ) (x z : Component) → component_at c p ≡ Some x → component_at c r ≡ Some z → is_running_state z.state ≡ true
    → HasData p (lapse_by (Expiry r n name) p x.own) (behind_expiry n name z c)
expired-data c p r n name x z there here runs = record {
  y = changed;
  there = touched-at c (path_of z) (exchanged (lapsed n name z.own)) (λ y. refl) p x there;
  own-is = told (same_path (path_of x) (path_of z)) refl;
}
  where
    changed : Component
    changed = if same_path (path_of x) (path_of z) then unless_terminated (exchanged (lapsed n name z.own)) x else x

    paths : same_path (path_of x) (path_of z) ≡ same_path p r
    paths = ap (λ q. same_path q (path_of z)) (found-path c p x there) ∙ ap (same_path p) (found-path c r z here)

    told : (b : Bool) → same_path (path_of x) (path_of z) ≡ b → changed.own ≡ (if same_path p r then lapsed n name x.own else x.own)
    told true is =
        let same : x ≡ z = some-is x z (sym there ∙ ap (component_at c) (sym (found-path c p x there) ∙ path-is (path_of x) (path_of z) is ∙ found-path c r z here) ∙ here) in
        ap (λ b. (if b then unless_terminated (exchanged (lapsed n name z.own)) x else x).own) is
        ∙ ap (λ t. (if t then x else exchanged (lapsed n name z.own) x).own) (ap (λ (y : Component). is_terminated_state y.state) same ∙ alive z runs)
        ∙ ap (λ (y : Component). lapsed n name y.own) (sym same)
        ∙ sym (ap (λ b. if b then lapsed n name x.own else x.own) (sym paths ∙ is))
    told false is =
        ap (λ b. (if b then unless_terminated (exchanged (lapsed n name z.own)) x else x).own) is
        ∙ sym (ap (λ b. if b then lapsed n name x.own else x.own) (sym paths ∙ is))

-- ---- what is kept stays what is kept

module _ (Lawful : Going → Type 0) (test : Test) (laws : IsKeptBySteps test Lawful) where
  -- a timer that expires is noted
  held-lapses : (c : Going) (p : Path) (s : Snapshot) (n : ℕ) (name : List ℕ) (old : Stores test c p s) (h : Held) → Lawful c → timer_in n name old.x.own ≡ Some timer.Running → IsHeld test p s old.x.own h
      → IsHeld test p s (lapsed n name old.x.own) (record { path = h.path; taken = h.taken; since = h.since ++ Expiry p n name ∷ [] })
  held-lapses c p s n name old h lawful ran is = record {
    x = is.x;
    there = is.there;
    is = is.is;
    choice = chosen-later test p s old.x.own (act test s is.x.own) h.since n name is.choice old.alt ran (kept-safe test s old.x old.kept (laws.apart c lawful p old.x old.there));
  }

  noted-told : (c : Going) (p r : Path) (s : Snapshot) (n : ℕ) (name : List ℕ) (old : Stores test c p s) (h : Held) (b : Bool) → Lawful c → same_path p r ≡ b → h.path ≡ p → (b ≡ true → timer_in n name old.x.own ≡ Some timer.Running)
      → IsHeld test p s old.x.own h → IsHeld test p s (lapse_by (Expiry r n name) p old.x.own) (noted (Expiry r n name) h)
  noted-told c p r s n name old h true lawful at path ran is =
      subst (λ own. IsHeld test p s own (noted (Expiry r n name) h)) (sym (ap (λ b. if b then lapsed n name old.x.own else old.x.own) at))
      (subst (IsHeld test p s (lapsed n name old.x.own))
      (sym (ap (λ b. if b then record { path = h.path; taken = h.taken; since = h.since ++ Expiry r n name ∷ [] } else h) (ap (λ q. same_path q r) path ∙ at)))
      (subst (λ q. IsHeld test p s (lapsed n name old.x.own) (record { path = h.path; taken = h.taken; since = h.since ++ Expiry q n name ∷ [] })) (path-is p r at) (held-lapses c p s n name old h lawful (ran refl) is)))
  noted-told c p r s n name old h false lawful at path ran is =
      subst (λ own. IsHeld test p s own (noted (Expiry r n name) h)) (sym (ap (λ b. if b then lapsed n name old.x.own else old.x.own) at))
      (subst (IsHeld test p s old.x.own)
      (sym (ap (λ b. if b then record { path = h.path; taken = h.taken; since = h.since ++ Expiry r n name ∷ [] } else h) (ap (λ q. same_path q r) path ∙ at))) is)

  -- behind a plain step, of a component with a stored snapshot
  plain-held : (c : Going) (p : Path) (s : Snapshot) (label : Label) (d : Configuration) (old : Stores test c p s) (h : Held) → Lawful c → h.path ≡ p → next test (Goes c) label ≡ Some d → IsHeld test p s old.x.own h
      → IsHeld test p s (lapse_by label p old.x.own) (noted label h)
  plain-held c p s (Statement r) d old h lawful path goes is = is
  plain-held c p s (Delivery system_port) d old h lawful path goes is = is
  plain-held c p s (Expiry r n name) d old h lawful path goes is =
      let by : HasExpired c r n name d = has-expired test c r n name d goes in
      noted-told c p r s n name old h (same_path p r) lawful refl path
      (λ at. ap (λ (y : Component). timer_in n name y.own) (some-is old.x by.x (sym old.there ∙ ap (component_at c) (path-is p r at) ∙ by.there)) ∙ by.ran) is

  plain-data : (c : Going) (stored : Stored) (p : Path) (s : Snapshot) (label : Label) (d : Configuration) → IsSound Lawful test c stored → (old : Stores test c p s) → is_of_alt test c label ≡ false
      → next test (Goes c) label ≡ Some d → HasDataIn p (lapse_by label p old.x.own) d
  plain-data c stored p s (Statement r) d sound old other goes =
      let by : HasActed test c r d = acted test c r d goes in
      subst (HasDataIn p old.x.own) (sym by.to)
      (others-data test c p old.x by.x (act test (snapshot_of c by.x) by.x.own) by.outcome old.there old.runs (λ same. apart by same) by.applied)
    where
      apart : (by : HasActed test c r d) → p ≡ path_of by.x → ⊥
      apart by same =
          let at : p ≡ r = same ∙ found-path c r by.x by.there in
          let no : true ≡ false = sym (found-stands Lawful test laws c p old.x old.there old.runs old.alt) ∙ ap (λ q. is_found (stands_at_alt test) (component_at c q)) at ∙ other in cc
  plain-data c stored p s (Expiry r n name) d sound old other goes =
      let by : HasExpired c r n name d = has-expired test c r n name d goes in
      subst (HasDataIn p (lapse_by (Expiry r n name) p old.x.own)) (sym by.to) (expired-data c p r n name old.x by.x old.there by.there by.runs)
  plain-data c stored p s (Delivery system_port) d sound old other goes =
      let by : HasComeIn test c system_port d = has-come-in test c system_port d goes in
      subst (HasDataIn p old.x.own) (sym by.to) (stays-data p old.x (Goes (come_in system_port by.e by.v c)) (come-stays c p old.x system_port by.e by.v old.there))

  -- what is kept of one that stays
  stay-held : (p : Path) (s : Snapshot) (own : Data) (h : Held) (d : Going) → HasData p own d → IsHeld test p s own h → (y : Component) → component_at d p ≡ Some y → IsHeld test p s y.own h
  stay-held p s own h d has is y found = subst (λ e. IsHeld test p s e h) (sym has.own-is ∙ ap (λ (z : Component). z.own) (some-is has.y y (sym has.there ∙ found))) is

  next-held : (c : Going) (stored : Stored) (label : Label) (d : Going) (p : Path) (h : Option Held) (o : Option Snapshot) → IsSound Lawful test c stored → is_of_alt test c label ≡ false → next test (Goes c) label ≡ Some (Goes d)
      → stored_at stored p ≡ o → IfSome h (λ g. g.path ≡ p) → AreHeldAs test c p h o → AreHeldAs test d p (option_map (noted label) h) o
  next-held c stored label d p None None sound other goes has path are = tt
  next-held c stored label d p None (Some s) sound other goes has path are = absurd are
  next-held c stored label d p (Some h) None sound other goes has path are = absurd are
  next-held c stored label d p (Some h) (Some s) sound other goes has path are =
      let old : Stores test c p s = sound.stores p s has in
      stay-held p s (lapse_by label p old.x.own) (noted label h) d (plain-data c stored p s label (Goes d) sound old other goes)
      (plain-held c p s label (Goes d) old h sound.lawful path goes (are old.x old.there))

  -- behind a step that isn't one at an `alt`
  pub stepped-held : (c : Going) (held : List Held) (stored : Stored) (label : Label) (d : Going) → IsSound Lawful test c stored → is_of_alt test c label ≡ false → next test (Goes c) label ≡ Some (Goes d)
      → AreHeld test c held stored → AreHeld test d (filter (λ h. runs_at d h.path) (map (noted label) held)) (still_stored (Goes d) stored)
  stepped-held c held stored label d sound other goes are =
      some-kept test d (runs_at d) (map (noted label) held) stored
      (λ p. subst (λ h. AreHeldAs test d p h (stored_at stored p)) (sym (noted-at label p held))
      (next-held c stored label d p (held_at held p) (stored_at stored p) sound other goes refl (held-path held p) (are p)))

  -- behind a choice
  other-held : (c : Going) (stored : Stored) (x : Component) (a : Act) (d : Going) (p : Path) (h : Option Held) (o : Option Snapshot) → IsSound Lawful test c stored → (out : Outcome Configuration) → apply test c x.itself a ≡ Some out
      → settled out ≡ Goes d → stored_at (without_stored (path_of x) stored) p ≡ o → AreHeldAs test c p h o → AreHeldAs test d p h o
  other-held c stored x a d p None None sound out applied ends has are = tt
  other-held c stored x a d p None (Some s) sound out applied ends has are = absurd are
  other-held c stored x a d p (Some h) None sound out applied ends has are = absurd are
  other-held c stored x a d p (Some h) (Some s) sound out applied ends has are =
      let before = without-told (path_of x) p stored s has in
      let old : Stores test c p s = sound.stores p s before.1 in
      stay-held p s old.x.own h d
      (subst (HasDataIn p old.x.own) ends
      (others-data test c p old.x x a out old.there old.runs (λ same. let no : true ≡ false = sym (path-same p) ∙ ap (λ q. same_path p q) same ∙ before.0 in cc) applied))
      (are old.x old.there)

  pub chosen-held : (c : Going) (held : List Held) (stored : Stored) (x : Component) (a : Act) (out : Outcome Configuration) (d : Going) → IsSound Lawful test c stored → apply test c x.itself a ≡ Some out → settled out ≡ Goes d
      → AreHeld test c held stored
      → AreHeld test d (filter (λ h. runs_at d h.path) (without_held (path_of x) held)) (still_stored (Goes d) (without_stored (path_of x) stored))
  chosen-held c held stored x a out d sound applied ends are =
      some-kept test d (runs_at d) (without_held (path_of x) held) (without_stored (path_of x) stored)
      (λ p. other-held c stored x a d p (held_at (without_held (path_of x) held) p) (stored_at (without_stored (path_of x) stored) p) sound out applied ends refl
      (some-kept test c (λ q. not (same_path q (path_of x))) held stored are p))
