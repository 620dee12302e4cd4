-- Which components have still to choose, and how that goes on with each fine label.
use Rattle.std.proofs.Common.{◌≡◌, Bool, true, false, not, List, [], ◌∷◌, Option, Some, None, IfSome, ◌⊎◌, inl, inr, refl, sym, ap, subst, ◌∙◌, if◌then◌else◌}
use Rattle.std.specs.List.{All}
use Rattle.std.specs.Option.{option_and_then}
use Rattle.laws_fine.proofs.Early.{IsReady, IsReadyFor, Pending, Run, early, early_in, hastened, made_if, map-all, each-all}
use Rattle.laws_fine.proofs.EarlySteps.{IsBound}
use Rattle.laws_fine.proofs.Kept.{kept-finds, kept-safe}
use Rattle.laws_fine.proofs.Moves.{HasMoved, moves}
use Rattle.laws_fine.proofs.Sound.{IsKeptBySteps, IsSound, IsSoundIn, Stores, consed-at, filtered-at, follows-fate, found-stands, moved-follows, moved-sound, runs_at, FollowsIn, FollowsTo}
use Rattle.laws_fine.proofs.Stays.{each-found}
use Rattle.laws_fine.specs.Fates.{Fate, Faults, Lapses, Takes, fate, fate_of, fine_after, is_choice_of, judged, judged_in}
use Rattle.laws_fine.specs.Fine.{Choose, Fine, FineLabel, Plain, Snap, Stored, behind, chosen, fine_next, is_found, stands_at_alt, still_stored, stored_at, without_stored}
use Rattle.laws_steps.proofs.Finding.{found-path, path-is, path-same, some-is, none-if}
use Rattle.laws_fine.proofs.Leading.{ended-run, fine_of, fine_run}
use Rattle.semantics.proofs.Pairs.{All-more}
use Rattle.semantics.specs.Configurations.{Component, Configuration, Ended, Goes, Going, component_at, is_running_state, path_of, same_path}
use Rattle.semantics.specs.Runs.{option_elim}
use Rattle.semantics.specs.Snapshots.{Snapshot, Test, snapshot_of}
use Rattle.semantics.specs.Statements.{act}
use Rattle.semantics.specs.Steps.{apply, settled}
use Rattle.value_types.specs.Outcomes.{Outcome}
use Rattle.value_types.specs.declared.path.Path.{Path}

-- ---- fates

pub fine-after-is : (test : Test) (f g : Fine) (label : FineLabel) → fine_next test f label ≡ Some g → fine_after test f label ≡ g
fine-after-is test f g label e = ap (option_elim f (λ next. next)) e

pub unstored : (test : Test) (p : Path) (f : Fine) (labels : List FineLabel) → stored_at f.stored p ≡ None → fate test p f labels ≡ Lapses
unstored test p f [] none = refl
unstored test p f (label ∷ labels) none =
    ap (option_elim Lapses (λ s. if is_choice_of p label then judged_in test s p f.now else fate test p (fine_after test f label) labels)) none

pub fate-on : (test : Test) (p : Path) (f g : Fine) (s : Snapshot) (label : FineLabel) (labels : List FineLabel) → stored_at f.stored p ≡ Some s → is_choice_of p label ≡ false → fine_next test f label ≡ Some g
    → fate test p f (label ∷ labels) ≡ fate test p g labels
fate-on test p f g s label labels has other e =
    ap (option_elim Lapses (λ t. if is_choice_of p label then judged_in test t p f.now else fate test p (fine_after test f label) labels)) has
    ∙ ap (λ b. if b then judged_in test s p f.now else fate test p (fine_after test f label) labels) other
    ∙ ap (λ h. fate test p h labels) (fine-after-is test f g label e)

pub fate-here : (test : Test) (p : Path) (f : Fine) (s : Snapshot) (label : FineLabel) (labels : List FineLabel) → stored_at f.stored p ≡ Some s → is_choice_of p label ≡ true
    → fate test p f (label ∷ labels) ≡ judged_in test s p f.now
fate-here test p f s label labels has is =
    ap (option_elim Lapses (λ t. if is_choice_of p label then judged_in test t p f.now else fate test p (fine_after test f label) labels)) has
    ∙ ap (λ b. if b then judged_in test s p f.now else fate test p (fine_after test f label) labels) is

-- ---- what is stored behind a label

-- a label is the snapshot or the choice of the component with a path
abbrev pub touches : Path → FineLabel → Bool
touches p (Snap r) = same_path r p
touches p (Choose r) = same_path r p
touches p (Plain label) = false

touch-choice : (p : Path) (label : FineLabel) → touches p label ≡ false → is_choice_of p label ≡ false
touch-choice p (Snap r) other = refl
touch-choice p (Choose r) other = other
touch-choice p (Plain label) other = refl

abbrev pub StaysStored : Path → Stored → Stored → Type 0
StaysStored p before behind = (stored_at behind p ≡ stored_at before p) ⊎ (stored_at behind p ≡ None)

still-stays-told : (o : Option Snapshot) (b : Bool) → ((if b then o else None) ≡ o) ⊎ ((if b then o else None) ≡ None)
still-stays-told o true = inl refl
still-stays-told o false = inr refl

moved-eq : (p : Path) (one before behind : Stored) → stored_at one p ≡ stored_at before p → StaysStored p one behind → StaysStored p before behind
moved-eq p one before behind e (inl same) = inl (same ∙ e)
moved-eq p one before behind e (inr none) = inr none

still-stays : (p : Path) (d : Configuration) (stored : Stored) → StaysStored p stored (still_stored d stored)
still-stays p (Ended v) stored = inr refl
still-stays p (Goes d) stored =
    subst (λ o. (o ≡ stored_at stored p) ⊎ (o ≡ None)) (sym (filtered-at (runs_at d) p stored)) (still-stays-told (stored_at stored p) (runs_at d p))

without-same : (q p : Path) (stored : Stored) → (p ≡ q → ⊥) → stored_at (without_stored q stored) p ≡ stored_at stored p
without-same q p stored other =
    filtered-at (λ d. not (same_path d q)) p stored ∙ ap (λ b. if b then stored_at stored p else None) (told (same_path p q) refl)
  where
    told : (b : Bool) → same_path p q ≡ b → not b ≡ true
    told true is = absurd (other (path-is p q is))
    told false is = refl

pub without-none : (q : Path) (stored : Stored) → stored_at (without_stored q stored) q ≡ None
without-none q stored = filtered-at (λ d. not (same_path d q)) q stored ∙ ap (λ b. if not b then stored_at stored q else None) (path-same q)

chosen-stays : (p q : Path) (c : Going) (stored : Stored) (o : Option (Outcome Configuration)) → (p ≡ q → ⊥) → StaysStored p stored (chosen c (without_stored q stored) o).stored
chosen-stays p q c stored None other = inl (without-same q p stored other)
chosen-stays p q c stored (Some outcome) other =
    moved-eq p (without_stored q stored) stored (still_stored (settled outcome) (without_stored q stored)) (without-same q p stored other) (still-stays p (settled outcome) (without_stored q stored))

differs : (c : Going) (p r : Path) (x : Component) → component_at c r ≡ Some x → same_path r p ≡ false → p ≡ path_of x → ⊥
differs c p r x there other same = let no : true ≡ false = sym (path-same p) ∙ ap (λ q. same_path q p) (same ∙ found-path c r x there) ∙ other in cc

pub stored-stays : (test : Test) (c : Going) (stored : Stored) (p : Path) (label : FineLabel) (f : Fine) → touches p label ≡ false → HasMoved test c stored label f → StaysStored p stored f.stored
stored-stays test c stored p (Snap r) f other is =
    subst (λ (g : Fine). StaysStored p stored g.stored) (sym is.to)
    (inl (consed-at (path_of is.x) p (snapshot_of c is.x) stored false (ap (λ q. same_path q p) (found-path c r is.x is.there) ∙ other)))
stored-stays test c stored p (Choose r) f other is =
    subst (λ (g : Fine). StaysStored p stored g.stored) (sym is.to)
    (chosen-stays p (path_of is.x) c stored (apply test c is.x.itself (act test is.snapshot is.x.own)) (differs c p r is.x is.there other))
stored-stays test c stored p (Plain label) f other is =
    subst (λ (g : Fine). StaysStored p stored g.stored) (sym is.to) (still-stays p is.d stored)

pub chosen-gone : (q : Path) (c : Going) (stored : Stored) (o : Option (Outcome Configuration)) → stored_at (chosen c (without_stored q stored) o).stored q ≡ None
chosen-gone q c stored None = without-none q stored
chosen-gone q c stored (Some outcome) = gone (still-stays q (settled outcome) (without_stored q stored))
  where
    gone : StaysStored q (without_stored q stored) (still_stored (settled outcome) (without_stored q stored)) → stored_at (still_stored (settled outcome) (without_stored q stored)) q ≡ None
    gone (inl same) = same ∙ without-none q stored
    gone (inr none) = none

-- ---- who has still to choose

abbrev pub takes : Fate → Bool
takes Lapses = false
takes Takes = true
takes Faults = false

-- by its snapshot, where a branch will be taken by it
abbrev pub pending : Test → Fine → List FineLabel → Pending
pending test f labels p = if takes (fate test p f labels) then stored_at f.stored p else None

pub pending-none : (test : Test) (f : Fine) (labels : List FineLabel) (p : Path) → stored_at f.stored p ≡ None → pending test f labels p ≡ None
pending-none test f labels p none = none-if (takes (fate test p f labels)) (stored_at f.stored p) none

pub pending-not : (test : Test) (f : Fine) (labels : List FineLabel) (p : Path) → takes (fate test p f labels) ≡ false → pending test f labels p ≡ None
pending-not test f labels p not = ap (λ b. if b then stored_at f.stored p else None) not

pub pending-is : (test : Test) (f : Fine) (labels : List FineLabel) (p : Path) (s : Snapshot) → fate test p f labels ≡ Takes → stored_at f.stored p ≡ Some s → pending test f labels p ≡ Some s
pending-is test f labels p s is has = ap (λ k. if takes k then stored_at f.stored p else None) is ∙ has

on-told : (test : Test) (f g : Fine) (label : FineLabel) (labels : List FineLabel) (p : Path) (o : Option Snapshot) → stored_at f.stored p ≡ o → is_choice_of p label ≡ false → fine_next test f label ≡ Some g
    → StaysStored p f.stored g.stored → pending test f (label ∷ labels) p ≡ pending test g labels p
on-told test f g label labels p None has other e (inl same) = pending-none test f (label ∷ labels) p has ∙ sym (pending-none test g labels p (same ∙ has))
on-told test f g label labels p None has other e (inr none) = pending-none test f (label ∷ labels) p has ∙ sym (pending-none test g labels p none)
on-told test f g label labels p (Some s) has other e (inl same) =
    ap (λ k. if takes k then stored_at f.stored p else None) (fate-on test p f g s label labels has other e)
    ∙ ap (λ o. if takes (fate test p g labels) then o else None) (sym same)
on-told test f g label labels p (Some s) has other e (inr none) =
    pending-not test f (label ∷ labels) p (ap takes (fate-on test p f g s label labels has other e ∙ unstored test p g labels none)) ∙ sym (pending-none test g labels p none)

-- other components have to choose as before
pub pending-on : (test : Test) (c : Going) (stored : Stored) (g : Fine) (label : FineLabel) (labels : List FineLabel) (p : Path) → touches p label ≡ false → fine_next test (fine_of (Goes c) stored) label ≡ Some g
    → HasMoved test c stored label g → pending test (fine_of (Goes c) stored) (label ∷ labels) p ≡ pending test g labels p
pending-on test c stored g label labels p other e is =
    on-told test (fine_of (Goes c) stored) g label labels p (stored_at stored p) refl (touch-choice p label other) e (stored-stays test c stored p label g other is)

-- the same have to choose, so the same is done early
pub early-same : (test : Test) (one other : Pending) → ((p : Path) → one p ≡ other p) → (c : Going) → early test one c ≡ early test other c
early-same test one other same c =
    ap (λ xs. going-of xs)
    (map-all (hastened test one) (hastened test other) c.components (each-all (λ x. hastened test one x ≡ hastened test other x) (λ x. ap (λ o. made_if test o x) (same (path_of x))) c.components))
  where
    going-of : List Component → Going
    going-of xs = record { components = xs; connections = c.connections; mappings = c.mappings; delivered = c.delivered; forgotten = c.forgotten }

pub early-in-same : (test : Test) (one other : Pending) → ((p : Path) → one p ≡ other p) → (d : Configuration) → early_in test one d ≡ early_in test other d
early-in-same test one other same (Ended v) = refl
early-in-same test one other same (Goes c) = ap Goes (early-same test one other same c)

-- ---- what is known of those who have to choose

module _ (Lawful : Going → Type 0) (test : Test) (laws : IsKeptBySteps test Lawful) where
  same-component : (c : Going) (p : Path) (s : Snapshot) (y : Component) → (old : Stores test c p s) → component_at c p ≡ Some y → old.x ≡ y
  same-component c p s y old there = some-is old.x y (sym old.there ∙ there)

  ready-told : (c : Going) (stored : Stored) (y : Component) (b : Bool) (o : Option Snapshot) → IsSound Lawful test c stored → component_at c (path_of y) ≡ Some y → stored_at stored (path_of y) ≡ o
      → IsReadyFor test (if b then o else None) y
  ready-told c stored y false o sound there has = tt
  ready-told c stored y true None sound there has = tt
  ready-told c stored y true (Some s) sound there has =
      let mine : Stores test c (path_of y) s = sound.stores (path_of y) s has in
      subst (λ (z : Component). IsReadyFor test (Some s) z) (same-component c (path_of y) s y mine there) (kept-finds test s mine.x mine.kept mine.alt)

  pub all-ready : (c : Going) (stored : Stored) (labels : List FineLabel) → IsSound Lawful test c stored → All (IsReady test (pending test (fine_of (Goes c) stored) labels)) c.components
  all-ready c stored labels sound =
      All-more (λ y. component_at c (path_of y) ≡ Some y) (IsReady test (pending test (fine_of (Goes c) stored) labels))
      (λ y there. ready-told c stored y (takes (fate test (path_of y) (fine_of (Goes c) stored) labels)) (stored_at stored (path_of y)) sound there refl) c.components (each-found c.components sound.ascend)

  bound-told : (c : Going) (stored : Stored) (y : Component) (b : Bool) (o : Option Snapshot) → IsSound Lawful test c stored → component_at c (path_of y) ≡ Some y → stored_at stored (path_of y) ≡ o
      → IsBound test (if b then o else None) y
  bound-told c stored y false o sound there has = tt
  bound-told c stored y true None sound there has = tt
  bound-told c stored y true (Some s) sound there has =
      let mine : Stores test c (path_of y) s = sound.stores (path_of y) s has in
      subst (λ (z : Component). IsBound test (Some s) z) (same-component c (path_of y) s y mine there)
      (mine.alt, kept-safe test s mine.x mine.kept (laws.apart c sound.lawful (path_of y) mine.x mine.there))

  pub is-bound : (c : Going) (stored : Stored) (labels : List FineLabel) (y : Component) → IsSound Lawful test c stored → component_at c (path_of y) ≡ Some y
      → IsBound test (pending test (fine_of (Goes c) stored) labels (path_of y)) y
  is-bound c stored labels y sound there =
      bound-told c stored y (takes (fate test (path_of y) (fine_of (Goes c) stored) labels)) (stored_at stored (path_of y)) sound there refl

  run-told : (c : Going) (stored : Stored) (p : Path) (b : Bool) (o : Option Snapshot) → IsSound Lawful test c stored → is_found (λ x. is_running_state x.state) (component_at c p) ≡ false → stored_at stored p ≡ o
      → (if b then o else None) ≡ None
  run-told c stored p false o sound rests has = refl
  run-told c stored p true None sound rests has = refl
  run-told c stored p true (Some s) sound rests has =
      let mine : Stores test c p s = sound.stores p s has in
      absurd (let no : true ≡ false = sym (ap (is_found (λ x. is_running_state x.state)) mine.there ∙ mine.runs) ∙ rests in cc)

  pub all-run : (c : Going) (stored : Stored) (labels : List FineLabel) → IsSound Lawful test c stored → Run c (pending test (fine_of (Goes c) stored) labels)
  all-run c stored labels sound p rests = run-told c stored p (takes (fate test p (fine_of (Goes c) stored) labels)) (stored_at stored p) sound rests refl

  free-told : (c : Going) (stored : Stored) (p : Path) (b : Bool) (o : Option Snapshot) → IsSound Lawful test c stored → is_found (stands_at_alt test) (component_at c p) ≡ false → stored_at stored p ≡ o
      → (if b then o else None) ≡ None
  free-told c stored p false o sound other has = refl
  free-told c stored p true None sound other has = refl
  free-told c stored p true (Some s) sound other has =
      let mine : Stores test c p s = sound.stores p s has in
      absurd (let no : true ≡ false = sym (found-stands Lawful test laws c p mine.x mine.there mine.runs mine.alt) ∙ other in cc)

  -- one that isn't at an `alt` has not to choose
  pub is-free : (c : Going) (stored : Stored) (labels : List FineLabel) (r : Path) → IsSound Lawful test c stored → is_found (stands_at_alt test) (component_at c r) ≡ false
      → IfSome (component_at c r) (λ x. pending test (fine_of (Goes c) stored) labels (path_of x) ≡ None)
  is-free c stored labels r sound other = each (component_at c r) refl
    where
      each : (o : Option Component) → component_at c r ≡ o → IfSome o (λ x. pending test (fine_of (Goes c) stored) labels (path_of x) ≡ None)
      each None there = tt
      each (Some x) there =
          free-told c stored (path_of x) (takes (fate test (path_of x) (fine_of (Goes c) stored) labels)) (stored_at stored (path_of x)) sound
          (ap (λ q. is_found (stands_at_alt test) (component_at c q)) (found-path c r x there) ∙ other) refl

  -- ---- what will be chosen is what would be chosen now

  now-first : (c : Going) (stored : Stored) (p : Path) (s : Snapshot) (label : FineLabel) (labels : List FineLabel) (k : Fate) → (old : Stores test c p s) → stored_at stored p ≡ Some s → is_choice_of p label ≡ true
      → fate test p (fine_of (Goes c) stored) (label ∷ labels) ≡ k → fate_of (act test s old.x.own) ≡ k
  now-first c stored p s label labels k old has is e =
      sym (ap (judged test s) old.there) ∙ sym (fate-here test p (fine_of (Goes c) stored) s label labels has is) ∙ e

  -- a component that has stored a snapshot takes none
  pub moved-other : (c : Going) (stored : Stored) (p : Path) (s : Snapshot) (label : FineLabel) (f : Fine) → stored_at stored p ≡ Some s → is_choice_of p label ≡ false → HasMoved test c stored label f → touches p label ≡ false
  moved-other c stored p s (Snap r) f has other is = told (same_path r p) refl
    where
      told : (b : Bool) → same_path r p ≡ b → b ≡ false
      told true at = absurd (let no : Some s ≡ None = sym has ∙ ap (stored_at stored) (sym (found-path c r is.x is.there ∙ path-is r p at)) ∙ is.new in cc)
      told false at = refl
  moved-other c stored p s (Choose r) f has other is = other
  moved-other c stored p s (Plain label) f has other is = refl

  -- what is shown of the configuration behind a label
  abbrev Later : List FineLabel → Path → Snapshot → Fate → Fine → Type 0
  Later labels p s k g = (d : Going) (others : Stored) → IsSound Lawful test d others → stored_at others p ≡ Some s → (new : Stores test d p s) → fate test p (fine_of (Goes d) others) labels ≡ k
      → fine_run test labels (fine_of (Goes d) others) ≡ Some g → fate_of (act test s new.x.own) ≡ k

  now-stored : (labels : List FineLabel) (c d : Going) (stored others : Stored) (p : Path) (s : Snapshot) (k : Fate) (g : Fine) → (old : Stores test c p s) → stored_at stored p ≡ Some s → IsSound Lawful test c stored
      → IsSound Lawful test d others → FollowsIn p old.x d → StaysStored p stored others → fate test p (fine_of (Goes d) others) labels ≡ k → (k ≡ Lapses → ⊥) → fine_run test labels (fine_of (Goes d) others) ≡ Some g
      → Later labels p s k g → fate_of (act test s old.x.own) ≡ k
  now-stored labels c d stored others p s k g old has sound also follows (inl same) e not run later =
      let new : Stores test d p s = also.stores p s (same ∙ has) in
      sym (follows-fate test s old.x follows.y follows.follows.own old.alt old.kept (laws.apart c sound.lawful p old.x old.there))
      ∙ ap (λ (z : Component). fate_of (act test s z.own)) (sym (same-component d p s follows.y new follows.there))
      ∙ later d others also (same ∙ has) new e run
  now-stored labels c d stored others p s k g old has sound also follows (inr none) e not run later =
      absurd (not (sym e ∙ unstored test p (fine_of (Goes d) others) labels none))

  now-in : (labels : List FineLabel) (c : Going) (stored : Stored) (p : Path) (s : Snapshot) (k : Fate) (f g : Fine) (now : Configuration) → f.now ≡ now → (old : Stores test c p s) → stored_at stored p ≡ Some s
      → IsSound Lawful test c stored → IsSoundIn Lawful test now f.stored → FollowsTo p old.x now → StaysStored p stored f.stored → fate test p f labels ≡ k → (k ≡ Lapses → ⊥) → fine_run test labels f ≡ Some g
      → Later labels p s k g → fate_of (act test s old.x.own) ≡ k
  now-in labels c stored p s k f g (Ended v) at old has sound also follows stays e not run later =
      absurd (not (sym e ∙ ap (fate test p f) (ended-run test labels f g (Ended v) v at refl run)))
  now-in labels c stored p s k f g (Goes d) at old has sound also follows stays e not run later =
      let same : f ≡ fine_of (Goes d) f.stored = ap (λ n. fine_of n f.stored) at in
      now-stored labels c d stored f.stored p s k g old has sound also follows stays (ap (λ h. fate test p h labels) (sym same) ∙ e) not (ap (fine_run test labels) (sym same) ∙ run) later

  now-later : (label : FineLabel) (labels : List FineLabel) (c : Going) (stored : Stored) (p : Path) (s : Snapshot) (k : Fate) (g : Fine) (o : Option Fine) → IsSound Lawful test c stored → stored_at stored p ≡ Some s
      → (old : Stores test c p s) → is_choice_of p label ≡ false → fine_next test (fine_of (Goes c) stored) label ≡ o → fate test p (fine_of (Goes c) stored) (label ∷ labels) ≡ k → (k ≡ Lapses → ⊥)
      → option_and_then (fine_run test labels) o ≡ Some g → Later labels p s k g → fate_of (act test s old.x.own) ≡ k
  now-later label labels c stored p s k g None sound has old other next e not run later = absurd (let no = run in cc)
  now-later label labels c stored p s k g (Some f) sound has old other next e not run later =
      let is : HasMoved test c stored label f = moves test c stored label f next in
      now-in labels c stored p s k f g f.now refl old has sound (moved-sound Lawful test laws c stored label f sound is)
      (moved-follows Lawful test laws c stored p s label f sound old other is)
      (stored-stays test c stored p label f (moved-other c stored p s label f has other is) is)
      (sym (fate-on test p (fine_of (Goes c) stored) f s label labels has other next) ∙ e) not run later

  now-told : (label : FineLabel) (labels : List FineLabel) (c : Going) (stored : Stored) (p : Path) (s : Snapshot) (k : Fate) (g : Fine) (b : Bool) → IsSound Lawful test c stored → stored_at stored p ≡ Some s
      → (old : Stores test c p s) → is_choice_of p label ≡ b → fate test p (fine_of (Goes c) stored) (label ∷ labels) ≡ k → (k ≡ Lapses → ⊥)
      → option_and_then (fine_run test labels) (fine_next test (fine_of (Goes c) stored) label) ≡ Some g → Later labels p s k g → fate_of (act test s old.x.own) ≡ k
  now-told label labels c stored p s k g true sound has old is e not run later = now-first c stored p s label labels k old has is e
  now-told label labels c stored p s k g false sound has old is e not run later =
      now-later label labels c stored p s k g (fine_next test (fine_of (Goes c) stored) label) sound has old is refl e not run later

  pub fate-now : (labels : List FineLabel) (c : Going) (stored : Stored) (p : Path) (s : Snapshot) (k : Fate) (g : Fine) → IsSound Lawful test c stored → stored_at stored p ≡ Some s → (old : Stores test c p s)
      → fate test p (fine_of (Goes c) stored) labels ≡ k → (k ≡ Lapses → ⊥) → fine_run test labels (fine_of (Goes c) stored) ≡ Some g → fate_of (act test s old.x.own) ≡ k
  fate-now [] c stored p s k g sound has old e not run = absurd (not (sym e))
  fate-now (label ∷ labels) c stored p s k g sound has old e not run =
      now-told label labels c stored p s k g (is_choice_of p label) sound has old refl e not run
      (λ d others also there new e run. fate-now labels d others p s k g also there new e not run)
