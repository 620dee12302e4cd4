-- What a program holds in place of stored snapshots leads where fine labels lead, and tells what came of each choice.
use Rattle.std.proofs.Common.{◌≡◌, ℕ, ◌+◌, Bool, true, false, ◌&&◌, not, List, [], ◌∷◌, ◌++◌, map, Option, Some, None, IfSome, Result, Ok, Err, is_some, option_map, refl, sym, ap, subst, ◌∙◌, if◌then◌else◌}
use Rattle.std.specs.Option.{option_and_then}
use Rattle.std.proofs.lemmas.List.{append_assoc}
use Rattle.laws_steps.proofs.Finding.{found-path, some-is}
use Rattle.laws_fine.proofs.Held.{AreHeld, AreHeldAs, IsHeld, chosen-held, held-path, none-held, snapped-held, some-kept, stepped-held}
use Rattle.laws_fine.proofs.Leading.{fine_of}
use Rattle.laws_fine.proofs.Moves.{HasChosen, HasMoved, HasSnapped, HasStepped, moves}
use Rattle.laws_fine.proofs.Pending.{fine-after-is}
use Rattle.laws_fine.proofs.Sound.{IsKeptBySteps, IsSound, IsSoundIn, moved-sound, only-there}
use Rattle.laws_fine.proofs.Told.{told, told_at}
use Rattle.laws_fine.specs.Fates.{Lapses, fate_of, judged, judged_in}
use Rattle.laws_fine.specs.Fine.{Choose, Fine, FineLabel, Plain, Snap, Stored, behind, choose, chosen, fine_next, fine_replay_from, fine_step_in, is_at_alt, is_of_alt, snap, stands_at_alt, still_stored, stored_at, without_stored}
use Rattle.laws_fine.specs.Gathering.{Told}
use Rattle.laws_fine.specs.Holding.{Held, Holding, act_of, act_then, follow, held_at, hold_behind, hold_choose, hold_chosen, hold_fate, hold_from, hold_next, hold_plainly, hold_snap, hold_step, noted, still_held, without_held}
use Rattle.semantics.specs.Configurations.{Component, Configuration, Ended, Goes, Going, component_at, is_running_state, path_of, same_path}
use Rattle.semantics.specs.Runs.{option_elim}
use Rattle.semantics.specs.Snapshots.{Snapshot, Test, snapshot_of}
use Rattle.semantics.specs.Statements.{Act, act}
use Rattle.semantics.specs.Steps.{Label, apply, next, settled}
use Rattle.value_types.specs.Outcomes.{Outcome}
use Rattle.value_types.specs.declared.path.Path.{Path}

-- ---- what is held, and what is stored

-- of a test case that has ended nothing need be known
abbrev pub AreHeldIn : Test → Configuration → List Held → Stored → Type 0
AreHeldIn test (Ended v) held stored = Unit {0}
AreHeldIn test (Goes c) held stored = AreHeld test c held stored

pub record IsAlike (Lawful : Going → Type 0) (test : Test) (h : Holding) (f : Fine) : Type 0 where
  pub now : h.now ≡ f.now
  pub sound : IsSoundIn Lawful test f.now f.stored
  pub held : AreHeldIn test f.now h.held f.stored

-- nothing is held, and nothing stored
pub start-held : (test : Test) (d : Configuration) → AreHeldIn test d [] []
start-held test (Ended v) = tt
start-held test (Goes c) = λ p. tt

-- both lead on, to what is alike, or neither does
abbrev pub AreAlike : (Going → Type 0) → Test → Option Holding → Option Fine → Type 0
AreAlike Lawful test None None = Unit {0}
AreAlike Lawful test None (Some f) = ⊥
AreAlike Lawful test (Some h) None = ⊥
AreAlike Lawful test (Some h) (Some f) = IsAlike Lawful test h f

same-some : (test : Test) (c : Going) (p : Path) (h : Option Held) (s : Option Snapshot) → AreHeldAs test c p h s → is_some h ≡ is_some s
same-some test c p None None are = refl
same-some test c p None (Some s) are = absurd are
same-some test c p (Some h) None are = absurd are
same-some test c p (Some h) (Some s) are = refl

-- what the component asked for when it took its snapshot
then-is : (test : Test) (p : Path) (s : Snapshot) (x : Component) (h : Held) → h.path ≡ p → (is : IsHeld test p s x.own h) → act_then test h ≡ act test s is.x.own
then-is test p s x h path is =
    ap (λ q. act_of test h.taken (component_at h.taken q)) path ∙ ap (act_of test h.taken) is.there ∙ ap (λ t. act test t is.x.own) (sym is.is)

-- both lead to the same configuration, and this is told; or the same label can't follow
abbrev pub RunsAlike : Result (Holding × List Told) ℕ → Result Fine ℕ → List Told → Type 0
RunsAlike (Ok made) (Ok f) tolds = (made.0.now ≡ f.now) × (made.1 ≡ tolds)
RunsAlike (Ok made) (Err k) tolds = ⊥
RunsAlike (Err k) (Ok f) tolds = ⊥
RunsAlike (Err k) (Err j) tolds = k ≡ j

-- ---- a choice

module _ (Lawful : Going → Type 0) (test : Test) (laws : IsKeptBySteps test Lawful) where
  abbrev Alike : Option Holding → Option Fine → Type 0
  Alike h f = AreAlike Lawful test h f

  abbrev Sound : Fine → Type 0
  Sound f = IsSoundIn Lawful test f.now f.stored

  alike-of : (h : Holding) (o : Option Holding) (f : Fine) → o ≡ Some h → IsAlike Lawful test h f → Alike o (Some f)
  alike-of h o f is alike = subst (λ e. Alike e (Some f)) (sym is) alike

  -- behind what is asked for
  behind-alike : (c : Going) (held : List Held) (stored : Stored) (x : Component) (a : Act) (out : Outcome Configuration) (d : Configuration) → IsSound Lawful test c stored → apply test c x.itself a ≡ Some out → settled out ≡ d → AreHeld test c held stored
      → AreHeldIn test d (still_held d (without_held (path_of x) held)) (still_stored d (without_stored (path_of x) stored))
  behind-alike c held stored x a out (Ended v) sound applied ends are = tt
  behind-alike c held stored x a out (Goes d) sound applied ends are = chosen-held Lawful test laws c held stored x a out d sound applied ends are

  choice-alike : (c : Going) (held : List Held) (stored : Stored) (x : Component) (a : Act) (since : List Label) (o m : Option (Outcome Configuration)) → IsSound Lawful test c stored → apply test c x.itself a ≡ o
      → option_map settled o ≡ option_map (follow test since) (option_map settled m) → AreHeld test c held stored → Sound (chosen c (without_stored (path_of x) stored) o)
      → IsAlike Lawful test (hold_chosen test c (without_held (path_of x) held) since m) (chosen c (without_stored (path_of x) stored) o)
  choice-alike c held stored x a since None None sound applied leads are behind = record {
    now = refl;
    sound = behind;
    held = some-kept test c (λ q. not (same_path q (path_of x))) held stored are;
  }
  choice-alike c held stored x a since None (Some out) sound applied leads are behind = absurd (let no = leads in cc)
  choice-alike c held stored x a since (Some out) None sound applied leads are behind = absurd (let no = leads in cc)
  choice-alike c held stored x a since (Some out) (Some was) sound applied leads are behind =
      let same : settled out ≡ follow test since (settled was) = some-is (settled out) (follow test since (settled was)) leads in
      record {
        now = sym same;
        sound = behind;
        held = subst (λ d. AreHeldIn test (settled out) (still_held d (without_held (path_of x) held)) (still_stored (settled out) (without_stored (path_of x) stored))) same
            (behind-alike c held stored x a out (settled out) sound applied refl are);
      }

  chosen-alike : (c : Going) (held : List Held) (stored : Stored) (p : Path) (f : Fine) (h : Option Held) → IsSound Lawful test c stored → (is : HasChosen test c stored p f) → AreHeld test c held stored → Sound f
      → held_at held p ≡ h → IfSome h (λ g. g.path ≡ p) → AreHeldAs test c p h (Some is.snapshot) → Alike (hold_choose test c held p is.x h) (Some f)
  chosen-alike c held stored p f None sound is are behind found path held-as = absurd held-as
  chosen-alike c held stored p f (Some h) sound is are behind found path held-as =
      let at : path_of is.x ≡ p = found-path c p is.x is.there in
      let mine : IsHeld test p is.snapshot is.x.own h = held-as is.x is.there in
      let runs : is_running_state is.x.state ≡ true = ap (λ (y : Component). is_running_state y.state) (some-is is.x (sound.stores p is.snapshot is.has).x (sym is.there ∙ (sound.stores p is.snapshot is.has).there)) ∙ (sound.stores p is.snapshot is.has).runs in
      subst (λ g. IsAlike Lawful test (hold_chosen test c (without_held p held) h.since (apply test c is.x.itself (act_then test h))) g) (sym is.to)
      (subst (λ q. IsAlike Lawful test (hold_chosen test c (without_held q held) h.since (apply test c is.x.itself (act_then test h))) (chosen c (without_stored (path_of is.x) stored) (apply test c is.x.itself (act test is.snapshot is.x.own)))) at
      (choice-alike c held stored is.x (act test is.snapshot is.x.own) h.since (apply test c is.x.itself (act test is.snapshot is.x.own)) (apply test c is.x.itself (act_then test h)) sound refl
      (mine.choice.leads c is.x is.there runs (only-there c p is.x sound.ascend is.there)
      ∙ ap (λ a. option_map (follow test h.since) (option_map settled (apply test c is.x.itself a))) (sym (then-is test p is.snapshot is.x h path mine))) are
      (subst Sound is.to behind)))

  -- ---- each label that can follow

  snapped-alike : (c : Going) (held : List Held) (stored : Stored) (p : Path) (f : Fine) → (is : HasSnapped test c stored p f) → AreHeld test c held stored → Sound f
      → Alike (hold_snap test c held p is.x) (Some f)
  snapped-alike c held stored p f is are behind =
      let at : path_of is.x ≡ p = found-path c p is.x is.there in
      let new : held_at held p ≡ None = none-held test c p (held_at held p) (subst (AreHeldAs test c p (held_at held p)) (ap (stored_at stored) (sym at) ∙ is.new) (are p)) in
      alike-of (record { now = Goes c; held = record { path = p; taken = c; since = [] } ∷ held }) (hold_snap test c held p is.x) f
      (ap (λ b. if (b && is_at_alt test is.x.own.calls) && not (is_some (held_at held p)) then Some (record { now = Goes c; held = record { path = p; taken = c; since = [] } ∷ held }) else None) is.runs
      ∙ ap (λ b. if b && not (is_some (held_at held p)) then Some (record { now = Goes c; held = record { path = p; taken = c; since = [] } ∷ held }) else None) is.alt
      ∙ ap (λ o. if not (is_some o) then Some (record { now = Goes c; held = record { path = p; taken = c; since = [] } ∷ held }) else None) new)
      (subst (IsAlike Lawful test (record { now = Goes c; held = record { path = p; taken = c; since = [] } ∷ held })) (sym is.to)
      (record {
        now = refl;
        sound = subst Sound is.to behind;
        held = subst (λ q. AreHeld test c (record { path = q; taken = c; since = [] } ∷ held) ((path_of is.x, snapshot_of c is.x) ∷ stored)) at
            (snapped-held test c held stored is.x (ap (component_at c) at ∙ is.there) are);
      }))

  stepped-in : (c : Going) (held : List Held) (stored : Stored) (label : Label) (d : Configuration) → IsSound Lawful test c stored → is_of_alt test c label ≡ false → next test (Goes c) label ≡ Some d → AreHeld test c held stored
      → AreHeldIn test d (still_held d (map (noted label) held)) (still_stored d stored)
  stepped-in c held stored label (Ended v) sound other goes are = tt
  stepped-in c held stored label (Goes d) sound other goes are = stepped-held Lawful test laws c held stored label d sound other goes are

  stepped-alike : (c : Going) (held : List Held) (stored : Stored) (label : Label) (f : Fine) → IsSound Lawful test c stored → (is : HasStepped test c stored label f) → AreHeld test c held stored → Sound f
      → Alike (hold_plainly test c held label) (Some f)
  stepped-alike c held stored label f sound is are behind =
      alike-of (hold_behind is.d (map (noted label) held)) (hold_plainly test c held label) f
      (ap (λ b. if b then None else option_map (λ d. hold_behind d (map (noted label) held)) (next test (Goes c) label)) is.other ∙ ap (option_map (λ d. hold_behind d (map (noted label) held))) is.goes)
      (subst (IsAlike Lawful test (hold_behind is.d (map (noted label) held))) (sym is.to)
      (record { now = refl; sound = subst Sound is.to behind; held = stepped-in c held stored label is.d sound is.other is.goes are }))

  moved-alike : (c : Going) (held : List Held) (stored : Stored) (label : FineLabel) (f : Fine) → IsSound Lawful test c stored → HasMoved test c stored label f → AreHeld test c held stored → Sound f → Alike (hold_step test c held label) (Some f)
  moved-alike c held stored (Snap p) f sound is are behind =
      subst (λ o. Alike (option_and_then (hold_snap test c held p) o) (Some f)) (sym is.there) (snapped-alike c held stored p f is are behind)
  moved-alike c held stored (Choose p) f sound is are behind =
      subst (λ o. Alike (option_and_then (λ x. hold_choose test c held p x (held_at held p)) o) (Some f)) (sym is.there)
      (chosen-alike c held stored p f (held_at held p) sound is are behind refl (held-path held p) (subst (AreHeldAs test c p (held_at held p)) is.has (are p)))
  moved-alike c held stored (Plain label) f sound is are behind = stepped-alike c held stored label f sound is are behind

  -- ---- labels that can't follow

  snap-none : (c : Going) (held : List Held) (stored : Stored) (p : Path) (x : Component) (b : Bool) → component_at c p ≡ Some x → AreHeld test c held stored → (stands_at_alt test x && not (is_some (stored_at stored (path_of x)))) ≡ b
      → ◌≡◌ {A = Option Fine} (if b then Some (record { now = Goes c; stored = (path_of x, snapshot_of c x) ∷ stored }) else None) None → hold_snap test c held p x ≡ None
  snap-none c held stored p x true there are is none = absurd (let no = none in cc)
  snap-none c held stored p x false there are is none =
      ap (λ b. if stands_at_alt test x && not b then Some (record { now = Goes c; held = record { path = p; taken = c; since = [] } ∷ held }) else None)
      (same-some test c p (held_at held p) (stored_at stored p) (are p) ∙ ap (λ q. is_some (stored_at stored q)) (sym (found-path c p x there)))
      ∙ ap (λ b. if b then Some (record { now = Goes c; held = record { path = p; taken = c; since = [] } ∷ held }) else None) is

  snap-none-of : (c : Going) (held : List Held) (stored : Stored) (p : Path) (o : Option Component) → component_at c p ≡ o → AreHeld test c held stored → option_and_then (snap test c stored) o ≡ None
      → option_and_then (hold_snap test c held p) o ≡ None
  snap-none-of c held stored p None there are none = refl
  snap-none-of c held stored p (Some x) there are none = snap-none c held stored p x (stands_at_alt test x && not (is_some (stored_at stored (path_of x)))) there are refl none

  choose-none : (c : Going) (held : List Held) (stored : Stored) (p : Path) (x : Component) (h : Option Held) (s : Option Snapshot) → AreHeldAs test c p h s → choose test c stored x s ≡ None → hold_choose test c held p x h ≡ None
  choose-none c held stored p x None None are none = refl
  choose-none c held stored p x None (Some s) are none = absurd are
  choose-none c held stored p x (Some h) None are none = absurd are
  choose-none c held stored p x (Some h) (Some s) are none = absurd (let no = none in cc)

  choose-none-of : (c : Going) (held : List Held) (stored : Stored) (p : Path) (o : Option Component) → AreHeld test c held stored → option_and_then (λ x. choose test c stored x (stored_at stored p)) o ≡ None
      → option_and_then (λ x. hold_choose test c held p x (held_at held p)) o ≡ None
  choose-none-of c held stored p None are none = refl
  choose-none-of c held stored p (Some x) are none = choose-none c held stored p x (held_at held p) (stored_at stored p) (are p) none

  plain-none-of : (held : List Held) (stored : Stored) (label : Label) (o : Option Configuration) → option_map (behind stored) o ≡ None → option_map (λ d. hold_behind d (map (noted label) held)) o ≡ None
  plain-none-of held stored label None none = refl
  plain-none-of held stored label (Some d) none = absurd (let no = none in cc)

  plain-none : (c : Going) (held : List Held) (stored : Stored) (label : Label) (b : Bool) → (if b then None else option_map (behind stored) (next test (Goes c) label)) ≡ None
      → (if b then None else option_map (λ d. hold_behind d (map (noted label) held)) (next test (Goes c) label)) ≡ None
  plain-none c held stored label true none = refl
  plain-none c held stored label false none = plain-none-of held stored label (next test (Goes c) label) none

  none-alike : (c : Going) (held : List Held) (stored : Stored) (label : FineLabel) → AreHeld test c held stored → fine_step_in test c stored label ≡ None → hold_step test c held label ≡ None
  none-alike c held stored (Snap p) are none = snap-none-of c held stored p (component_at c p) refl are none
  none-alike c held stored (Choose p) are none = choose-none-of c held stored p (component_at c p) are none
  none-alike c held stored (Plain label) are none = plain-none c held stored label (is_of_alt test c label) none

  -- ---- each label

  step-told : (c : Going) (held : List Held) (stored : Stored) (label : FineLabel) (o : Option Fine) → IsSound Lawful test c stored → AreHeld test c held stored → fine_step_in test c stored label ≡ o → Alike (hold_step test c held label) o
  step-told c held stored label None sound are next = subst (λ e. Alike e None) (sym (none-alike c held stored label are next)) tt
  step-told c held stored label (Some f) sound are next =
      let is : HasMoved test c stored label f = moves test c stored label f next in
      moved-alike c held stored label f sound is are (moved-sound Lawful test laws c stored label f sound is)

  now-alike : (now : Configuration) (held : List Held) (stored : Stored) (label : FineLabel) → IsSoundIn Lawful test now stored → AreHeldIn test now held stored
      → Alike (hold_next test (record { now = now; held = held }) label) (fine_next test (fine_of now stored) label)
  now-alike (Ended v) held stored label sound are = tt
  now-alike (Goes c) held stored label sound are = step-told c held stored label (fine_step_in test c stored label) sound are refl

  pub next-alike : (h : Holding) (f : Fine) (label : FineLabel) → IsAlike Lawful test h f → Alike (hold_next test h label) (fine_next test f label)
  next-alike h f label alike =
      subst (λ n. Alike (hold_next test (record { now = n; held = h.held }) label) (fine_next test f label)) (sym alike.now) (now-alike f.now h.held f.stored label alike.sound alike.held)

  -- ---- what came of choices

  choice-told : (c : Going) (p : Path) (x : Component) (h : Option Held) (s : Option Snapshot) → component_at c p ≡ Some x → IfSome h (λ g. g.path ≡ p) → AreHeldAs test c p h s
      → option_elim Lapses (λ g. fate_of (act_then test g)) h ≡ option_elim Lapses (λ t. judged_in test t p (Goes c)) s
  choice-told c p x None None there path are = refl
  choice-told c p x None (Some s) there path are = absurd are
  choice-told c p x (Some h) None there path are = absurd are
  choice-told c p x (Some h) (Some s) there path are =
      let mine : IsHeld test p s x.own h = are x there in
      ap fate_of (then-is test p s x h path mine) ∙ sym mine.choice.fate ∙ sym (ap (judged test s) there)

  label-told : (c : Going) (held : List Held) (stored : Stored) (label : FineLabel) (g : Fine) → AreHeld test c held stored → HasMoved test c stored label g → hold_fate test held label ≡ told_at test (fine_of (Goes c) stored) label
  label-told c held stored (Snap p) g are is = refl
  label-told c held stored (Choose p) g are is = choice-told c p is.x (held_at held p) (stored_at stored p) is.there (held-path held p) (are p)
  label-told c held stored (Plain label) g are is = refl

  now-told : (now : Configuration) (held : List Held) (stored : Stored) (label : FineLabel) (g : Fine) → AreHeldIn test now held stored → fine_next test (fine_of now stored) label ≡ Some g
      → hold_fate test held label ≡ told_at test (fine_of now stored) label
  now-told (Ended v) held stored label g are next = absurd (let no = next in cc)
  now-told (Goes c) held stored label g are next = label-told c held stored label g are (moves test c stored label g next)

  -- ---- all labels

  abbrev Leads : List FineLabel → ℕ → Type 0
  Leads labels number = (h : Holding) (f : Fine) (tolds : List Told) → IsAlike Lawful test h f → RunsAlike (hold_from test labels number h tolds) (fine_replay_from test labels number f) (tolds ++ told test f labels)

  nothing-behind : {A : Type 0} (xs : List A) → xs ≡ xs ++ []
  nothing-behind [] = refl
  nothing-behind (x ∷ xs) = ap (λ ys. x ∷ ys) (nothing-behind xs)

  runs-on : (label : FineLabel) (labels : List FineLabel) (number : ℕ) (h : Holding) (f : Fine) (tolds : List Told) (l : Option Holding) (g : Option Fine) → Leads labels (number + 1) → IsAlike Lawful test h f → fine_next test f label ≡ g → Alike l g
      → RunsAlike (option_elim (Err number) (λ e. hold_from test labels (number + 1) e (tolds ++ (label, hold_fate test h.held label) ∷ [])) l) (option_elim (Err number) (fine_replay_from test labels (number + 1)) g) (tolds ++ told test f (label ∷ labels))
  runs-on label labels number h f tolds None None rest alike next also = refl
  runs-on label labels number h f tolds None (Some g) rest alike next also = absurd also
  runs-on label labels number h f tolds (Some l) None rest alike next also = absurd also
  runs-on label labels number h f tolds (Some l) (Some g) rest alike next also =
      subst (RunsAlike (hold_from test labels (number + 1) l (tolds ++ (label, hold_fate test h.held label) ∷ [])) (fine_replay_from test labels (number + 1) g))
      (append_assoc tolds ((label, hold_fate test h.held label) ∷ []) (told test g labels)
      ∙ ap (λ k. tolds ++ (label, k) ∷ told test g labels) (now-told f.now h.held f.stored label g alike.held next)
      ∙ ap (λ e. tolds ++ (label, told_at test f label) ∷ told test e labels) (sym (fine-after-is test f g label next)))
      (rest l g (tolds ++ (label, hold_fate test h.held label) ∷ []) also)

  -- where labels lead by what is held, they lead as fine labels; and it is told what came of each choice
  pub runs-alike : (labels : List FineLabel) (number : ℕ) (h : Holding) (f : Fine) (tolds : List Told) → IsAlike Lawful test h f
      → RunsAlike (hold_from test labels number h tolds) (fine_replay_from test labels number f) (tolds ++ told test f labels)
  runs-alike [] number h f tolds alike = (alike.now, nothing-behind tolds)
  runs-alike (label ∷ labels) number h f tolds alike =
      runs-on label labels number h f tolds (hold_next test h label) (fine_next test f label) (λ l g more also. runs-alike labels (number + 1) l g more also) alike refl (next-alike h f label alike)
