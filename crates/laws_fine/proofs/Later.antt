-- A choice that is worked out as it was when the component took its snapshot: the timers that expired since then expire behind it.
use Rattle.std.proofs.Common.{◌≡◌, ℕ, Bool, true, false, List, [], ◌∷◌, ◌++◌, map, Option, Some, None, option_map, refl, sym, ap, subst, ◌∙◌, if◌then◌else◌}
use Rattle.laws_fine.proofs.Choices.{IfData, IsOfAlt, IsSafeIn, act-lapses, act-of-alt, act-timer, asked}
use Rattle.laws_fine.proofs.Early.{made-state, made_by, map-all, map-map, with_components}
use Rattle.laws_fine.proofs.EarlySteps.{IsOnly, expiry-is, made-lapses, made-path, made_at, outcome-is}
use Rattle.laws_steps.proofs.Finding.{alive, found-map, path-same}
use Rattle.laws_fine.proofs.Lapses.{lapsed, timer_in, uncovered-timer}
use Rattle.laws_fine.proofs.Sound.{asked-fate}
use Rattle.laws_fine.specs.Fates.{fate_of}
use Rattle.laws_fine.specs.Fine.{is_at_alt}
use Rattle.laws_fine.specs.Holding.{after_label, follow}
use Rattle.semantics.proofs.Pairs.{All-more}
use Rattle.semantics.specs.Configurations.{Component, Configuration, Data, Goes, Going, component_at, is_running_state, is_terminated_state, path_of, same_path}
use Rattle.semantics.specs.Runs.{option_elim}
use Rattle.semantics.specs.Snapshots.{Snapshot, Test}
use Rattle.semantics.specs.Statements.{Act, Connects, Continues, Creates, Errs, Maps, Removes, Requests, Sends, Starts, Stops, Unmaps, Waits, Worsens, act}
use Rattle.semantics.specs.Steps.{Expiry, Label, apply, exchanged, settled, touch, unless_terminated}
use Rattle.value_types.specs.declared.frame.TimerState.TheVariants as timer
use Rattle.value_types.specs.declared.path.Path.{Path}

-- ---- expiries one after the other

pub follow-more : (test : Test) (ls : List Label) (label : Label) (d : Configuration) → follow test (ls ++ label ∷ []) d ≡ after_label test (follow test ls d) label
follow-more test [] label d = refl
follow-more test (l ∷ ls) label d = follow-more test ls label (after_label test d l)

follow-map : (test : Test) (ls : List Label) (label : Label) (o : Option Configuration) → option_map (λ d. after_label test d label) (option_map (follow test ls) o) ≡ option_map (follow test (ls ++ label ∷ [])) o
follow-map test ls label None = refl
follow-map test ls label (Some d) = ap Some (sym (follow-more test ls label d))

-- ---- an expiry behind a choice

-- the component at a path is changed, and then changed again, unless it is terminated
pick-two : (g h k : Component → Component) (y : Component) (q : Path) (b : Bool) → same_path (path_of y) q ≡ b → path_of (g y) ≡ path_of y → (b ≡ true → is_terminated_state (g y).state ≡ false) → (b ≡ true → k (g y) ≡ h y)
    → (if same_path (path_of (if b then g y else y)) q then unless_terminated k (if b then g y else y) else (if b then g y else y)) ≡ (if b then h y else y)
pick-two g h k y q true at path lives is =
    ap (λ c. if c then unless_terminated k (g y) else g y) (ap (λ r. same_path r q) path ∙ at) ∙ ap (λ t. if t then g y else k (g y)) (lives refl) ∙ is refl
pick-two g h k y q false at path lives is = ap (λ c. if c then unless_terminated k y else y) at

abbrev at-path : Path → (Component → Component) → Component → Component
at-path q change y = if same_path (path_of y) q then change y else y

touch-made : (g h k : Component → Component) (c : Going) (x : Component) → ((y : Component) → path_of (g y) ≡ path_of y) → is_terminated_state (g x).state ≡ false → IsOnly (path_of x) x c → k (g x) ≡ h x
    → touch (with_components c (map (at-path (path_of x) g) c.components)) (path_of x) k ≡ with_components c (map (at-path (path_of x) h) c.components)
touch-made g h k c x path lives only is =
    ap (with_components c)
    (map-map (λ y. if same_path (path_of y) (path_of x) then unless_terminated k y else y) (at-path (path_of x) g) c.components
    ∙ map-all (λ y. if same_path (path_of (at-path (path_of x) g y)) (path_of x) then unless_terminated k (at-path (path_of x) g y) else at-path (path_of x) g y) (at-path (path_of x) h) c.components
    (All-more (λ y. same_path (path_of y) (path_of x) ≡ true → y ≡ x)
    (λ y. (if same_path (path_of (at-path (path_of x) g y)) (path_of x) then unless_terminated k (at-path (path_of x) g y) else at-path (path_of x) g y) ≡ at-path (path_of x) h y)
    (λ y one. pick-two g h k y (path_of x) (same_path (path_of y) (path_of x)) refl (path y)
    (λ at. ap (λ (z : Component). is_terminated_state (g z).state) (one at) ∙ lives)
    (λ at. subst (λ (z : Component). k (g z) ≡ h z) (sym (one at)) is)) c.components only))

pick-path : (g : Component → Component) → ((y : Component) → path_of (g y) ≡ path_of y) → (q : Path) (y : Component) (b : Bool) → path_of (if b then g y else y) ≡ path_of y
pick-path g path q y true = path y
pick-path g path q y false = refl

made-found : (a : Act) (c : Going) (p : Path) (x : Component) → component_at c p ≡ Some x → component_at (made_at a (path_of x) c) p ≡ Some (made_by a x)
made-found a c p x there =
    found-map (at-path (path_of x) (made_by a)) (λ y. pick-path (made_by a) (made-path a) (path_of x) y (same_path (path_of y) (path_of x))) p c.components
    ∙ ap (option_map (at-path (path_of x) (made_by a))) there
    ∙ ap (λ b. Some (if b then made_by a x else x)) (path-same (path_of x))

-- where what is asked for is done, a timer that still runs expires
lapse-made : (test : Test) (c : Going) (p : Path) (n : ℕ) (name : List ℕ) (x : Component) (a : Act) → component_at c p ≡ Some x → is_running_state x.state ≡ true → IsOnly (path_of x) x c
    → timer_in n name (made_by a x).own ≡ Some timer.Running → exchanged (lapsed n name (made_by a x).own) (made_by a x) ≡ made_by (asked (lapsed n name) a) x
    → after_label test (Goes (made_at a (path_of x) c)) (Expiry p n name) ≡ Goes (made_at (asked (lapsed n name) a) (path_of x) c)
lapse-made test c p n name x a there runs only ran is =
    ap (option_elim (Goes (made_at a (path_of x) c)) (λ e. e))
    (expiry-is test (made_at a (path_of x) c) p n name (made_by a x) (made-found a c p x there) (ap is_running_state (made-state a x) ∙ runs) ran)
    ∙ ap Goes
    (ap (λ q. touch (made_at a (path_of x) c) q (exchanged (lapsed n name (made_by a x).own))) (made-path a x)
    ∙ touch-made (made_by a) (made_by (asked (lapsed n name) a)) (exchanged (lapsed n name (made_by a x).own)) c x (made-path a)
    (ap is_terminated_state (made-state a x) ∙ alive x runs) only is)

-- with a timer expired, what is asked for at an `alt` leads where the expiry leads behind it
pub one-lapse : (test : Test) (c : Going) (p : Path) (n : ℕ) (name : List ℕ) (x : Component) (own : Data) (a : Act) → component_at c p ≡ Some x → is_running_state x.state ≡ true → IsOnly (path_of x) x c → IsOfAlt a
    → timer_in n name own ≡ Some timer.Running → IfData a (λ d. timer_in n name d ≡ timer_in n name own)
    → option_map settled (apply test c x.itself (asked (lapsed n name) a)) ≡ option_map (λ d. after_label test d (Expiry p n name)) (option_map settled (apply test c x.itself a))
one-lapse test c p n name x own Waits there runs only alt ran same = refl
one-lapse test c p n name x own (Errs why) there runs only alt ran same = refl
one-lapse test c p n name x own (Requests Continues behind) there runs only alt ran same =
    ap (option_map settled) (outcome-is test c x (Requests Continues (lapsed n name behind)) runs only)
    ∙ ap Some (sym (lapse-made test c p n name x (Requests Continues behind) there runs only (uncovered-timer n name behind ∙ same ∙ ran) (made-lapses n name (Requests Continues behind) x tt)))
    ∙ ap (λ o. option_map (λ d. after_label test d (Expiry p n name)) (option_map settled o)) (sym (outcome-is test c x (Requests Continues behind) runs only))
one-lapse test c p n name x own (Requests (Removes port) behind) there runs only alt ran same =
    ap (option_map settled) (outcome-is test c x (Requests (Removes port) (lapsed n name behind)) runs only)
    ∙ ap Some (sym (lapse-made test c p n name x (Requests (Removes port) behind) there runs only (uncovered-timer n name behind ∙ same ∙ ran) (made-lapses n name (Requests (Removes port) behind) x tt)))
    ∙ ap (λ o. option_map (λ d. after_label test d (Expiry p n name)) (option_map settled o)) (sym (outcome-is test c x (Requests (Removes port) behind) runs only))
one-lapse test c p n name x own (Requests (Worsens v) behind) there runs only alt ran same = absurd alt
one-lapse test c p n name x own (Requests (Sends port to v) behind) there runs only alt ran same = absurd alt
one-lapse test c p n name x own (Requests (Creates new) behind) there runs only alt ran same = absurd alt
one-lapse test c p n name x own (Requests (Starts path frame) behind) there runs only alt ran same = absurd alt
one-lapse test c p n name x own (Requests (Stops path) behind) there runs only alt ran same = absurd alt
one-lapse test c p n name x own (Requests (Connects d e) behind) there runs only alt ran same = absurd alt
one-lapse test c p n name x own (Requests (Maps d system_port) behind) there runs only alt ran same = absurd alt
one-lapse test c p n name x own (Requests (Unmaps d system_port) behind) there runs only alt ran same = absurd alt

-- ---- choices that are done later

-- what a component with these data asks for by its snapshot is this, with the expiries since then behind it
pub record IsChoice (test : Test) (p : Path) (s : Snapshot) (own : Data) (a : Act) (since : List Label) : Type 0 where
  pub fate : fate_of (act test s own) ≡ fate_of a
  pub leads : (c : Going) (x : Component) → component_at c p ≡ Some x → is_running_state x.state ≡ true → IsOnly (path_of x) x c
      → option_map settled (apply test c x.itself (act test s own)) ≡ option_map (follow test since) (option_map settled (apply test c x.itself a))

map-same : {A : Type 0} (o : Option A) → o ≡ option_map (λ a. a) o
map-same None = refl
map-same (Some a) = refl

pub chosen-now : (test : Test) (p : Path) (s : Snapshot) (own : Data) → IsChoice test p s own (act test s own) []
chosen-now test p s own = record { fate = refl; leads = λ c x there runs only. map-same (option_map settled (apply test c x.itself (act test s own))) }

pub chosen-later : (test : Test) (p : Path) (s : Snapshot) (own : Data) (a : Act) (since : List Label) (n : ℕ) (name : List ℕ) → IsChoice test p s own a since → is_at_alt test own.calls ≡ true
    → timer_in n name own ≡ Some timer.Running → IsSafeIn test s own own.calls → IsChoice test p s (lapsed n name own) a (since ++ Expiry p n name ∷ [])
chosen-later test p s own a since n name is alt ran safe = record {
  fate = ap fate_of (act-lapses n name test s own alt ran safe) ∙ asked-fate (lapsed n name) (act test s own) ∙ is.fate;
  leads = λ c x there runs only.
      ap (λ b. option_map settled (apply test c x.itself b)) (act-lapses n name test s own alt ran safe)
      ∙ one-lapse test c p n name x own (act test s own) there runs only (act-of-alt test s own alt) ran (act-timer n name test s own alt ran safe)
      ∙ ap (option_map (λ d. after_label test d (Expiry p n name))) (is.leads c x there runs only)
      ∙ follow-map test since (Expiry p n name) (option_map settled (apply test c x.itself a));
}
