-- What holds of every configuration that fine labels lead to: stored snapshots are those of components that still stand where they took them.
use Rattle.std.proofs.Common.{◌≡◌, ℕ, ◌+◌, Bool, true, false, ◌&&◌, not, List, [], ◌∷◌, map, length, Option, Some, None, IfSome, is_some, nat_eq, bytes_eq, option_map, ◌⊎◌, inl, inr, refl, sym, ap, subst, ◌∙◌, if◌then◌else◌}
use Rattle.std.specs.List.{filter, find}
use Rattle.std.proofs.lemmas.Slice.Eq.{bytes_eq-Decides}
use Rattle.laws_fine.proofs.Choices.{act-lapses, asked}
use Rattle.laws_fine.proofs.Early.{HasFront}
use Rattle.laws_fine.proofs.EarlySteps.{IsOnly, behind_expiry}
use Rattle.laws_fine.proofs.Fronts.{HasMessage, PortsDiffer}
use Rattle.laws_fine.proofs.Kept.{AreLater, IsApart, IsKept, IsLater, kept-safe}
use Rattle.laws_fine.proofs.Lapses.{at_call, call-runs, lapse, lapsed, timer_in, timer_in_call, zero-runs}
use Rattle.laws_fine.proofs.Moves.{HasActed, HasChosen, HasComeIn, HasExpired, HasMoved, HasSnapped, acted, has-come-in, has-expired}
use Rattle.laws_steps.proofs.Entries.{put-other, put-own}
use Rattle.laws_steps.proofs.Found.{some-of}
use Rattle.laws_fine.proofs.Stays.{Ascends, AscendsIn, IsSteady, Stays, apply-ascends, apply-stays, come-ascends, come-stays, each-found, touch-ascends, touched-at}
use Rattle.laws_fine.specs.Fates.{fate_of, is_choice_of}
use Rattle.laws_fine.specs.Fine.{Choose, Fine, FineLabel, Plain, Snap, Stored, chosen, is_at_alt, is_found, is_of_alt, stands_at_alt, still_stored, stored_at, without_stored}
use Rattle.laws_steps.proofs.Finding.{alive, found-path, path-is, path-same, some-is, none-if}
use Rattle.semantics.proofs.Pairs.{All-more}
use Rattle.semantics.specs.Configurations.{Component, Configuration, Data, End, Ended, Frame, Goes, Going, Queue, component_at, is_running_state, is_terminated_state, path_of, same_path}
use Rattle.semantics.specs.Entries.{Entries, put}
use Rattle.semantics.specs.Snapshots.{Snapshot, Test, front_at, front_of, snapshot_of, timers_of}
use Rattle.semantics.specs.Statements.{Act, Connects, Continues, Creates, Errs, Maps, Removes, Requests, Sends, Starts, Stops, Unmaps, Waits, Worsens, act}
use Rattle.semantics.specs.Steps.{Delivery, Expiry, Label, Statement, apply, come_in, exchanged, next, next_message, settled, unless_terminated}
use Rattle.value_types.specs.Frames.{entry}
use Rattle.value_types.specs.Outcomes.{Fails, IfYields, Outcome, Yields}
use Rattle.value_types.specs.declared.frame.TimerState.{TimerState}
use Rattle.value_types.specs.declared.frame.TimerState.TheVariants as timer
use Rattle.value_types.specs.declared.path.Path.{Path}
use Rattle.value_types.specs.declared.value.Value.{Value}

-- ---- what is asked of configurations

abbrev pub HoldsIn : (Going → Type 0) → Configuration → Type 0
HoldsIn Lawful (Ended v) = Unit {0}
HoldsIn Lawful (Goes c) = Lawful c

-- what holds of each configuration, and stays so, whatever snapshot a component steps by: ports have names of their own, and a timer that an `alt` waits for is the one that it sees
pub record IsKeptBySteps (test : Test) (Lawful : Going → Type 0) : Type 0 where
  pub differ : (c : Going) → Lawful c → (p : Path) (x : Component) → component_at c p ≡ Some x → PortsDiffer (map front_at x.queues)
  pub apart : (c : Going) → Lawful c → (p : Path) (x : Component) → component_at c p ≡ Some x → IsApart test x.own.calls
  pub acts : (c : Going) → Lawful c → (p : Path) (x : Component) → component_at c p ≡ Some x → is_running_state x.state ≡ true → (snapshot : Snapshot)
      → IfSome (apply test c x.itself (act test snapshot x.own)) (λ out. IfYields out (HoldsIn Lawful))
  pub expires : (c : Going) → Lawful c → (p : Path) (n : ℕ) (name : List ℕ) (x : Component) → component_at c p ≡ Some x → is_running_state x.state ≡ true → timer_in n name x.own ≡ Some timer.Running
      → Lawful (behind_expiry n name x c)
  pub comes : (c : Going) → Lawful c → (system_port : List ℕ) (e : End) (v : Value) → entry c.mappings system_port ≡ Some e → next_message test c system_port ≡ Some v → Lawful (come_in system_port e v c)

-- the component of a stored snapshot
pub record Stores (test : Test) (c : Going) (p : Path) (snapshot : Snapshot) : Type 0 where
  pub x : Component
  pub there : component_at c p ≡ Some x
  pub runs : is_running_state x.state ≡ true
  pub alt : is_at_alt test x.own.calls ≡ true
  pub kept : IsKept snapshot x

pub record IsSound (Lawful : Going → Type 0) (test : Test) (c : Going) (stored : Stored) : Type 0 where
  pub ascend : Ascends c
  pub lawful : Lawful c
  pub stores : (p : Path) (snapshot : Snapshot) → stored_at stored p ≡ Some snapshot → Stores test c p snapshot

abbrev pub IsSoundIn : (Going → Type 0) → Test → Configuration → Stored → Type 0
IsSoundIn Lawful test (Ended v) stored = Unit {0}
IsSoundIn Lawful test (Goes c) stored = IsSound Lawful test c stored

-- each component is found by its path, and is the only one there
pub only-there : (c : Going) (p : Path) (x : Component) → Ascends c → component_at c p ≡ Some x → IsOnly (path_of x) x c
only-there c p x ordered there =
    All-more (λ y. component_at c (path_of y) ≡ Some y) (λ y. same_path (path_of y) (path_of x) ≡ true → y ≡ x)
    (λ y found at. some-is y x (sym found ∙ ap (component_at c) (path-is (path_of y) (path_of x) at ∙ found-path c p x there) ∙ there)) c.components (each-found c.components ordered)

-- ---- stored snapshots

filtered-told : (keep : Path → Bool) (p : Path) (e : Path × Snapshot) (stored : Stored) (a b : Bool) → keep e.0 ≡ a → same_path e.0 p ≡ b → stored_at (filter (λ d. keep d.0) stored) p ≡ (if keep p then stored_at stored p else None)
    → stored_at (if a then e ∷ filter (λ d. keep d.0) stored else filter (λ d. keep d.0) stored) p ≡ (if keep p then option_map (λ d. d.1) (if b then Some e else find (λ d. same_path d.0 p) stored) else None)
filtered-told keep p e stored true true keeps is rest =
    ap (λ t. option_map (λ d. d.1) (if t then Some e else find (λ d. same_path d.0 p) (filter (λ d. keep d.0) stored))) is
    ∙ sym (ap (λ t. if t then Some e.1 else None) (ap keep (sym (path-is e.0 p is)) ∙ keeps))
filtered-told keep p e stored true false keeps is rest =
    ap (λ t. option_map (λ d. d.1) (if t then Some e else find (λ d. same_path d.0 p) (filter (λ d. keep d.0) stored))) is ∙ rest
filtered-told keep p e stored false true keeps is rest =
    rest ∙ ap (λ t. if t then stored_at stored p else None) (ap keep (sym (path-is e.0 p is)) ∙ keeps)
    ∙ sym (ap (λ t. if t then Some e.1 else None) (ap keep (sym (path-is e.0 p is)) ∙ keeps))
filtered-told keep p e stored false false keeps is rest = rest

-- the snapshots of some paths
pub filtered-at : (keep : Path → Bool) (p : Path) (stored : Stored) → stored_at (filter (λ d. keep d.0) stored) p ≡ (if keep p then stored_at stored p else None)
filtered-at keep p [] = sym (none-if (keep p) (stored_at [] p) refl)
filtered-at keep p (e ∷ stored) = filtered-told keep p e stored (keep e.0) (same_path e.0 p) refl refl (filtered-at keep p stored)

abbrev entry-of : Path → Snapshot → Path × Snapshot
entry-of p s = (p, s)

pub consed-at : (q p : Path) (s : Snapshot) (stored : Stored) (b : Bool) → same_path q p ≡ b → stored_at ((q, s) ∷ stored) p ≡ (if b then Some s else stored_at stored p)
consed-at q p s stored true is = ap (λ t. option_map (λ d. d.1) (if t then Some (entry-of q s) else find (λ d. same_path d.0 p) stored)) is
consed-at q p s stored false is = ap (λ t. option_map (λ d. d.1) (if t then Some (entry-of q s) else find (λ d. same_path d.0 p) stored)) is

if-some : {A : Type 0} (b : Bool) (o : Option A) (a : A) → (if b then o else None) ≡ Some a → (b ≡ true) × (o ≡ Some a)
if-some true o a e = (refl, e)
if-some false o a e = absurd (let no = e in cc)

-- a component runs
abbrev pub runs_at : Going → Path → Bool
runs_at c p = is_found (λ component. is_running_state component.state) (component_at c p)

still-told : (c : Going) (stored : Stored) (p : Path) (s : Snapshot) → stored_at (still_stored (Goes c) stored) p ≡ Some s → (runs_at c p ≡ true) × (stored_at stored p ≡ Some s)
still-told c stored p s e = if-some (runs_at c p) (stored_at stored p) s (sym (filtered-at (runs_at c) p stored) ∙ e)

pub without-told : (q p : Path) (stored : Stored) (s : Snapshot) → stored_at (without_stored q stored) p ≡ Some s → (same_path p q ≡ false) × (stored_at stored p ≡ Some s)
without-told q p stored s e =
    let both = if-some (not (same_path p q)) (stored_at stored p) s (sym (filtered-at (λ d. not (same_path d q)) p stored) ∙ e) in
    (flip (same_path p q) both.0, both.1)
  where
    flip : (b : Bool) → not b ≡ true → b ≡ false
    flip true e = absurd (let no = e in cc)
    flip false e = refl

-- ---- how a component that has stored a snapshot goes on

-- its data are the same, or a timer has expired
abbrev pub HasOwn : Component → Component → Type 0
HasOwn x y = (y.own ≡ x.own) ⊎ ((n : ℕ) × (name : List ℕ) × (timer_in n name x.own ≡ Some timer.Running) × (y.own ≡ lapsed n name x.own))

pub record Follows (x y : Component) : Type 0 where
  pub own : HasOwn x y
  pub fronts : (port : List ℕ) → HasFront port x.queues → HasFront port y.queues

pub record FollowsIn (p : Path) (x : Component) (c : Going) : Type 0 where
  pub y : Component
  pub there : component_at c p ≡ Some y
  pub follows : Follows x y

abbrev pub FollowsTo : Path → Component → Configuration → Type 0
FollowsTo p x (Ended v) = Unit {0}
FollowsTo p x (Goes c) = FollowsIn p x c

-- timers behind an expiry
later-then : (old between new : Option TimerState) → IsLater old between → IsLater between new → IsLater old new
later-then old between new (inl same) (inl also) = inl (also ∙ same)
later-then old between new (inl same) (inr lapses) = inr (sym same ∙ lapses.0, lapses.1)
later-then old between new (inr lapses) (inl also) = inr (lapses.0, also ∙ lapses.1)
later-then old between new (inr lapses) (inr also) = absurd (let no : Some timer.Expired ≡ Some timer.Running = sym lapses.1 ∙ also.0 in cc)

put-later : (name : List ℕ) (timers : Entries TimerState) → entry timers name ≡ Some timer.Running → AreLater timers (put name timer.Expired timers)
put-later name timers runs q = told (bytes_eq name q) refl
  where
    told : (b : Bool) → bytes_eq name q ≡ b → IsLater (entry timers q) (entry (put name timer.Expired timers) q)
    told true is =
        let same : name ≡ q = (bytes_eq-Decides name q).0 is in
        inr (subst (λ m. entry timers m ≡ Some timer.Running) same runs, subst (λ m. entry (put name timer.Expired timers) m ≡ Some timer.Expired) same (put-own name timer.Expired timers))
    told false is = inl (put-other name q timer.Expired is timers)

same-later : (timers : Entries TimerState) → AreLater timers timers
same-later timers q = inl refl

lapsed-last-told : (name : List ℕ) (frame : Frame) (below : List Frame) (n : ℕ) (b : Bool) → (b ≡ true → entry frame.timers name ≡ Some timer.Running)
    → AreLater frame.timers (timers_of (if b then lapse name frame ∷ below else frame ∷ at_call n (lapse name) below))
lapsed-last-told name frame below n true runs = put-later name frame.timers (runs refl)
lapsed-last-told name frame below n false runs = same-later frame.timers

lapsed-last : (n : ℕ) (name : List ℕ) (members : Frame) (calls : List Frame) → (if nat_eq n 0 then entry members.timers name else timer_in_call n name calls) ≡ Some timer.Running
    → AreLater (timers_of calls) (timers_of (at_call n (lapse name) calls))
lapsed-last n name members [] runs = same-later []
lapsed-last n name members (frame ∷ below) runs =
    lapsed-last-told name frame below n (nat_eq n (length below + 1)) (λ is. call-runs n name members frame below (nat_eq n 0) (nat_eq n (length below + 1)) refl refl is runs)

lapsed-members-told : (name : List ℕ) (members : Frame) (b : Bool) → (b ≡ true → entry members.timers name ≡ Some timer.Running) → AreLater members.timers (if b then lapse name members else members).timers
lapsed-members-told name members true runs = put-later name members.timers (runs refl)
lapsed-members-told name members false runs = same-later members.timers

lapsed-members : (n : ℕ) (name : List ℕ) (own : Data) → timer_in n name own ≡ Some timer.Running → AreLater own.members.timers (lapsed n name own).members.timers
lapsed-members n name own runs = lapsed-members-told name own.members (nat_eq n 0) (λ is. zero-runs n name own (nat_eq n 0) refl is runs)

own-timers : (x y : Component) → HasOwn x y → AreLater (timers_of x.own.calls) (timers_of y.own.calls)
own-timers x y (inl same) = λ q. inl (ap (λ (own : Data). entry (timers_of own.calls) q) same)
own-timers x y (inr lapses) = subst (λ (own : Data). AreLater (timers_of x.own.calls) (timers_of own.calls)) (sym lapses.3) (lapsed-last lapses.0 lapses.1 x.own.members x.own.calls lapses.2)

own-members : (x y : Component) → HasOwn x y → AreLater x.own.members.timers y.own.members.timers
own-members x y (inl same) = λ q. inl (ap (λ (own : Data). entry own.members.timers q) same)
own-members x y (inr lapses) = subst (λ (own : Data). AreLater x.own.members.timers own.members.timers) (sym lapses.3) (lapsed-members lapses.0 lapses.1 x.own lapses.2)

lapsed-alt-told : (test : Test) (name : List ℕ) (frame : Frame) (below : List Frame) (n : ℕ) (b : Bool) → is_at_alt test (if b then lapse name frame ∷ below else frame ∷ at_call n (lapse name) below) ≡ is_at_alt test (frame ∷ below)
lapsed-alt-told test name frame below n true = refl
lapsed-alt-told test name frame below n false = refl

lapsed-alt : (test : Test) (n : ℕ) (name : List ℕ) (calls : List Frame) → is_at_alt test (at_call n (lapse name) calls) ≡ is_at_alt test calls
lapsed-alt test n name [] = refl
lapsed-alt test n name (frame ∷ below) = lapsed-alt-told test name frame below n (nat_eq n (length below + 1))

own-alt : (test : Test) (x y : Component) → HasOwn x y → is_at_alt test x.own.calls ≡ true → is_at_alt test y.own.calls ≡ true
own-alt test x y (inl same) is = ap (λ (own : Data). is_at_alt test own.calls) same ∙ is
own-alt test x y (inr lapses) is = ap (λ (own : Data). is_at_alt test own.calls) lapses.3 ∙ lapsed-alt test lapses.0 lapses.1 x.own.calls ∙ is

follows-kept : (snapshot : Snapshot) (x y : Component) → Follows x y → IsKept snapshot x → IsKept snapshot y
follows-kept snapshot x y follows kept = record {
  differ = kept.differ;
  fronts = λ port has. follows.fronts port (kept.fronts port has);
  timers = λ q. later-then (entry snapshot.timers q) (entry (timers_of x.own.calls) q) (entry (timers_of y.own.calls) q) (kept.timers q) (own-timers x y follows.own q);
  members = λ q. later-then (entry snapshot.member_timers q) (entry x.own.members.timers q) (entry y.own.members.timers q) (kept.members q) (own-members x y follows.own q);
}

-- what it chooses stays the same
pub asked-fate : (f : Data → Data) (a : Act) → fate_of (asked f a) ≡ fate_of a
asked-fate f Waits = refl
asked-fate f (Errs why) = refl
asked-fate f (Requests Continues own) = refl
asked-fate f (Requests (Worsens v) own) = refl
asked-fate f (Requests (Removes port) own) = refl
asked-fate f (Requests (Sends port to v) own) = refl
asked-fate f (Requests (Creates new) own) = refl
asked-fate f (Requests (Starts path frame) own) = refl
asked-fate f (Requests (Stops path) own) = refl
asked-fate f (Requests (Connects d e) own) = refl
asked-fate f (Requests (Maps d system_port) own) = refl
asked-fate f (Requests (Unmaps d system_port) own) = refl

pub follows-fate : (test : Test) (snapshot : Snapshot) (x y : Component) → HasOwn x y → is_at_alt test x.own.calls ≡ true → IsKept snapshot x → IsApart test x.own.calls
    → fate_of (act test snapshot y.own) ≡ fate_of (act test snapshot x.own)
follows-fate test snapshot x y (inl same) alt kept apart = ap (λ (own : Data). fate_of (act test snapshot own)) same
follows-fate test snapshot x y (inr lapses) alt kept apart =
    ap (λ (own : Data). fate_of (act test snapshot own)) lapses.3
    ∙ ap fate_of (act-lapses lapses.0 lapses.1 test snapshot x.own alt lapses.2 (kept-safe test snapshot x kept apart))
    ∙ asked-fate (lapsed lapses.0 lapses.1) (act test snapshot x.own)

steady-follows : (x y : Component) → IsSteady x y → Follows x y
steady-follows x y steady = record { own = inl steady.own; fronts = steady.fronts }

stays-follows : (p : Path) (x : Component) (d : Configuration) → Stays p x d → FollowsTo p x d
stays-follows p x (Ended v) stays = tt
stays-follows p x (Goes c) stays = record { y = stays.y; there = stays.there; follows = steady-follows x stays.y stays.steady }

settled-stays : (p : Path) (x : Component) (o : Outcome Configuration) → IfYields o (Stays p x) → FollowsTo p x (settled o)
settled-stays p x (Yields d) stays = stays-follows p x d stays
settled-stays p x (Fails why) stays = tt

-- another component's step
others-follow : (test : Test) (c : Going) (p : Path) (x y : Component) (a : Act) (o : Outcome Configuration) → component_at c p ≡ Some x → is_running_state x.state ≡ true → (p ≡ path_of y → ⊥) → apply test c y.itself a ≡ Some o
    → FollowsTo p x (settled o)
others-follow test c p x y a o there runs other applied =
    settled-stays p x o (some-of (λ out. IfYields out (Stays p x)) (apply test c y.itself a) o applied (apply-stays test c y.itself a p x there runs other))

-- an expiry
lapsed-at : (c : Going) (p : Path) (n : ℕ) (name : List ℕ) (x z : Component) → component_at c p ≡ Some x → component_at c (path_of z) ≡ Some z → is_running_state z.state ≡ true → timer_in n name z.own ≡ Some timer.Running
    → FollowsIn p x (behind_expiry n name z c)
lapsed-at c p n name x z there here runs ran = told (same_path (path_of x) (path_of z)) refl
  where
    changed : Component
    changed = if same_path (path_of x) (path_of z) then unless_terminated (exchanged (lapsed n name z.own)) x else x

    found : component_at (behind_expiry n name z c) p ≡ Some changed
    found = touched-at c (path_of z) (exchanged (lapsed n name z.own)) (λ y. refl) p x there

    told : (b : Bool) → same_path (path_of x) (path_of z) ≡ b → FollowsIn p x (behind_expiry n name z c)
    told true is =
        let same : x ≡ z = some-is x z (sym there ∙ ap (component_at c) (sym (found-path c p x there) ∙ path-is (path_of x) (path_of z) is) ∙ here) in
        let one : changed ≡ exchanged (lapsed n name z.own) x = ap (λ b. if b then unless_terminated (exchanged (lapsed n name z.own)) x else x) is
        ∙ ap (λ t. if t then x else exchanged (lapsed n name z.own) x) (ap (λ (y : Component). is_terminated_state y.state) same ∙ alive z runs) in
        record {
          y = exchanged (lapsed n name z.own) x;
          there = found ∙ ap Some one;
          follows = record {
            own = inr (n, name, subst (λ (y : Component). timer_in n name y.own ≡ Some timer.Running) (sym same) ran, ap (λ (y : Component). lapsed n name y.own) (sym same));
            fronts = λ port has. has;
          };
        }
    told false is = record {
      y = x;
      there = found ∙ ap (λ b. Some (if b then unless_terminated (exchanged (lapsed n name z.own)) x else x)) is;
      follows = record { own = inl refl; fronts = λ port has. has };
    }

-- ---- one fine step

module _ (Lawful : Going → Type 0) (test : Test) (laws : IsKeptBySteps test Lawful) where
  pub found-stands : (c : Going) (p : Path) (x : Component) → component_at c p ≡ Some x → is_running_state x.state ≡ true → is_at_alt test x.own.calls ≡ true → is_found (stands_at_alt test) (component_at c p) ≡ true
  found-stands c p x there runs alt = ap (is_found (stands_at_alt test)) there ∙ ap (λ b. b && is_at_alt test x.own.calls) runs ∙ alt

  -- a component that has stored a snapshot makes no step that isn't its choice
  stored-other : (c : Going) (stored : Stored) (p r : Path) (x y : Component) (s : Snapshot) → IsSound Lawful test c stored → is_found (stands_at_alt test) (component_at c r) ≡ false → component_at c r ≡ Some y
      → (old : Stores test c p s) → p ≡ path_of y → ⊥
  stored-other c stored p r x y s sound other there old same =
      let at : p ≡ r = same ∙ found-path c r y there in
      let no : true ≡ false = sym (found-stands c p old.x old.there old.runs old.alt) ∙ ap (λ q. is_found (stands_at_alt test) (component_at c q)) at ∙ other in cc

  plain-follows : (c : Going) (stored : Stored) (p : Path) (s : Snapshot) (label : Label) (d : Configuration) → IsSound Lawful test c stored → (old : Stores test c p s) → is_of_alt test c label ≡ false
      → next test (Goes c) label ≡ Some d → FollowsTo p old.x d
  plain-follows c stored p s (Statement r) d sound old other goes =
      let is : HasActed test c r d = acted test c r d goes in
      subst (FollowsTo p old.x) (sym is.to)
      (others-follow test c p old.x is.x (act test (snapshot_of c is.x) is.x.own) is.outcome old.there old.runs (stored-other c stored p r old.x is.x s sound other is.there old) is.applied)
  plain-follows c stored p s (Expiry r n name) d sound old other goes =
      let is : HasExpired c r n name d = has-expired test c r n name d goes in
      subst (FollowsTo p old.x) (sym is.to)
      (lapsed-at c p n name old.x is.x old.there (ap (component_at c) (found-path c r is.x is.there) ∙ is.there) is.runs is.ran)
  plain-follows c stored p s (Delivery system_port) d sound old other goes =
      let is : HasComeIn test c system_port d = has-come-in test c system_port d goes in
      subst (FollowsTo p old.x) (sym is.to) (stays-follows p old.x (Goes (come_in system_port is.e is.v c)) (come-stays c p old.x system_port is.e is.v old.there))

  chosen-follows : (c : Going) (stored others : Stored) (p r : Path) (s t : Snapshot) (x : Component) (o : Option (Outcome Configuration)) → (old : Stores test c p s) → component_at c r ≡ Some x → same_path r p ≡ false
      → apply test c x.itself (act test t x.own) ≡ o → FollowsTo p old.x (chosen c others o).now
  chosen-follows c stored others p r s t x None old there other applied = record { y = old.x; there = old.there; follows = record { own = inl refl; fronts = λ port has. has } }
  chosen-follows c stored others p r s t x (Some outcome) old there other applied =
      others-follow test c p old.x x (act test t x.own) outcome old.there old.runs
      (λ same. let no : true ≡ false = sym (path-same p) ∙ ap (λ q. same_path q p) (same ∙ found-path c r x there) ∙ other in cc) applied

  -- how a component that has stored a snapshot goes on where it doesn't choose
  pub moved-follows : (c : Going) (stored : Stored) (p : Path) (s : Snapshot) (label : FineLabel) (f : Fine) → IsSound Lawful test c stored → (old : Stores test c p s) → is_choice_of p label ≡ false
      → HasMoved test c stored label f → FollowsTo p old.x f.now
  moved-follows c stored p s (Snap r) f sound old other is =
      subst (FollowsTo p old.x) (sym (ap (λ (g : Fine). g.now) is.to)) (record { y = old.x; there = old.there; follows = record { own = inl refl; fronts = λ port has. has } })
  moved-follows c stored p s (Choose r) f sound old other is =
      subst (FollowsTo p old.x) (sym (ap (λ (g : Fine). g.now) is.to))
      (chosen-follows c stored (without_stored (path_of is.x) stored) p r s is.snapshot is.x (apply test c is.x.itself (act test is.snapshot is.x.own)) old is.there other refl)
  moved-follows c stored p s (Plain label) f sound old other is =
      subst (FollowsTo p old.x) (sym (ap (λ (g : Fine). g.now) is.to)) (plain-follows c stored p s label is.d sound old is.other is.goes)

  -- what follows is stored as before, as long as it runs
  followed : (c d : Going) (p : Path) (s : Snapshot) → (old : Stores test c p s) → FollowsIn p old.x d → runs_at d p ≡ true → Stores test d p s
  followed c d p s old is runs = record {
    x = is.y;
    there = is.there;
    runs = sym (ap (is_found (λ component. is_running_state component.state)) is.there) ∙ runs;
    alt = own-alt test old.x is.y is.follows.own old.alt;
    kept = follows-kept s old.x is.y is.follows old.kept;
  }

  -- ---- each step

  map-front : (port : List ℕ) (queue : Queue) (queues : List Queue) (b : Bool) → (IfSome (find (λ f. bytes_eq f.0 port) (map front_at queues)) (λ f. is_some f.1 ≡ true) → IfSome (find (λ q. bytes_eq q.0 port) queues) (λ q. is_some (front_of q.1) ≡ true))
      → IfSome (if b then Some (front_at queue) else find (λ f. bytes_eq f.0 port) (map front_at queues)) (λ f. is_some f.1 ≡ true)
      → IfSome (if b then Some queue else find (λ q. bytes_eq q.0 port) queues) (λ q. is_some (front_of q.1) ≡ true)
  map-front port queue queues true rest has = has
  map-front port queue queues false rest has = rest has

  fronts-kept : (port : List ℕ) (queues : List Queue) → HasMessage port (map front_at queues) → HasFront port queues
  fronts-kept port [] has = tt
  fronts-kept port (queue ∷ queues) has = map-front port queue queues (bytes_eq queue.0 port) (fronts-kept port queues) has

  snapped-kept : (c : Going) (p : Path) (x : Component) → Lawful c → component_at c p ≡ Some x → IsKept (snapshot_of c x) x
  snapped-kept c p x lawful there = record {
    differ = laws.differ c lawful p x there;
    fronts = λ port. fronts-kept port x.queues;
    timers = same-later (timers_of x.own.calls);
    members = same-later x.own.members.timers;
  }

  snapped-stores : (c : Going) (stored : Stored) (r p : Path) (x : Component) (s : Snapshot) (b : Bool) → IsSound Lawful test c stored → component_at c r ≡ Some x → is_running_state x.state ≡ true → is_at_alt test x.own.calls ≡ true
      → same_path (path_of x) p ≡ b → (if b then Some (snapshot_of c x) else stored_at stored p) ≡ Some s → Stores test c p s
  snapped-stores c stored r p x s true sound there runs alt is e = record {
    x = x;
    there = ap (component_at c) (sym (path-is (path_of x) p is) ∙ found-path c r x there) ∙ there;
    runs = runs;
    alt = alt;
    kept = subst (λ t. IsKept t x) (some-is (snapshot_of c x) s e) (snapped-kept c r x sound.lawful there);
  }
  snapped-stores c stored r p x s false sound there runs alt is e = sound.stores p s e

  snapped-sound : (c : Going) (stored : Stored) (r : Path) (f : Fine) → IsSound Lawful test c stored → (is : HasSnapped test c stored r f) → IsSound Lawful test c ((path_of is.x, snapshot_of c is.x) ∷ stored)
  snapped-sound c stored r f sound is = record {
    ascend = sound.ascend;
    lawful = sound.lawful;
    stores = λ p s e. snapped-stores c stored r p is.x s (same_path (path_of is.x) p) sound is.there is.runs is.alt refl
        (sym (consed-at (path_of is.x) p (snapshot_of c is.x) stored (same_path (path_of is.x) p) refl) ∙ e);
  }

  -- behind a step, from what is known of the configurations
  behind-sound : (c : Going) (others : Stored) (d : Configuration) → AscendsIn d → HoldsIn Lawful d
      → ((p : Path) (s : Snapshot) → stored_at others p ≡ Some s → (old : Stores test c p s) × FollowsTo p old.x d) → IsSoundIn Lawful test d (still_stored d others)
  behind-sound c others (Ended v) ascend lawful each = tt
  behind-sound c others (Goes d) ascend lawful each = record {
    ascend = ascend;
    lawful = lawful;
    stores = λ p s e.
        let still = still-told d others p s e in
        let before = each p s still.1 in
        followed c d p s before.0 before.1 still.0;
  }

  ascend-settled : (o : Outcome Configuration) → IfYields o AscendsIn → AscendsIn (settled o)
  ascend-settled (Yields d) is = is
  ascend-settled (Fails why) is = tt

  holds-settled : (o : Outcome Configuration) → IfYields o (HoldsIn Lawful) → HoldsIn Lawful (settled o)
  holds-settled (Yields d) is = is
  holds-settled (Fails why) is = tt

  applied-ascends : (c : Going) (x : Component) (a : Act) (o : Outcome Configuration) → Ascends c → apply test c x.itself a ≡ Some o → AscendsIn (settled o)
  applied-ascends c x a o ordered applied = ascend-settled o (some-of (λ out. IfYields out AscendsIn) (apply test c x.itself a) o applied (apply-ascends test c x.itself a ordered))

  applied-holds : (c : Going) (p : Path) (x : Component) (s : Snapshot) (o : Outcome Configuration) → Lawful c → component_at c p ≡ Some x → is_running_state x.state ≡ true → apply test c x.itself (act test s x.own) ≡ Some o
      → HoldsIn Lawful (settled o)
  applied-holds c p x s o lawful there runs applied =
      holds-settled o (some-of (λ out. IfYields out (HoldsIn Lawful)) (apply test c x.itself (act test s x.own)) o applied (laws.acts c lawful p x there runs s))

  chosen-sound : (c : Going) (stored : Stored) (r : Path) (f : Fine) → IsSound Lawful test c stored → (is : HasChosen test c stored r f) → (o : Option (Outcome Configuration)) → apply test c is.x.itself (act test is.snapshot is.x.own) ≡ o
      → IsSoundIn Lawful test (chosen c (without_stored (path_of is.x) stored) o).now (chosen c (without_stored (path_of is.x) stored) o).stored
  chosen-sound c stored r f sound is None applied = record {
    ascend = sound.ascend;
    lawful = sound.lawful;
    stores = λ p s e. let before = without-told (path_of is.x) p stored s e in sound.stores p s before.1;
  }
  chosen-sound c stored r f sound is (Some outcome) applied =
      let mine : Stores test c r is.snapshot = sound.stores r is.snapshot is.has in
      let one : is.x ≡ mine.x = some-is is.x mine.x (sym is.there ∙ mine.there) in
      let runs : is_running_state is.x.state ≡ true = ap (λ (y : Component). is_running_state y.state) one ∙ mine.runs in
      behind-sound c (without_stored (path_of is.x) stored) (settled outcome)
      (applied-ascends c is.x (act test is.snapshot is.x.own) outcome sound.ascend applied)
      (applied-holds c r is.x is.snapshot outcome sound.lawful is.there runs applied)
      (λ p s e. let before = without-told (path_of is.x) p stored s e in (
        sound.stores p s before.1,
        others-follow test c p (sound.stores p s before.1).x is.x (act test is.snapshot is.x.own) outcome (sound.stores p s before.1).there (sound.stores p s before.1).runs
            (λ same. let no : true ≡ false = sym (path-same p) ∙ ap (λ q. same_path p q) same ∙ before.0 in cc) applied,
      ))

  stepped-ascends : (c : Going) (label : Label) (d : Configuration) → Ascends c → next test (Goes c) label ≡ Some d → AscendsIn d
  stepped-ascends c (Statement r) d ordered goes =
      let is : HasActed test c r d = acted test c r d goes in
      subst AscendsIn (sym is.to) (applied-ascends c is.x (act test (snapshot_of c is.x) is.x.own) is.outcome ordered is.applied)
  stepped-ascends c (Expiry r n name) d ordered goes =
      let is : HasExpired c r n name d = has-expired test c r n name d goes in
      subst AscendsIn (sym is.to) (touch-ascends c (path_of is.x) (exchanged (lapsed n name is.x.own)) (λ y. refl) ordered)
  stepped-ascends c (Delivery system_port) d ordered goes =
      let is : HasComeIn test c system_port d = has-come-in test c system_port d goes in
      subst AscendsIn (sym is.to) (come-ascends c system_port is.e is.v ordered)

  stepped-holds : (c : Going) (label : Label) (d : Configuration) → Lawful c → next test (Goes c) label ≡ Some d → HoldsIn Lawful d
  stepped-holds c (Statement r) d lawful goes =
      let is : HasActed test c r d = acted test c r d goes in
      subst (HoldsIn Lawful) (sym is.to) (applied-holds c r is.x (snapshot_of c is.x) is.outcome lawful is.there is.runs is.applied)
  stepped-holds c (Expiry r n name) d lawful goes =
      let is : HasExpired c r n name d = has-expired test c r n name d goes in
      subst (HoldsIn Lawful) (sym is.to) (laws.expires c lawful r n name is.x is.there is.runs is.ran)
  stepped-holds c (Delivery system_port) d lawful goes =
      let is : HasComeIn test c system_port d = has-come-in test c system_port d goes in
      subst (HoldsIn Lawful) (sym is.to) (laws.comes c lawful system_port is.e is.v is.mapped is.found)

  -- every fine step leads on to a sound configuration
  pub moved-sound : (c : Going) (stored : Stored) (label : FineLabel) (f : Fine) → IsSound Lawful test c stored → HasMoved test c stored label f → IsSoundIn Lawful test f.now f.stored
  moved-sound c stored (Snap r) f sound is = subst (λ (g : Fine). IsSoundIn Lawful test g.now g.stored) (sym is.to) (snapped-sound c stored r f sound is)
  moved-sound c stored (Choose r) f sound is =
      subst (λ (g : Fine). IsSoundIn Lawful test g.now g.stored) (sym is.to) (chosen-sound c stored r f sound is (apply test c is.x.itself (act test is.snapshot is.x.own)) refl)
  moved-sound c stored (Plain label) f sound is =
      subst (λ (g : Fine). IsSoundIn Lawful test g.now g.stored) (sym is.to)
      (behind-sound c stored is.d (stepped-ascends c label is.d sound.ascend is.goes) (stepped-holds c label is.d sound.lawful is.goes)
      (λ p s e. (sound.stores p s e, plain-follows c stored p s label is.d sound (sound.stores p s e) is.other is.goes)))
