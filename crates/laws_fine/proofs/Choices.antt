-- What a component that stands at an `alt` asks for, before an expiry of one of its timers and behind it.
use Rattle.std.proofs.Common.{◌≡◌, ℕ, ◌+◌, Bool, true, false, List, [], ◌∷◌, ◌++◌, length, Option, Some, None, is_some, nat_eq, option_map, refl, sym, ap, subst, ◌∙◌, if◌then◌else◌}
use Rattle.ttcn_syntax.specs.declared.place.Span.{Span}
use Rattle.ttcn_syntax.specs.declared.tree.statement.Action.TheOpen.{Action-F}
use Rattle.ttcn_syntax.specs.declared.tree.statement.Statement.{Statement, out-Statement}
use Rattle.check_rules.specs.Calls.{altstep_meant}
use Rattle.check_scope.specs.Names.{module_names}
use Rattle.laws_fine.proofs.Alike.{AreAlike, choice-alike}
use Rattle.laws_fine.proofs.Lapses.{IsSafe, at_call, lapse, lapsed, members-values, taken-same, timer_in, with_way}
use Rattle.laws_fine.specs.Fine.{begins_with_alt, is_alt, is_at_alt}
use Rattle.semantics.specs.Branches.{Judge, Written, write_altsteps, written_alt, written_call, written_defaults}
use Rattle.semantics.specs.Configurations.{Data, Frame}
use Rattle.semantics.specs.Entries.{Entries}
use Rattle.semantics.specs.Events.{Choice, Nothing, Refused, Taken, first_choice}
use Rattle.semantics.specs.Items.{Does, Doing, From, Item, Last, Loop, Mark, Name, Start, Waiting, Whole, action_of}
use Rattle.semantics.specs.Sites.{Site}
use Rattle.semantics.specs.Snapshots.{Snapshot, Test}
use Rattle.semantics.specs.Statements.{Act, Continues, Errs, Removes, Requests, Stand, Waits, act, act_alt_or, act_first, act_in, act_port, act_whole, acting, call_function, choice_at, with_frames}
use Rattle.semantics.specs.Taking.{port_taken, taken}
use Rattle.value_types.specs.Outcomes.{Fails, IfYields, Outcome, Unmet, Yields, outcome_and_then, outcome_map}
use Rattle.value_types.specs.declared.frame.TimerState.TheVariants as timer
use Rattle.value_types.specs.declared.value.Value.{Value}

-- ---- what is chosen

-- where the branches of an `alt` are judged that stands at a site in a frame with these values
abbrev pub judge_with : Snapshot → Site → Entries Value → Judge
judge_with snapshot site values = record { site = site; view = record { values = values; timers = snapshot.timers } }

-- what is chosen at a statement in a frame with these values, where it is an `alt` or stands for one
abbrev pub chosen_at : Test → Snapshot → Data → Site → Statement → Entries Value → Option Choice
chosen_at test snapshot own site s values =
    option_map (λ ws. first_choice test snapshot own (ws ++ written_defaults test snapshot own)) (written_alt test snapshot own (judge_with snapshot site values) (out-Statement s).place (action_of s))

-- what comes of a choice
abbrev pub by_choice : Test → Site → Statement → List Item → Data → Choice → Act
by_choice test site s rest own Nothing = Waits
by_choice test site s rest own (Refused why) = Errs why
by_choice test site s rest own (Taken chance effect) =
    acting (act_port (port_taken effect)) (outcome_and_then (λ d. with_frames d.calls d) (taken test site s rest chance effect own))

abbrev pub by_option : Test → Site → Statement → List Item → Data → Option Choice → Act
by_option test site s rest own None = Errs Unmet
by_option test site s rest own (Some choice) = by_choice test site s rest own choice

-- ---- what is asked for

choice-is : (stand : Stand) (site : Site) (s : Statement) (o : Option Choice) → act_alt_or (Errs Unmet) stand site s o ≡ by_option stand.test site s stand.rest stand.own o
choice-is stand site s None = refl
choice-is stand site s (Some Nothing) = refl
choice-is stand site s (Some (Refused why)) = refl
choice-is stand site s (Some (Taken chance effect)) = refl

call-choice-is : (other : Act) (stand : Stand) (site : Site) (s : Statement) (o : Option Choice) → is_some o ≡ true → act_alt_or other stand site s o ≡ by_option stand.test site s stand.rest stand.own o
call-choice-is other stand site s None is = absurd (let no = is in cc)
call-choice-is other stand site s (Some Nothing) is = refl
call-choice-is other stand site s (Some (Refused why)) is = refl
call-choice-is other stand site s (Some (Taken chance effect)) is = refl

call-some : (test : Test) (snapshot : Snapshot) (own : Data) (f : ℕ → List Written) (o : Option ℕ) → is_some o ≡ true
    → is_some (option_map (λ ws. first_choice test snapshot own (ws ++ written_defaults test snapshot own)) (option_map f o)) ≡ true
call-some test snapshot own f None is = absurd (let no = is in cc)
call-some test snapshot own f (Some at) is = refl

some-choice : (test : Test) (snapshot : Snapshot) (own : Data) (judge : Judge) (place : Span) (x : Does) → is_alt test x ≡ true
    → is_some (option_map (λ ws. first_choice test snapshot own (ws ++ written_defaults test snapshot own)) (written_alt test snapshot own judge place x)) ≡ true
some-choice test snapshot own judge place (Action-F.Alt branches) is = refl
some-choice test snapshot own judge place (Action-F.«Action::Event» event) is = refl
some-choice test snapshot own judge place (Action-F.«Action::Call» call) is =
    call-some test snapshot own (λ at. written_call (write_altsteps test snapshot own) test snapshot own judge call [] (Some at)) (altstep_meant (module_names test.definitions call.name)) is
some-choice test snapshot own judge place _ is = absurd (let no = is in cc)

whole-is : (stand : Stand) (site : Site) (s : Statement) (x : Does) → is_alt stand.test x ≡ true → is_some (choice_at stand site s) ≡ true
    → act_whole stand site s x ≡ by_option stand.test site s stand.rest stand.own (choice_at stand site s)
whole-is stand site s (Action-F.Alt branches) is some = choice-is stand site s (choice_at stand site s)
whole-is stand site s (Action-F.«Action::Event» event) is some = choice-is stand site s (choice_at stand site s)
whole-is stand site s (Action-F.«Action::Call» call) is some = call-choice-is (call_function stand site call stand.own stand.rest) stand site s (choice_at stand site s) some
whole-is stand site s _ is some = absurd (let no = is in cc)

-- what is asked for at an `alt` comes of the choice
pub alt-is : (test : Test) (snapshot : Snapshot) (own : Data) (frame : Frame) (below : List Frame) (site : Site) (s : Statement) (rest : List Item) → is_alt test (action_of s) ≡ true
    → act_first test snapshot own frame below (Doing site s Whole ∷ rest) ≡ by_option test site s rest own (chosen_at test snapshot own site s frame.values)
alt-is test snapshot own frame below site s rest is =
    whole-is (record { test = test; snapshot = snapshot; own = own; frame = frame; below = below; rest = rest }) site s (action_of s) is
    (some-choice test snapshot own (judge_with snapshot site frame.values) (out-Statement s).place (action_of s) is)

-- ---- expiries

-- what is asked for, with other data of the component that asks
abbrev pub asked : (Data → Data) → Act → Act
asked f (Requests Continues own) = Requests Continues (f own)
asked f (Requests (Removes port) own) = Requests (Removes port) (f own)
asked f other = other

-- of the data that a component at an `alt` asks for
abbrev pub IfData : Act → (Data → Type 0) → Type 0
IfData (Requests Continues own) P = P own
IfData (Requests (Removes port) own) P = P own
IfData other P = Unit {0}

-- what a component at an `alt` may ask for
abbrev pub IsOfAlt : Act → Type 0
IsOfAlt Waits = Unit {0}
IsOfAlt (Errs why) = Unit {0}
IsOfAlt (Requests Continues own) = Unit {0}
IsOfAlt (Requests (Removes port) own) = Unit {0}
IsOfAlt other = ⊥

-- the choice makes no timer inactive that runs
abbrev pub IsSafeChoice : Test → Site → Statement → List Item → Data → Option Choice → Type 0
IsSafeChoice test site s rest own None = Unit {0}
IsSafeChoice test site s rest own (Some Nothing) = Unit {0}
IsSafeChoice test site s rest own (Some (Refused why)) = Unit {0}
IsSafeChoice test site s rest own (Some (Taken chance effect)) = IsSafe test chance.judge.site effect (with_way site s rest chance.way own)

abbrev pub IsSafeAt : Test → Snapshot → Data → Frame → List Item → Type 0
IsSafeAt test snapshot own frame (Doing site s Whole ∷ rest) = IsSafeChoice test site s rest own (chosen_at test snapshot own site s frame.values)
IsSafeAt test snapshot own frame other = Unit {0}

abbrev pub IsSafeIn : Test → Snapshot → Data → List Frame → Type 0
IsSafeIn test snapshot own [] = Unit {0}
IsSafeIn test snapshot own (frame ∷ below) = IsSafeAt test snapshot own frame frame.remaining

acting-told : (f : Data → Data) (port : Option (List ℕ)) (o : Outcome Data) → acting (act_port port) (outcome_map f o) ≡ asked f (acting (act_port port) o)
acting-told f None (Yields d) = refl
acting-told f (Some port) (Yields d) = refl
acting-told f port (Fails why) = refl

acting-data : (port : Option (List ℕ)) (P : Data → Type 0) (o : Outcome Data) → IfYields o P → IfData (acting (act_port port) o) P
acting-data None P (Yields d) is = is
acting-data (Some port) P (Yields d) is = is
acting-data port P (Fails why) is = tt

acting-of-alt : (port : Option (List ℕ)) (o : Outcome Data) → IsOfAlt (acting (act_port port) o)
acting-of-alt None (Yields d) = tt
acting-of-alt (Some port) (Yields d) = tt
acting-of-alt port (Fails why) = tt

option-lapses : (n : ℕ) (x : List ℕ) (test : Test) (site : Site) (s : Statement) (rest : List Item) (own : Data) (o : Option Choice) → timer_in n x own ≡ Some timer.Running → IsSafeChoice test site s rest own o
    → by_option test site s rest (lapsed n x own) o ≡ asked (lapsed n x) (by_option test site s rest own o)
option-lapses n x test site s rest own None runs safe = refl
option-lapses n x test site s rest own (Some Nothing) runs safe = refl
option-lapses n x test site s rest own (Some (Refused why)) runs safe = refl
option-lapses n x test site s rest own (Some (Taken chance effect)) runs safe =
    let same = taken-same n x test site s rest chance effect own runs safe in
    ap (acting (act_port (port_taken effect))) same.lapses
    ∙ acting-told (lapsed n x) (port_taken effect) (outcome_and_then (λ d. with_frames d.calls d) (taken test site s rest chance effect own))

option-timer : (n : ℕ) (x : List ℕ) (test : Test) (site : Site) (s : Statement) (rest : List Item) (own : Data) (o : Option Choice) → timer_in n x own ≡ Some timer.Running → IsSafeChoice test site s rest own o
    → IfData (by_option test site s rest own o) (λ d. timer_in n x d ≡ timer_in n x own)
option-timer n x test site s rest own None runs safe = tt
option-timer n x test site s rest own (Some Nothing) runs safe = tt
option-timer n x test site s rest own (Some (Refused why)) runs safe = tt
option-timer n x test site s rest own (Some (Taken chance effect)) runs safe =
    let same = taken-same n x test site s rest chance effect own runs safe in
    acting-data (port_taken effect) (λ d. timer_in n x d ≡ timer_in n x own) (outcome_and_then (λ d. with_frames d.calls d) (taken test site s rest chance effect own)) same.timer

option-of-alt : (test : Test) (site : Site) (s : Statement) (rest : List Item) (own : Data) (o : Option Choice) → IsOfAlt (by_option test site s rest own o)
option-of-alt test site s rest own None = tt
option-of-alt test site s rest own (Some Nothing) = tt
option-of-alt test site s rest own (Some (Refused why)) = tt
option-of-alt test site s rest own (Some (Taken chance effect)) =
    acting-of-alt (port_taken effect) (outcome_and_then (λ d. with_frames d.calls d) (taken test site s rest chance effect own))

lapsed-alike : (n : ℕ) (x : List ℕ) (own : Data) → AreAlike (lapsed n x own) own
lapsed-alike n x own = record { values = members-values x own.members (nat_eq n 0); defaults = refl }

-- a frame that has the same values
first-lapses : (n : ℕ) (x : List ℕ) (test : Test) (snapshot : Snapshot) (own : Data) (frame other : Frame) (below others : List Frame) (items : List Item) → other.values ≡ frame.values
    → begins_with_alt test items ≡ true → timer_in n x own ≡ Some timer.Running → IsSafeAt test snapshot own frame items
    → act_first test snapshot (lapsed n x own) other others items ≡ asked (lapsed n x) (act_first test snapshot own frame below items)
first-lapses n x test snapshot own frame other below others (Doing site s Whole ∷ rest) values is runs safe =
    alt-is test snapshot (lapsed n x own) other others site s rest is
    ∙ ap (λ v. by_option test site s rest (lapsed n x own) (chosen_at test snapshot (lapsed n x own) site s v)) values
    ∙ ap (by_option test site s rest (lapsed n x own))
    (choice-alike test snapshot (lapsed n x own) own (lapsed-alike n x own) (judge_with snapshot site frame.values) (out-Statement s).place (action_of s))
    ∙ option-lapses n x test site s rest own (chosen_at test snapshot own site s frame.values) runs safe
    ∙ sym (ap (asked (lapsed n x)) (alt-is test snapshot own frame below site s rest is))
first-lapses n x test snapshot own frame other below others [] values is runs safe = absurd (let no = is in cc)
first-lapses n x test snapshot own frame other below others (Doing site s (Name k) ∷ rest) values is runs safe = absurd (let no = is in cc)
first-lapses n x test snapshot own frame other below others (Doing site s (From k) ∷ rest) values is runs safe = absurd (let no = is in cc)
first-lapses n x test snapshot own frame other below others (Doing site s Start ∷ rest) values is runs safe = absurd (let no = is in cc)
first-lapses n x test snapshot own frame other below others (Doing site s Loop ∷ rest) values is runs safe = absurd (let no = is in cc)
first-lapses n x test snapshot own frame other below others (Doing site s Last ∷ rest) values is runs safe = absurd (let no = is in cc)
first-lapses n x test snapshot own frame other below others (Mark site s ∷ rest) values is runs safe = absurd (let no = is in cc)
first-lapses n x test snapshot own frame other below others (Waiting target ∷ rest) values is runs safe = absurd (let no = is in cc)

frames-told : (n : ℕ) (x : List ℕ) (test : Test) (snapshot : Snapshot) (own : Data) (frame : Frame) (below : List Frame) (b : Bool) → begins_with_alt test frame.remaining ≡ true
    → timer_in n x own ≡ Some timer.Running → IsSafeAt test snapshot own frame frame.remaining
    → act_in test snapshot (lapsed n x own) (if b then lapse x frame ∷ below else frame ∷ at_call n (lapse x) below) ≡ asked (lapsed n x) (act_first test snapshot own frame below frame.remaining)
frames-told n x test snapshot own frame below true is runs safe =
    first-lapses n x test snapshot own frame (lapse x frame) below below frame.remaining refl is runs safe
frames-told n x test snapshot own frame below false is runs safe =
    first-lapses n x test snapshot own frame frame below (at_call n (lapse x) below) frame.remaining refl is runs safe

in-lapses : (n : ℕ) (x : List ℕ) (test : Test) (snapshot : Snapshot) (own : Data) (calls : List Frame) → is_at_alt test calls ≡ true → timer_in n x own ≡ Some timer.Running → IsSafeIn test snapshot own calls
    → act_in test snapshot (lapsed n x own) (at_call n (lapse x) calls) ≡ asked (lapsed n x) (act_in test snapshot own calls)
in-lapses n x test snapshot own [] is runs safe = absurd (let no = is in cc)
in-lapses n x test snapshot own (frame ∷ below) is runs safe = frames-told n x test snapshot own frame below (nat_eq n (length below + 1)) is runs safe

-- what is asked for at an `alt` behind an expiry is what was asked for before it, with the timer expired
pub act-lapses : (n : ℕ) (x : List ℕ) (test : Test) (snapshot : Snapshot) (own : Data) → is_at_alt test own.calls ≡ true → timer_in n x own ≡ Some timer.Running → IsSafeIn test snapshot own own.calls
    → act test snapshot (lapsed n x own) ≡ asked (lapsed n x) (act test snapshot own)
act-lapses n x test snapshot own is runs safe = in-lapses n x test snapshot own own.calls is runs safe

first-timer : (n : ℕ) (x : List ℕ) (test : Test) (snapshot : Snapshot) (own : Data) (frame : Frame) (below : List Frame) (items : List Item) → begins_with_alt test items ≡ true
    → timer_in n x own ≡ Some timer.Running → IsSafeAt test snapshot own frame items → IfData (act_first test snapshot own frame below items) (λ d. timer_in n x d ≡ timer_in n x own)
first-timer n x test snapshot own frame below (Doing site s Whole ∷ rest) is runs safe =
    subst (λ a. IfData a (λ d. timer_in n x d ≡ timer_in n x own)) (sym (alt-is test snapshot own frame below site s rest is))
    (option-timer n x test site s rest own (chosen_at test snapshot own site s frame.values) runs safe)
first-timer n x test snapshot own frame below [] is runs safe = absurd (let no = is in cc)
first-timer n x test snapshot own frame below (Doing site s (Name k) ∷ rest) is runs safe = absurd (let no = is in cc)
first-timer n x test snapshot own frame below (Doing site s (From k) ∷ rest) is runs safe = absurd (let no = is in cc)
first-timer n x test snapshot own frame below (Doing site s Start ∷ rest) is runs safe = absurd (let no = is in cc)
first-timer n x test snapshot own frame below (Doing site s Loop ∷ rest) is runs safe = absurd (let no = is in cc)
first-timer n x test snapshot own frame below (Doing site s Last ∷ rest) is runs safe = absurd (let no = is in cc)
first-timer n x test snapshot own frame below (Mark site s ∷ rest) is runs safe = absurd (let no = is in cc)
first-timer n x test snapshot own frame below (Waiting target ∷ rest) is runs safe = absurd (let no = is in cc)

in-timer : (n : ℕ) (x : List ℕ) (test : Test) (snapshot : Snapshot) (own : Data) (calls : List Frame) → is_at_alt test calls ≡ true → timer_in n x own ≡ Some timer.Running → IsSafeIn test snapshot own calls
    → IfData (act_in test snapshot own calls) (λ d. timer_in n x d ≡ timer_in n x own)
in-timer n x test snapshot own [] is runs safe = absurd (let no = is in cc)
in-timer n x test snapshot own (frame ∷ below) is runs safe = first-timer n x test snapshot own frame below frame.remaining is runs safe

-- the timer still runs there
pub act-timer : (n : ℕ) (x : List ℕ) (test : Test) (snapshot : Snapshot) (own : Data) → is_at_alt test own.calls ≡ true → timer_in n x own ≡ Some timer.Running → IsSafeIn test snapshot own own.calls
    → IfData (act test snapshot own) (λ d. timer_in n x d ≡ timer_in n x own)
act-timer n x test snapshot own is runs safe = in-timer n x test snapshot own own.calls is runs safe

first-of-alt : (test : Test) (snapshot : Snapshot) (own : Data) (frame : Frame) (below : List Frame) (items : List Item) → begins_with_alt test items ≡ true → IsOfAlt (act_first test snapshot own frame below items)
first-of-alt test snapshot own frame below (Doing site s Whole ∷ rest) is =
    subst IsOfAlt (sym (alt-is test snapshot own frame below site s rest is)) (option-of-alt test site s rest own (chosen_at test snapshot own site s frame.values))
first-of-alt test snapshot own frame below [] is = absurd (let no = is in cc)
first-of-alt test snapshot own frame below (Doing site s (Name k) ∷ rest) is = absurd (let no = is in cc)
first-of-alt test snapshot own frame below (Doing site s (From k) ∷ rest) is = absurd (let no = is in cc)
first-of-alt test snapshot own frame below (Doing site s Start ∷ rest) is = absurd (let no = is in cc)
first-of-alt test snapshot own frame below (Doing site s Loop ∷ rest) is = absurd (let no = is in cc)
first-of-alt test snapshot own frame below (Doing site s Last ∷ rest) is = absurd (let no = is in cc)
first-of-alt test snapshot own frame below (Mark site s ∷ rest) is = absurd (let no = is in cc)
first-of-alt test snapshot own frame below (Waiting target ∷ rest) is = absurd (let no = is in cc)

in-of-alt : (test : Test) (snapshot : Snapshot) (own : Data) (calls : List Frame) → is_at_alt test calls ≡ true → IsOfAlt (act_in test snapshot own calls)
in-of-alt test snapshot own [] is = absurd (let no = is in cc)
in-of-alt test snapshot own (frame ∷ below) is = first-of-alt test snapshot own frame below frame.remaining is

-- nothing else is asked for there
pub act-of-alt : (test : Test) (snapshot : Snapshot) (own : Data) → is_at_alt test own.calls ≡ true → IsOfAlt (act test snapshot own)
act-of-alt test snapshot own is = in-of-alt test snapshot own own.calls is
