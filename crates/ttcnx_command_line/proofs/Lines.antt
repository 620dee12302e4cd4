-- From clap's answer to the command line.
use Rattle.std.proofs.Common.{◌≡◌, ◌∙◌, ◌⊎◌, ◌||◌, Bool, cond, inl, inr, true, false, refl, sym, ap, ap₂, subst, is_some, List, [], ◌∷◌, Option, None, Some, option_map}
use Rattle.std.specs.Borrow.{Bor}
use Rattle.std.specs.Str.{bytes_eq}
use Rattle.std.proofs.lemmas.Slice.Eq.{bytes_eq-Decides}
use Rattle.std.specs.Prelude.{Box, IsSomeAnd, codes}
use Rattle.std.specs.Box.{box_value}
use Rattle.std.proofs.lemmas.Option.{same_Some}
use Rattle.clap.specs.Kinds.{HasKind, IsAmong, Kinds, or_else}
use Rattle.clap.specs.Takes.{takes}
use Rattle.clap.specs.Matches.{first_value, subcommand_name_of}
use Rattle.clap.specs.Walk.{Row, Text, rows_of}
use Rattle.clap.specs.Simple.{App, HasMatchesOf, is_simple, subcommand_of, subcommand_rows, subcommand_rows_of}
use Rattle.clap.specs.Faults.{fault_of, is_simple_and_free}
use Rattle.clap.specs.declared.error.kind.ErrorKind.{ErrorKind}
use Rattle.clap.specs.declared.error.kind.ErrorKind.TheVariants.{ArgumentConflict, MissingRequiredArgument, OutOfMemory}
use Rattle.clap.specs.declared.parser.matches.Found.{Found}
use Rattle.clap.specs.declared.parser.matches.ArgMatches.{ArgMatches}
use Rattle.clap.specs.declared.parser.matches.ArgMatches.TheViews.{out-ArgMatches, out-SubCommand}
use Rattle.clap.specs.declared.parser.matches.SubCommand.{SubCommand}
use Rattle.ttcnx_command_line.specs.App.{ttcnx_app}
use Rattle.ttcnx_command_line.specs.Command.{HasValues, IsExplained, IsFlag, IsMemory, IsRequest, aim_fault, bound_fault, bounds_expiries, explain_fault, fault_of_run, has_value, is_about_report, is_about_telling, run_fault}
use Rattle.clap.specs.declared.error.Error.{Error}
use Rattle.ttcnx_command_line.specs.declared.command.Line.{Line}
use Rattle.ttcnx_command_line.specs.declared.command.LineError.{LineError}
use Rattle.ttcnx_command_line.specs.declared.command.LineError.TheVariants.{Help, Bad, Memory}
use Rattle.ttcnx_command_line.specs.internal.Answer.{HasRefusal, IsAnswer, IsBoundError}
use Rattle.ttcnx_command_line.specs.internal.Given.{GivesCommand, GivesRun, aim_of, bound_of, explain_of}
use Rattle.ttcnx_command_line.proofs.Complete.{all-given}
use Rattle.ttcnx_command_line.proofs.Getters.{flag-set, text-given}
use Rattle.ttcnx_command_line.proofs.PlacesApps.{IsTtcnx, same-faults, same-subcommand, same-takes}

-- ---- matches

simple : (a : App) → IsTtcnx a → is_simple a ≡ true
simple a is = ap is_simple is.2

pub simple-and-free : (a : App) → IsTtcnx a → is_simple_and_free a ≡ true
simple-and-free a is = ap is_simple_and_free is.2

pub same-matches : (a : App) (words : List Text) (m : ArgMatches) → IsTtcnx a → HasMatchesOf a words m → subcommand_rows_of m ≡ subcommand_of ttcnx_app words
same-matches a words m is has = (has (simple a is)).1 ∙ sym (same-subcommand a words is)

pub matches-given : (a : App) (words : List Text) (m : ArgMatches) → IsTtcnx a → HasMatchesOf a words m → fault_of ttcnx_app words ≡ [] → GivesCommand (subcommand_rows_of m)
matches-given a words m is has free = subst GivesCommand (sym (same-matches a words m is has)) (all-given words free)

-- ---- errors

-- a want of memory is no request
no-request : (k : ErrorKind) → k ≡ OutOfMemory → IsRequest k → ⊥
no-request k memory (inl help) = cc
no-request k memory (inr version) = cc

pub explained : (faults : Kinds) (k : ErrorKind) (e : LineError) → (k ≡ OutOfMemory) ⊎ IsAmong k faults → IsAnswer k e → IsExplained faults e
explained faults k (Help text) (inl memory) answer = absurd (no-request k memory answer)
explained faults k (Help text) (inr among) answer = (k, among, answer)
explained faults k (Bad text) (inl memory) answer = absurd (answer.1 memory)
explained faults k (Bad text) (inr among) answer = (k, among, answer.0)
explained faults k (Memory error) has answer = tt

pub only-memory : (k : ErrorKind) (e : LineError) → k ≡ OutOfMemory → IsAnswer k e → IsMemory e
only-memory k (Help text) memory answer = no-request k memory answer
only-memory k (Bad text) memory answer = absurd (answer.1 memory)
only-memory k (Memory error) memory answer = tt

-- clap's clauses, at the app that the command stands for
pub no-fault : (a : App) (words : List Text) → IsTtcnx a → (is_simple_and_free a ≡ true → fault_of a words ≡ []) → fault_of ttcnx_app words ≡ []
no-fault a words is h = same-faults a words is ∙ h (simple-and-free a is)

pub has-fault : (a : App) (words : List Text) (e : Error) → IsTtcnx a → (is_simple_and_free a ≡ true → HasKind (fault_of a words) e) → HasKind (fault_of ttcnx_app words) e
has-fault a words e is h = subst (λ faults. HasKind faults e) (sym (same-faults a words is)) (h (simple-and-free a is))

pub takes-here : (a : App) (words : List Text) (k : ErrorKind) → IsTtcnx a → (takes a words ≡ true → k ≡ OutOfMemory) → takes ttcnx_app words ≡ true → k ≡ OutOfMemory
takes-here a words k is h t = h (sym (same-takes a words is) ∙ t)

pub same-values : (here there : Option (Text × List Row)) (line : Line) → here ≡ there → IsSomeAnd here (λ p. HasValues p.1 line) → IsSomeAnd there (λ p. HasValues p.1 line)
same-values here there line is h = subst (λ o. IsSomeAnd o (λ p. HasValues p.1 line)) is h

pub same-name : (here there : Option (Text × List Row)) (name : Text) → here ≡ there → option_map (λ p. p.0) here ≡ Some name → option_map (λ p. p.0) there ≡ Some name
same-name here there name is h = subst (λ o. option_map (λ p. p.0) o ≡ Some name) is h

-- ---- commands

-- the name of the subcommand that was met stands with its rows
name-of-box : {Z : Type 0} (o : Option (Box SubCommand Z)) (name : Text) → option_map (λ b. (out-SubCommand (box_value b)).name.now) o ≡ Some name
    → option_map (λ p. p.0) (subcommand_rows o) ≡ Some name
name-of-box None name e = cc
name-of-box (Some b) name e = e

pub subcommand-named : (m : ArgMatches) (name : Text) → subcommand_name_of m ≡ Some name → option_map (λ p. p.0) (subcommand_rows_of m) ≡ Some name
subcommand-named m name is = name-of-box (out-ArgMatches m).subcommand name is

-- where `run` was given, all that it takes is there
pub run-gives : (given : Option (Text × List Row)) (rows : List Row) → GivesCommand given → option_map (λ p. p.0) given ≡ Some (codes "run") → option_map (λ p. p.1) given ≡ Some rows → GivesRun rows
run-gives None rows gives named is = absurd gives
run-gives (Some p) rows gives named is = subst GivesRun (same_Some p.1 rows is) (of-run (same_Some p.0 (codes "run") named) gives)
  where
    of-run : p.0 ≡ codes "run" → GivesCommand (Some p) → GivesRun p.1
    of-run name (inl (inl check, file)) = absurd (let no = sym name ∙ check in cc)
    of-run name (inl (inr listing, file)) = absurd (let no = sym name ∙ listing in cc)
    of-run name (inr (inl run)) = run.1
    of-run name (inr (inr (inl lint))) = absurd (let no = sym name ∙ lint.0 in cc)
    of-run name (inr (inr (inr (inl (inl replay, file))))) = absurd (let no = sym name ∙ replay in cc)
    of-run name (inr (inr (inr (inl (inr (inl coarsen), file))))) = absurd (let no = sym name ∙ coarsen in cc)
    of-run name (inr (inr (inr (inl (inr (inr double), file))))) = absurd (let no = sym name ∙ double in cc)
    of-run name (inr (inr (inr (inr explain)))) = absurd (let no = sym name ∙ explain.0 in cc)

-- ---- the bound of a `run`

run-name : (name : Text) → name ≡ codes "run" → bytes_eq name (codes "run") ≡ true
run-name name is = (bytes_eq-Decides name (codes "run")).1 is

-- where `run` was given, its faults are those of its bound and of its aim
pub run-fault : (given : Option (Text × List Row)) (rows : List Row) → option_map (λ p. p.0) given ≡ Some (codes "run") → option_map (λ p. p.1) given ≡ Some rows
    → run_fault given ≡ fault_of_run rows
run-fault None rows named is = cc
run-fault (Some p) rows named is =
    ap (λ b. cond b (fault_of_run p.1) []) (run-name p.0 (same_Some p.0 (codes "run") named)) ∙ ap fault_of_run (same_Some p.1 rows is)

-- ---- the faults of clap, and those of the bound behind them

pub no-faults : (a b : Kinds) → a ≡ [] → b ≡ [] → or_else a b ≡ []
no-faults a b none nothing = ap (λ faults. or_else faults b) none ∙ nothing

among-first : (k : ErrorKind) (a b : Kinds) → IsAmong k a → IsAmong k (or_else a b)
among-first k [] b among = absurd among
among-first k (x ∷ xs) b among = among

pub kind-first : (k : ErrorKind) (a b : Kinds) → (k ≡ OutOfMemory) ⊎ IsAmong k a → (k ≡ OutOfMemory) ⊎ IsAmong k (or_else a b)
kind-first k a b (inl memory) = inl memory
kind-first k a b (inr among) = inr (among-first k a b among)

pub first-refused : (a b : Kinds) → HasRefusal a → HasRefusal (or_else a b)
first-refused a b refusal = (refusal.0, among-first refusal.0 a b refusal.1, refusal.2)

pub bound-refused : (a b : Kinds) → a ≡ [] → HasRefusal b → HasRefusal (or_else a b)
bound-refused a b none refusal = subst (λ faults. HasRefusal (or_else faults b)) (sym none) refusal

not-refused : (b : Kinds) → HasRefusal b → b ≡ [] → ⊥
not-refused b refusal none = (subst HasRefusal none refusal).1

pub bound-explained : (a b : Kinds) (e : LineError) → a ≡ [] → IsBoundError b e → IsExplained (or_else a b) e
bound-explained a b (Help text) none is = absurd is
bound-explained a b (Bad text) none is = bound-refused a b none is
bound-explained a b (Memory error) none is = tt

pub bound-memory : (b : Kinds) (e : LineError) → b ≡ [] → IsBoundError b e → IsMemory e
bound-memory b (Help text) none is = is
bound-memory b (Bad text) none is = not-refused b is none
bound-memory b (Memory error) none is = tt

pub same-bound-error : (here there : Option (Text × List Row)) (e : LineError) → here ≡ there → IsBoundError (run_fault here) e → IsBoundError (run_fault there) e
same-bound-error here there e is h = subst (λ o. IsBoundError (run_fault o) e) is h

pub values-there : (given : Option (Text × List Row)) (rows : List Row) (line : Line) → option_map (λ p. p.1) given ≡ Some rows → HasValues rows line
    → IsSomeAnd given (λ p. HasValues p.1 line)
values-there None rows line is h = cc
values-there (Some p) rows line is h = subst (λ r. HasValues r line) (sym (same_Some p.1 rows is)) h

-- ---- the bound of a `run`, by its tests

no-conflict-request : IsRequest ArgumentConflict → ⊥
no-conflict-request (inl help) = cc
no-conflict-request (inr version) = cc

no-missing-request : IsRequest MissingRequiredArgument → ⊥
no-missing-request (inl help) = cc
no-missing-request (inr version) = cc

pub two-refused : HasRefusal (bound_fault true true)
two-refused = (ArgumentConflict, inl refl, no-conflict-request)

pub none-refused : HasRefusal (bound_fault false false)
none-refused = (MissingRequiredArgument, inl refl, no-missing-request)

pub bound-is : (f : Found) (o : Option (Bor Text)) (has until : Bool) → option_map (λ s. s.now) o ≡ first_value f (codes "steps") → has ≡ is_some o
    → IsFlag (rows_of f) (codes "until-complete") until → bound_of (rows_of f) ≡ bound_fault has until
bound-is f o has until got same flag =
    ap₂ bound_fault (sym (text-given f (codes "steps") o got) ∙ sym same) (flag-set (rows_of f) (codes "until-complete") until flag)

-- ---- the aim of a `run`, by its tests

pub aim-refused : (to_place to_block about : Bool) → aim_fault to_place to_block about ≡ ArgumentConflict ∷ [] → HasRefusal (aim_fault to_place to_block about)
aim-refused to_place to_block about is = subst HasRefusal (sym is) (ArgumentConflict, inl refl, no-conflict-request)

pub value-is : (f : Found) (id : Text) (o : Option (Bor Text)) (has : Bool) → option_map (λ s. s.now) o ≡ first_value f id → has ≡ is_some o → has_value id (rows_of f) ≡ has
value-is f id o has got same = sym (text-given f id o got) ∙ sym same

pub about-is : (f : Found) (json explain partial first expiries : Bool) → IsFlag (rows_of f) (codes "json") json → IsFlag (rows_of f) (codes "explain") explain
    → IsFlag (rows_of f) (codes "partial") partial → has_value (codes "first") (rows_of f) ≡ first → bounds_expiries (rows_of f) ≡ expiries
    → is_about_telling (rows_of f) ≡ (json || explain || partial || first || expiries)
about-is f json explain partial first expiries is_json is_explain is_partial is_first is_expiries =
    ap₂ (λ a b. a || b) (ap₂ (λ a b. a || b) (ap₂ (λ a b. a || b) (ap₂ (λ a b. a || b) (flag-set (rows_of f) (codes "json") json is_json) (flag-set (rows_of f) (codes "explain") explain is_explain))
    (flag-set (rows_of f) (codes "partial") partial is_partial)) is_first) is_expiries

-- an option that bounds expiries, by its tests
pub expiries-is : (f : Found) (expiries patient : Bool) → has_value (codes "expiries") (rows_of f) ≡ expiries → IsFlag (rows_of f) (codes "patient-timers") patient
    → bounds_expiries (rows_of f) ≡ (expiries || patient)
expiries-is f expiries patient is_expiries is_patient = ap₂ (λ a b. a || b) is_expiries (flag-set (rows_of f) (codes "patient-timers") patient is_patient)

pub aim-is : (matches : List Row) (to_place to_block about : Bool) → has_value (codes "run-to") matches ≡ to_place → has_value (codes "run-to-block") matches ≡ to_block
    → is_about_report matches ≡ about → aim_of matches ≡ aim_fault to_place to_block about
aim-is matches to_place to_block about place block is =
    ap₂ (λ a b. aim_fault a b (is_about_report matches)) place block ∙ ap (aim_fault to_place to_block) is

pub place-conflict : (to_block : Bool) → aim_fault true to_block true ≡ ArgumentConflict ∷ []
place-conflict true = refl
place-conflict false = refl

pub fourth-of-five : (a b c d e : Bool) → a ≡ false → b ≡ false → c ≡ false → d ≡ true → (a || b || c || d || e) ≡ true
fourth-of-five a b c d e p q r s = ap (λ x. x || e) (ap₂ (λ x y. x || y) (ap₂ (λ x y. x || y) (ap₂ (λ x y. x || y) p q) r) s)

pub last-of-five : (a b c d e : Bool) → a ≡ false → b ≡ false → c ≡ false → d ≡ false → (a || b || c || d || e) ≡ e
last-of-five a b c d e p q r s = ap (λ x. x || e) (ap₂ (λ x y. x || y) (ap₂ (λ x y. x || y) (ap₂ (λ x y. x || y) p q) r) s)

-- runs that are to be explained, by their tests
pub explain-is : (f : Found) (explain bounded : Bool) → IsFlag (rows_of f) (codes "explain") explain → bounds_expiries (rows_of f) ≡ bounded
    → explain_of (rows_of f) ≡ explain_fault explain bounded
explain-is f explain bounded is_explain is_bounded = ap₂ explain_fault (flag-set (rows_of f) (codes "explain") explain is_explain) is_bounded

pub explain-refused : (explain bounded : Bool) → explain ≡ true → bounded ≡ true → HasRefusal (explain_fault explain bounded)
explain-refused explain bounded is_explain is_bounded = subst HasRefusal (sym (ap₂ explain_fault is_explain is_bounded)) (ArgumentConflict, inl refl, no-conflict-request)
