-- What a command line asks for, and why it is refused.
use Rattle.std.specs.Prelude.{◌≡◌, ◌⊎◌, ◌||◌, ℕ, Bool, true, false, List, [], ◌∷◌, Option, None, Some, codes, is_some}
use Rattle.std.specs.Prelude.{if◌then◌else◌, map, option_map, string_bytes}
use Rattle.std.specs.Option.{option_map_or}
use Rattle.std.specs.Str.{bytes_eq}
use Rattle.std.specs.Str.Parse.{digits_value, without_leading_plus}
use Rattle.clap.specs.Walk.{Row, Text, all_of, first_of, one_of}
use Rattle.clap.specs.Values.{bool_text}
use Rattle.clap.specs.Kinds.{IsAmong, Kinds, or_else}
use Rattle.clap.specs.Faults.{fault_of}
use Rattle.clap.specs.Simple.{subcommand_of}
use Rattle.clap.specs.declared.error.kind.ErrorKind.{ErrorKind}
use Rattle.clap.specs.declared.error.kind.ErrorKind.TheVariants.{ArgumentConflict, DisplayHelp, DisplayVersion}
use Rattle.clap.specs.declared.error.kind.ErrorKind.TheVariants.{MissingRequiredArgument}
use Rattle.search_layer.specs.Limits.{IsWithinLimits}
use Rattle.search_layer.specs.declared.plan.Plan.{Plan}
use Rattle.ttcn_syntax.specs.declared.tree.statement.Verdict.{Verdict}
use Rattle.ttcn_syntax.specs.declared.tree.statement.Verdict.TheVariants as verdict
use Rattle.ttcnx_command_line.specs.App.{ttcnx_app}
use Rattle.ttcnx_command_line.specs.declared.command.Format.{Format}
use Rattle.ttcnx_command_line.specs.declared.command.Format.TheVariants as format
use Rattle.ttcnx_command_line.specs.declared.command.LintFormat.{LintFormat}
use Rattle.ttcnx_command_line.specs.declared.command.LintFormat.TheVariants as lint_format
use Rattle.ttcnx_command_line.specs.declared.command.Line.{Line}
use Rattle.ttcnx_command_line.specs.declared.command.Line.TheVariants.{Check, Run, Replay, Coarsen, Double, Explain, Lint}
use Rattle.ttcnx_command_line.specs.declared.command.Line.TheVariants as line
use Rattle.ttcnx_command_line.specs.declared.command.Wishes.{Wishes}
use Rattle.ttcnx_command_line.specs.declared.command.LineError.{LineError}
use Rattle.ttcnx_command_line.specs.declared.command.LineError.TheVariants.{Help, Bad, Memory}

-- how far a command explores is within the limits
abbrev pub StaysWithinLimits : Line → Type 0
StaysWithinLimits (Check file) = Unit {0}
StaysWithinLimits (Run file testcase script plan json explain wishes) = IsWithinLimits plan
StaysWithinLimits (Replay file testcase script run) = Unit {0}
StaysWithinLimits (Coarsen file testcase script run) = Unit {0}
StaysWithinLimits (Double file testcase script run) = Unit {0}
StaysWithinLimits (Explain file testcase script run format) = Unit {0}
StaysWithinLimits (Lint files format) = Unit {0}
StaysWithinLimits (line.List file) = Unit {0}

-- the subcommand that asks for this line
abbrev pub subcommand_for : Line → Text
subcommand_for (Check file) = codes "check"
subcommand_for (Run file testcase script plan json explain wishes) = codes "run"
subcommand_for (Replay file testcase script run) = codes "replay"
subcommand_for (Coarsen file testcase script run) = codes "coarsen"
subcommand_for (Double file testcase script run) = codes "double"
subcommand_for (Explain file testcase script run format) = codes "explain"
subcommand_for (Lint files format) = codes "lint"
subcommand_for (line.List file) = codes "list"

-- the word that names a format
abbrev pub format_word : Format → Text
format_word format.Text = codes "text"
format_word format.Json = codes "json"
format_word format.Mermaid = codes "mermaid"
format_word format.Svg = codes "svg"

-- the word that names a format of findings
abbrev pub lint_format_word : LintFormat → Text
lint_format_word lint_format.Text = codes "text"
lint_format_word lint_format.Json = codes "json"

-- the word that names a verdict
abbrev pub verdict_word : Verdict → Text
verdict_word verdict.None = codes "none"
verdict_word verdict.Pass = codes "pass"
verdict_word verdict.Inconc = codes "inconc"
verdict_word verdict.Fail = codes "fail"
verdict_word verdict.Error = codes "error"

-- `text` is the value that the matches have for the argument `id`
abbrev pub IsText : List Row → Text → Text → Type 0
IsText matches id text = first_of id matches ≡ Some text

-- `text` is the value that the matches have for the argument `id`, where they have one, and else it is none
abbrev pub IsTextIfGiven : List Row → Text → Option Text → Type 0
IsTextIfGiven matches id text = first_of id matches ≡ text

-- the texts are the values that the matches have for the argument `id`
abbrev pub AreTexts : List Row → Text → List Text → Type 0
AreTexts matches id texts = all_of id matches ≡ Some texts

-- `n` is the number that the value of the argument `id` writes in decimal digits
abbrev pub IsNumber : List Row → Text → ℕ → Type 0
IsNumber matches id n =
    option_map (λ text. digits_value 10 (without_leading_plus text)) (one_of id matches) ≡ Some n

-- `n` is the number that the value of the argument `id` writes, where the matches have one, and else it is none
abbrev pub IsNumberIfGiven : List Row → Text → Option ℕ → Type 0
IsNumberIfGiven matches id n =
    option_map (λ text. digits_value 10 (without_leading_plus text)) (one_of id matches) ≡ n

-- the value of the flag `id` is `true` or `false`, as `is_set` says
abbrev pub IsFlag : List Row → Text → Bool → Type 0
IsFlag matches id is_set = one_of id matches ≡ Some (bool_text is_set)

-- the value of the option `--format` names the format
abbrev pub IsFormat : List Row → Format → Type 0
IsFormat matches format = IsText matches (codes "format") (format_word format)

-- the value of the option `--format` names the format of findings
abbrev pub IsLintFormat : List Row → LintFormat → Type 0
IsLintFormat matches format = IsText matches (codes "format") (lint_format_word format)

-- the value of the argument `id` names the verdict, where the matches have one, and else there is none
abbrev pub IsVerdictIfGiven : List Row → Text → Option Verdict → Type 0
IsVerdictIfGiven matches id verdict = IsTextIfGiven matches id (option_map verdict_word verdict)

-- the flag `id` is set
abbrev pub is_set : Text → List Row → Bool
is_set id matches = option_map_or (λ text. bytes_eq text (codes "true")) (one_of id matches) false

-- how many steps a run has that goes on until its report is complete
abbrev pub most_steps : ℕ
most_steps = 100000

-- `n` is the value of `--steps`, or the most steps where there is `--until-complete`
abbrev pub AreStepsIf : Bool → List Row → ℕ → Type 0
AreStepsIf true matches n = (first_of (codes "steps") matches ≡ None) × (n ≡ most_steps)
AreStepsIf false matches n = IsNumber matches (codes "steps") n

abbrev pub AreSteps : List Row → ℕ → Type 0
AreSteps matches n = AreStepsIf (is_set (codes "until-complete") matches) matches n

-- each number of the plan is the value of the option of its name
pub record HasNumbers (matches : List Row) (plan : Plan) : Type 0 where
  pub steps : AreSteps matches plan.steps
  pub limit : IsNumber matches (codes "limit") plan.limit
  pub workers : IsNumber matches (codes "workers") plan.workers
  pub piece : IsNumber matches (codes "piece") plan.piece

-- what else is asked of the runs is what the options say
pub record HasWishes (matches : List Row) (wishes : Wishes) : Type 0 where
  pub until_complete : IsFlag matches (codes "until-complete") wishes.until_complete
  pub expiries : IsNumberIfGiven matches (codes "expiries") wishes.expiries
  pub patient_timers : IsFlag matches (codes "patient-timers") wishes.patient_timers
  pub few_expiries : IsFlag matches (codes "few-expiries") wishes.few_expiries
  pub partial : IsFlag matches (codes "partial") wishes.partial
  pub first : IsVerdictIfGiven matches (codes "first") wishes.first
  pub quiet : IsFlag matches (codes "quiet") wishes.quiet
  pub run_to : IsTextIfGiven matches (codes "run-to") (option_map string_bytes wishes.run_to)
  pub run_to_block : IsTextIfGiven matches (codes "run-to-block") (option_map string_bytes wishes.run_to_block)

-- the values of a command about a run: the file of the module, the test case, the file of the script where one
-- is given, and the file of the run
abbrev pub HasRunFile : List Row → Text → Text → Option Text → Text → Type 0
HasRunFile matches file testcase script run = IsText matches (codes "FILE") file
    × IsText matches (codes "testcase") testcase
    × IsTextIfGiven matches (codes "script") script
    × IsText matches (codes "run") run

-- each part of the line is the value that the subcommand's matches have for the argument of its name
abbrev pub HasValues : List Row → Line → Type 0
HasValues matches (Check file) = IsText matches (codes "FILE") (string_bytes file)
HasValues matches (Run file testcase script plan json explain wishes) = IsText matches (codes "FILE") (string_bytes file)
    × IsText matches (codes "testcase") (string_bytes testcase)
    × IsTextIfGiven matches (codes "script") (option_map string_bytes script)
    × HasNumbers matches plan
    × IsFlag matches (codes "json") json
    × IsFlag matches (codes "explain") explain
    × HasWishes matches wishes
HasValues matches (Replay file testcase script run) = HasRunFile matches
    (string_bytes file) (string_bytes testcase) (option_map string_bytes script) (string_bytes run)
HasValues matches (Coarsen file testcase script run) = HasRunFile matches
    (string_bytes file) (string_bytes testcase) (option_map string_bytes script) (string_bytes run)
HasValues matches (Double file testcase script run) = HasRunFile matches
    (string_bytes file) (string_bytes testcase) (option_map string_bytes script) (string_bytes run)
HasValues matches (Explain file testcase script run format) = HasRunFile matches
    (string_bytes file) (string_bytes testcase) (option_map string_bytes script) (string_bytes run)
    × IsFormat matches format
HasValues matches (Lint files format) = AreTexts matches (codes "FILE") (map string_bytes files.items)
    × IsLintFormat matches format
HasValues matches (line.List file) = IsText matches (codes "FILE") (string_bytes file)

-- the faults of a `run` whose `--steps` and `--until-complete` are given or not: exactly one of them must be
abbrev pub bound_fault : Bool → Bool → Kinds
bound_fault true true = ArgumentConflict ∷ []
bound_fault true false = []
bound_fault false true = []
bound_fault false false = MissingRequiredArgument ∷ []

-- the argument has a value
abbrev pub has_value : Text → List Row → Bool
has_value id matches = is_some (first_of id matches)

-- some option bounds the expiries of timers in the runs of the report
abbrev pub bounds_expiries : List Row → Bool
bounds_expiries matches = has_value (codes "expiries") matches || is_set (codes "patient-timers") matches

-- some option says how the report is told, which one it is, or on which runs
abbrev pub is_about_telling : List Row → Bool
is_about_telling matches = is_set (codes "json") matches || is_set (codes "explain") matches || is_set (codes "partial") matches
    || has_value (codes "first") matches || bounds_expiries matches

-- some option is about the report: it says so, or which runs to its verdicts are told
abbrev pub is_about_report : List Row → Bool
is_about_report matches = is_set (codes "few-expiries") matches || is_about_telling matches

-- the faults of a `run` whose `--run-to` and `--run-to-block` are given or not, and whose options are about the report or not:
-- a run is wanted in place of the report, and one run
abbrev pub aim_fault : Bool → Bool → Bool → Kinds
aim_fault true true about_report = ArgumentConflict ∷ []
aim_fault true false true = ArgumentConflict ∷ []
aim_fault true false false = []
aim_fault false true true = ArgumentConflict ∷ []
aim_fault false true false = []
aim_fault false false about_report = []

-- the faults of a `run` whose `--explain` is given or not, and whose options bound expiries or not: all runs are explained
abbrev pub explain_fault : Bool → Bool → Kinds
explain_fault true true = ArgumentConflict ∷ []
explain_fault true false = []
explain_fault false bounded = []

-- the faults of a `run` that clap doesn't find: those of its bound, where there are none those of its aim, and where there are
-- none of these either that runs are explained whose expiries are bounded
abbrev pub fault_of_run : List Row → Kinds
fault_of_run matches = or_else (bound_fault (has_value (codes "steps") matches) (is_set (codes "until-complete") matches))
    (or_else (aim_fault (has_value (codes "run-to") matches) (has_value (codes "run-to-block") matches) (is_about_report matches))
    (explain_fault (is_set (codes "explain") matches) (bounds_expiries matches)))

-- the same, of the subcommand that is given with its matches: any other one has no such fault
abbrev pub run_fault : Option (Text × List Row) → Kinds
run_fault None = []
run_fault (Some p) = if bytes_eq p.0 (codes "run") then fault_of_run p.1 else []

-- the faults of the words: those that clap finds, and where there are none those of a `run`
abbrev pub faults_of : List Text → Kinds
faults_of words = or_else (fault_of ttcnx_app words) (run_fault (subcommand_of ttcnx_app words))

-- help or the version is asked for
abbrev pub IsRequest : ErrorKind → Type 0
IsRequest kind = (kind ≡ DisplayHelp) ⊎ (kind ≡ DisplayVersion)

-- the error fits the faults of the words: help or the version is given where a request is one of them, words are
-- refused where another is, and memory may run out at any words
abbrev pub IsExplained : Kinds → LineError → Type 0
IsExplained faults (Help text) = (kind : ErrorKind) × IsAmong kind faults × IsRequest kind
IsExplained faults (Bad text) = (kind : ErrorKind) × IsAmong kind faults × (IsRequest kind → ⊥)
IsExplained faults (Memory error) = Unit {0}

-- memory ran out
abbrev pub IsMemory : LineError → Type 0
IsMemory (Help text) = ⊥
IsMemory (Bad text) = ⊥
IsMemory (Memory error) = Unit {0}
