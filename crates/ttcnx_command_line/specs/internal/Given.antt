-- What clap's matches hold where `ttcnx` takes the words.
use Rattle.std.specs.Prelude.{◌≡◌, ◌⊎◌, ◌||◌, ℕ, true, List, [], None, Some, Option, IsSomeAnd, codes}
use Rattle.std.specs.Str.{bytes_eq}
use Rattle.clap.specs.Kinds.{Kinds, or_else}
use Rattle.clap.specs.Values.{IsUnsignedIn}
use Rattle.clap.specs.Walk.{Row, Text, all_of, first_of, one_of}
use Rattle.ttcn_syntax.specs.declared.tree.statement.Verdict.{Verdict}
use Rattle.ttcnx_command_line.specs.App.{most_expiries}
use Rattle.ttcnx_command_line.specs.Command.{IsFormat, IsLintFormat, IsText, aim_fault, bound_fault, bounds_expiries, explain_fault, has_value, is_about_report, is_set, verdict_word}
use Rattle.ttcnx_command_line.specs.declared.command.Format.{Format}
use Rattle.ttcnx_command_line.specs.declared.command.LintFormat.{LintFormat}

-- the argument has a text
abbrev pub GivesText : List Row → Text → Type 0
GivesText matches id = (text : Text) × (first_of id matches ≡ Some text)

-- the argument has a number from `low` to `high`
abbrev pub GivesNumber : List Row → Text → ℕ → ℕ → Type 0
GivesNumber matches id low high =
    (text : Text) × (one_of id matches ≡ Some text) × IsUnsignedIn low high text

-- the flag has a value
abbrev pub GivesFlag : List Row → Text → Type 0
GivesFlag matches id = (text : Text) × (one_of id matches ≡ Some text)
    × ((bytes_eq text (codes "true") || bytes_eq text (codes "false")) ≡ true)

-- the option `--format` names a format
abbrev pub GivesFormat : List Row → Type 0
GivesFormat matches = (format : Format) × IsFormat matches format

-- the option `--format` names a format of findings
abbrev pub GivesLintFormat : List Row → Type 0
GivesLintFormat matches = (format : LintFormat) × IsLintFormat matches format

-- the argument has texts
abbrev pub GivesTexts : List Row → Text → Type 0
GivesTexts matches id = (texts : List Text) × (all_of id matches ≡ Some texts)

-- the argument has a number from `low` to `high`, or none
abbrev pub MayGiveNumber : List Row → Text → ℕ → ℕ → Type 0
MayGiveNumber matches id low high = ((one_of id matches ≡ None) × (first_of id matches ≡ None))
    ⊎ GivesNumber matches id low high

-- the argument names a verdict, or has no value
abbrev pub MayGiveVerdict : List Row → Text → Type 0
MayGiveVerdict matches id = (first_of id matches ≡ None)
    ⊎ ((verdict : Verdict) × IsText matches id (verdict_word verdict))

-- the numbers of a plan are there
pub record GivesPlan (matches : List Row) : Type 0 where
  pub steps : MayGiveNumber matches (codes "steps") 0 100000
  pub limit : GivesNumber matches (codes "limit") 1 10000000
  pub workers : GivesNumber matches (codes "workers") 1 64
  pub piece : GivesNumber matches (codes "piece") 1 65536

-- what is wrong with the bound of a `run`
abbrev pub bound_of : List Row → Kinds
bound_of matches = bound_fault (has_value (codes "steps") matches) (is_set (codes "until-complete") matches)

-- what is wrong with its aim
abbrev pub aim_of : List Row → Kinds
aim_of matches = aim_fault (has_value (codes "run-to") matches) (has_value (codes "run-to-block") matches) (is_about_report matches)

-- what is wrong with runs that are to be explained
abbrev pub explain_of : List Row → Kinds
explain_of matches = explain_fault (is_set (codes "explain") matches) (bounds_expiries matches)

-- what is wrong with what is to be written
abbrev pub report_of : List Row → Kinds
report_of matches = or_else (aim_of matches) (explain_of matches)

-- exactly one of `--steps` and `--until-complete` is given
abbrev pub HasOneBound : List Row → Type 0
HasOneBound matches = bound_of matches ≡ []

-- the flags by which what a `run` is to write is judged have values
pub record GivesAboutReport (matches : List Row) : Type 0 where
  pub json : GivesFlag matches (codes "json")
  pub explain : GivesFlag matches (codes "explain")
  pub partial : GivesFlag matches (codes "partial")
  pub patient_timers : GivesFlag matches (codes "patient-timers")
  pub few_expiries : GivesFlag matches (codes "few-expiries")

-- all that is asked of the runs is there
pub record GivesWishes (matches : List Row) : Type 0 where
  pub until_complete : GivesFlag matches (codes "until-complete")
  pub expiries : MayGiveNumber matches (codes "expiries") 0 most_expiries
  pub patient_timers : GivesFlag matches (codes "patient-timers")
  pub few_expiries : GivesFlag matches (codes "few-expiries")
  pub partial : GivesFlag matches (codes "partial")
  pub first : MayGiveVerdict matches (codes "first")
  pub quiet : GivesFlag matches (codes "quiet")

-- all that `run` takes is there
pub record GivesRun (matches : List Row) : Type 0 where
  pub file : GivesText matches (codes "FILE")
  pub testcase : GivesText matches (codes "testcase")
  pub plan : GivesPlan matches
  pub json : GivesFlag matches (codes "json")
  pub explain : GivesFlag matches (codes "explain")
  pub wishes : GivesWishes matches

-- all that a command about a run takes is there
pub record GivesRunFile (matches : List Row) : Type 0 where
  pub file : GivesText matches (codes "FILE")
  pub testcase : GivesText matches (codes "testcase")
  pub run : GivesText matches (codes "run")

-- the name is that of a command about a module
abbrev pub IsFileName : Text → Type 0
IsFileName name = (name ≡ codes "check") ⊎ (name ≡ codes "list")

-- the name is that of a command about a run that takes nothing else
abbrev pub IsRunFileName : Text → Type 0
IsRunFileName name =
    (name ≡ codes "replay") ⊎ ((name ≡ codes "coarsen") ⊎ (name ≡ codes "double"))

-- a command about a run was given, with all that it takes
abbrev pub GivesRunCommand : Option (Text × List Row) → Type 0
GivesRunCommand given = IsSomeAnd given (λ p.
    (IsRunFileName p.0 × GivesRunFile p.1)
    ⊎ ((p.0 ≡ codes "explain") × GivesRunFile p.1 × GivesFormat p.1))

-- one of the eight subcommands was given, with all that it takes
abbrev pub GivesCommand : Option (Text × List Row) → Type 0
GivesCommand given = IsSomeAnd given (λ p.
    (IsFileName p.0 × GivesText p.1 (codes "FILE"))
    ⊎ (((p.0 ≡ codes "run") × GivesRun p.1)
    ⊎ (((p.0 ≡ codes "lint") × GivesTexts p.1 (codes "FILE") × GivesLintFormat p.1)
    ⊎ ((IsRunFileName p.0 × GivesRunFile p.1)
    ⊎ ((p.0 ≡ codes "explain") × GivesRunFile p.1 × GivesFormat p.1)))))
