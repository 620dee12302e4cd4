-- The commands of `ttcnx` with what they take, as clap's specification has a command.
use Rattle.std.specs.Prelude.{ℕ, true, List, ◌∷◌, [], Some, codes, map}
use Rattle.std.specs.Borrow.{Bor}
use Rattle.clap.specs.Lexer.{usize_max}
use Rattle.clap.specs.Walk.{Rule, Text}
use Rattle.clap.specs.Simple.{App, new_app, new_rule, on_top, with_rule, with_subcommand}
use Rattle.clap.specs.declared.builder.action.ArgAction.TheVariants.{SetTrue}
use Rattle.clap.specs.declared.builder.value_parser.ValueParser.TheVariants.{Names, Unsigned}

-- `FILE`, a word that has to be given
abbrev pub file_word : Rule
file_word = record (new_rule (codes "FILE")) { required = true }

-- `--name VALUE`, which may be given once
abbrev pub value_option : Text → Rule
value_option name = record (new_rule name) { long = Some name; value_names = 1 }

-- `--name VALUE`, which has to be given
abbrev pub needed_option : Text → Rule
needed_option name = record (value_option name) { required = true }

-- `FILE..`, one word or more
abbrev pub files_word : Rule
files_word = record file_word { range = Some (record { start_inclusive = 1; end_inclusive = usize_max }) }

-- a number from 0 to `most`, which may be left out
abbrev pub range_option : Text → ℕ → Rule
range_option name most = record (value_option name) { parser = Some (Unsigned 0 most) }

-- how many timers may be said to expire at most
abbrev pub most_expiries : ℕ
most_expiries = 4294967295

-- a number from 1 to `most`, which is `default` where it is left out
abbrev pub number_option : Text → ℕ → Text → Rule
number_option name most default =
    record (value_option name) { parser = Some (Unsigned 1 most); defaults = default ∷ [] }

-- `--name`, with no value
abbrev pub flag : Text → Rule
flag name = record (new_rule name) { long = Some name; action = Some SetTrue }

-- a value that is lent to clap. It lies at the place 0 here: what clap makes of words doesn't depend on the place
abbrev pub lent : {X : Type 0} → X → Bor X
lent x = record { ref_ptr = (0, 0); now = x }

-- words as the names that clap compares a value with
abbrev pub names_of_words : List Text → Bor (List (Bor Text))
names_of_words words = lent (map lent words)

-- the words that name a format
abbrev pub format_words : List Text
format_words = codes "text" ∷ codes "json" ∷ codes "mermaid" ∷ codes "svg" ∷ []

-- the words that name a format of findings
abbrev pub lint_words : List Text
lint_words = codes "text" ∷ codes "json" ∷ []

-- the words that name a verdict
abbrev pub verdict_words : List Text
verdict_words = codes "none" ∷ codes "pass" ∷ codes "inconc" ∷ codes "fail" ∷ codes "error" ∷ []

-- `--name VERDICT`, one of the names, which may be left out
abbrev pub verdict_option : Text → Bor (List (Bor Text)) → Rule
verdict_option name names = record (value_option name) { parser = Some (Names names) }

-- `--format`, one of the names, which is `text` where it is left out
abbrev pub format_option : Bor (List (Bor Text)) → Rule
format_option names =
    record (value_option (codes "format")) { parser = Some (Names names); defaults = codes "text" ∷ [] }

-- a command about a module: `name FILE`
abbrev pub file_app : Text → App
file_app name = with_rule (new_app name) file_word

-- `lint FILE..`, with the option `--format FORMAT`, one of the names
abbrev pub lint_app : Bor (List (Bor Text)) → App
lint_app names = with_rule (with_rule (new_app (codes "lint")) files_word) (format_option names)

-- a command about a test case: `name FILE --testcase NAME`, with the option `--script FILE`
abbrev pub testcase_app : Text → App
testcase_app name = with_rule (with_rule (with_rule (new_app name)
    file_word)
    (needed_option (codes "testcase")))
    (value_option (codes "script"))

-- `run FILE --testcase NAME` with `--steps N` or `--until-complete`, and the options of a script and a plan and the
-- flags `--json` and `--explain`
abbrev pub plan_app : App
plan_app = with_rule (with_rule (with_rule (with_rule (with_rule (with_rule (with_rule (testcase_app (codes "run"))
    (range_option (codes "steps") 100000))
    (flag (codes "until-complete")))
    (number_option (codes "limit") 10000000 (codes "1000000")))
    (number_option (codes "workers") 64 (codes "1")))
    (number_option (codes "piece") 65536 (codes "256")))
    (flag (codes "json")))
    (flag (codes "explain"))

-- and with what else is asked of the runs, where a verdict is one of the names
abbrev pub run_app : Bor (List (Bor Text)) → App
run_app names = with_rule (with_rule (with_rule (with_rule (with_rule (with_rule (with_rule (with_rule plan_app
    (range_option (codes "expiries") most_expiries))
    (flag (codes "patient-timers")))
    (flag (codes "few-expiries")))
    (flag (codes "partial")))
    (verdict_option (codes "first") names))
    (flag (codes "quiet")))
    (value_option (codes "run-to")))
    (value_option (codes "run-to-block"))

-- a command about a run of a test case: `name FILE --testcase NAME --run FILE`, with the option `--script FILE`
abbrev pub run_file_app : Text → App
run_file_app name = with_rule (testcase_app name) (needed_option (codes "run"))

-- `explain`, a command about a run with the option `--format FORMAT`, one of the names
abbrev pub explain_app : Bor (List (Bor Text)) → App
explain_app names = with_rule (run_file_app (codes "explain")) (format_option names)

-- the words begin behind the program's name, one of the commands has to be given, and there is a version to show
abbrev pub bare_app : App
bare_app = on_top (λ s. record s { has_version = true; no_binary_name = true; subcommand_required = true })
    (new_app (codes "ttcnx"))

-- the lists of names with which the values of three options are compared
pub record Lists : Type 0 where
  pub formats : Bor (List (Bor Text))
  pub lint_formats : Bor (List (Bor Text))
  pub verdicts : Bor (List (Bor Text))

-- `ttcnx` with its eight commands, where a format or a verdict is one of the names
abbrev pub app_with : Lists → App
app_with lists = with_subcommand (with_subcommand (with_subcommand (with_subcommand (with_subcommand
    (with_subcommand (with_subcommand (with_subcommand bare_app
    (file_app (codes "check")).top)
    (run_app lists.verdicts).top)
    (run_file_app (codes "replay")).top)
    (run_file_app (codes "coarsen")).top)
    (run_file_app (codes "double")).top)
    (explain_app lists.formats).top)
    (lint_app lists.lint_formats).top)
    (file_app (codes "list")).top

-- the lists of these words
abbrev pub lists_of : List Text → List Text → List Text → Lists
lists_of formats lint_formats verdicts = record {
  formats = names_of_words formats;
  lint_formats = names_of_words lint_formats;
  verdicts = names_of_words verdicts;
}

-- `ttcnx` with its eight commands, four formats of a run, two of findings and five verdicts
abbrev pub ttcnx_app : App
ttcnx_app = app_with (lists_of format_words lint_words verdict_words)
