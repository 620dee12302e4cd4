-- What `ttcnx_app` makes of words that are written out.
use Rattle.std.proofs.Common.{◌≡◌, refl, true, List, [], ◌∷◌, None, Some, Option, option_map, codes}
use Rattle.clap.specs.Walk.{Row, Text, all_of, first_of, one_of}
use Rattle.clap.specs.Simple.{subcommand_of}
use Rattle.clap.specs.Faults.{fault_of}
use Rattle.clap.specs.Takes.{takes}
use Rattle.clap.specs.declared.error.kind.ErrorKind.TheVariants.{ArgumentConflict, DisplayHelp, DisplayVersion, InvalidSubcommand, InvalidValue, MissingRequiredArgument, MissingSubcommand, UnknownArgument, ValueValidation}
use Rattle.clap.proofs.OnLiterals.{clap_on_literals}
use Rattle.ttcnx_command_line.specs.App.{ttcnx_app}
use Rattle.ttcnx_command_line.specs.Command.{faults_of}

abbrev run_words : List Text → List Text
run_words more = codes "run" ∷ codes "x1.ttcn" ∷ codes "--testcase" ∷ codes "TC" ∷ more

abbrev value_in : Text → Option (Text × List Row) → Option (Option Text)
value_in id = option_map (λ p. one_of id p.1)

check-is-taken : (takes ttcnx_app (codes "check" ∷ codes "x1.ttcn" ∷ []) ≡ true) × (fault_of ttcnx_app (codes "check" ∷ codes "x1.ttcn" ∷ []) ≡ [])
unfolding clap_on_literals
check-is-taken = (refl, refl)

run-is-taken : (takes ttcnx_app (run_words (codes "--steps=8" ∷ codes "--json" ∷ [])) ≡ true) × (fault_of ttcnx_app (run_words (codes "--steps=8" ∷ codes "--json" ∷ [])) ≡ [])
unfolding clap_on_literals
run-is-taken = (refl, refl)

options-and-defaults : (value_in (codes "steps") (subcommand_of ttcnx_app (run_words (codes "--steps=8" ∷ []))) ≡ Some (Some (codes "8")))
    × (value_in (codes "limit") (subcommand_of ttcnx_app (run_words (codes "--steps=8" ∷ []))) ≡ Some (Some (codes "1000000")))
    × (value_in (codes "workers") (subcommand_of ttcnx_app (run_words (codes "--steps=8" ∷ []))) ≡ Some (Some (codes "1")))
    × (value_in (codes "piece") (subcommand_of ttcnx_app (run_words (codes "--steps=8" ∷ []))) ≡ Some (Some (codes "256")))
    × (value_in (codes "json") (subcommand_of ttcnx_app (run_words (codes "--steps=8" ∷ []))) ≡ Some (Some (codes "false")))
unfolding clap_on_literals
options-and-defaults = (refl, refl, refl, refl, refl)

abbrev script_in : Text → List Text → Option (Option Text)
script_in name more = option_map (λ p. first_of (codes "script") p.1)
    (subcommand_of ttcnx_app (name ∷ codes "x1.ttcn" ∷ codes "--testcase" ∷ codes "TC" ∷ more))

a-script-is-read : (script_in (codes "run") (codes "--steps=8" ∷ codes "--script=s.json" ∷ []) ≡ Some (Some (codes "s.json")))
    × (script_in (codes "replay") (codes "--script" ∷ codes "s.json" ∷ codes "--run=r.txt" ∷ []) ≡ Some (Some (codes "s.json")))
    × (script_in (codes "coarsen") (codes "--run=r.txt" ∷ codes "--script" ∷ codes "s.json" ∷ []) ≡ Some (Some (codes "s.json")))
    × (script_in (codes "double") (codes "--run=r.txt" ∷ codes "--script=s.json" ∷ []) ≡ Some (Some (codes "s.json")))
unfolding clap_on_literals
a-script-is-read = (refl, refl, refl, refl)

a-script-may-be-left-out : (script_in (codes "run") (codes "--steps=8" ∷ []) ≡ Some None) × (script_in (codes "double") (codes "--run=r.txt" ∷ []) ≡ Some None)
unfolding clap_on_literals
a-script-may-be-left-out = (refl, refl)

abbrev run_file_in : Text → Option (Option Text)
run_file_in name = option_map (λ p. first_of (codes "run") p.1)
    (subcommand_of ttcnx_app (name ∷ codes "x1.ttcn" ∷ codes "--run" ∷ codes "r.txt" ∷ codes "--testcase" ∷ codes "TC" ∷ []))

a-run-file-is-read : (run_file_in (codes "replay") ≡ Some (Some (codes "r.txt"))) × (run_file_in (codes "coarsen") ≡ Some (Some (codes "r.txt")))
    × (run_file_in (codes "double") ≡ Some (Some (codes "r.txt")))
unfolding clap_on_literals
a-run-file-is-read = (refl, refl, refl)

a-run-file-is-needed : fault_of ttcnx_app (codes "coarsen" ∷ codes "x1.ttcn" ∷ codes "--testcase" ∷ codes "TC" ∷ []) ≡ MissingRequiredArgument ∷ []
unfolding clap_on_literals
a-run-file-is-needed = refl

abbrev explain_words : List Text → List Text
explain_words more = codes "explain" ∷ codes "x1.ttcn" ∷ codes "--testcase" ∷ codes "TC" ∷ codes "--run=r.txt" ∷ more

abbrev format_in : List Text → Option (Option Text)
format_in more = option_map (λ p. first_of (codes "format") p.1) (subcommand_of ttcnx_app (explain_words more))

a-format-is-read : (format_in (codes "--format=svg" ∷ []) ≡ Some (Some (codes "svg"))) × (format_in (codes "--format" ∷ codes "json" ∷ []) ≡ Some (Some (codes "json")))
unfolding clap_on_literals
a-format-is-read = (refl, refl)

a-format-may-be-left-out : (format_in [] ≡ Some (Some (codes "text"))) × (takes ttcnx_app (explain_words []) ≡ true) × (fault_of ttcnx_app (explain_words []) ≡ [])
unfolding clap_on_literals
a-format-may-be-left-out = (refl, refl, refl)

another-format : fault_of ttcnx_app (explain_words (codes "--format=png" ∷ [])) ≡ InvalidValue ∷ []
unfolding clap_on_literals
another-format = refl

a-format-is-in-small-letters : fault_of ttcnx_app (explain_words (codes "--format=SVG" ∷ [])) ≡ InvalidValue ∷ []
unfolding clap_on_literals
a-format-is-in-small-letters = refl

a-bound-is-needed : faults_of (run_words []) ≡ MissingRequiredArgument ∷ []
unfolding clap_on_literals
a-bound-is-needed = refl

one-bound-is-enough : (faults_of (run_words (codes "--steps=8" ∷ [])) ≡ []) × (faults_of (run_words (codes "--until-complete" ∷ [])) ≡ [])
unfolding clap_on_literals
one-bound-is-enough = (refl, refl)

two-bounds-are-in-conflict : faults_of (run_words (codes "--steps=8" ∷ codes "--until-complete" ∷ [])) ≡ ArgumentConflict ∷ []
unfolding clap_on_literals
two-bounds-are-in-conflict = refl

a-verdict-is-read : value_in (codes "first") (subcommand_of ttcnx_app (run_words (codes "--steps=8" ∷ codes "--first=fail" ∷ []))) ≡ Some (Some (codes "fail"))
unfolding clap_on_literals
a-verdict-is-read = refl

another-verdict : fault_of ttcnx_app (run_words (codes "--steps=8" ∷ codes "--first=red" ∷ [])) ≡ InvalidValue ∷ []
unfolding clap_on_literals
another-verdict = refl

a-number-of-expiries-is-read : (value_in (codes "expiries") (subcommand_of ttcnx_app (run_words (codes "--steps=8" ∷ codes "--expiries=2" ∷ []))) ≡ Some (Some (codes "2")))
    × (value_in (codes "expiries") (subcommand_of ttcnx_app (run_words (codes "--steps=8" ∷ []))) ≡ Some None)
unfolding clap_on_literals
a-number-of-expiries-is-read = (refl, refl)

expiries-have-a-most : fault_of ttcnx_app (run_words (codes "--steps=8" ∷ codes "--expiries=4294967296" ∷ [])) ≡ ValueValidation ∷ []
unfolding clap_on_literals
expiries-have-a-most = refl

bounded-expiries-stand-beside-a-stop : faults_of (run_words (codes "--until-complete" ∷ codes "--expiries=2" ∷ codes "--patient-timers" ∷ codes "--quiet" ∷ [])) ≡ []
unfolding clap_on_literals
bounded-expiries-stand-beside-a-stop = refl

all-runs-are-explained : (faults_of (run_words (codes "--steps=8" ∷ codes "--explain" ∷ codes "--expiries=2" ∷ [])) ≡ ArgumentConflict ∷ [])
    × (faults_of (run_words (codes "--steps=8" ∷ codes "--patient-timers" ∷ codes "--explain" ∷ [])) ≡ ArgumentConflict ∷ [])
unfolding clap_on_literals
all-runs-are-explained = (refl, refl)

a-run-to-a-place-is-one-of-all-runs : (faults_of (run_words (codes "--steps=8" ∷ codes "--run-to=1:1" ∷ codes "--patient-timers" ∷ [])) ≡ ArgumentConflict ∷ [])
    × (faults_of (run_words (codes "--steps=8" ∷ codes "--expiries=2" ∷ codes "--run-to-block=1:1" ∷ [])) ≡ ArgumentConflict ∷ [])
unfolding clap_on_literals
a-run-to-a-place-is-one-of-all-runs = (refl, refl)

several-files-are-read : option_map (λ p. all_of (codes "FILE") p.1) (subcommand_of ttcnx_app (codes "lint" ∷ codes "a" ∷ codes "b" ∷ [])) ≡ Some (Some (codes "a" ∷ codes "b" ∷ []))
unfolding clap_on_literals
several-files-are-read = refl

check-takes-no-script : fault_of ttcnx_app (codes "check" ∷ codes "x1.ttcn" ∷ codes "--script=s.json" ∷ []) ≡ UnknownArgument ∷ []
unfolding clap_on_literals
check-takes-no-script = refl

steps-have-a-most : fault_of ttcnx_app (run_words (codes "--steps=100001" ∷ [])) ≡ ValueValidation ∷ []
unfolding clap_on_literals
steps-have-a-most = refl

workers-have-a-least : fault_of ttcnx_app (run_words (codes "--steps=8" ∷ codes "--workers=0" ∷ [])) ≡ ValueValidation ∷ []
unfolding clap_on_literals
workers-have-a-least = refl

no-words : fault_of ttcnx_app [] ≡ MissingSubcommand ∷ []
unfolding clap_on_literals
no-words = refl

another-option : fault_of ttcnx_app (codes "check" ∷ codes "x1.ttcn" ∷ codes "--steps=8" ∷ []) ≡ UnknownArgument ∷ []
unfolding clap_on_literals
another-option = refl

help-flag : fault_of ttcnx_app (codes "run" ∷ codes "--help" ∷ []) ≡ DisplayHelp ∷ []
unfolding clap_on_literals
help-flag = refl

version-flag : (fault_of ttcnx_app (codes "--version" ∷ []) ≡ DisplayVersion ∷ []) × (fault_of ttcnx_app (codes "run" ∷ codes "--version" ∷ []) ≡ UnknownArgument ∷ [])
unfolding clap_on_literals
version-flag = (refl, refl)

help-word : fault_of ttcnx_app (codes "help" ∷ []) ≡ DisplayHelp ∷ InvalidSubcommand ∷ []
unfolding clap_on_literals
help-word = refl
