-- The text of a report.
use Rattle.std.specs.Prelude.{ℕ, List, ◌∷◌, [], ◌++◌, Bool, codes, string_bytes, length, true, false}
use Rattle.std.specs.Fmt.{decimal}
use Rattle.std.specs.List.{flat_map}
use Rattle.report.specs.declared.report.Outcome.{Outcome}
use Rattle.report.specs.declared.report.Report.{Report}
use Rattle.report.specs.Labels.{label_text, path_text}
use Rattle.step_labels.specs.declared.label.Label.{Label}
use Rattle.step_labels.specs.declared.standing.Standing.{Standing}
use Rattle.ttcn_syntax.specs.declared.place.Span.{Span}
use Rattle.ttcn_syntax.specs.declared.tree.statement.Verdict.{Verdict}
use Rattle.ttcn_syntax.specs.declared.tree.statement.Verdict.TheVariants as verdict

-- the text and the byte that ends a line
abbrev pub line : List ℕ → List ℕ
line text = text ++ 10 ∷ []

-- a verdict as the language spells it
abbrev pub word_of : Verdict → List ℕ
word_of verdict.None = codes "none"
word_of verdict.Pass = codes "pass"
word_of verdict.Inconc = codes "inconc"
word_of verdict.Fail = codes "fail"
word_of verdict.Error = codes "error"

-- `yes` for true, `no` for false
abbrev pub yes_or_no : Bool → List ℕ
yes_or_no true = codes "yes"
yes_or_no false = codes "no"

-- line and column
abbrev pub place_text : Span → List ℕ
place_text place = decimal place.line ++ codes ":" ++ decimal place.column

-- one step of a run
abbrev pub step_line : Label → List ℕ
step_line label = line (codes "  " ++ label_text label)

-- a verdict with the length of its run, and the run's steps
abbrev pub outcome_text : Outcome → List ℕ
outcome_text outcome =
    line (codes "verdict " ++ word_of outcome.verdict ++ codes " " ++ decimal (length outcome.run.items))
    ++ flat_map step_line outcome.run.items

-- a branch that is taken, by its place
abbrev pub branch_line : Span → List ℕ
branch_line place = line (codes "branch " ++ place_text place)

-- a blocked component, and the place of its first remaining statement
abbrev pub blocked_line : Standing → List ℕ
blocked_line standing = line (codes "blocked " ++ path_text standing.component.numbers ++ codes " " ++ place_text standing.place)

-- what stands before the verdicts
abbrev pub header_text : Report → List ℕ
header_text report =
    line (codes "testcase " ++ string_bytes report.testcase)
    ++ line (codes "steps " ++ decimal report.steps)
    ++ line (codes "configurations " ++ decimal report.configurations)
    ++ line (codes "complete " ++ yes_or_no report.complete)

-- the report as text, line by line
abbrev pub report_text : Report → List ℕ
report_text report =
    header_text report
    ++ flat_map outcome_text report.outcomes.items
    ++ flat_map branch_line report.branches.items
    ++ flat_map blocked_line report.blocked.items
