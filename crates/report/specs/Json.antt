-- A report as JSON.
use Rattle.std.specs.Prelude.{ℕ, List, codes, map, string_bytes}
use Rattle.report.specs.declared.report.Outcome.{Outcome}
use Rattle.report.specs.declared.report.Report.{Report}
use Rattle.report.specs.Labels.{label_text, path_text}
use Rattle.report.specs.Texts.{line, place_text, word_of}
use Rattle.serde_json.specs.Data.{Data, array, boolean, member, no_members, number, object, string, unsigned}
use Rattle.serde_json.specs.View.{items_of}
use Rattle.serde_json.specs.Written.{compact_text}
use Rattle.step_labels.specs.declared.label.Label.{Label}
use Rattle.step_labels.specs.declared.standing.Standing.{Standing}
use Rattle.ttcn_syntax.specs.declared.place.Span.{Span}

-- a list, item by item
abbrev pub list_of : {X : Type 0} → (X → Data) → List X → Data
list_of json xs = array (items_of (map json xs))

-- a label, as the string of its text
abbrev pub label_json : Label → Data
label_json label = string (label_text label)

-- a place, as the string of its line and column
abbrev pub place_json : Span → Data
place_json place = string (place_text place)

-- a verdict, and the run that ends with it
abbrev pub outcome_json : Outcome → Data
outcome_json outcome =
    object (member (codes "run") (list_of label_json outcome.run.items)
    (member (codes "verdict") (string (word_of outcome.verdict))
    no_members))

-- a blocked component, and the place of its first remaining statement
abbrev pub standing_json : Standing → Data
standing_json standing =
    object (member (codes "component") (string (path_text standing.component.numbers))
    (member (codes "place") (place_json standing.place)
    no_members))

-- the report, its keys in the order of their bytes
abbrev pub report_json : Report → Data
report_json report =
    object (member (codes "blocked") (list_of standing_json report.blocked.items)
    (member (codes "branches") (list_of place_json report.branches.items)
    (member (codes "complete") (boolean report.complete)
    (member (codes "configurations") (number (unsigned report.configurations))
    (member (codes "steps") (number (unsigned report.steps))
    (member (codes "testcase") (string (string_bytes report.testcase))
    (member (codes "verdicts") (list_of outcome_json report.outcomes.items)
    no_members)))))))

-- the report as JSON, printed without blanks, on a line of its own
abbrev pub json_text : Report → List ℕ
json_text report = line (compact_text (report_json report))
