-- Reports on the runs that keep a bound on expiries of timers, as text and as JSON.
use Rattle.std.specs.Prelude.{ℕ, List, [], ◌++◌, Bool, true, false, Option, None, Some, codes, string_bytes}
use Rattle.std.specs.Fmt.{decimal}
use Rattle.std.specs.List.{flat_map}
use Rattle.report.specs.Json.{list_of, outcome_json, place_json, standing_json}
use Rattle.report.specs.Texts.{blocked_line, branch_line, line, outcome_text, yes_or_no}
use Rattle.report.specs.declared.report.Report.{Report}
use Rattle.search_bounds.specs.declared.bound.Bound.{Bound}
use Rattle.serde_json.specs.Data.{Data, Members, boolean, member, no_members, number, object, string, unsigned}
use Rattle.serde_json.specs.Written.{compact_text}

-- ---- as text

-- how many timers may expire, where that is bounded
abbrev pub expiries_line : Option ℕ → List ℕ
expiries_line None = []
expiries_line (Some most) = line (codes "expiries " ++ decimal most)

-- that timers are patient, where they are
abbrev pub patience_line : Bool → List ℕ
patience_line false = []
patience_line true = line (codes "patient-timers")

-- the lines that tell of a bound
abbrev pub bound_lines : Bound → List ℕ
bound_lines bound = expiries_line bound.expiries ++ patience_line bound.patient

-- the lines of the test case and of the steps
abbrev pub head_text : Report → List ℕ
head_text report = line (codes "testcase " ++ string_bytes report.testcase) ++ line (codes "steps " ++ decimal report.steps)

-- the lines behind these
abbrev pub rest_text : Report → List ℕ
rest_text report =
    line (codes "configurations " ++ decimal report.configurations)
    ++ line (codes "complete " ++ yes_or_no report.complete)
    ++ flat_map outcome_text report.outcomes.items
    ++ flat_map branch_line report.branches.items
    ++ flat_map blocked_line report.blocked.items

-- the report as text: the bound stands behind the steps
abbrev pub bounded_text : Bound → Report → List ℕ
bounded_text bound report = head_text report ++ bound_lines bound ++ rest_text report

-- ---- as JSON

-- how many timers may expire, where that is bounded, before other members
abbrev pub with_expiries : Option ℕ → Members → Members
with_expiries None members = members
with_expiries (Some most) members = member (codes "expiries") (number (unsigned most)) members

-- that timers are patient, where they are
abbrev pub patience : Bool → Members
patience false = no_members
patience true = member (codes "patient_timers") (boolean true) no_members

-- what tells of a bound
abbrev pub bound_json : Bound → Data
bound_json bound = object (with_expiries bound.expiries (patience bound.patient))

-- the report, its keys in the order of their bytes
abbrev pub bounded_json : Bound → Report → Data
bounded_json bound report =
    object (member (codes "blocked") (list_of standing_json report.blocked.items)
    (member (codes "branches") (list_of place_json report.branches.items)
    (member (codes "complete") (boolean report.complete)
    (member (codes "configurations") (number (unsigned report.configurations))
    (member (codes "steps") (number (unsigned report.steps))
    (member (codes "testcase") (string (string_bytes report.testcase))
    (member (codes "verdicts") (list_of outcome_json report.outcomes.items)
    (member (codes "within") (bound_json bound)
    no_members))))))))

-- the report as JSON, printed without blanks, on a line of its own
abbrev pub bounded_json_text : Bound → Report → List ℕ
bounded_json_text bound report = line (compact_text (bounded_json bound report))
