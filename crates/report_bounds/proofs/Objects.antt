-- A report's JSON with what tells of a bound behind its other members.
use Rattle.std.proofs.Common.{◌≡◌, ℕ, ◌-◌, List, [], ◌∷◌, ◌++◌, Bool, true, false, Option, None, Some, length, take, refl, sym, ap, ◌∙◌}
use Rattle.std.specs.Prelude.{codes, string_bytes}
use Rattle.json.specs.Print.{quoted}
use Rattle.report.specs.Json.{json_text, list_of, outcome_json, place_json, standing_json}
use Rattle.report.specs.declared.report.Report.{Report}
use Rattle.report_bounds.proofs.Behind.{closes, joined, one-more, open_text}
use Rattle.report_bounds.specs.BoundedTexts.{bound_json, bounded_json_text, patience, with_expiries}
use Rattle.search_bounds.specs.declared.bound.Bound.{Bound}
use Rattle.serde_json.proofs.OnLiterals.{serde_json_on_literals}
use Rattle.serde_json.specs.Data.{Data, Members, boolean, member, no_members, number, object, string, unsigned}
use Rattle.serde_json.specs.Written.{compact_text, has_float}

-- the first member of a report
abbrev first : Report → Data
first report = list_of standing_json report.blocked.items

-- the others
abbrev others : Report → Members
others report =
    member (codes "branches") (list_of place_json report.branches.items)
    (member (codes "complete") (boolean report.complete)
    (member (codes "configurations") (number (unsigned report.configurations))
    (member (codes "steps") (number (unsigned report.steps))
    (member (codes "testcase") (string (string_bytes report.testcase))
    (member (codes "verdicts") (list_of outcome_json report.outcomes.items)
    no_members)))))

abbrev all-of : Report → Members
all-of report = member (codes "blocked") (first report) (others report)

-- ---- what tells of a bound

plain : (expiries : Option ℕ) (patient : Bool) → has_float (object (with_expiries expiries (patience patient))) ≡ false
plain None false = refl
plain None true = refl
plain (Some most) false = refl
plain (Some most) true = refl

pub bound-written : (bound : Bound) (value : Data) (printed : List ℕ) → value ≡ bound_json bound → (has_float value ≡ false → printed ≡ compact_text value) → printed ≡ compact_text (bound_json bound)
bound-written bound value printed is prints = prints (ap has_float is ∙ plain bound.expiries bound.patient) ∙ ap compact_text is

key-text : (xs : List ℕ) → 44 ∷ (quoted (codes "within") ++ 58 ∷ xs) ≡ codes ",\"within\":" ++ xs
unfolding serde_json_on_literals
key-text xs = refl

-- ---- the whole

pub json-spliced : (bound : Bound) (report : Report) (whole within all : List ℕ) → whole ≡ json_text report → within ≡ compact_text (bound_json bound)
    → all ≡ ((take (length whole - 2) whole ++ codes ",\"within\":") ++ within) ++ 125 ∷ 10 ∷ [] → all ≡ bounded_json_text bound report
json-spliced bound report whole within all is tells written =
    joined (open_text false (all-of report)) (codes ",\"within\":") within whole all (is ∙ ap (λ xs. (123 ∷ xs) ++ 10 ∷ []) (closes false (all-of report))) written
    ∙ ap (λ xs. (123 ∷ (open_text false (all-of report) ++ xs)) ++ 10 ∷ []) (ap (λ xs. codes ",\"within\":" ++ (xs ++ 125 ∷ [])) tells ∙ sym (key-text (compact_text (bound_json bound) ++ 125 ∷ [])))
    ∙ ap (λ xs. (123 ∷ xs) ++ 10 ∷ []) (sym (one-more (codes "blocked") (first report) (others report) (codes "within") (bound_json bound)))
