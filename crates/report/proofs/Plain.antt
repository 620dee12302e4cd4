-- A report's JSON has no float, so its text is known.
use Rattle.std.proofs.Common.{◌≡◌, ℕ, false, List, [], ◌∷◌, ◌++◌, map, refl, ap, ◌∙◌}
use Rattle.report.specs.Json.{json_text, label_json, outcome_json, place_json, report_json, standing_json}
use Rattle.report.specs.declared.report.Outcome.{Outcome}
use Rattle.report.specs.declared.report.Report.{Report}
use Rattle.serde_json.specs.Data.{Data}
use Rattle.serde_json.specs.View.{items_of}
use Rattle.serde_json.specs.Written.{compact_text, has_float, items_have_float}

-- a list whose items have no float
plain-items : {X : Type 0} (json : X → Data) → ((x : X) → has_float (json x) ≡ false) → (xs : List X) → items_have_float (items_of (map json xs)) ≡ false
plain-items json plain [] = refl
plain-items json plain (x ∷ xs) = rw (plain x) (plain-items json plain xs)

plain-outcome : (outcome : Outcome) → has_float (outcome_json outcome) ≡ false
plain-outcome outcome = rw (plain-items label_json (λ label. refl) outcome.run.items)

plain-report : (report : Report) → has_float (report_json report) ≡ false
plain-report report =
    rw (
      plain-items standing_json (λ standing. refl) report.blocked.items,
      plain-items place_json (λ place. refl) report.branches.items,
      plain-items outcome_json plain-outcome report.outcomes.items,
    )

-- the text that is printed for the value of a report, and the end of its line
pub json_text-written : (report : Report) (value : Data) (printed text : List ℕ) → value ≡ report_json report
    → (has_float value ≡ false → printed ≡ compact_text value) → text ≡ printed ++ 10 ∷ [] → text ≡ json_text report
json_text-written report value printed text made prints ended =
    ended ∙ ap (λ t. t ++ 10 ∷ []) (prints (ap has_float made ∙ plain-report report) ∙ ap compact_text made)
