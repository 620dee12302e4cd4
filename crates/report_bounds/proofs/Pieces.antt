-- A report's text is that of its head and of the rest, and lines stand between the two.
use Rattle.std.proofs.Common.{◌≡◌, ℕ, List, ◌++◌, drop, length, ap, ◌∙◌, append_assoc}
use Rattle.std.proofs.Math.Seq.{drop-append_seam}
use Rattle.std.specs.Fmt.{decimal}
use Rattle.std.specs.List.{flat_map}
use Rattle.std.specs.Prelude.{codes, string_bytes}
use Rattle.report.specs.Texts.{blocked_line, branch_line, line, outcome_text, report_text, yes_or_no}
use Rattle.report.specs.declared.report.Report.{Report}
use Rattle.report_bounds.specs.BoundedTexts.{head_text, rest_text}

seven : (a b c d x y z : List ℕ) → (((((((a ++ b) ++ c) ++ d) ++ x) ++ y) ++ z)) ≡ (a ++ b) ++ ((((c ++ d) ++ x) ++ y) ++ z)
seven a b c d x y z = simp append_assoc

pub text-parts : (report : Report) → report_text report ≡ head_text report ++ rest_text report
text-parts report = seven
    (line (codes "testcase " ++ string_bytes report.testcase)) (line (codes "steps " ++ decimal report.steps))
    (line (codes "configurations " ++ decimal report.configurations)) (line (codes "complete " ++ yes_or_no report.complete))
    (flat_map outcome_text report.outcomes.items) (flat_map branch_line report.branches.items) (flat_map blocked_line report.blocked.items)

-- what is written: a head, lines, and what stands behind the head in a whole text
pub spliced : (h l w head lines rest all : List ℕ) → h ≡ head → l ≡ lines → w ≡ head ++ rest → all ≡ (h ++ l) ++ drop (length h) w → all ≡ (head ++ lines) ++ rest
spliced h l w head lines rest all eh el ew ea =
    ea
    ∙ ap (λ x. (x ++ l) ++ drop (length x) w) eh
    ∙ ap (λ x. (head ++ x) ++ drop (length head) w) el
    ∙ ap (λ x. (head ++ lines) ++ drop (length head) x) ew
    ∙ ap (λ x. (head ++ lines) ++ x) (drop-append_seam head rest)
