-- What the lines of run files read as.
use Rattle.std.proofs.Common.{◌≡◌, ℕ, List}
use Rattle.report.specs.Labels.{fine_text, label_text}
use Rattle.report.specs.Runs.{IsFirstBad, IsFirstBadFine, IsProper, IsProperFine, ReadsAs, ReadsFineRun, ReadsFinelyAs, ReadsRun}
use Rattle.report.proofs.Fine.{fine-ends, fine-same}
use Rattle.report.proofs.Readings.{all-same, first-same, none-unread, one-label, text-read}
use Rattle.report.proofs.Wholes.{label-ends, label-same}
use Rattle.step_labels.specs.declared.fine.FineLabel.{FineLabel}
use Rattle.step_labels.specs.declared.label.Label.{Label}

-- ---- runs

pub text-reads : (label : Label) → IsProper label → ReadsAs (label_text label) label
text-reads = text-read Label label_text IsProper

pub line-same : (line : List ℕ) (one other : Label) → ReadsAs line one → ReadsAs line other → one ≡ other
line-same = one-label Label label_text IsProper label-ends label-same

pub run-same : (lines : List (List ℕ)) (labels others : List Label) → ReadsRun lines labels → ReadsRun lines others → labels ≡ others
run-same = all-same Label ReadsAs line-same

pub run-has-no-bad : (lines : List (List ℕ)) (labels : List Label) (number : ℕ) → ReadsRun lines labels → IsFirstBad lines number → ⊥
run-has-no-bad = none-unread Label ReadsAs

pub first-bad-same : (lines : List (List ℕ)) (m n : ℕ) → IsFirstBad lines m → IsFirstBad lines n → m ≡ n
first-bad-same = first-same Label ReadsAs

-- ---- fine runs

pub fine-text-reads : (label : FineLabel) → IsProperFine label → ReadsFinelyAs (fine_text label) label
fine-text-reads = text-read FineLabel fine_text IsProperFine

pub fine-line-same : (line : List ℕ) (one other : FineLabel) → ReadsFinelyAs line one → ReadsFinelyAs line other → one ≡ other
fine-line-same = one-label FineLabel fine_text IsProperFine fine-ends fine-same

pub fine-run-same : (lines : List (List ℕ)) (labels others : List FineLabel) → ReadsFineRun lines labels → ReadsFineRun lines others → labels ≡ others
fine-run-same = all-same FineLabel ReadsFinelyAs fine-line-same

pub fine-run-has-no-bad : (lines : List (List ℕ)) (labels : List FineLabel) (number : ℕ) → ReadsFineRun lines labels → IsFirstBadFine lines number → ⊥
fine-run-has-no-bad = none-unread FineLabel ReadsFinelyAs

pub first-bad-fine-same : (lines : List (List ℕ)) (m n : ℕ) → IsFirstBadFine lines m → IsFirstBadFine lines n → m ≡ n
first-bad-fine-same = first-same FineLabel ReadsFinelyAs
