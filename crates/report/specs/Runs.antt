-- Run files: which texts read as which runs, and as which fine runs.
use Rattle.std.specs.Prelude.{◌≡◌, ℕ, ◌+◌, ◌<◌, ◌^◌, ◌==◌, ◌&&◌, Bool, true, false, not, IsTrue, List, [], ◌∷◌, ◌++◌, length}
use Rattle.std.specs.Fmt.{decimal}
use Rattle.std.specs.List.{AllByRecursion, AllZip, filter, list_all, slice_split}
use Rattle.report.specs.declared.run.RunError.{RunError}
use Rattle.report.specs.declared.run.RunError.TheVariants.{BadLabel, Memory}
use Rattle.report.specs.Labels.{fine_text, label_text}
use Rattle.step_labels.specs.declared.fine.FineLabel.{FineLabel}
use Rattle.step_labels.specs.declared.fine.FineLabel.TheVariants.{Snap, Choose, Plain}
use Rattle.step_labels.specs.declared.label.Label.{Label}
use Rattle.step_labels.specs.declared.label.Label.TheVariants.{Delivery, Expiry, Statement}
use Rattle.ttcn_syntax.specs.Characters.{is_blank, is_letter, is_word_byte}

-- the numbers of labels are below 4294967296
abbrev pub IsSmall : ℕ → Type 0
IsSmall number = number < 2 ^ 32

-- the digits are those of the number, which has no leading zero
abbrev pub IsNumber : List ℕ → ℕ → Type 0
IsNumber digits number = IsSmall number × (digits ≡ decimal number)

-- a name of a timer or of a system port: a letter, and letters, digits and `_` behind it
abbrev pub is_identifier : List ℕ → Bool
is_identifier [] = false
is_identifier (first ∷ others) = is_letter first && list_all is_word_byte others

-- a label that a run file can hold: an expiry has a small frame number and a timer's name, a delivery a system port's name
abbrev pub IsProper : Label → Type 0
IsProper (Statement path) = AllByRecursion IsSmall path.numbers
IsProper (Expiry path frame timer) = AllByRecursion IsSmall path.numbers × IsSmall frame × IsTrue (is_identifier timer)
IsProper (Delivery system_port) = IsTrue (is_identifier system_port)

-- a label that the file of a fine run can hold
abbrev pub IsProperFine : FineLabel → Type 0
IsProperFine (Snap path) = AllByRecursion IsSmall path.numbers
IsProperFine (Choose path) = AllByRecursion IsSmall path.numbers
IsProperFine (Plain label) = IsProper label

-- the line is the label's text with blanks before and behind it: bytes 9, 11 to 13 and 32, since a line has no byte 10. The
-- labels may be of any type, with their texts and with which of them a file can hold
pub record ReadsBy {X : Type 0} (text_of : X → List ℕ) (IsHeld : X → Type 0) (line : List ℕ) (label : X) : Type 0 where
  pub before : List ℕ
  pub behind : List ℕ
  pub blank_before : list_all is_blank before ≡ true
  pub blank_behind : list_all is_blank behind ≡ true
  pub whole : line ≡ before ++ (text_of label ++ behind)
  pub proper : IsHeld label

-- the line reads as a label of a run
abbrev pub ReadsAs : List ℕ → Label → Type 0
ReadsAs line label = ReadsBy label_text IsProper line label

-- the line reads as a label of a fine run
abbrev pub ReadsFinelyAs : List ℕ → FineLabel → Type 0
ReadsFinelyAs line label = ReadsBy fine_text IsProperFine line label

-- the lines, which end at byte 10: behind the last such byte comes one more line, which may be empty
abbrev pub lines_of : List ℕ → List (List ℕ)
lines_of bytes = slice_split (λ b. b == 10) bytes

-- a line that is not ignored
abbrev pub has_text : List ℕ → Bool
has_text line = not (list_all is_blank line)

-- the lines that are not ignored read as these labels, in order. `Reads` says what one line reads as
abbrev pub ReadsAll : {X : Type 0} → (List ℕ → X → Type 0) → List (List ℕ) → List X → Type 0
ReadsAll Reads lines labels = AllZip Reads (filter has_text lines) labels

-- the line of this number, counted from 1, is the first that is not ignored and reads as no label
pub record IsFirstUnread {X : Type 0} (Reads : List ℕ → X → Type 0) (lines : List (List ℕ)) (number : ℕ) : Type 0 where
  pub before : List (List ℕ)
  pub line : List ℕ
  pub behind : List (List ℕ)
  pub whole : lines ≡ before ++ line ∷ behind
  pub number_is : number ≡ length before + 1
  pub labels : List X
  pub reads : ReadsAll Reads before labels
  pub text : has_text line ≡ true
  pub bad : (label : X) → ¬ Reads line label

-- what a refusal says of the lines
abbrev pub TellsUnread : {X : Type 0} → (List ℕ → X → Type 0) → List (List ℕ) → RunError → Type 0
TellsUnread Reads lines (BadLabel number) = IsFirstUnread Reads lines number
TellsUnread Reads lines Memory = Unit {0}

-- the lines read as this run
abbrev pub ReadsRun : List (List ℕ) → List Label → Type 0
ReadsRun lines labels = ReadsAll ReadsAs lines labels

-- the line of this number is the first that is bad in a run file
abbrev pub IsFirstBad : List (List ℕ) → ℕ → Type 0
IsFirstBad lines number = IsFirstUnread ReadsAs lines number

-- what a refusal says of the lines of a run file
abbrev pub TellsError : List (List ℕ) → RunError → Type 0
TellsError lines error = TellsUnread ReadsAs lines error

-- the lines read as this fine run
abbrev pub ReadsFineRun : List (List ℕ) → List FineLabel → Type 0
ReadsFineRun lines labels = ReadsAll ReadsFinelyAs lines labels

-- the line of this number is the first that is bad in the file of a fine run
abbrev pub IsFirstBadFine : List (List ℕ) → ℕ → Type 0
IsFirstBadFine lines number = IsFirstUnread ReadsFinelyAs lines number

-- what a refusal says of the lines of the file of a fine run
abbrev pub TellsFineError : List (List ℕ) → RunError → Type 0
TellsFineError lines error = TellsUnread ReadsFinelyAs lines error
