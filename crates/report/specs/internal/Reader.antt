-- What the parts of a label's text tell.
use Rattle.std.specs.Prelude.{◌≡◌, ◌≢◌, ℕ, ◌==◌, true, false, List, [], ◌∷◌, ◌++◌, if◌then◌else◌, reverse, IsTrue, Option, MatchOption}
use Rattle.std.specs.Fmt.{decimal}
use Rattle.std.specs.List.{AllByRecursion, flat_map, list_any}
use Rattle.report.specs.declared.run.Content.{Content}
use Rattle.report.specs.declared.run.Content.TheVariants as content
use Rattle.report.specs.Labels.{label_text, number_text, path_text}
use Rattle.report.specs.Runs.{IsProper, IsSmall, has_text, is_identifier}
use Rattle.ttcn_syntax.specs.Characters.{is_blank}

-- no byte is the mark
abbrev pub lacks : ℕ → List ℕ → Type 0
lacks mark bytes = list_any (λ b. b == mark) bytes ≡ false

-- the parts before and behind the first mark
abbrev pub IsCut : ℕ → List ℕ → List ℕ → List ℕ → Type 0
IsCut mark bytes before behind = lacks mark before × (bytes ≡ before ++ mark ∷ behind)

abbrev pub IsNoNumber : List ℕ → Type 0
IsNoNumber digits = (number : ℕ) → IsSmall number → digits ≢ decimal number

abbrev pub IsPath : List ℕ → List ℕ → Type 0
IsPath text numbers = AllByRecursion IsSmall numbers × (text ≡ flat_map number_text numbers)

abbrev pub IsNoPath : List ℕ → Type 0
IsNoPath text = (numbers : List ℕ) → ¬ IsPath text numbers

abbrev pub TellsExpiry : List ℕ → ℕ → List ℕ → Type 0
TellsExpiry text frame timer = IsSmall frame × IsTrue (is_identifier timer) × (text ≡ decimal frame ++ 46 ∷ timer)

-- the name that these bytes are
abbrev pub TellsName : List ℕ → Option (List ℕ) → Type 0
TellsName text name = MatchOption name (is_identifier text ≡ false) (λ made. IsTrue (is_identifier text) × (made ≡ text))

abbrev pub IsNoExpiry : List ℕ → Type 0
IsNoExpiry text = (frame : ℕ) (timer : List ℕ) → ¬ TellsExpiry text frame timer

-- the name of the component with these numbers
abbrev pub IsName : List ℕ → List ℕ → Type 0
IsName text numbers = AllByRecursion IsSmall numbers × (text ≡ path_text numbers)

abbrev pub IsNoName : List ℕ → Type 0
IsNoName text = (numbers : List ℕ) → ¬ IsName text numbers

-- the text of a label that a file can hold
abbrev pub IsTextOf : {X : Type 0} → (X → List ℕ) → (X → Type 0) → List ℕ → X → Type 0
IsTextOf text_of IsHeld text label = (text ≡ text_of label) × IsHeld label

abbrev pub IsNoText : {X : Type 0} → (X → List ℕ) → (X → Type 0) → List ℕ → Type 0
IsNoText text_of IsHeld text = (label : _) → IsHeld label → text ≢ text_of label

abbrev pub IsNoLabel : List ℕ → Type 0
IsNoLabel text = IsNoText label_text IsProper text

-- what is read of a text
abbrev pub IsReadAs : {X : Type 0} → (X → List ℕ) → (X → Type 0) → List ℕ → Option X → Type 0
IsReadAs text_of IsHeld text read = MatchOption read (IsNoText text_of IsHeld text) (IsTextOf text_of IsHeld text)

-- the text begins and ends with bytes that are no blanks
pub record HasBareEnds (text : List ℕ) : Type 0 where
  pub first : ℕ
  pub others : List ℕ
  pub begins : text ≡ first ∷ others
  pub no_blank_first : is_blank first ≡ false
  pub front : List ℕ
  pub last : ℕ
  pub ends : text ≡ front ++ last ∷ []
  pub no_blank_last : is_blank last ≡ false

abbrev pub without_blanks_before : List ℕ → List ℕ
without_blanks_before [] = []
without_blanks_before (b ∷ bs) = if is_blank b then without_blanks_before bs else b ∷ bs

abbrev pub without_blanks_behind : List ℕ → List ℕ
without_blanks_behind bytes = reverse (without_blanks_before (reverse bytes))

-- what a line holds, by what it reads as
abbrev pub Tells : {X : Type 0} → (List ℕ → X → Type 0) → List ℕ → Content X → Type 0
Tells Reads line content.Blanks = has_text line ≡ false
Tells Reads line (content.Label label) = (has_text line ≡ true) × Reads line label
Tells Reads line content.NoLabel = (has_text line ≡ true) × ((label : _) → ¬ Reads line label)
