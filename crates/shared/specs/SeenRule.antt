-- The rule of a table of first positions: what its words and the views of all seats have to do with one another, between any two atomic steps.
use Rattle.std.specs.Prelude.{◌≡◌, ℕ, zero, suc, ◌+◌, ◌-◌, ◌<◌, ◌≤◌, min, true, false, cond, ltb, List, [], ◌∷◌, ◌++◌, length, replicate, slice_index, slice_set}
use mathlib.Core.Option.{some}
use lib.ListN.{get_elem?}
use Rattle.atomic_table.specs.Table.{State, Step, Me}
use Rattle.shared.specs.declared.seen.view.SeenView.{SeenView}
use Rattle.shared.specs.Totals.{total, times}
use Rattle.shared.specs.Classes.{Shape}

-- the view of the seat that `new` gives
abbrev pub first_view : Shape → SeenView
first_view shape = record { classes = shape.classes; words = shape.words; seats = shape.seats; first = true; left = shape.seats - 1; parts = 1; steps = 0; known = replicate shape.words 0; placed = []; answered = [] }

-- a seat of the same table that did nothing yet
abbrev pub fresh : SeenView → SeenView
fresh v = record { classes = v.classes; words = v.words; seats = v.seats; first = false; left = 0; parts = 1; steps = 0; known = replicate v.words 0; placed = []; answered = [] }

-- a seat from which one seat was made
abbrev pub with_one_less : SeenView → SeenView
with_one_less v = record v { left = v.left - 1 }

-- word by word what the first list knows, and what the second knows where the first does not
abbrev pub either_known : List ℕ → List ℕ → List ℕ
either_known [] ys = []
either_known (x ∷ xs) [] = x ∷ xs
either_known (zero ∷ xs) (y ∷ ys) = y ∷ either_known xs ys
either_known (suc x ∷ xs) (y ∷ ys) = suc x ∷ either_known xs ys

-- v with what w knows and did added
abbrev pub joined : SeenView → SeenView → SeenView
joined v w = record v { parts = v.parts + w.parts; steps = v.steps + w.steps; known = either_known v.known w.known; placed = v.placed ++ w.placed; answered = v.answered ++ w.answered }

-- what is left of a seat that was joined to another
abbrev pub spent : SeenView
spent = record { classes = []; words = 0; seats = 0; first = false; left = 0; parts = 0; steps = 0; known = []; placed = []; answered = [] }

-- one step found that the word a holds the class of j
abbrev pub with_known : SeenView → ℕ → ℕ → SeenView
with_known v a j = record v { steps = v.steps + 1; known = slice_set v.known a (j + 1) }

-- one step put i into the word a, which no class had
abbrev pub with_first : SeenView → ℕ → ℕ → SeenView
with_first v a i = record v { steps = v.steps + 1; known = slice_set v.known a (i + 1); placed = v.placed ++ i ∷ []; answered = v.answered ++ i ∷ [] }

-- one step put i to a word that had the position k of its class
abbrev pub with_lower : SeenView → ℕ → ℕ → SeenView
with_lower v i k = record v { steps = v.steps + 1; placed = v.placed ++ i ∷ []; answered = v.answered ++ min k i ∷ [] }

-- the positions j and k have one class
abbrev pub AreAlike : List ℕ → ℕ → ℕ → Type 0
AreAlike classes j k = slice_index classes j ≡ slice_index classes k

-- the word a has a position of the class of j
abbrev pub HasClass : List ℕ → List ℕ → ℕ → ℕ → Type 0
HasClass classes words a j = (k : ℕ) × (slice_index words a ≡ k + 1) × AreAlike classes k j

-- no class has two words
abbrev pub OneWordEach : List ℕ → List ℕ → Type 0
OneWordEach classes words = (a b j k : ℕ) → slice_index words a ≡ j + 1 → slice_index words b ≡ k + 1 → AreAlike classes j k → a ≡ b

-- the word t steps on from a start, where the words go round
abbrev pub along : ℕ → ℕ → ℕ → ℕ
along words start t = cond (ltb (start + t) words) (start + t) (start + t - words)

-- The position j, which the word a has, was placed; and a is the first word on j's probe path that was free when j's class came
pub record IsHeld (shape : Shape) (words : List ℕ) (views : List SeenView) (a j : ℕ) : Type 0 where
  pub inside : j < length shape.classes
  pub placed : 0 < total (λ v. times j v.placed) views
  pub way : ℕ
  pub near : way < shape.words
  pub there : a ≡ along shape.words (slice_index shape.starts j) way
  pub full : (t : ℕ) → t < way → 0 < slice_index words (along shape.words (slice_index shape.starts j) t)

-- A live seat is of this table, and each word has the class that the seat knows of it
pub record Lives (shape : Shape) (words : List ℕ) (v : SeenView) : Type 0 where
  pub classes : v.classes ≡ shape.classes
  pub word_count : v.words ≡ shape.words
  pub seats : v.seats ≡ shape.seats
  pub size : length v.known ≡ shape.words
  pub inside : (a j : ℕ) → slice_index v.known a ≡ j + 1 → j < length shape.classes
  pub known : (a j : ℕ) → slice_index v.known a ≡ j + 1 → HasClass shape.classes words a j

-- a seat that was joined to another counts for nothing
pub record CountsForNothing (v : SeenView) : Type 0 where
  pub left : v.left ≡ 0
  pub placed : v.placed ≡ []
  pub answered : v.answered ≡ []

-- a seat fits its table: it lives or counts for nothing, and only the first one has seats left to make
pub record FitsSeen (shape : Shape) (words : List ℕ) (v : SeenView) : Type 0 where
  pub lives : 0 < v.parts → Lives shape words v
  pub nothing : v.parts ≡ 0 → CountsForNothing v
  pub others : v.first ≡ false → v.left ≡ 0

-- No class has two words. A word has a position that was placed, and none of its class that was placed is less. Each answer was placed
pub record HoldsFirsts (shape : Shape) (words : List ℕ) (views : List SeenView) : Type 0 where
  pub seats : total (λ v. v.parts + v.left) views ≡ shape.seats
  pub size : length words ≡ shape.words
  pub held : (a j : ℕ) → slice_index words a ≡ j + 1 → IsHeld shape words views a j
  pub apart : OneWordEach shape.classes words
  pub inside : (x : ℕ) → 0 < total (λ v. times x v.placed) views → x < length shape.classes
  pub least : (x : ℕ) → 0 < total (λ v. times x v.placed) views → (a : ℕ) × (j : ℕ) × (slice_index words a ≡ j + 1) × AreAlike shape.classes j x × (j ≤ x)
  pub answered : (x : ℕ) → 0 < total (λ v. times x v.answered) views → 0 < total (λ v. times x v.placed) views
  pub each : (id : ℕ) (v : SeenView) → get_elem? views id ≡ some v → FitsSeen shape words v

-- the seat placed x or was answered it
abbrev pub Met : SeenView → ℕ → Type 0
Met v x = 0 < times x v.placed + times x v.answered

-- the seat knows a word that has the class of i
abbrev pub KnowsClass : SeenView → ℕ → Type 0
KnowsClass v i = (a : ℕ) × HasClass v.classes v.known a i

-- w is the same seat as v, which stands for the same seats
abbrev pub IsSameSeat : SeenView → SeenView → Type 0
IsSameSeat v w = (w.classes ≡ v.classes) × (w.words ≡ v.words) × (w.seats ≡ v.seats) × (w.first ≡ v.first) × (w.left ≡ v.left) × (w.parts ≡ v.parts)

module _ {T : Type 0} where
  -- a state keeps the rule: its words and the views of its seats hold first positions
  abbrev pub KeepsSeen : Shape → State T SeenView → Type 0
  KeepsSeen shape s = HoldsFirsts shape s.words s.views

  -- A word found at 0 has i's class from then on, and no position of that class was placed before. Any other word is known to have the class of the position found
  abbrev pub Tries : Step T → Me T SeenView → ℕ → Me T SeenView → Type 0
  Tries step m found w =
      (w.1 ≡ m.1)
      × IsSameSeat m.0 w.0
      × (found ≡ 0 → (i : ℕ) → step.second ≡ i + 1 → (w.0 ≡ with_first m.0 step.word i) × (slice_index w.0.known step.word ≡ i + 1) × ((x : ℕ) → Met m.0 x → ¬ (AreAlike m.0.classes x i)))
      × ((j : ℕ) → found ≡ j + 1 → (j < length m.0.classes) × (w.0 ≡ with_known m.0 step.word j) × (slice_index w.0.known step.word ≡ j + 1))
      × OneWordEach w.0.classes w.0.known

  -- the word had the least position of i's class that was placed before, and has the lesser of it and i from then on
  abbrev pub Lowers : Step T → Me T SeenView → ℕ → Me T SeenView → Type 0
  Lowers step m found w =
      (w.1 ≡ m.1)
      × IsSameSeat m.0 w.0
      × ((i : ℕ) → step.first ≡ i + 1 → (k : ℕ) × (found ≡ k + 1) × (k < length m.0.classes) × AreAlike m.0.classes k i × (w.0 ≡ with_lower m.0 i k) × ((x : ℕ) → Met m.0 x → AreAlike m.0.classes x i → k ≤ x))
      × OneWordEach w.0.classes w.0.known
