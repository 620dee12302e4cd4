-- What is known during a depth-first search of things.
use Rattle.std.specs.Prelude.{◌≡◌, ℕ, ◌+◌, ◌-◌, ◌<◌, ◌≤◌, List, [], ◌∷◌, length, map, take, slice_index_or, sum_by, All, Contains}
use Rattle.check_survey.specs.Graphs.{IsChain, Weigh, references}
use Rattle.check_survey.specs.Things.{capped}
use Rattle.check_survey.specs.declared.search.State.{State}
use Rattle.check_survey.specs.declared.search.State.TheVariants.{New, Open, Done}
use Rattle.check_survey.specs.declared.search.Step.{Step}
use Rattle.check_survey.specs.declared.size.Size.{Size}
use Rattle.check_survey.specs.declared.thing.Thing.{Thing}

-- the longest chain that begins at one of these things has so many members
pub record HasLongest (things : List Thing) (these : List ℕ) (longest : ℕ) : Type 0 where
  pub bound : (i : ℕ) (rest : List ℕ) → Contains these i → IsChain things (i ∷ rest) → length (i ∷ rest) ≤ longest
  pub reached : 0 < longest → (i : ℕ) × (rest : List ℕ) × Contains these i × IsChain things (i ∷ rest) × (length (i ∷ rest) ≡ longest)

-- the size of these things is that
pub record HaveSize (things : List Thing) (these : List ℕ) (size : Size) : Type 0 where
  pub longest : ℕ
  pub has_longest : HasLongest things these longest
  pub chain : size.chain ≡ capped longest
  pub total : ℕ
  pub weigh : Weigh things these total
  pub weight : size.weight ≡ capped total

-- how far a thing is searched
abbrev pub state_of : List State → ℕ → State
state_of states i = slice_index_or states i New

-- the size of a thing that is done, or of nothing where it is not done
abbrev pub size_of : State → Size
size_of New = record { chain = 0; weight = 0 }
size_of Open = record { chain = 0; weight = 0 }
size_of (Done size) = size

-- the references that are passed of a thing on the path have the size
pub record IsRead (things : List Thing) (step : Step) : Type 0 where
  pub within : step.thing < length things
  pub passed : step.passed ≤ length (references things step.thing)
  pub size : HaveSize things (take step.passed (references things step.thing)) step.size

-- a thing of which no reference is passed
abbrev pub at_first : ℕ → Step
at_first i = record { thing = i; passed = 0; size = record { chain = 0; weight = 0 } }

-- the things on a path
abbrev pub things_on : List Step → List ℕ
things_on = map (λ step. step.thing)

-- each thing refers to the next
abbrev pub IsPath : List Thing → List ℕ → Type 0
IsPath things [] = Unit {0}
IsPath things (i ∷ rest) = IsChain things (i ∷ rest)

-- what is known of each thing by how far it is searched, and of the path
pub record IsSearched (things : List Thing) (states : List State) (path : List Step) : Type 0 where
  pub count : length states ≡ length things
  pub done : (i : ℕ) (size : Size) → state_of states i ≡ Done size → HaveSize things (i ∷ []) size
  pub on_path : (i : ℕ) → state_of states i ≡ Open → Contains (things_on path) i
  pub read : All (IsRead things) path
  pub linked : IsPath things (things_on path)

-- what is new was new before
abbrev pub StayBegun : List State → List State → Type 0
StayBegun old now = (i : ℕ) → state_of now i ≡ New → state_of old i ≡ New

-- ---- how much is left to do

-- what is left to do at a thing: at one that is new to begin it, to pass each of its references, and to leave it
abbrev pub left_at : Thing → State → ℕ
left_at thing New = length thing.references + 2
left_at thing Open = 0
left_at thing (Done size) = 0

-- what is left to do at all things that are new
abbrev pub left_new : List Thing → List State → ℕ
left_new [] states = 0
left_new (thing ∷ things) [] = 0
left_new (thing ∷ things) (state ∷ states) = left_at thing state + left_new things states

-- what is left to do at a thing on the path: to pass its other references, and to leave it
abbrev pub left_of : List Thing → Step → ℕ
left_of things step = 1 + length (references things step.thing) - step.passed

-- each step of the search leaves less
abbrev pub left : List Thing → List State → List Step → ℕ
left things states path = left_new things states + sum_by (left_of things) path
