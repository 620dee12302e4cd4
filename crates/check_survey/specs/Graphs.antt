-- Things that refer to one another: chains, circles, and what a thing weighs that is written out. A thing is named by
-- its place in the list of all things.
use Rattle.std.specs.Prelude.{ℕ, ◌+◌, ◌<◌, ◌≤◌, List, [], ◌∷◌, ◌++◌, length, slice_get, All, Contains, Option}
use Rattle.std.specs.Option.{option_map_or}
use Rattle.check_survey.specs.declared.findings.Findings.{Findings}
use Rattle.check_survey.specs.declared.findings.Findings.TheVariants.{Circle, Sizes}
use Rattle.check_survey.specs.declared.thing.Thing.{Thing}

-- ---- references

-- what a thing refers to, in order, the same thing once for each time that it is referred to
abbrev pub references : List Thing → ℕ → List ℕ
references things i = option_map_or (λ thing. thing.references) (slice_get things i) []

-- how many parts a thing has itself
abbrev pub own : List Thing → ℕ → ℕ
own things i = option_map_or (λ thing. thing.own) (slice_get things i) 0

-- things refer only to places before that one
abbrev pub ReferBelow : ℕ → List Thing → Type 0
ReferBelow count things = All (λ thing. All (λ i. i < count) thing.references) things

-- all that things refer to is among them
abbrev pub AreComplete : List Thing → Type 0
AreComplete things = ReferBelow (length things) things

-- ---- chains and circles

-- a chain: one thing or more, each of which refers to the next
abbrev pub IsChain : List Thing → List ℕ → Type 0
IsChain things [] = ⊥
IsChain things (i ∷ []) = i < length things
IsChain things (i ∷ next ∷ rest) = Contains (references things i) next × IsChain things (next ∷ rest)

-- a thing is on a circle: a chain leads from it, through others or none, back to it
abbrev pub IsOnCircle : List Thing → ℕ → Type 0
IsOnCircle things i = (between : List ℕ) × IsChain things (i ∷ between ++ i ∷ [])

-- no chain has more members than that
abbrev pub AllChainsWithin : List Thing → ℕ → Type 0
AllChainsWithin things longest = (chain : List ℕ) → IsChain things chain → length chain ≤ longest

-- a chain with more members begins at a thing
abbrev pub BeginsLongerChain : List Thing → ℕ → ℕ → Type 0
BeginsLongerChain things longest i = (rest : List ℕ) × IsChain things (i ∷ rest) × (longest < length (i ∷ rest))

-- ---- weights

-- What things weigh together: of each its own parts, and with them what all that it refers to weighs together. So a
-- thing weighs as many parts as it has once what it refers to is written out in place of each reference.
pub data Weigh (things : List Thing) : List ℕ → ℕ → Type 0 where
  nothing : Weigh things [] 0
  one_more : {i inside beside : ℕ} {others : List ℕ} → i < length things → Weigh things (references things i) inside
      → Weigh things others beside → Weigh things (i ∷ others) (own things i + inside + beside)

-- a thing weighs that
abbrev pub Weighs : List Thing → ℕ → ℕ → Type 0
Weighs things i n = Weigh things (i ∷ []) n

-- each thing weighs something
abbrev pub AllWeigh : List Thing → Type 0
AllWeigh things = (i : ℕ) → i < length things → (n : ℕ) × Weighs things i n

-- no thing weighs more than `heaviest`
abbrev pub AllWeighWithin : List Thing → ℕ → Type 0
AllWeighWithin things heaviest = (i n : ℕ) → Weighs things i n → n ≤ heaviest

-- a thing weighs more than `heaviest`
abbrev pub WeighsMore : List Thing → ℕ → ℕ → Type 0
WeighsMore things heaviest i = (n : ℕ) × Weighs things i n × (heaviest < n)

-- ---- what is found

-- the first thing of which something holds
abbrev pub IsFirst : (ℕ → Type 0) → ℕ → Type 0
IsFirst P i = P i × ((k : ℕ) → k < i → P k → ⊥)

-- where a circle is found: what holds of the thing on it
abbrev pub IfCircle : Findings → (ℕ → Type 0) → Type 0
IfCircle (Circle i) P = P i
IfCircle (Sizes too_long too_heavy) P = Unit {0}

-- where none is found: what holds of the thing that begins too long a chain, and of the one that is too heavy
abbrev pub IfSizes : Findings → (Option ℕ → Option ℕ → Type 0) → Type 0
IfSizes (Circle i) P = Unit {0}
IfSizes (Sizes too_long too_heavy) P = P too_long too_heavy
