-- The numbers of constants and templates, in the words of the private contracts.
use Rattle.std.specs.Prelude.{◌≡◌, ◌≢◌, ℕ, ◌+◌, ◌<◌, List, length, slice_index_or, Option, Some}
use Rattle.check_scope.specs.Names.{Names}
use Rattle.check_scope.specs.declared.names.Meaning.{Meaning}
use Rattle.check_scope.specs.declared.names.Meaning.TheVariants as meaning
use Rattle.ttcn_syntax.specs.declared.tree.definition.Definition.{Definition}
use Rattle.check_rules.specs.Parts.{how_many_in, number_at}
use Rattle.ttcn_types.specs.declared.parts.numbers.Numbers.{Numbers}

-- how many constants and templates come before a definition
abbrev pub count_before : Numbers → ℕ → ℕ
count_before numbers at = slice_index_or numbers.before.items at (length numbers.places.items)

-- these are the numbers of the definitions, and there are as many places
pub record AreNumbers (numbers : Numbers) (definitions : List Definition) : Type 0 where
  pub number : (at : ℕ) → count_before numbers at ≡ number_at definitions at
  pub count : length numbers.places.items ≡ how_many_in definitions

-- no name stands for a constant of the module
abbrev pub NoConstants : Names → Type 0
NoConstants names = (name : List ℕ) (at item : ℕ) → names name ≢ Some (meaning.ModuleConstant at item)

-- if a name stands for a constant of the module, that has a number among those of the definitions
abbrev pub IsNumbered : List Definition → Option Meaning → Type 0
IsNumbered definitions m = (at item : ℕ) → m ≡ Some (meaning.ModuleConstant at item) → number_at definitions at + item < how_many_in definitions
