-- What the names mean that a behaviour declares up to a place.
use Rattle.std.specs.Prelude.{ℕ, Bool, List, [], ◌∷◌, None, bytes_eq}
use Rattle.std.specs.List.{list_any}
use Rattle.ttcn_syntax.specs.declared.tree.definition.Definition.{Definition}
use Rattle.ttcn_syntax.specs.declared.tree.definition.Parameter.{Parameter}
use Rattle.check_rules.specs.Calls.{parameters_of}
use Rattle.check_scope.specs.Names.{Entry, Names, behind, kind_at}
use Rattle.semantics.specs.Sites.{Site}

-- names that are declared one after the other, the last one first
abbrev pub own_names : List Entry → Names
own_names [] name = None
own_names (entry ∷ entries) name = behind (own_names entries) (entry ∷ []) name

-- without the one that was declared last
abbrev pub without_first : List Entry → List Entry
without_first [] = []
without_first (entry ∷ entries) = entries

-- the site before the name that was declared last
abbrev pub retracted : Site → Site
retracted site = record { behaviour = site.behaviour; declared = without_first site.declared }

-- a name is that of one of the parameters
abbrev pub is_one_of : List Parameter → List ℕ → Bool
is_one_of parameters name = list_any (λ parameter. bytes_eq parameter.name name) parameters

abbrev pub is_parameter : List Definition → ℕ → List ℕ → Bool
is_parameter definitions at name = is_one_of (parameters_of (kind_at definitions at)) name
