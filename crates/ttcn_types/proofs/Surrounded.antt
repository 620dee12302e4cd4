-- The scope of a constant or a template of the module.
use Rattle.std.proofs.Common.{◌≡◌, Bool, true, false, if◌then◌else◌, ℕ, List, [], ◌∷◌, Option, Some, None, bytes_eq, ap, subst, sym, ◌∙◌}
use Rattle.std.specs.Option.{option_or}
use Rattle.check_scope.specs.declared.names.Meaning.{Meaning}
use Rattle.check_scope.specs.declared.names.Meaning.TheVariants as meaning
use Rattle.check_scope.specs.declared.types.DataType.{DataType}
use Rattle.check_rules.proofs.Meanings.{IfMeans}
use Rattle.ttcn_types.proofs.Numbered.{HasNumber, names-numbered}
use Rattle.ttcn_types.specs.internal.Numbering.{IsNumbered, NoConstants}
use Rattle.ttcn_syntax.specs.declared.tree.definition.Definition.{Definition}
use Rattle.check_scope.specs.Scopes.{module_scope}
use Rattle.check_scope.specs.Names.{Entry, Names, Scope, behind, declaring, module_names}
use Rattle.check_scope.specs.internal.Tables.{either, said}
use Rattle.check_scope.proofs.Entries.{either_behind}
use Rattle.check_scope.specs.declared.table.Table.{Table}

-- a scope of the module that has these names
abbrev pub with_names : List Definition → Names → Scope
with_names definitions names = record { definitions = definitions; names = names; itself = None }

-- without parameters it is the module's
pub module-by-table : (definitions : List Definition) (parameters : Table) → said parameters ≡ (λ name. None)
    → with_names definitions (either (said parameters) (module_names definitions)) ≡ module_scope definitions
module-by-table definitions parameters none = ap (λ (n : Names). with_names definitions (either n (module_names definitions))) none

-- a parameter more
pub declared-in-table : (definitions : List Definition) (parameters next : Table) (entries : List Entry) → said next ≡ behind (said parameters) entries
    → with_names definitions (either (said next) (module_names definitions)) ≡ declaring (with_names definitions (either (said parameters) (module_names definitions))) entries
declared-in-table definitions parameters next entries is =
    ap (with_names definitions) (either_behind (said parameters) (said next) (module_names definitions) entries is)

-- ---- numbers

-- a name of the module stands for a constant that has a number
pub module-numbered : (definitions : List Definition) (name : List ℕ) (m : Option Meaning) → m ≡ module_names definitions name → IsNumbered definitions m
module-numbered definitions name m is at item constant = subst (IfMeans (HasNumber definitions)) (sym is ∙ constant) (names-numbered definitions name)

-- no parameter, no constant
pub none-constant : (names : Names) → names ≡ (λ name. None) → NoConstants names
none-constant names is name at item constant = let none : names name ≡ None = ap (λ (n : Names). n name) is in absurd (cc)

-- a parameter more stands for none
pub declared-no-constant : (old new : Names) (name : List ℕ) (t : Option DataType) → new ≡ behind old ((name, meaning.Variable t) ∷ [])
    → NoConstants old → NoConstants new
declared-no-constant old new name t is none other at item constant =
    go (bytes_eq name other) (sym (ap (λ (names : Names). names other) is) ∙ constant)
  where
    go : (b : Bool) → option_or (option_or None (if b then Some (meaning.Variable t) else None)) (old other) ≡ Some (meaning.ModuleConstant at item) → ⊥
    go true equal = cc
    go false equal = none other at item equal
