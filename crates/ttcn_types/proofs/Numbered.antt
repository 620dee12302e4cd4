-- Each constant and each template that a name stands for has a number among those of the module.
use Rattle.std.proofs.Common.{◌≡◌, ◌≤◌, ℕ, ◌+◌, ◌<◌, List, [], ◌∷◌, ◌++◌, map, length, take, refl, sym, ap, subst, ◌∙◌, arith, append_assoc, length-append, zero-add, add_assoc}
use Rattle.std.proofs.Math.Seq.{take-append_seam}
use Rattle.ttcn_syntax.specs.declared.tree.definition.Definition.{Definition}
use Rattle.ttcn_syntax.specs.declared.tree.definition.DefinitionKind.{DefinitionKind}
use Rattle.ttcn_syntax.specs.declared.tree.definition.DefinitionKind.TheVariants as kind
use Rattle.ttcn_syntax.specs.declared.tree.definition.Enumerator.{Enumerator}
use Rattle.ttcn_syntax.specs.declared.tree.definition.Parameter.{Parameter}
use Rattle.ttcn_syntax.specs.declared.tree.statement.Constant.{Constant}
use Rattle.check_rules.proofs.Meanings.{EachMeans, IfMeans, means-append, means-listed, means-or}
use Rattle.check_scope.specs.Scopes.{module_scope}
use Rattle.check_rules.specs.Definitions.{parameter_entry, with_parameters}
use Rattle.check_scope.specs.Names.{Entry, Scope, constant_entries, declaring, entries_at, entries_from, listed, module_names}
use Rattle.check_rules.specs.Parts.{how_many, how_many_in, number_at}
use Rattle.check_scope.specs.declared.names.Meaning.{Meaning}
use Rattle.check_scope.specs.declared.names.Meaning.TheVariants as meaning

-- ---- numbers of the names of the module

abbrev pub HasNumber : List Definition → Meaning → Type 0
HasNumber definitions (meaning.ModuleConstant at item) = number_at definitions at + item < how_many_in definitions
HasNumber definitions (meaning.Template at) = number_at definitions at < how_many_in definitions
HasNumber definitions _ = Unit {0}

pub how_many-append : (xs ys : List Definition) → how_many_in (xs ++ ys) ≡ how_many_in xs + how_many_in ys
how_many-append [] ys = sym (zero-add (how_many_in ys))
how_many-append (x ∷ xs) ys = ap (λ n. how_many x.kind + n) (how_many-append xs ys) ∙ sym (add_assoc (how_many x.kind) (how_many_in xs) (how_many_in ys))

constants-numbered : (definitions : List Definition) (at item : ℕ) (constants : List Constant) → number_at definitions at + item + length constants ≤ how_many_in definitions
    → EachMeans (HasNumber definitions) (constant_entries at item constants)
constants-numbered definitions at item [] fits = tt
constants-numbered definitions at item (constant ∷ constants) fits = (omega arith, constants-numbered definitions at (item + 1) constants (omega arith))

enumerators-numbered : (definitions : List Definition) (at : ℕ) (enumerators : List Enumerator)
    → EachMeans (HasNumber definitions) (map (λ e. (e.name, meaning.Enumerator at)) enumerators)
enumerators-numbered definitions at [] = tt
enumerators-numbered definitions at (e ∷ es) = (tt, enumerators-numbered definitions at es)

at-numbered : (definitions : List Definition) (at : ℕ) (k : DefinitionKind) → number_at definitions at + how_many k ≤ how_many_in definitions
    → EachMeans (HasNumber definitions) (entries_at at k)
at-numbered definitions at (kind.Record r) fits = (tt, tt)
at-numbered definitions at (kind.Enumerated e) fits = (tt, enumerators-numbered definitions at e.enumerators)
at-numbered definitions at (kind.Port p) fits = (tt, tt)
at-numbered definitions at (kind.Component c) fits = (tt, tt)
at-numbered definitions at (kind.Constants cs) fits = constants-numbered definitions at 0 cs.constants (omega arith)
at-numbered definitions at (kind.Template t) fits = (omega arith, tt)
at-numbered definitions at (kind.Function f) fits = (tt, tt)
at-numbered definitions at (kind.Altstep a) fits = (tt, tt)
at-numbered definitions at (kind.Testcase t) fits = (tt, tt)

-- a definition has its numbers behind those of the definitions before it
fits-behind : (definitions before : List Definition) (definition : Definition) (rest : List Definition) → definitions ≡ before ++ definition ∷ rest
    → number_at definitions (length before) + how_many definition.kind ≤ how_many_in definitions
fits-behind definitions before definition rest is =
    let number : number_at definitions (length before) ≡ how_many_in before =
    ap (λ ds. how_many_in (take (length before) ds)) is ∙ ap how_many_in (take-append_seam before (definition ∷ rest)) in
    let whole : how_many_in definitions ≡ how_many_in before + (how_many definition.kind + how_many_in rest) = ap how_many_in is ∙ how_many-append before (definition ∷ rest) in
    omega (arith, number, whole)

from-numbered : (definitions before rest : List Definition) → definitions ≡ before ++ rest → EachMeans (HasNumber definitions) (entries_from (length before) rest)
from-numbered definitions before [] is = tt
from-numbered definitions before (definition ∷ rest) is =
    means-append (HasNumber definitions) (entries_at (length before) definition.kind) (entries_from (length before + 1) rest)
    (at-numbered definitions (length before) definition.kind (fits-behind definitions before definition rest is))
    (subst (λ n. EachMeans (HasNumber definitions) (entries_from n rest)) (length-append before (definition ∷ []))
    (from-numbered definitions (before ++ definition ∷ []) rest (is ∙ sym (append_assoc before (definition ∷ []) rest))))

pub names-numbered : (definitions : List Definition) (name : List ℕ) → IfMeans (HasNumber definitions) (module_names definitions name)
names-numbered definitions name = means-listed (HasNumber definitions) (entries_from 0 definitions) name (from-numbered definitions [] definitions refl)

-- ---- scopes

-- a scope of these definitions, whose names have their numbers
pub record AreNumbered (definitions : List Definition) (scope : Scope) : Type 0 where
  pub same : scope.definitions ≡ definitions
  pub names : (name : List ℕ) → IfMeans (HasNumber definitions) (scope.names name)

pub module-numbered : (definitions : List Definition) → AreNumbered definitions (module_scope definitions)
module-numbered definitions = record { same = refl; names = names-numbered definitions }

declaring-numbered : (definitions : List Definition) (scope : Scope) (entries : List Entry) → EachMeans (HasNumber definitions) entries → AreNumbered definitions scope
    → AreNumbered definitions (declaring scope entries)
declaring-numbered definitions scope entries each known = record {
  same = known.same;
  names = λ name. means-or (HasNumber definitions) (listed entries name) (scope.names name) (means-listed (HasNumber definitions) entries name each) (known.names name);
}

pub parameters-numbered : (definitions : List Definition) (scope : Scope) (parameters : List Parameter) → AreNumbered definitions scope
    → AreNumbered definitions (with_parameters scope parameters)
parameters-numbered definitions scope [] known = known
parameters-numbered definitions scope (parameter ∷ parameters) known =
    parameters-numbered definitions (declaring scope (parameter_entry scope parameter ∷ [])) parameters
    (declaring-numbered definitions scope (parameter_entry scope parameter ∷ []) (tt, tt) known)
