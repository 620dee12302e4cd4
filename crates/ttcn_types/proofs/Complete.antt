-- What records and altsteps refer to is among the definitions.
use Rattle.std.proofs.Common.{◌≤◌, ℕ, ◌+◌, ◌<◌, List, [], ◌∷◌, map, length, get_or, Option, Some, sym, subst, arith}
use Rattle.std.proofs.lemmas.List.{length-map}
use Rattle.std.proofs.lemmas.List.Elements.{All-append, All-cons, All-map, All-nil}
use Rattle.std.specs.List.{All}
use Rattle.check_survey.specs.Graphs.{AreComplete}
use Rattle.check_survey.specs.declared.thing.Thing.{Thing}
use Rattle.ttcn_syntax.specs.declared.tree.definition.Definition.{Definition}
use Rattle.ttcn_syntax.specs.declared.tree.definition.DefinitionKind.{DefinitionKind}
use Rattle.ttcn_syntax.specs.declared.tree.definition.DefinitionKind.TheVariants as kind
use Rattle.ttcn_syntax.specs.declared.tree.definition.Field.{Field}
use Rattle.ttcn_syntax.specs.declared.tree.definition.Enumerator.{Enumerator}
use Rattle.ttcn_syntax.specs.declared.tree.statement.Action.{Action}
use Rattle.ttcn_syntax.specs.declared.tree.statement.Action.TheOpen.{Alternative-F}
use Rattle.ttcn_syntax.specs.declared.tree.statement.Alternative.{Alternative, out-Alternative}
use Rattle.ttcn_syntax.specs.declared.tree.statement.Branch.{Branch, out-Branch}
use Rattle.ttcn_syntax.specs.declared.tree.statement.Conditional.{Conditional}
use Rattle.ttcn_syntax.specs.declared.tree.statement.Constant.{Constant}
use Rattle.ttcn_syntax.specs.declared.tree.statement.Statement.{Statement}
use Rattle.ttcn_syntax.specs.declared.tree.value.TypeName.{TypeName}
use Rattle.ttcn_syntax.specs.declared.tree.value.TypeName.TheVariants as type_name
use Rattle.check_rules.specs.Calls.{altstep_meant}
use Rattle.check_scope.specs.Names.{constant_entries, entries_at, entries_from, module_names, resolved, type_meant}
use Rattle.check_rules.specs.Parts.{all_of, braced, field_part, alternative_parts, altstep_part, altstep_parts, altsteps, branch_parts, part_of_field, record_parts, records}
use Rattle.check_rules.proofs.Meanings.{EachMeans, IfMeans, means-append, means-listed}
use Rattle.check_scope.specs.declared.names.Meaning.{Meaning}
use Rattle.check_scope.specs.declared.names.Meaning.TheVariants as meaning

-- a record or an altstep stands among so many definitions
abbrev pub Inside : ℕ → Meaning → Type 0
Inside n (meaning.Record at) = at < n
Inside n (meaning.Altstep at) = at < n
Inside n _ = Unit {0}

constants-inside : (n at item : ℕ) (constants : List Constant) → EachMeans (Inside n) (constant_entries at item constants)
constants-inside n at item [] = tt
constants-inside n at item (constant ∷ constants) = (tt, constants-inside n at (item + 1) constants)

enumerators-inside : (n at : ℕ) (enumerators : List Enumerator) → EachMeans (Inside n) (map (λ e. (e.name, meaning.Enumerator at)) enumerators)
enumerators-inside n at [] = tt
enumerators-inside n at (e ∷ es) = (tt, enumerators-inside n at es)

at-inside : (n at : ℕ) (k : DefinitionKind) → at < n → EachMeans (Inside n) (entries_at at k)
at-inside n at (kind.Record r) inside = (inside, tt)
at-inside n at (kind.Enumerated e) inside = (tt, enumerators-inside n at e.enumerators)
at-inside n at (kind.Port p) inside = (tt, tt)
at-inside n at (kind.Component c) inside = (tt, tt)
at-inside n at (kind.Constants cs) inside = constants-inside n at 0 cs.constants
at-inside n at (kind.Template t) inside = (tt, tt)
at-inside n at (kind.Function f) inside = (tt, tt)
at-inside n at (kind.Altstep a) inside = (inside, tt)
at-inside n at (kind.Testcase t) inside = (tt, tt)

from-inside : (n at : ℕ) (definitions : List Definition) → at + length definitions ≤ n → EachMeans (Inside n) (entries_from at definitions)
from-inside n at [] fits = tt
from-inside n at (definition ∷ definitions) fits =
    means-append (Inside n) (entries_at at definition.kind) (entries_from (at + 1) definitions) (at-inside n at definition.kind (omega arith)) (from-inside n (at + 1) definitions (omega arith))

names-inside : (definitions : List Definition) (name : List ℕ) → IfMeans (Inside (length definitions)) (module_names definitions name)
names-inside definitions name = means-listed (Inside (length definitions)) (entries_from 0 definitions) name (from-inside (length definitions) 0 definitions (omega arith))

-- ---- references

abbrev pub Below : ℕ → Thing → Type 0
Below n thing = All (λ i. i < n) thing.references

pub nothing-below : (n : ℕ) → All (λ i. i < n) []
nothing-below n = All-nil (λ i. i < n)

pub one-below : (n at : ℕ) → at < n → All (λ i. i < n) (at ∷ [])
one-below n at inside = All-cons (λ i. i < n) at [] inside (nothing-below n)

pub all-below : {A : Type 0} (n : ℕ) (part : A → Thing) → ((x : A) → Below n (part x)) → (xs : List A) → Below n (all_of (map part xs))
all-below n part each [] = nothing-below n
all-below n part each (x ∷ xs) = All-append (λ i. i < n) (part x).references (all_of (map part xs)).references (each x) (all-below n part each xs)

meant-below : (n : ℕ) (m : Option Meaning) → IfMeans (Inside n) m → Below n (field_part (type_meant m))
meant-below n (Some (meaning.Record at)) inside = one-below n at inside
meant-below n (Some (meaning.Enumerated at)) inside = nothing-below n
meant-below n (Some (meaning.Component at)) inside = nothing-below n
meant-below n _ inside = nothing-below n

field-below : (definitions : List Definition) (t : TypeName) → Below (length definitions) (field_part (resolved (module_names definitions) t))
field-below definitions type_name.Integer = nothing-below (length definitions)
field-below definitions type_name.Boolean = nothing-below (length definitions)
field-below definitions type_name.Default = nothing-below (length definitions)
field-below definitions (type_name.Named name) = meant-below (length definitions) (module_names definitions name) (names-inside definitions name)

pub braced-below : (n : ℕ) (things : List Thing) → Below n (all_of things) → Below n (braced things)
braced-below n [] below = nothing-below n
braced-below n (thing ∷ things) below = below

record-below : (definitions : List Definition) (k : DefinitionKind) → Below (length definitions) (record_parts definitions k)
record-below definitions (kind.Record r) =
    braced-below (length definitions) (map (part_of_field definitions) r.fields)
    (all-below (length definitions) (part_of_field definitions) (λ (f : Field). field-below definitions f.type_name) r.fields)
record-below definitions _ = nothing-below (length definitions)

mapped-complete : (definitions : List Definition) (part : Definition → Thing) → ((d : Definition) → Below (length definitions) (part d)) → AreComplete (map part definitions)
mapped-complete definitions part each =
    subst (λ n. All (Below n) (map part definitions)) (sym (length-map definitions part)) (All-map (Below (length definitions)) part definitions (λ k d within. each (get_or definitions k d)))

pub records_complete : (definitions : List Definition) → AreComplete (records definitions)
records_complete definitions = mapped-complete definitions (λ (d : Definition). record_parts definitions d.kind) (λ d. record-below definitions d.kind)

called-below : (n : ℕ) (m : Option Meaning) → IfMeans (Inside n) m → Below n (altstep_part (altstep_meant m))
called-below n (Some (meaning.Altstep at)) inside = one-below n at inside
called-below n _ inside = nothing-below n

alternative-below : (definitions : List Definition) (a : Alternative-F Action Alternative Branch Conditional Statement) → Below (length definitions) (alternative_parts definitions a)
alternative-below definitions (Alternative-F.«Alternative::Call» guard call block) =
    called-below (length definitions) (module_names definitions call.name) (names-inside definitions call.name)
alternative-below definitions _ = nothing-below (length definitions)

altstep-below : (definitions : List Definition) (k : DefinitionKind) → Below (length definitions) (altstep_parts definitions k)
altstep-below definitions (kind.Altstep a) =
    all-below (length definitions) (branch_parts definitions) (λ (b : Branch). alternative-below definitions (out-Alternative (out-Branch b).alternative)) a.branches
altstep-below definitions _ = nothing-below (length definitions)

pub altsteps_complete : (definitions : List Definition) → AreComplete (altsteps definitions)
altsteps_complete definitions = mapped-complete definitions (λ (d : Definition). altstep_parts definitions d.kind) (λ d. altstep-below definitions d.kind)
