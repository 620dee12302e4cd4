-- Test cases that are placed one by one.
use Rattle.std.proofs.Common.{◌≡◌, ◌≤◌, ℕ, suc, ◌+◌, Bool, true, false, if◌then◌else◌, List, [], ◌∷◌, length, drop, Option, Some, None, bytes_eq, refl, sym, ap, subst, ◌∙◌, arith}
use mathlib.Core.Path.{fun_ext}
use Rattle.std.proofs.lemmas.Iterator.Adapters.{position_from-zero}
use Rattle.std.proofs.lemmas.List.{drop_all}
use Rattle.std.specs.Cmp.Lexicographic.{bytes_decides}
use Rattle.std.specs.List.{position_from}
use Rattle.std.specs.Option.{option_or}
use Rattle.ttcn_syntax.specs.declared.tree.definition.Definition.{Definition}
use Rattle.ttcn_syntax.specs.declared.tree.definition.DefinitionKind.{DefinitionKind}
use Rattle.ttcn_syntax.specs.declared.tree.definition.DefinitionKind.TheVariants as kind
use Rattle.ttcn_syntax.specs.declared.tree.definition.Testcase.{Testcase}
use Rattle.check_scope.proofs.Lookups.{or-None, or-assoc, put}
use Rattle.check_rules.specs.Programs.{IsTestCaseAt, is_test_case, test_case_named}
use Rattle.check_rules.specs.internal.TestCases.{with_position}

abbrev pub Positions : Type 0
Positions = List ℕ → Option ℕ

-- the test cases so far, and those among the definitions that are left, which begin at a position
abbrev pub placing : Positions → ℕ → List Definition → Positions
placing positions at definitions name = option_or (positions name) (position_from (λ definition. is_test_case name definition.kind) at definitions)

abbrev pub placed_from : ℕ → List Definition → Positions
placed_from at definitions name = position_from (λ definition. is_test_case name definition.kind) at definitions

-- a definition that is no test case
pub placing-other : (positions : Positions) (at : ℕ) (definition : Definition) (rest : List Definition) → ((name : List ℕ) → is_test_case name definition.kind ≡ false)
    → placing positions at (definition ∷ rest) ≡ placing positions (at + 1) rest
placing-other positions at definition rest other =
    fun_ext (λ name. ap (λ b. option_or (positions name) (if b then Some at else placed_from (at + 1) rest name)) (other name))

pub no-test_case : (k : DefinitionKind) → ((t : Testcase) → k ≡ kind.Testcase t → ⊥) → (name : List ℕ) → is_test_case name k ≡ false
no-test_case (kind.Testcase t) none name = absurd (none t refl)
no-test_case _ none name = refl

-- a test case
pub placing-test_case : (positions next : Positions) (at : ℕ) (definition : Definition) (rest : List Definition) (own : List ℕ)
    → ((name : List ℕ) → is_test_case name definition.kind ≡ bytes_eq name own) → next ≡ with_position positions own at
    → placing positions at (definition ∷ rest) ≡ placing next (at + 1) rest
placing-test_case positions next at definition rest own test_case next_is =
    fun_ext (λ name. ap (λ b. option_or (positions name) (if b then Some at else placed_from (at + 1) rest name)) (test_case name)
    ∙ ap (option_or (positions name)) (put (bytes_eq name own) at (placed_from (at + 1) rest name))
    ∙ sym (or-assoc (positions name) (if bytes_eq name own then Some at else None) (placed_from (at + 1) rest name)))
    ∙ ap (λ (p : Positions). placing p (at + 1) rest) (sym next_is)

pub placing-first : (positions : Positions) (definitions : List Definition) → positions ≡ (λ name. None) → placing positions 0 definitions ≡ placed_from 0 definitions
placing-first positions definitions none = ap (λ (p : Positions). placing p 0 definitions) none

pub placing-end : (positions : Positions) (definitions : List Definition) (i : ℕ) → length definitions ≤ i → placing positions i (drop i definitions) ≡ placed_from 0 definitions
    → positions ≡ test_case_named definitions
placing-end positions definitions i past placed =
    fun_ext (λ name. sym (or-None (positions name)))
    ∙ ap (λ ds. placing positions i ds) (sym (drop_all i definitions past))
    ∙ placed
    ∙ fun_ext (λ name. sym (position_from-zero (λ (definition : Definition). is_test_case name definition.kind) definitions))

-- ---- what is found

test_case-of : (k : DefinitionKind) (name : List ℕ) → is_test_case name k ≡ true → (t : Testcase) × (k ≡ kind.Testcase t) × (t.name ≡ name)
test_case-of (kind.Testcase t) name is = (t, refl, sym ((bytes_decides name t.name).0 is))
test_case-of (kind.Record r) name is = absurd (cc)
test_case-of (kind.Enumerated e) name is = absurd (cc)
test_case-of (kind.Port p) name is = absurd (cc)
test_case-of (kind.Component c) name is = absurd (cc)
test_case-of (kind.Constants cs) name is = absurd (cc)
test_case-of (kind.Template t) name is = absurd (cc)
test_case-of (kind.Function f) name is = absurd (cc)
test_case-of (kind.Altstep a) name is = absurd (cc)

placed-at : (definitions : List Definition) (name : List ℕ) (from at : ℕ) → placed_from from definitions name ≡ Some at → (i : ℕ) × (at ≡ from + i) × IsTestCaseAt definitions name i
placed-at [] name from at is = absurd (cc)
placed-at (definition ∷ definitions) name from at is = go (is_test_case name definition.kind) refl is (placed-at definitions name (from + 1) at)
  where
    go : (b : Bool) → is_test_case name definition.kind ≡ b → (if b then Some from else placed_from (from + 1) definitions name) ≡ Some at
        → (placed_from (from + 1) definitions name ≡ Some at → (i : ℕ) × (at ≡ from + 1 + i) × IsTestCaseAt definitions name i)
        → (i : ℕ) × (at ≡ from + i) × IsTestCaseAt (definition ∷ definitions) name i
    go true here found behind =
        let of = test_case-of definition.kind name here in
        let same : from ≡ at = cc in
        (0, omega (arith, same), (of.0, ap Some of.1, of.2))
    go false here found behind =
        let later = behind found in
        (suc later.0, (let same = later.1 in omega (arith, same)), later.2)

pub named-at : (definitions : List Definition) (name : List ℕ) (at : ℕ) → test_case_named definitions name ≡ Some at → IsTestCaseAt definitions name at
named-at definitions name at is =
    let found = placed-at definitions name 0 at (sym (position_from-zero (λ (definition : Definition). is_test_case name definition.kind) definitions) ∙ is) in
    subst (IsTestCaseAt definitions name) (let same = found.1 in omega (arith, same)) found.2
