-- How large the constants of a module are: what bounds the way from a constant to those that it names.
use Rattle.std.proofs.Common.{◌≡◌, ◌≤◌, ◌<◌, ◌+◌, Bool, true, false, if◌then◌else◌, ℕ, zero, suc, List, [], ◌∷◌, map, length, get_or, Option, Some, None, refl, sym, ap, ◌∙◌, subst, arith}
use Rattle.std.specs.List.{find, slice_get}
use Rattle.std.specs.Option.{option_map}
use Rattle.ttcn_syntax.specs.declared.tree.definition.Definition.{Definition}
use Rattle.ttcn_syntax.specs.declared.tree.definition.DefinitionKind.{DefinitionKind}
use Rattle.ttcn_syntax.specs.declared.tree.definition.DefinitionKind.TheVariants as kind
use Rattle.ttcn_syntax.specs.declared.tree.expression.Expr.{Expr, fold-Expr}
use Rattle.ttcn_syntax.specs.declared.tree.expression.Expr.TheOpen.{Expr-F, Link-F}
use Rattle.ttcn_syntax.specs.declared.tree.expression.Link.{Link, fold-Link}
use Rattle.ttcn_syntax.specs.declared.tree.statement.Constant.{Constant}
use Rattle.ttcn_syntax.specs.declared.tree.value.FieldValue.{FieldValue, fold-FieldValue, fold_out-FieldValue, out-FieldValue}
use Rattle.ttcn_syntax.specs.declared.tree.value.Value.{Value, fold-Value}
use Rattle.ttcn_syntax.specs.declared.tree.value.Value.TheOpen.{FieldValue-F, Value-F}
use Rattle.check_scope.specs.Names.{constant_at, constant_of, kind_at}

-- ---- values

abbrev pub sum : List ℕ → ℕ
sum [] = 0
sum (n ∷ ns) = n + sum ns

abbrev expr_step : Expr-F ℕ ℕ → ℕ
expr_step (Expr-F.Not operand) = operand + 1
expr_step (Expr-F.Signed sign operand) = operand + 1
expr_step (Expr-F.Chain first links) = first + sum links + 2
expr_step _ = 8

abbrev link_step : Link-F ℕ ℕ → ℕ
link_step l = l.operand + 1

-- the forms in an expression
abbrev pub expr_weight : Expr → ℕ
expr_weight = fold-Expr ℕ ℕ expr_step link_step

abbrev pub link_weight : Link → ℕ
link_weight = fold-Link ℕ ℕ expr_step link_step

abbrev value_step : Value-F ℕ ℕ → ℕ
value_step (Value-F.Expr e) = expr_weight e + 1
value_step Value-F.Omit = 1
value_step (Value-F.Listed elements) = sum elements + 2
value_step (Value-F.Assigned elements) = sum elements + 2

abbrev field_value_step : FieldValue-F ℕ ℕ → ℕ
field_value_step element = element.value + 1

-- the forms in a value
abbrev pub value_weight : Value → ℕ
value_weight = fold-Value ℕ ℕ value_step field_value_step

abbrev pub field_value_weight : FieldValue → ℕ
field_value_weight = fold-FieldValue ℕ ℕ value_step field_value_step

pub field_value-weight : (element : FieldValue) → field_value_weight element ≡ value_weight (out-FieldValue element).value + 1
field_value-weight element = fold_out-FieldValue ℕ ℕ value_step field_value_step element

-- what is in a list weighs no more than all of it
pub element-below : {A : Type 0} (f : A → ℕ) (l : List A) (i : ℕ) (x : A) → slice_get l i ≡ Some x → f x ≤ sum (map f l)
element-below f [] i x is = absurd (let e = is in cc)
element-below f (y ∷ l) zero x is = let same : y ≡ x = cc in subst (λ z. f z ≤ f y + sum (map f l)) same (omega arith)
element-below f (y ∷ l) (suc i) x is = omega (arith, element-below f l i x is)

-- the same, of what stands at an index
pub item-below : {A : Type 0} (f : A → ℕ) (l : List A) (i : ℕ) (x : A) → i < length l → x ≡ get_or l i x → f x ≤ sum (map f l)
item-below f [] i x within is = absurd (omega (arith, within))
item-below f (y ∷ l) zero x within is = subst (λ z. f z ≤ f y + sum (map f l)) (sym is) (omega arith)
item-below f (y ∷ l) (suc i) x within is = omega (arith, item-below f l i x (omega (arith, within)) is)

-- the same, of what is found
pub found-below : {A : Type 0} (f : A → ℕ) (test : A → Bool) (l : List A) (x : A) → find test l ≡ Some x → f x ≤ sum (map f l)
found-below f test [] x is = absurd (let e = is in cc)
found-below f test (y ∷ l) x is = go (test y) is (found-below f test l x)
  where
    go : (b : Bool) → (if b then Some y else find test l) ≡ Some x → (find test l ≡ Some x → f x ≤ sum (map f l)) → f x ≤ f y + sum (map f l)
    go true h rest = let same : y ≡ x = cc in subst (λ z. f z ≤ f y + sum (map f l)) same (omega arith)
    go false h rest = omega (arith, rest h)

-- the same, of the value of an element
pub found_value-below : (test : FieldValue → Bool) (elements : List FieldValue) (v : Value) → option_map (λ (e : FieldValue). (out-FieldValue e).value) (find test elements) ≡ Some v
    → value_weight v + 1 ≤ sum (map field_value_weight elements)
found_value-below test elements v is = go (find test elements) refl is
  where
    go : (o : Option FieldValue) → find test elements ≡ o → option_map (λ (e : FieldValue). (out-FieldValue e).value) o ≡ Some v → value_weight v + 1 ≤ sum (map field_value_weight elements)
    go None found h = absurd (let e = h in cc)
    go (Some e) found h =
        let same : (out-FieldValue e).value ≡ v = cc in
        subst (λ w. value_weight w + 1 ≤ sum (map field_value_weight elements)) same (omega (arith, field_value-weight e, found-below field_value_weight test elements e found))

-- ---- constants

abbrev constant_weight : Constant → ℕ
constant_weight constant = value_weight constant.value

abbrev kind_weight : DefinitionKind → ℕ
kind_weight (kind.Constants cs) = sum (map constant_weight cs.constants)
kind_weight _ = 0

abbrev definition_weight : Definition → ℕ
definition_weight definition = kind_weight definition.kind

-- the weight of all constants
abbrev pub constants_weight : List Definition → ℕ
constants_weight definitions = sum (map definition_weight definitions)

in-kind : (k : Option DefinitionKind) (bound : ℕ) → ((j : DefinitionKind) → k ≡ Some j → kind_weight j ≤ bound) → (item : ℕ) (c : Constant) → constant_of k item ≡ Some c → value_weight c.value ≤ bound
in-kind (Some (kind.Constants cs)) bound below item c is =
    omega (arith, element-below constant_weight cs.constants item c is, below (kind.Constants cs) refl)
in-kind (Some (kind.Record r)) bound below item c is = absurd (let e = is in cc)
in-kind (Some (kind.Enumerated r)) bound below item c is = absurd (let e = is in cc)
in-kind (Some (kind.Port r)) bound below item c is = absurd (let e = is in cc)
in-kind (Some (kind.Component r)) bound below item c is = absurd (let e = is in cc)
in-kind (Some (kind.Template r)) bound below item c is = absurd (let e = is in cc)
in-kind (Some (kind.Function r)) bound below item c is = absurd (let e = is in cc)
in-kind (Some (kind.Altstep r)) bound below item c is = absurd (let e = is in cc)
in-kind (Some (kind.Testcase r)) bound below item c is = absurd (let e = is in cc)
in-kind None bound below item c is = absurd (let e = is in cc)

of-definition : (found : Option Definition) (k : DefinitionKind) → option_map (λ (d : Definition). d.kind) found ≡ Some k → (d : Definition) × ((found ≡ Some d) × (d.kind ≡ k))
of-definition (Some d) k is = let same : d.kind ≡ k = cc in (d, (refl, same))
of-definition None k is = absurd (let e = is in cc)

kind-below : (definitions : List Definition) (at : ℕ) (k : DefinitionKind) → kind_at definitions at ≡ Some k → kind_weight k ≤ constants_weight definitions
kind-below definitions at k is =
    let found = of-definition (slice_get definitions at) k is in
    subst (λ j. kind_weight j ≤ constants_weight definitions) found.1.1 (element-below definition_weight definitions at found.0 found.1.0)

-- a constant weighs no more than all
pub constant-below : (definitions : List Definition) (at item : ℕ) (c : Constant) → constant_at definitions at item ≡ Some c → value_weight c.value ≤ constants_weight definitions
constant-below definitions at item c is = in-kind (kind_at definitions at) (constants_weight definitions) (λ j found. kind-below definitions at j found) item c is

-- ---- chains

-- what may be evaluated yet, where chains of constants may be so long
abbrev pub levels : ℕ → ℕ → ℕ
levels zero weight = 0
levels (suc n) weight = weight + 16 + levels n weight

next-level : (k weight n : ℕ) → n ≡ suc k → levels n weight ≡ weight + 16 + levels k weight
next-level k weight n is = ap (λ m. levels m weight) is

-- a constant is a level below
pub level-below : (n k weight m t : ℕ) → n ≡ suc k → m ≤ weight → levels n weight ≡ t → levels k weight + m < t
level-below n k weight m t is below at = omega (arith, next-level k weight n is, below, at)
