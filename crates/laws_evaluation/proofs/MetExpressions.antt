-- An expression that breaks no rule, and has a value, gives one or a dynamic error.
use Rattle.std.proofs.Common.{◌≡◌, ◌≢◌, ℕ, suc, ℤ, pos, ◌+◌, Bool, true, false, ◌&&◌, not, nat_eq, List, [], ◌∷◌, ◌++◌, map, bytes_eq, Option, Some, None, is_some, if◌then◌else◌, refl, sym, ap, subst, ◌∙◌, arith}
use Rattle.std.proofs.Math.Bool.{beq}
use Rattle.std.proofs.lemmas.Bool.{and_parts, eqb-true}
use Rattle.std.proofs.lemmas.Iterator.Adapters.{position_from-zero}
use Rattle.std.proofs.lemmas.List.Elements.{All-head, All-tail}
use Rattle.std.specs.List.{All, find, position, position_from, slice_get}
use Rattle.std.specs.Option.{option_and_then}
use Rattle.ttcn_syntax.specs.declared.operator.Operator.{Operator}
use Rattle.ttcn_syntax.specs.declared.operator.Operator.TheVariants as operator
use Rattle.ttcn_syntax.specs.declared.operator.Sign.{Sign}
use Rattle.ttcn_syntax.specs.declared.tree.definition.Definition.{Definition}
use Rattle.ttcn_syntax.specs.declared.tree.definition.Field.{Field}
use Rattle.ttcn_syntax.specs.declared.tree.expression.ComponentRef.{ComponentRef}
use Rattle.ttcn_syntax.specs.declared.tree.expression.ComponentRef.TheVariants as component
use Rattle.ttcn_syntax.specs.declared.tree.expression.Expr.{Expr, roll-Expr}
use Rattle.ttcn_syntax.specs.declared.tree.expression.Expr.TheFolds.{fold-roll-Expr, fold-roll-Link, ind-Expr, map-Expr, map-Link}
use Rattle.ttcn_syntax.specs.declared.tree.expression.Expr.TheOpen.{Expr-F, Link-F}
use Rattle.ttcn_syntax.specs.declared.tree.expression.Link.{Link, fold_out-Link, out-Link, roll-Link}
use Rattle.ttcn_syntax.specs.declared.tree.expression.Reference.{Reference}
use Rattle.laws_checker.proofs.Nothing.{nothing-first, nothing-rest}
use Rattle.laws_checker.proofs.Typed.{component-typed, expression_typed as expression_known, reference-typed}
use Rattle.laws_checker.specs.Laws.{HasFieldType, IsWhole}
use Rattle.check_rules.specs.Expressions as said
use Rattle.check_rules.specs.Expressions.{Judgement, Judge, check_component, check_field, check_meaning, check_running, between, join_links, demand, expression, is_timer, names_timer, of_type, within}
use Rattle.check_scope.specs.Names.{Scope, field_named, fields_at, module_names, resolved}
use Rattle.check_scope.specs.Typings.{comparable, compares, operands_of, result_of, target_of, typed}
use Rattle.check_scope.specs.Typings as typings
use Rattle.check_scope.specs.declared.names.Meaning.{Meaning}
use Rattle.check_scope.specs.declared.names.Meaning.TheVariants as meaning
use Rattle.check_scope.specs.declared.rule.Rule.{Rule}
use Rattle.check_scope.specs.declared.rule.Rule.TheVariants as rule
use Rattle.check_scope.specs.declared.types.DataType.{DataType}
use Rattle.check_scope.specs.declared.types.DataType.TheVariants as type
use Rattle.check_scope.specs.declared.types.Typing.{Typing}
use Rattle.check_scope.specs.declared.types.Typing.TheVariants as typing
use Rattle.value_arithmetic.specs.Integers as integers
use Rattle.value_arithmetic.specs.Integers.{calculated}
use Rattle.laws_evaluation.proofs.TypedLiterals.{same-type}
use Rattle.laws_evaluation.proofs.TypedValues.{component-goes, expression_typed, field-goes, goes-out, if-any, if-then-of, joined-goes, level_goes, same-operator, with_goes}
use Rattle.laws_evaluation.specs.Types as types
use Rattle.laws_evaluation.specs.Types.{FitsIn, HasAll, IsOfTyping, go_to_fields, goes_to_field, is_of, is_valued, names_value}
use Rattle.value_types.specs.Evaluation.{Evaluation, after, expression_step, joined, link, link_step, value_of}
use Rattle.value_types.specs.Operations.{applied, both, compared, decides, fitting, logical, negated, ordered, truth, under_sign, with_sign}
use Rattle.value_types.specs.Outcomes.{DynamicError, Fails, IfYields, IsMet, Outcome, Unmet, Yields, dynamic_error, or_unmet, outcome_and_then, outcome_map}
use Rattle.value_types.specs.Readings.{Reading, along, component_at, component_runs, field, last_presence, named, presence, read, referred, runs, runs_at, state_in, state_of_field, timer_at, timer_of}
use Rattle.value_types.specs.Values as values
use Rattle.value_types.specs.Values.{boolean, boolean_in, equal, integer, integer_in, is_complete, is_omit, record_in}
use Rattle.value_types.specs.declared.value.Value.{Value, out-Value}
use Rattle.value_types.specs.declared.value.Value.TheOpen.{Value-F}

-- ---- outcomes

pub met-map : {A B : Type 0} (f : A → B) (o : Outcome A) → IsMet o → IsMet (outcome_map f o)
met-map f (Yields a) met = tt
met-map f (Fails DynamicError) met = tt
met-map f (Fails Unmet) met = met

pub met-then : {A B : Type 0} (Q : A → Type 0) (f : A → Outcome B) (o : Outcome A) → IsMet o → IfYields o Q → ((a : A) → Q a → IsMet (f a)) → IsMet (outcome_and_then f o)
met-then Q f (Yields a) met of all = all a of
met-then Q f (Fails DynamicError) met of all = tt
met-then Q f (Fails Unmet) met of all = met

pub met-there : {A : Type 0} (o : Option A) → is_some o ≡ true → IsMet (or_unmet o)
met-there (Some a) there = tt
met-there None there = absurd (let e = there in cc)

not-there : {A : Type 0} (o : Option A) → o ≡ None → is_some o ≡ true → ⊥
not-there None is there = let e = there in cc
not-there (Some a) is there = let e = is in cc

-- whatever is there
abbrev pub Any : {A : Type 0} → A → Type 0
Any a = Unit {0}

pub any-of : {A : Type 0} (o : Outcome A) → IfYields o Any
any-of o = if-any Any o (λ a. tt)

fitting-met : (o : Option ℤ) → IsMet (fitting o)
fitting-met None = tt
fitting-met (Some z) = tt

-- ---- values of types

module _ (definitions : List Definition) where
  level-integer : (x : Value-F Value) → level_goes definitions x (target_of (Some type.Integer)) ≡ true → is_some (integer_in x) ≡ true
  level-integer (Value-F.Integer n) goes = refl
  level-integer (Value-F.Boolean b) goes = absurd (let e = goes in cc)
  level-integer (Value-F.Enumerated at n) goes = absurd (let e = goes in cc)
  level-integer (Value-F.Record at fields) goes = absurd (let e = goes in cc)
  level-integer (Value-F.Component c) goes = absurd (let e = goes in cc)
  level-integer (Value-F.Default n) goes = absurd (let e = goes in cc)
  level-integer Value-F.Null goes = absurd (let e = goes in cc)
  level-integer Value-F.Omit goes = absurd (let e = goes in cc)

  pub integer-there : (v : Value) → is_of definitions type.Integer v ≡ true → is_some (integer v) ≡ true
  integer-there v is = level-integer (out-Value v) (sym (goes-out definitions v (target_of (Some type.Integer))) ∙ is)

  level-boolean : (x : Value-F Value) → level_goes definitions x (target_of (Some type.Boolean)) ≡ true → is_some (boolean_in x) ≡ true
  level-boolean (Value-F.Boolean b) goes = refl
  level-boolean (Value-F.Integer n) goes = absurd (let e = goes in cc)
  level-boolean (Value-F.Enumerated at n) goes = absurd (let e = goes in cc)
  level-boolean (Value-F.Record at fields) goes = absurd (let e = goes in cc)
  level-boolean (Value-F.Component c) goes = absurd (let e = goes in cc)
  level-boolean (Value-F.Default n) goes = absurd (let e = goes in cc)
  level-boolean Value-F.Null goes = absurd (let e = goes in cc)
  level-boolean Value-F.Omit goes = absurd (let e = goes in cc)

  pub boolean-there : (v : Value) → is_of definitions type.Boolean v ≡ true → is_some (boolean v) ≡ true
  boolean-there v is = level-boolean (out-Value v) (sym (goes-out definitions v (target_of (Some type.Boolean))) ∙ is)

  level-component : (x : Value-F Value) (at : ℕ) → level_goes definitions x (target_of (Some (type.Component at))) ≡ true → IsMet (values.component_in x)
  level-component (Value-F.Component c) at goes = tt
  level-component Value-F.Null at goes = tt
  level-component (Value-F.Integer n) at goes = absurd (let e = goes in cc)
  level-component (Value-F.Boolean b) at goes = absurd (let e = goes in cc)
  level-component (Value-F.Enumerated bt n) at goes = absurd (let e = goes in cc)
  level-component (Value-F.Record bt fields) at goes = absurd (let e = goes in cc)
  level-component (Value-F.Default n) at goes = absurd (let e = goes in cc)
  level-component Value-F.Omit at goes = absurd (let e = goes in cc)

  component-there : (v : Value) (at : ℕ) → is_of definitions (type.Component at) v ≡ true → IsMet (values.component v)
  component-there v at is = level-component (out-Value v) at (sym (goes-out definitions v (target_of (Some (type.Component at)))) ∙ is)

  -- ---- fields

  read-met : (state : Option Value) → IsMet (read state)
  read-met None = tt
  read-met (Some v) = chosen (is_omit v)
    where
      chosen : (b : Bool) → IsMet (if b then dynamic_error else Yields v)
      chosen true = tt
      chosen false = tt

  chosen-there : (b : Bool) (get : ℕ → Option (Option Value)) (i : ℕ) (left : Option ℕ) (f : Field) (found : Option Field) → is_some (get i) ≡ true
      → (is_some found ≡ true → is_some (option_and_then get left) ≡ true) → is_some (if b then Some f else found) ≡ true
      → is_some (option_and_then get (if b then Some i else left)) ≡ true
  chosen-there true get i left f found here rest there = here
  chosen-there false get i left f found here rest there = rest there

  fields-there : (test : Field → Bool) (get : ℕ → Option (Option Value)) (i : ℕ) (fs : List Field) (states : List (Option Value))
      → ((k j : ℕ) → j ≡ i + k → get j ≡ slice_get states k) → go_to_fields definitions fs (map with_goes states) ≡ true
      → is_some (find test fs) ≡ true → is_some (option_and_then get (position_from test i fs)) ≡ true
  fields-there test get i [] states same go there = absurd (let e = there in cc)
  fields-there test get i (f ∷ fs) [] same go there = absurd (let e = go in cc)
  fields-there test get i (f ∷ fs) (s ∷ ss) same go there =
      let p = and_parts (goes_to_field definitions f (with_goes s)) (go_to_fields definitions fs (map with_goes ss)) go in
      chosen-there (test f) get i (position_from test (i + 1) fs) f (find test fs) (ap is_some (same 0 i (omega arith)))
      (fields-there test get (i + 1) fs ss (λ k j is. same (suc k) j (omega (arith, is))) p.1) there

  state-there : (x : Value-F Value) (at : ℕ) (name : List ℕ) → level_goes definitions x (target_of (Some (type.Record at))) ≡ true
      → is_some (field_named name (fields_at definitions at)) ≡ true → IsMet (state_in definitions name (record_in x))
  state-there (Value-F.Record bt states) at name goes there =
      let p = and_parts (nat_eq at bt) (go_to_fields definitions (fields_at definitions bt) (map with_goes states)) goes in
      let test : Field → Bool = λ f. bytes_eq f.name name in
      met-there (option_and_then (slice_get states) (position test (fields_at definitions bt)))
      (subst (λ o. is_some (option_and_then (slice_get states) o) ≡ true) (sym (position_from-zero test (fields_at definitions bt)))
      (fields-there test (slice_get states) 0 (fields_at definitions bt) states (λ k j is. let e : j ≡ k = omega (arith, is) in ap (slice_get states) e) p.1
      (subst (λ k. is_some (find test (fields_at definitions k)) ≡ true) (eqb-true at bt p.0) there)))
  state-there (Value-F.Integer n) at name goes there = absurd (let e = goes in cc)
  state-there (Value-F.Boolean b) at name goes there = absurd (let e = goes in cc)
  state-there (Value-F.Enumerated bt n) at name goes there = absurd (let e = goes in cc)
  state-there (Value-F.Component c) at name goes there = absurd (let e = goes in cc)
  state-there (Value-F.Default n) at name goes there = absurd (let e = goes in cc)
  state-there Value-F.Null at name goes there = absurd (let e = goes in cc)
  state-there Value-F.Omit at name goes there = absurd (let e = goes in cc)

  field-is : (o : Option Field) → (check_field definitions o).broken ≡ [] → is_some o ≡ true
  field-is (Some f) nothing = refl
  field-is None nothing = absurd (let e = nothing in cc)

  -- the field of a record is there, be it without value
  state-met : (t : Typing) (name : List ℕ) (v : Value) → t ≢ typing.Unknown → (within definitions t name).broken ≡ [] → IsOfTyping definitions t v → IsMet (state_of_field definitions name v)
  state-met (typing.Known (type.Record at)) name v known nothing of =
      state-there (out-Value v) at name (sym (goes-out definitions v (target_of (Some (type.Record at)))) ∙ of) (field-is (field_named name (fields_at definitions at)) nothing)
  state-met (typing.Known type.Integer) name v known nothing of = absurd (let e = nothing in cc)
  state-met (typing.Known type.Boolean) name v known nothing of = absurd (let e = nothing in cc)
  state-met (typing.Known type.Default) name v known nothing of = absurd (let e = nothing in cc)
  state-met (typing.Known (type.Enumerated at)) name v known nothing of = absurd (let e = nothing in cc)
  state-met (typing.Known (type.Component at)) name v known nothing of = absurd (let e = nothing in cc)
  state-met typing.Null name v known nothing of = absurd (let e = nothing in cc)
  state-met typing.AnyComponent name v known nothing of = absurd (let e = nothing in cc)
  state-met typing.NoValue name v known nothing of = absurd (let e = nothing in cc)
  state-met typing.Unknown name v known nothing of = absurd (known refl)

  field-met : (t : Typing) (name : List ℕ) (v : Value) → t ≢ typing.Unknown → (within definitions t name).broken ≡ [] → IsOfTyping definitions t v → IsMet (field definitions name v)
  field-met t name v known nothing of =
      met-then Any read (state_of_field definitions name v) (state-met t name v known nothing of) (any-of (state_of_field definitions name v)) (λ state any. read-met state)

  -- ---- typings of fields

  known-typed : (of : Option DataType) → is_some of ≡ true → typed of ≢ typing.Unknown
  known-typed (Some t) known is = cc
  known-typed None known is = cc

  module _ (fields_known : (at : ℕ) → All (HasFieldType definitions) (fields_at definitions at)) where
    chosen-known : (b : Bool) (f : Field) (found : Option Field) → HasFieldType definitions f → ((check_field definitions found).broken ≡ [] → (check_field definitions found).typing ≢ typing.Unknown)
        → (check_field definitions (if b then Some f else found)).broken ≡ [] → (check_field definitions (if b then Some f else found)).typing ≢ typing.Unknown
    chosen-known true f found known rest nothing = known-typed (resolved (module_names definitions) f.type_name) known
    chosen-known false f found known rest nothing = rest nothing

    pub found-known : (test : Field → Bool) (fs : List Field) → All (HasFieldType definitions) fs → (check_field definitions (find test fs)).broken ≡ [] → (check_field definitions (find test fs)).typing ≢ typing.Unknown
    found-known test [] known nothing = absurd (let e = nothing in cc)
    found-known test (f ∷ fs) known nothing =
        chosen-known (test f) f (find test fs) (All-head (HasFieldType definitions) f fs known) (found-known test fs (All-tail (HasFieldType definitions) f fs known)) nothing

    within-known : (t : Typing) (name : List ℕ) → t ≢ typing.Unknown → (within definitions t name).broken ≡ [] → (within definitions t name).typing ≢ typing.Unknown
    within-known (typing.Known (type.Record at)) name known nothing = found-known (λ f. bytes_eq f.name name) (fields_at definitions at) (fields_known at) nothing
    within-known (typing.Known type.Integer) name known nothing = absurd (let e = nothing in cc)
    within-known (typing.Known type.Boolean) name known nothing = absurd (let e = nothing in cc)
    within-known (typing.Known type.Default) name known nothing = absurd (let e = nothing in cc)
    within-known (typing.Known (type.Enumerated at)) name known nothing = absurd (let e = nothing in cc)
    within-known (typing.Known (type.Component at)) name known nothing = absurd (let e = nothing in cc)
    within-known typing.Null name known nothing = absurd (let e = nothing in cc)
    within-known typing.AnyComponent name known nothing = absurd (let e = nothing in cc)
    within-known typing.NoValue name known nothing = absurd (let e = nothing in cc)
    within-known typing.Unknown name known nothing = absurd (known refl)

    -- fields of fields
    along-met : (names : List (List ℕ)) (t : Typing) (found : Outcome Value) → t ≢ typing.Unknown → (said.along definitions t names).broken ≡ [] → IsMet found → IfYields found (IsOfTyping definitions t)
        → IsMet (along definitions names found)
    along-met [] t found known nothing met of = met
    along-met (name ∷ names) t found known nothing met of =
        let first = nothing-first (within definitions t name).broken (said.along definitions (within definitions t name).typing names).broken nothing in
        let rest = nothing-rest (within definitions t name).broken (said.along definitions (within definitions t name).typing names).broken nothing in
        along-met names (within definitions t name).typing (outcome_and_then (field definitions name) found) (within-known t name known first) rest
        (met-then (IsOfTyping definitions t) (field definitions name) found met of (λ v is. field-met t name v known first is))
        (if-then-of (IsOfTyping definitions t) (IsOfTyping definitions (within definitions t name).typing) (field definitions name) found of (λ v is. field-goes definitions t name v is))

    last-met : (name : List ℕ) (names : List (List ℕ)) (t : Typing) (v : Value) → t ≢ typing.Unknown → (said.along definitions t (name ∷ names)).broken ≡ [] → IsOfTyping definitions t v
        → IsMet (last_presence definitions name names v)
    last-met name [] t v known nothing of =
        met-map _ (state_of_field definitions name v) (state-met t name v known (nothing-first (within definitions t name).broken [] nothing) of)
    last-met name (next ∷ names) t v known nothing of =
        let first = nothing-first (within definitions t name).broken (said.along definitions (within definitions t name).typing (next ∷ names)).broken nothing in
        let rest = nothing-rest (within definitions t name).broken (said.along definitions (within definitions t name).typing (next ∷ names)).broken nothing in
        met-then (IsOfTyping definitions (within definitions t name).typing) (last_presence definitions next names) (field definitions name v)
        (field-met t name v known first of) (field-goes definitions t name v of)
        (λ u is. last-met next names (within definitions t name).typing u (within-known t name known first) rest is)

  -- a field is a value
  typed-valued : (of : Option DataType) → is_valued (typed of) ≡ true
  typed-valued (Some t) = refl
  typed-valued None = refl

  check_field-valued : (o : Option Field) → is_valued (check_field definitions o).typing ≡ true
  check_field-valued (Some f) = typed-valued (resolved (module_names definitions) f.type_name)
  check_field-valued None = refl

  within-valued : (t : Typing) (name : List ℕ) → is_valued (within definitions t name).typing ≡ true
  within-valued (typing.Known (type.Record at)) name = check_field-valued (field_named name (fields_at definitions at))
  within-valued (typing.Known type.Integer) name = refl
  within-valued (typing.Known type.Boolean) name = refl
  within-valued (typing.Known type.Default) name = refl
  within-valued (typing.Known (type.Enumerated at)) name = refl
  within-valued (typing.Known (type.Component at)) name = refl
  within-valued typing.Null name = refl
  within-valued typing.AnyComponent name = refl
  within-valued typing.NoValue name = refl
  within-valued typing.Unknown name = refl

  along-valued : (names : List (List ℕ)) (t : Typing) → is_valued t ≡ true → is_valued (said.along definitions t names).typing ≡ true
  along-valued [] t is = is
  along-valued (name ∷ names) t is = along-valued names (within definitions t name).typing (within-valued t name)

  -- ---- names

  -- no port and no timer has fields
  no-fields : (names : List (List ℕ)) → (said.along definitions typing.NoValue names).broken ≡ [] → is_valued (said.along definitions typing.NoValue names).typing ≡ true → ⊥
  no-fields [] nothing valued = let e = valued in cc
  no-fields (name ∷ names) nothing valued = let e = nothing in cc

  name-there : (m : Option Meaning) (names : List (List ℕ)) → (check_meaning definitions m).broken ≡ [] → (said.along definitions (check_meaning definitions m).typing names).broken ≡ []
      → is_valued (said.along definitions (check_meaning definitions m).typing names).typing ≡ true → names_value m ≡ true
  name-there (Some (meaning.Variable of)) names first rest valued = refl
  name-there (Some (meaning.Constant of)) names first rest valued = refl
  name-there (Some (meaning.ModuleConstant at item)) names first rest valued = refl
  name-there (Some (meaning.Enumerator at)) names first rest valued = refl
  name-there (Some (meaning.Port at)) names first rest valued = absurd (no-fields names rest valued)
  name-there (Some meaning.Timer) names first rest valued = absurd (no-fields names rest valued)
  name-there (Some (meaning.Record at)) names first rest valued = absurd (let e = first in cc)
  name-there (Some (meaning.Enumerated at)) names first rest valued = absurd (let e = first in cc)
  name-there (Some (meaning.PortType at)) names first rest valued = absurd (let e = first in cc)
  name-there (Some (meaning.Component at)) names first rest valued = absurd (let e = first in cc)
  name-there (Some (meaning.Template at)) names first rest valued = absurd (let e = first in cc)
  name-there (Some (meaning.Function at)) names first rest valued = absurd (let e = first in cc)
  name-there (Some (meaning.Altstep at)) names first rest valued = absurd (let e = first in cc)
  name-there (Some (meaning.Testcase at)) names first rest valued = absurd (let e = first in cc)
  name-there None names first rest valued = absurd (let e = first in cc)

  -- ---- operators

  negated-met : (v : Value) → is_of definitions type.Boolean v ≡ true → IsMet (negated v)
  negated-met v is = met-then Any (λ b. truth (not b)) (or_unmet (boolean v)) (met-there (boolean v) (boolean-there v is)) (any-of (or_unmet (boolean v))) (λ b any. tt)

  under-sign-met : (s : Sign) (v : Value) → is_of definitions type.Integer v ≡ true → IsMet (under_sign s v)
  under-sign-met s v is =
      met-then Any (λ z. fitting (with_sign s z)) (or_unmet (integer v)) (met-there (integer v) (integer-there v is)) (any-of (or_unmet (integer v))) (λ z any. fitting-met (with_sign s z))

  both-met : {A : Type 0} (f : A → A → Outcome Value) (a b : Option A) → is_some a ≡ true → is_some b ≡ true → ((x y : A) → IsMet (f x y)) → IsMet (both f a b)
  both-met f (Some x) (Some y) one other all = all x y
  both-met f None b one other all = absurd (let e = one in cc)
  both-met f (Some x) None one other all = absurd (let e = other in cc)

  compared-met : (wanted : Bool) (v w : Value) → IsMet (compared wanted v w)
  compared-met wanted v w = chosen (is_complete v && is_complete w)
    where
      chosen : (b : Bool) → IsMet (if b then truth (beq wanted (equal v w)) else dynamic_error)
      chosen true = tt
      chosen false = tt

  abbrev AreOperands : Operator → Value → Value → Type 0
  AreOperands op v w = compares op ≡ false → (is_of definitions (operands_of op) v ≡ true) × (is_of definitions (operands_of op) w ≡ true)

  of-integers : (f : ℤ → ℤ → Outcome Value) (v w : Value) → (is_of definitions type.Integer v ≡ true) × (is_of definitions type.Integer w ≡ true) → ((x y : ℤ) → IsMet (f x y)) → IsMet (both f (integer v) (integer w))
  of-integers f v w are all = both-met f (integer v) (integer w) (integer-there v are.0) (integer-there w are.1) all

  of-booleans : (f : Bool → Bool → Outcome Value) (v w : Value) → (is_of definitions type.Boolean v ≡ true) × (is_of definitions type.Boolean w ≡ true) → ((x y : Bool) → IsMet (f x y)) → IsMet (both f (boolean v) (boolean w))
  of-booleans f v w are all = both-met f (boolean v) (boolean w) (boolean-there v are.0) (boolean-there w are.1) all

  applied-met : (op : Operator) (v w : Value) → AreOperands op v w → IsMet (applied op v w)
  applied-met operator.Equal v w are = compared-met true v w
  applied-met operator.NotEqual v w are = compared-met false v w
  applied-met operator.Or v w are = of-booleans (logical operator.Or) v w (are refl) (λ x y. tt)
  applied-met operator.Xor v w are = of-booleans (logical operator.Xor) v w (are refl) (λ x y. tt)
  applied-met operator.And v w are = of-booleans (logical operator.And) v w (are refl) (λ x y. tt)
  applied-met operator.Less v w are = of-integers (ordered operator.Less) v w (are refl) (λ x y. tt)
  applied-met operator.Greater v w are = of-integers (ordered operator.Greater) v w (are refl) (λ x y. tt)
  applied-met operator.LessEqual v w are = of-integers (ordered operator.LessEqual) v w (are refl) (λ x y. tt)
  applied-met operator.GreaterEqual v w are = of-integers (ordered operator.GreaterEqual) v w (are refl) (λ x y. tt)
  applied-met operator.Add v w are = of-integers (λ x y. fitting (calculated operator.Add x y)) v w (are refl) (λ x y. fitting-met (calculated operator.Add x y))
  applied-met operator.Subtract v w are = of-integers (λ x y. fitting (calculated operator.Subtract x y)) v w (are refl) (λ x y. fitting-met (calculated operator.Subtract x y))
  applied-met operator.Multiply v w are = of-integers (λ x y. fitting (calculated operator.Multiply x y)) v w (are refl) (λ x y. fitting-met (calculated operator.Multiply x y))
  applied-met operator.Divide v w are = of-integers (λ x y. fitting (calculated operator.Divide x y)) v w (are refl) (λ x y. fitting-met (calculated operator.Divide x y))
  applied-met operator.Mod v w are = of-integers (λ x y. fitting (calculated operator.Mod x y)) v w (are refl) (λ x y. fitting-met (calculated operator.Mod x y))
  applied-met operator.Rem v w are = of-integers (λ x y. fitting (calculated operator.Rem x y)) v w (are refl) (λ x y. fitting-met (calculated operator.Rem x y))

-- ---- demands that are kept

demand-kept : (b : Bool) (r : Rule) (t : DataType) → (demand b r t).broken ≡ [] → b ≡ true
demand-kept true r t nothing = refl
demand-kept false r t nothing = absurd (let e = nothing in cc)

demand-known : (b : Bool) (r : Rule) (t : DataType) → (demand b r t).broken ≡ [] → (demand b r t).typing ≢ typing.Unknown
demand-known true r t nothing is = cc
demand-known false r t nothing is = let e = nothing in cc

-- what is of a type has this typing, where its typing is known
is-known : (wanted : DataType) (t : Typing) → t ≢ typing.Unknown → typings.is_of wanted t ≡ true → t ≡ typing.Known wanted
is-known wanted (typing.Known u) known is = ap typing.Known (sym (same-type wanted u is))
is-known wanted typing.Null known is = absurd (let e = is in cc)
is-known wanted typing.AnyComponent known is = absurd (let e = is in cc)
is-known wanted typing.NoValue known is = absurd (let e = is in cc)
is-known wanted typing.Unknown known is = absurd (known refl)

operand-kept : (wanted : DataType) (t : Typing) → t ≢ typing.Unknown → (of_type wanted t).broken ≡ [] → t ≡ typing.Known wanted
operand-kept wanted t known nothing = is-known wanted t known (demand-kept (typings.is_of wanted t) rule.OperandType wanted nothing)

-- two operands that an operator may have
record AreKept (op : Operator) (l r : Typing) : Type 0 where
  demands : said.takes op l r ≡ true
  is_typed : (between op l r).typing ≢ typing.Unknown

between-kept : (op : Operator) (l r : Typing) → (between op l r).broken ≡ [] → AreKept op l r
between-kept op l r nothing = record {
  demands = demand-kept (said.takes op l r) rule.OperandType (result_of op) nothing;
  is_typed = demand-known (said.takes op l r) rule.OperandType (result_of op) nothing;
}

comparable-left : (l r : Typing) → comparable l r ≡ true → r ≢ typing.Unknown → is_valued l ≡ true
comparable-left (typing.Known t) r is known = refl
comparable-left typing.Null r is known = refl
comparable-left typing.AnyComponent r is known = refl
comparable-left typing.Unknown r is known = refl
comparable-left typing.NoValue (typing.Known u) is known = absurd (let e = is in cc)
comparable-left typing.NoValue typing.Null is known = absurd (let e = is in cc)
comparable-left typing.NoValue typing.AnyComponent is known = absurd (let e = is in cc)
comparable-left typing.NoValue typing.NoValue is known = absurd (let e = is in cc)
comparable-left typing.NoValue typing.Unknown is known = absurd (known refl)

comparable-right : (l r : Typing) → comparable l r ≡ true → l ≢ typing.Unknown → is_valued r ≡ true
comparable-right l (typing.Known t) is known = refl
comparable-right l typing.Null is known = refl
comparable-right l typing.AnyComponent is known = refl
comparable-right l typing.Unknown is known = refl
comparable-right (typing.Known u) typing.NoValue is known = absurd (let e = is in cc)
comparable-right typing.Null typing.NoValue is known = absurd (let e = is in cc)
comparable-right typing.AnyComponent typing.NoValue is known = absurd (let e = is in cc)
comparable-right typing.NoValue typing.NoValue is known = absurd (let e = is in cc)
comparable-right typing.Unknown typing.NoValue is known = absurd (known refl)

known-valued : (t : DataType) (found : Typing) → found ≡ typing.Known t → is_valued found ≡ true
known-valued t found is = ap is_valued is

module _ (op : Operator) (l r : Typing) (l_known : l ≢ typing.Unknown) (r_known : r ≢ typing.Unknown) where
  left-valued : (b : Bool) → (if b then comparable l r else (typings.is_of (operands_of op) l && typings.is_of (operands_of op) r)) ≡ true → is_valued l ≡ true
  left-valued true is = comparable-left l r is r_known
  left-valued false is = known-valued (operands_of op) l (is-known (operands_of op) l l_known (and_parts (typings.is_of (operands_of op) l) (typings.is_of (operands_of op) r) is).0)

  right-valued : (b : Bool) → (if b then comparable l r else (typings.is_of (operands_of op) l && typings.is_of (operands_of op) r)) ≡ true → is_valued r ≡ true
  right-valued true is = comparable-right l r is l_known
  right-valued false is = known-valued (operands_of op) r (is-known (operands_of op) r r_known (and_parts (typings.is_of (operands_of op) l) (typings.is_of (operands_of op) r) is).1)

  both-known : (b : Bool) → (if b then comparable l r else (typings.is_of (operands_of op) l && typings.is_of (operands_of op) r)) ≡ true → b ≡ false
      → (l ≡ typing.Known (operands_of op)) × (r ≡ typing.Known (operands_of op))
  both-known true is different = absurd (let e = different in cc)
  both-known false is different =
      let p = and_parts (typings.is_of (operands_of op) l) (typings.is_of (operands_of op) r) is in
      (is-known (operands_of op) l l_known p.0, is-known (operands_of op) r r_known p.1)

-- what may be asked whether it runs is a value
runs-valued : (t : Typing) → (said.runs t).broken ≡ [] → is_valued t ≡ true
runs-valued (typing.Known t) nothing = refl
runs-valued typing.Null nothing = refl
runs-valued typing.AnyComponent nothing = refl
runs-valued typing.Unknown nothing = refl
runs-valued typing.NoValue nothing = absurd (let e = nothing in cc)

-- ---- references

module _ (scope : Scope) (reading : Reading) (whole : IsWhole scope) (fits : FitsIn scope reading) (all : HasAll scope reading) where
  meaning-known : (name : List ℕ) → (check_meaning scope.definitions (scope.names name)).broken ≡ [] → (check_meaning scope.definitions (scope.names name)).typing ≢ typing.Unknown
  meaning-known name nothing = reference-typed scope whole (record { name = name; fields = [] }) (ap (λ l. l ++ []) nothing)

  reference-met : (reference : Reference) → (said.check_reference scope reference).broken ≡ [] → is_valued (said.check_reference scope reference).typing ≡ true → IsMet (referred reading reference)
  reference-met reference nothing valued =
      let found : Judgement = check_meaning scope.definitions (scope.names reference.name) in
      let first : found.broken ≡ [] = nothing-first found.broken (said.along scope.definitions found.typing reference.fields).broken nothing in
      let rest = nothing-rest found.broken (said.along scope.definitions found.typing reference.fields).broken nothing in
      subst (λ ds. IsMet (along ds reference.fields (named reading reference.name))) (sym fits.definitions)
      (along-met scope.definitions whole.fields reference.fields found.typing (named reading reference.name) (meaning-known reference.name first) rest
      (all.values reference.name (name-there scope.definitions (scope.names reference.name) reference.fields first rest valued)) (fits.names reference.name))

  pub component-met : (c : ComponentRef) (free : Bool) → (check_component scope c free).broken ≡ [] → is_valued (check_component scope c free).typing ≡ true → IsMet (component_at reading c)
  component-met component.Itself free nothing valued = tt
  component-met component.Mtc free nothing valued = tt
  component-met (component.Named reference) free nothing valued = reference-met reference nothing valued

  -- ---- timers and components that run

  named-timer : (fields : List (List ℕ)) (m : Option Meaning) (name : List ℕ) → scope.names name ≡ m → is_timer fields m ≡ true → is_some (timer_of reading.timers fields name) ≡ true
  named-timer [] (Some meaning.Timer) name means is = all.timers name ∙ ap types.names_timer means
  named-timer _ _ name means is = absurd (let e = is in cc)

  timer-there : (c : ComponentRef) → names_timer scope c ≡ true → is_some (timer_at reading c) ≡ true
  timer-there component.Itself is = absurd (let e = is in cc)
  timer-there component.Mtc is = absurd (let e = is in cc)
  timer-there (component.Named reference) is = named-timer reference.fields (scope.names reference.name) reference.name refl is

  component-value : (t : Typing) (v : Value) → t ≢ typing.Unknown → (said.runs t).broken ≡ [] → IsOfTyping scope.definitions t v → IsMet (values.component v)
  component-value (typing.Known (type.Component at)) v known nothing of = component-there scope.definitions v at of
  component-value typing.AnyComponent v known nothing of = component-there scope.definitions v of.0 of.1
  component-value (typing.Known (type.Record at)) v known nothing of = absurd (let e = nothing in cc)
  component-value (typing.Known (type.Enumerated at)) v known nothing of = absurd (let e = nothing in cc)
  component-value (typing.Known type.Integer) v known nothing of = absurd (let e = nothing in cc)
  component-value (typing.Known type.Boolean) v known nothing of = absurd (let e = nothing in cc)
  component-value (typing.Known type.Default) v known nothing of = absurd (let e = nothing in cc)
  component-value typing.Null v known nothing of = absurd (let e = nothing in cc)
  component-value typing.NoValue v known nothing of = absurd (let e = nothing in cc)
  component-value typing.Unknown v known nothing of = absurd (known refl)

  runs-at : (c : ComponentRef) (b : Bool) → names_timer scope c ≡ b
      → (if b then said.fine (typing.Known type.Boolean) else said.after (check_component scope c true).broken (said.runs (check_component scope c true).typing)).broken ≡ []
      → (timer : Option Bool) → timer_at reading c ≡ timer → IsMet (runs_at reading c timer)
  runs-at c b is nothing (Some r) timed = tt
  runs-at c true is nothing None timed = absurd (not-there (timer_at reading c) timed (timer-there c is))
  runs-at c false is nothing None timed =
      let found : Judgement = check_component scope c true in
      let first : found.broken ≡ [] = nothing-first found.broken (said.runs found.typing).broken nothing in
      let rest : (said.runs found.typing).broken ≡ [] = nothing-rest found.broken (said.runs found.typing).broken nothing in
      met-then (IsOfTyping scope.definitions found.typing) (component_runs reading) (component_at reading c) (component-met c true first (runs-valued found.typing rest))
      (component-goes scope reading fits c true)
      (λ v of. met-map _ (values.component v) (component-value found.typing v (component-typed scope whole c true first) rest of))

  running-met : (c : ComponentRef) → (check_running scope c).broken ≡ [] → IsMet (runs reading c)
  running-met c nothing = runs-at c (names_timer scope c) refl nothing (timer_at reading c) refl

  -- ---- presence

  presence-met : (name : List ℕ) (fields : List (List ℕ)) → (check_meaning scope.definitions (scope.names name)).broken ≡ []
      → (said.along scope.definitions (check_meaning scope.definitions (scope.names name)).typing fields).broken ≡ []
      → (demand (said.names_field fields) rule.Fields type.Boolean).broken ≡ []
      → IsMet (outcome_and_then (presence scope.definitions fields) (named reading name))
  presence-met name [] first rest nothing = absurd (let e = nothing in cc)
  presence-met name (f ∷ fields) first rest nothing =
      let t : Typing = (check_meaning scope.definitions (scope.names name)).typing in
      met-then (IsOfTyping scope.definitions t) (presence scope.definitions (f ∷ fields)) (named reading name)
      (all.values name (name-there scope.definitions (scope.names name) (f ∷ fields) first rest (along-valued scope.definitions fields (within scope.definitions t f).typing (within-valued scope.definitions t f))))
      (fits.names name) (λ v of. last-met scope.definitions whole.fields f fields t v (meaning-known name first) rest of)

  ispresent-met : (reference : Reference) → (said.check_ispresent scope reference).broken ≡ []
      → IsMet (outcome_and_then (presence reading.definitions reference.fields) (named reading reference.name))
  ispresent-met reference nothing =
      let found : Judgement = check_meaning scope.definitions (scope.names reference.name) in
      let fields : Judgement = said.along scope.definitions found.typing reference.fields in
      let fine : (said.check_reference scope reference).broken ≡ [] = nothing-first (said.check_reference scope reference).broken (demand (said.names_field reference.fields) rule.Fields type.Boolean).broken nothing in
      subst (λ ds. IsMet (outcome_and_then (presence ds reference.fields) (named reading reference.name))) (sym fits.definitions)
      (presence-met reference.name reference.fields (nothing-first found.broken fields.broken fine) (nothing-rest found.broken fields.broken fine)
      (nothing-rest (said.check_reference scope reference).broken (demand (said.names_field reference.fields) rule.Fields type.Boolean).broken nothing))

  -- ---- operands

  abbrev Progress : Judge → Outcome Value → Type 0
  Progress judgement found = (free : Bool) → (judgement scope free).broken ≡ [] → is_valued (judgement scope free).typing ≡ true → IsMet found

  abbrev Known : Judge → Type 0
  Known judgement = (free : Bool) → (judgement scope free).broken ≡ [] → (judgement scope free).typing ≢ typing.Unknown

  abbrev OfType : Judge → Outcome Value → Type 0
  OfType judgement found = (free : Bool) → IfYields found (IsOfTyping scope.definitions (judgement scope free).typing)

  -- an operand that is demanded to be of a type
  operand-met : (wanted : DataType) (judgement : Judge) (found : Outcome Value) → Known judgement → OfType judgement found → Progress judgement found
      → (said.operand wanted (judgement scope false)).broken ≡ [] → IsMet found × IfYields found (λ v. is_of scope.definitions wanted v ≡ true)
  operand-met wanted judgement found known of progress nothing =
      let judged : Judgement = judgement scope false in
      let first : judged.broken ≡ [] = nothing-first judged.broken (of_type wanted judged.typing).broken nothing in
      let is : judged.typing ≡ typing.Known wanted =
      operand-kept wanted judged.typing (known false first) (nothing-rest judged.broken (of_type wanted judged.typing).broken nothing) in
      (progress false first (ap is_valued is), subst (λ t. IfYields found (IsOfTyping scope.definitions t)) is (of false))

  -- ---- chains

  joined-met : (op : Operator) (right : Outcome Value) (v : Value) → (decides op v ≡ false → IsMet (outcome_and_then (applied op v) right)) → IsMet (if decides op v then Yields v else outcome_and_then (applied op v) right)
  joined-met op right v on = chosen (decides op v) on
    where
      chosen : (b : Bool) → (b ≡ false → IsMet (outcome_and_then (applied op v) right)) → IsMet (if b then Yields v else outcome_and_then (applied op v) right)
      chosen true on = tt
      chosen false on = on refl

  module _ (op : Operator) (l r : Judge) (found right : Outcome Value) (free : Bool) (l_known : Known l) (r_known : Known r) (l_of : OfType l found) (r_of : OfType r right)
      (l_met : Progress l found) (r_met : Progress r right) (nothing : (said.join_link op l r scope free).broken ≡ []) where
    abbrev left : Judgement
    left = l scope (compares op)

    abbrev other : Judgement
    other = r scope (compares op)

    left-fine : left.broken ≡ []
    left-fine = nothing-first left.broken (other.broken ++ (between op left.typing other.typing).broken) nothing

    other-fine : other.broken ≡ []
    other-fine = nothing-first other.broken (between op left.typing other.typing).broken (nothing-rest left.broken (other.broken ++ (between op left.typing other.typing).broken) nothing)

    are-kept : AreKept op left.typing other.typing
    are-kept =
        between-kept op left.typing other.typing
        (nothing-rest other.broken (between op left.typing other.typing).broken (nothing-rest left.broken (other.broken ++ (between op left.typing other.typing).broken) nothing))

    are-operands : (v w : Value) → IsOfTyping scope.definitions left.typing v → IsOfTyping scope.definitions other.typing w → AreOperands scope.definitions op v w
    are-operands v w v_of w_of different =
        let both = both-known op left.typing other.typing (l_known (compares op) left-fine) (r_known (compares op) other-fine) (compares op) are-kept.demands different in
        (subst (λ t. IsOfTyping scope.definitions t v) both.0 v_of, subst (λ t. IsOfTyping scope.definitions t w) both.1 w_of)

    pub links-met : IsMet (outcome_and_then (λ v. if decides op v then Yields v else outcome_and_then (applied op v) right) found)
    links-met =
        met-then (IsOfTyping scope.definitions left.typing) (λ v. if decides op v then Yields v else outcome_and_then (applied op v) right) found
        (l_met (compares op) left-fine (left-valued op left.typing other.typing (l_known (compares op) left-fine) (r_known (compares op) other-fine) (compares op) are-kept.demands))
        (l_of (compares op))
        (λ v v_of. joined-met op right v (λ on. met-then (IsOfTyping scope.definitions other.typing) (applied op v) right
        (r_met (compares op) other-fine (right-valued op left.typing other.typing (l_known (compares op) left-fine) (r_known (compares op) other-fine) (compares op) are-kept.demands))
        (r_of (compares op)) (λ w w_of. applied-met scope.definitions op v w (are-operands v w v_of w_of))))

-- ---- expressions

-- what is met where it breaks no rule
abbrev pub IsProgress : Evaluation → Judge → Type 0
IsProgress evaluation judgement = (scope : Scope) (reading : Reading) → IsWhole scope → FitsIn scope reading → HasAll scope reading → (free : Bool) → (judgement scope free).broken ≡ []
    → is_valued (judgement scope free).typing ≡ true → IsMet (evaluation reading)

abbrev HeldExpr : Type 0
HeldExpr = (e : Expr) × IsProgress (value_of e) (expression e)

abbrev HeldLink : Type 0
HeldLink = (l : Link) × IsProgress (link l).1 (said.link l).1

link-is : (l : Link) → (link l).1 ≡ value_of (out-Link l).operand
link-is l = ap (λ (p : Operator × Evaluation). p.1) (fold_out-Link Evaluation (Operator × Evaluation) expression_step link_step l)

said-is : (l : Link) → (said.link l).1 ≡ expression (out-Link l).operand
said-is l = ap (λ (p : Operator × Judge). p.1) (fold_out-Link Judge (Operator × Judge) said.expression_step said.link_step l)

module _ (scope : Scope) (reading : Reading) (whole : IsWhole scope) (fits : FitsIn scope reading) (all : HasAll scope reading) where
  link-known : (l : Link) → Known scope reading whole fits all (said.link l).1
  link-known l = subst (Known scope reading whole fits all) (sym (said-is l)) (λ free nothing. expression_known (out-Link l).operand scope free whole nothing)

  link-of : (l : Link) → OfType scope reading whole fits all (said.link l).1 ((link l).1 reading)
  link-of l =
      subst (λ j. OfType scope reading whole fits all j ((link l).1 reading)) (sym (said-is l))
      (subst (λ (f : Evaluation). OfType scope reading whole fits all (expression (out-Link l).operand) (f reading)) (sym (link-is l))
      (λ free. expression_typed (out-Link l).operand scope free reading fits))

  step-met : (first : Judge) (found : Outcome Value) (l : HeldLink) → Known scope reading whole fits all first → OfType scope reading whole fits all first found → Progress scope reading whole fits all first found
      → (free : Bool) → (said.join_link (said.link l.0).0 first (said.link l.0).1 scope free).broken ≡ [] → IsMet (outcome_and_then (joined reading (link l.0)) found)
  step-met first found l known of met free nothing =
      subst (λ op. IsMet (outcome_and_then (λ v. if decides op v then Yields v else outcome_and_then (applied op v) ((link l.0).1 reading)) found)) (sym (same-operator scope reading fits l.0))
      (links-met scope reading whole fits all (said.link l.0).0 first (said.link l.0).1 found ((link l.0).1 reading) free known (link-known l.0) of (link-of l.0) met
      (λ f n valued. l.1 scope reading whole fits all f n valued) nothing)

  step-known : (first : Judge) (l : Link) → Known scope reading whole fits all first → Known scope reading whole fits all (said.join_link (said.link l).0 first (said.link l).1)
  step-known first l known free nothing =
      let op : Operator = (said.link l).0 in
      let left : Judgement = first scope (compares op) in
      let other : Judgement = (said.link l).1 scope (compares op) in
      let rest = nothing-rest left.broken (other.broken ++ (between op left.typing other.typing).broken) nothing in
      (between-kept op left.typing other.typing (nothing-rest other.broken (between op left.typing other.typing).broken rest)).is_typed

  join_links-met : (links : List HeldLink) (first : Judge) (found : Outcome Value) → Known scope reading whole fits all first → OfType scope reading whole fits all first found → Progress scope reading whole fits all first found
      → Progress scope reading whole fits all (join_links first (map said.link (map (λ l. l.0) links))) (after reading found (map link (map (λ l. l.0) links)))
  join_links-met [] first found known of met = met
  join_links-met (l ∷ links) first found known of met =
      join_links-met links (said.join_link (said.link l.0).0 first (said.link l.0).1) (outcome_and_then (joined reading (link l.0)) found)
      (step-known first l.0 known) (λ free. joined-goes scope reading fits first found l.0 free) (λ free nothing valued. step-met first found l known of met free nothing)

abbrev LevelMet : Expr-F Expr Link → Type 0
LevelMet x = IsProgress (expression_step (map-Expr Expr Link Evaluation (Operator × Evaluation) value_of link x))
    (said.expression_step (map-Expr Expr Link Judge (Operator × Judge) expression said.link x))

expr-met : (y : Expr-F HeldExpr HeldLink) → LevelMet (map-Expr HeldExpr HeldLink Expr Link (λ e. e.0) (λ l. l.0) y)
expr-met (Expr-F.Int n) = λ scope reading whole fits all free nothing valued. fitting-met (integers.within (pos n))
expr-met (Expr-F.Bool b) = λ scope reading whole fits all free nothing valued. tt
expr-met Expr-F.Null = λ scope reading whole fits all free nothing valued. tt
expr-met (Expr-F.Reference reference) = λ scope reading whole fits all free nothing valued. component-met scope reading whole fits all reference free nothing valued
expr-met (Expr-F.Running reference) = λ scope reading whole fits all free nothing valued. running-met scope reading whole fits all reference nothing
expr-met (Expr-F.Ispresent reference) = λ scope reading whole fits all free nothing valued. ispresent-met scope reading whole fits all reference nothing
expr-met (Expr-F.Not e) = λ scope reading whole fits all free nothing valued.
    let found = operand-met scope reading whole fits all type.Boolean (expression e.0) (value_of e.0 reading) (λ f n. expression_known e.0 scope f whole n)
    (λ f. expression_typed e.0 scope f reading fits) (λ f n v. e.1 scope reading whole fits all f n v) nothing in
    met-then (λ v. is_of scope.definitions type.Boolean v ≡ true) negated (value_of e.0 reading) found.0 found.1 (λ v is. negated-met scope.definitions v is)
expr-met (Expr-F.Signed s e) = λ scope reading whole fits all free nothing valued.
    let found = operand-met scope reading whole fits all type.Integer (expression e.0) (value_of e.0 reading) (λ f n. expression_known e.0 scope f whole n)
    (λ f. expression_typed e.0 scope f reading fits) (λ f n v. e.1 scope reading whole fits all f n v) nothing in
    met-then (λ v. is_of scope.definitions type.Integer v ≡ true) (under_sign s) (value_of e.0 reading) found.0 found.1 (λ v is. under-sign-met scope.definitions s v is)
expr-met (Expr-F.Chain first links) = λ scope reading whole fits all free nothing valued.
    join_links-met scope reading whole fits all links (expression first.0) (value_of first.0 reading) (λ f n. expression_known first.0 scope f whole n)
    (λ f. expression_typed first.0 scope f reading fits) (λ f n v. first.1 scope reading whole fits all f n v) free nothing valued

abbrev LevelLink : Link-F Expr Link → Type 0
LevelLink x = IsProgress (link_step (map-Link Expr Link Evaluation (Operator × Evaluation) value_of link x)).1
    (said.link_step (map-Link Expr Link Judge (Operator × Judge) expression said.link x)).1

link-met : (y : Link-F HeldExpr HeldLink) → LevelLink (map-Link HeldExpr HeldLink Expr Link (λ e. e.0) (λ l. l.0) y)
link-met y = y.operand.1

-- an expression that breaks no rule and has a value gives one or a dynamic error
pub expressions_met : (e : Expr) → IsProgress (value_of e) (expression e)
expressions_met = ind-Expr (λ e. IsProgress (value_of e) (expression e)) (λ l. IsProgress (link l).1 (said.link l).1) (λ x y is.
    subst (λ f. IsProgress f (expression (roll-Expr x))) (sym (fold-roll-Expr Evaluation (Operator × Evaluation) expression_step link_step x))
    (subst (λ j. IsProgress (expression_step (map-Expr Expr Link Evaluation (Operator × Evaluation) value_of link x)) j) (sym (fold-roll-Expr Judge (Operator × Judge) said.expression_step said.link_step x))
    (subst LevelMet is (expr-met y)))) (λ x y is.
    subst (λ (f : Operator × Evaluation). IsProgress f.1 (said.link (roll-Link x)).1) (sym (fold-roll-Link Evaluation (Operator × Evaluation) expression_step link_step x))
    (subst (λ (j : Operator × Judge). IsProgress (link_step (map-Link Expr Link Evaluation (Operator × Evaluation) value_of link x)).1 j.1) (sym (fold-roll-Link Judge (Operator × Judge) said.expression_step said.link_step x))
    (subst LevelLink is (link-met y))))
