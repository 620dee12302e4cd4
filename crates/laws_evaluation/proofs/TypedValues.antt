-- The value of an expression is of the expression's type.
use Rattle.std.proofs.Common.{◌≡◌, ℕ, suc, ℤ, pos, ◌+◌, Bool, true, false, ◌&&◌, nat_eq, List, [], ◌∷◌, map, bytes_eq, Option, Some, None, IfSome, if◌then◌else◌, refl, sym, ap, subst, ◌∙◌, arith}
use Rattle.std.proofs.Math.Bool.{beq}
use Rattle.std.proofs.lemmas.Bool.{and_parts, eqb-true, eq-eqb}
use Rattle.std.proofs.lemmas.Iterator.Adapters.{position_from-zero}
use Rattle.std.specs.List.{find, position, position_from, slice_get}
use Rattle.std.specs.Option.{option_and_then}
use Rattle.ttcn_syntax.specs.declared.operator.Operator.{Operator}
use Rattle.ttcn_syntax.specs.declared.operator.Operator.TheVariants as operator
use Rattle.ttcn_syntax.specs.declared.operator.Sign.{Sign}
use Rattle.ttcn_syntax.specs.declared.tree.definition.Definition.{Definition}
use Rattle.ttcn_syntax.specs.declared.tree.definition.Field.{Field}
use Rattle.ttcn_syntax.specs.declared.tree.expression.ComponentRef.{ComponentRef}
use Rattle.ttcn_syntax.specs.declared.tree.expression.ComponentRef.TheVariants as component
use Rattle.ttcn_syntax.specs.declared.tree.expression.Expr.{Expr, roll-Expr}
use Rattle.ttcn_syntax.specs.declared.tree.expression.Expr.TheFolds.{fold-roll-Expr, ind-Expr, map-Expr}
use Rattle.ttcn_syntax.specs.declared.tree.expression.Expr.TheOpen.{Expr-F}
use Rattle.ttcn_syntax.specs.declared.tree.expression.Link.{Link, fold_out-Link}
use Rattle.ttcn_syntax.specs.declared.tree.expression.Reference.{Reference}
use Rattle.check_rules.specs.Expressions as said
use Rattle.check_rules.specs.Expressions.{Judgement, Judge, check_component, check_field, check_meaning, check_running, check_self, join_links, expression, names_timer, within}
use Rattle.check_scope.specs.Names.{Scope, fields_at, module_names, resolved}
use Rattle.check_scope.specs.Typings.{result_of, target_of, typed}
use Rattle.check_rules.specs.Values.{field_target}
use Rattle.check_scope.specs.declared.types.DataType.{DataType}
use Rattle.check_scope.specs.declared.types.DataType.TheVariants as type
use Rattle.check_scope.specs.declared.types.Target.{Target}
use Rattle.check_scope.specs.declared.types.Typing.{Typing}
use Rattle.check_scope.specs.declared.types.Typing.TheVariants as typing
use Rattle.value_types.specs.Evaluation.{Evaluation, after, expression_step, joined, link, link_step, value_of}
use Rattle.value_arithmetic.specs.Integers as integers
use Rattle.value_arithmetic.specs.Integers.{calculated}
use Rattle.value_types.specs.Operations.{applied, both, compared, decides, fitting, is_truth, logical, negated, ordered, truth, under_sign, with_sign}
use Rattle.value_types.specs.Outcomes.{Fails, IfYields, Outcome, Yields, dynamic_error, or_error, or_unmet, outcome_and_then, outcome_map}
use Rattle.value_types.specs.Readings.{Reading, along, component_at, component_runs, field, is_there, last_presence, named, presence, read, referred, runs, runs_at, state_in, state_of_field, timer_at}
use Rattle.laws_evaluation.specs.Types.{FitsIn, Goes, IsOfTyping, go_to_fields, goes_to_field, is_of, value_goes, value_step}
use Rattle.value_types.specs.Values as values
use Rattle.value_types.specs.Values.{boolean, boolean_in, equal, integer, is_complete, is_omit, is_omit_in, record_in}
use Rattle.value_types.specs.declared.value.ComponentId.{ComponentId}
use Rattle.value_types.specs.declared.value.Value.{Value, fold_out-Value, out-Value, roll-Value}
use Rattle.value_types.specs.declared.value.Value.TheFolds.{fold-roll-Value, map-Value}
use Rattle.value_types.specs.declared.value.Value.TheOpen.{Value-F}
use Rattle.value_types.specs.declared.value.Value.TheShapes.{former-Value-Record-1-at-1}
use Rattle.value_types.specs.declared.value.Value.TheVariants as value

-- ---- what may be there

pub if-any : {A : Type 0} (P : A → Type 0) (o : Outcome A) → ((a : A) → P a) → IfYields o P
if-any P (Fails why) all = tt
if-any P (Yields a) all = all a

pub if-mapped : {A B : Type 0} (P : B → Type 0) (f : A → B) (o : Outcome A) → ((a : A) → P (f a)) → IfYields (outcome_map f o) P
if-mapped P f (Fails why) all = tt
if-mapped P f (Yields a) all = all a

pub if-then : {A B : Type 0} (P : B → Type 0) (f : A → Outcome B) (o : Outcome A) → ((a : A) → IfYields (f a) P) → IfYields (outcome_and_then f o) P
if-then P f (Fails why) all = tt
if-then P f (Yields a) all = all a

pub if-then-of : {A B : Type 0} (Q : A → Type 0) (P : B → Type 0) (f : A → Outcome B) (o : Outcome A) → IfYields o Q → ((a : A) → Q a → IfYields (f a) P) → IfYields (outcome_and_then f o) P
if-then-of Q P f (Fails why) of all = tt
if-then-of Q P f (Yields a) of all = all a of

pub if-more : {A : Type 0} (Q P : A → Type 0) (o : Outcome A) → IfYields o Q → ((a : A) → Q a → P a) → IfYields o P
if-more Q P (Fails why) of all = tt
if-more Q P (Yields a) of all = all a of

-- ---- values of types

pub nat_eq-refl : (n : ℕ) → nat_eq n n ≡ true
nat_eq-refl n = eq-eqb n n refl

-- a field of a record, by what it goes to
abbrev pub with_goes : Option Value → Option Goes
with_goes = former-Value-Record-1-at-1.map Value Goes value_goes

module _ (definitions : List Definition) where
  abbrev pub level_goes : Value-F Value → Target → Bool
  level_goes x target = value_step (map-Value Value Goes value_goes x) definitions target

  pub goes-out : (v : Value) (target : Target) → value_goes v definitions target ≡ level_goes (out-Value v) target
  goes-out v target = ap (λ (g : Goes). g definitions target) (fold_out-Value Goes value_step v)

  pub goes-rolled : (x : Value-F Value) (target : Target) → value_goes (roll-Value x) definitions target ≡ level_goes x target
  goes-rolled x target = ap (λ (g : Goes). g definitions target) (fold-roll-Value Goes value_step x)

  pub integer-goes : (z : ℤ) (o : Bool) → value_goes (value.Integer z) definitions (record { data_type = Some type.Integer; optional = o }) ≡ true
  integer-goes z o =
      ap (λ v. value_goes v definitions (record { data_type = Some type.Integer; optional = o })) (sym (value.rolls-Integer z))
      ∙ goes-rolled (Value-F.Integer z) (record { data_type = Some type.Integer; optional = o })

  pub boolean-goes : (b : Bool) (o : Bool) → value_goes (value.Boolean b) definitions (record { data_type = Some type.Boolean; optional = o }) ≡ true
  boolean-goes b o =
      ap (λ v. value_goes v definitions (record { data_type = Some type.Boolean; optional = o })) (sym (value.rolls-Boolean b))
      ∙ goes-rolled (Value-F.Boolean b) (record { data_type = Some type.Boolean; optional = o })

  pub component-value-goes : (c : ComponentId) → is_of definitions (type.Component c.component_type) (value.Component c) ≡ true
  component-value-goes c =
      ap (λ v. value_goes v definitions (target_of (Some (type.Component c.component_type)))) (sym (value.rolls-Component c))
      ∙ goes-rolled (Value-F.Component c) (target_of (Some (type.Component c.component_type)))
      ∙ nat_eq-refl c.component_type

  -- what goes to an optional target and is no `omit` goes there where it isn't optional
  level-present : (x : Value-F Value) (t : Option DataType) (o : Bool) → is_omit_in x ≡ false → level_goes x (record { data_type = t; optional = o }) ≡ true → level_goes x (target_of t) ≡ true
  level-present (Value-F.Integer n) t o present goes = goes
  level-present (Value-F.Boolean b) t o present goes = goes
  level-present (Value-F.Enumerated at n) t o present goes = goes
  level-present (Value-F.Record at fields) t o present goes = goes
  level-present (Value-F.Component c) t o present goes = goes
  level-present (Value-F.Default n) t o present goes = goes
  level-present Value-F.Null t o present goes = goes
  level-present Value-F.Omit t o present goes = absurd (let e = present in cc)

  pub present-goes : (v : Value) (t : Option DataType) (o : Bool) → is_omit v ≡ false → value_goes v definitions (record { data_type = t; optional = o }) ≡ true → value_goes v definitions (target_of t) ≡ true
  present-goes v t o present goes =
      goes-out v (target_of t) ∙ level-present (out-Value v) t o present (sym (goes-out v (record { data_type = t; optional = o })) ∙ goes)

  -- and what goes to one that isn't optional goes there where it is
  level-weaker : (x : Value-F Value) (t : Option DataType) (o : Bool) → level_goes x (target_of t) ≡ true → level_goes x (record { data_type = t; optional = o }) ≡ true
  level-weaker (Value-F.Integer n) t o goes = goes
  level-weaker (Value-F.Boolean b) t o goes = goes
  level-weaker (Value-F.Enumerated at n) t o goes = goes
  level-weaker (Value-F.Record at fields) t o goes = goes
  level-weaker (Value-F.Component c) t o goes = goes
  level-weaker (Value-F.Default n) t o goes = goes
  level-weaker Value-F.Null t o goes = goes
  level-weaker Value-F.Omit t o goes = absurd (let e = goes in cc)

  pub weaker-goes : (v : Value) (t : Option DataType) (o : Bool) → value_goes v definitions (target_of t) ≡ true → value_goes v definitions (record { data_type = t; optional = o }) ≡ true
  weaker-goes v t o goes =
      goes-out v (record { data_type = t; optional = o }) ∙ level-weaker (out-Value v) t o (sym (goes-out v (target_of t)) ∙ goes)

  -- ---- fields

  typed-of : (of : Option DataType) (v : Value) → value_goes v definitions (target_of of) ≡ true → IsOfTyping definitions (typed of) v
  typed-of (Some t) v goes = goes
  typed-of None v goes = tt

  there : (f : Field) (v : Value) (omitted : Bool) → is_omit v ≡ omitted → value_goes v definitions (field_target definitions f) ≡ true
      → IfYields (if omitted then dynamic_error else Yields v) (IsOfTyping definitions (typed (resolved (module_names definitions) f.type_name)))
  there f v true is goes = tt
  there f v false is goes =
      typed-of (resolved (module_names definitions) f.type_name) v (present-goes v (resolved (module_names definitions) f.type_name) f.optional is goes)

  state-read : (f : Field) (state : Option Value) → goes_to_field definitions f (with_goes state) ≡ true
      → IfYields (read state) (IsOfTyping definitions (typed (resolved (module_names definitions) f.type_name)))
  state-read f None goes = tt
  state-read f (Some v) goes = there f v (is_omit v) refl goes

  field-here : (test : Bool) (f : Field) (found : Option Field) (state : Option Value) (at : Option (Option Value)) (behind : Option (Option Value))
      → goes_to_field definitions f (with_goes state) ≡ true → at ≡ Some state
      → IfYields (outcome_and_then read (or_unmet behind)) (IsOfTyping definitions (check_field definitions found).typing)
      → IfYields (outcome_and_then read (or_unmet (if test then at else behind))) (IsOfTyping definitions (check_field definitions (if test then Some f else found)).typing)
  field-here true f found state at behind goes is rest =
      subst (λ o. IfYields (outcome_and_then read (or_unmet o)) (IsOfTyping definitions (typed (resolved (module_names definitions) f.type_name)))) (sym is) (state-read f state goes)
  field-here false f found state at behind goes is rest = rest

  branches : (b : Bool) (get : ℕ → Option (Option Value)) (i : ℕ) (left : Option ℕ)
      → option_and_then get (if b then Some i else left) ≡ (if b then get i else option_and_then get left)
  branches true get i left = refl
  branches false get i left = refl

  fields-read : (test : Field → Bool) (get : ℕ → Option (Option Value)) (i : ℕ) (fs : List Field) (states : List (Option Value))
      → ((k j : ℕ) → j ≡ i + k → get j ≡ slice_get states k) → go_to_fields definitions fs (map with_goes states) ≡ true
      → IfYields (outcome_and_then read (or_unmet (option_and_then get (position_from test i fs)))) (IsOfTyping definitions (check_field definitions (find test fs)).typing)
  fields-read test get i [] states same go = tt
  fields-read test get i (f ∷ fs) [] same go = absurd (let e = go in cc)
  fields-read test get i (f ∷ fs) (s ∷ ss) same go =
      let p = and_parts (goes_to_field definitions f (with_goes s)) (go_to_fields definitions fs (map with_goes ss)) go in
      subst (λ o. IfYields (outcome_and_then read (or_unmet o)) (IsOfTyping definitions (check_field definitions (find test (f ∷ fs))).typing))
      (sym (branches (test f) get i (position_from test (i + 1) fs)))
      (field-here (test f) f (find test fs) s (get i) (option_and_then get (position_from test (i + 1) fs)) p.0 (same 0 i (omega arith))
      (fields-read test get (i + 1) fs ss (λ k j is. same (suc k) j (omega (arith, is))) p.1))

  -- a record's field, by its name
  level-field : (x : Value-F Value) (at : ℕ) (name : List ℕ) → level_goes x (target_of (Some (type.Record at))) ≡ true
      → IfYields (outcome_and_then read (state_in definitions name (record_in x))) (IsOfTyping definitions (check_field definitions (find (λ f. bytes_eq f.name name) (fields_at definitions at))).typing)
  level-field (Value-F.Record bt states) at name goes =
      let p = and_parts (nat_eq at bt) (go_to_fields definitions (fields_at definitions bt) (map with_goes states)) goes in
      let test : Field → Bool = λ f. bytes_eq f.name name in
      subst (λ k. IfYields (outcome_and_then read (or_unmet (option_and_then (slice_get states) (position test (fields_at definitions bt))))) (IsOfTyping definitions (check_field definitions (find test (fields_at definitions k))).typing))
      (sym (eqb-true at bt p.0))
      (subst (λ o. IfYields (outcome_and_then read (or_unmet (option_and_then (slice_get states) o))) (IsOfTyping definitions (check_field definitions (find test (fields_at definitions bt))).typing))
      (sym (position_from-zero test (fields_at definitions bt)))
      (fields-read test (slice_get states) 0 (fields_at definitions bt) states (λ k j is. let e : j ≡ k = omega (arith, is) in ap (slice_get states) e) p.1))
  level-field (Value-F.Integer n) at name goes = tt
  level-field (Value-F.Boolean b) at name goes = tt
  level-field (Value-F.Enumerated bt n) at name goes = tt
  level-field (Value-F.Component c) at name goes = tt
  level-field (Value-F.Default n) at name goes = tt
  level-field Value-F.Null at name goes = tt
  level-field Value-F.Omit at name goes = tt

  unknown-field : (name : List ℕ) (v : Value) → IfYields (field definitions name v) (λ w. Unit {0})
  unknown-field name v = if-any (λ w. Unit {0}) (field definitions name v) (λ w. tt)

  pub field-goes : (t : Typing) (name : List ℕ) (v : Value) → IsOfTyping definitions t v → IfYields (field definitions name v) (IsOfTyping definitions (within definitions t name).typing)
  field-goes (typing.Known (type.Record at)) name v of = level-field (out-Value v) at name (sym (goes-out v (target_of (Some (type.Record at)))) ∙ of)
  field-goes (typing.Known type.Integer) name v of = unknown-field name v
  field-goes (typing.Known type.Boolean) name v of = unknown-field name v
  field-goes (typing.Known type.Default) name v of = unknown-field name v
  field-goes (typing.Known (type.Enumerated at)) name v of = unknown-field name v
  field-goes (typing.Known (type.Component at)) name v of = unknown-field name v
  field-goes typing.Null name v of = unknown-field name v
  field-goes typing.AnyComponent name v of = unknown-field name v
  field-goes typing.NoValue name v of = unknown-field name v
  field-goes typing.Unknown name v of = unknown-field name v

  -- fields of fields
  along-goes : (names : List (List ℕ)) (t : Typing) (found : Outcome Value) → IfYields found (IsOfTyping definitions t)
      → IfYields (along definitions names found) (IsOfTyping definitions (said.along definitions t names).typing)
  along-goes [] t found of = of
  along-goes (name ∷ names) t found of =
      along-goes names (within definitions t name).typing (outcome_and_then (field definitions name) found)
      (if-then-of (IsOfTyping definitions t) (IsOfTyping definitions (within definitions t name).typing) (field definitions name) found of (λ v is. field-goes t name v is))

-- ---- operators

module _ (definitions : List Definition) where
  abbrev IsInteger : Value → Type 0
  IsInteger v = is_of definitions type.Integer v ≡ true

  abbrev IsBoolean : Value → Type 0
  IsBoolean v = is_of definitions type.Boolean v ≡ true

  fitting-integer : (o : Option ℤ) → IfYields (fitting o) IsInteger
  fitting-integer o = if-mapped IsInteger value.Integer (or_error o) (λ z. integer-goes definitions z false)

  truth-boolean : (b : Bool) → IfYields (truth b) IsBoolean
  truth-boolean b = boolean-goes definitions b false

  negated-boolean : (v : Value) → IfYields (negated v) IsBoolean
  negated-boolean v = if-then IsBoolean _ (or_unmet (boolean v)) (λ b. truth-boolean _)

  under-sign-integer : (s : Sign) (v : Value) → IfYields (under_sign s v) IsInteger
  under-sign-integer s v = if-then IsInteger _ (or_unmet (integer v)) (λ z. fitting-integer (with_sign s z))

  both-of : {A : Type 0} (P : Value → Type 0) (f : A → A → Outcome Value) (a b : Option A) → ((x y : A) → IfYields (f x y) P) → IfYields (both f a b) P
  both-of P f None b all = tt
  both-of P f (Some x) None all = tt
  both-of P f (Some x) (Some y) all = all x y

  truth-if : (b : Bool) (c : Bool) → IfYields (if b then truth c else dynamic_error) IsBoolean
  truth-if true c = truth-boolean c
  truth-if false c = tt

  compared-boolean : (wanted : Bool) (v w : Value) → IfYields (compared wanted v w) IsBoolean
  compared-boolean wanted v w = truth-if (is_complete v && is_complete w) (beq wanted (equal v w))

  pub applied-gives : (op : Operator) (v w : Value) → IfYields (applied op v w) (λ u. is_of definitions (result_of op) u ≡ true)
  applied-gives operator.Equal v w = compared-boolean true v w
  applied-gives operator.NotEqual v w = compared-boolean false v w
  applied-gives operator.Or v w = both-of IsBoolean (logical operator.Or) (boolean v) (boolean w) (λ x y. truth-boolean _)
  applied-gives operator.Xor v w = both-of IsBoolean (logical operator.Xor) (boolean v) (boolean w) (λ x y. truth-boolean _)
  applied-gives operator.And v w = both-of IsBoolean (logical operator.And) (boolean v) (boolean w) (λ x y. truth-boolean _)
  applied-gives operator.Less v w = both-of IsBoolean (ordered operator.Less) (integer v) (integer w) (λ x y. truth-boolean _)
  applied-gives operator.Greater v w = both-of IsBoolean (ordered operator.Greater) (integer v) (integer w) (λ x y. truth-boolean _)
  applied-gives operator.LessEqual v w = both-of IsBoolean (ordered operator.LessEqual) (integer v) (integer w) (λ x y. truth-boolean _)
  applied-gives operator.GreaterEqual v w = both-of IsBoolean (ordered operator.GreaterEqual) (integer v) (integer w) (λ x y. truth-boolean _)
  applied-gives operator.Add v w = both-of IsInteger _ (integer v) (integer w) (λ x y. fitting-integer (calculated operator.Add x y))
  applied-gives operator.Subtract v w = both-of IsInteger _ (integer v) (integer w) (λ x y. fitting-integer (calculated operator.Subtract x y))
  applied-gives operator.Multiply v w = both-of IsInteger _ (integer v) (integer w) (λ x y. fitting-integer (calculated operator.Multiply x y))
  applied-gives operator.Divide v w = both-of IsInteger _ (integer v) (integer w) (λ x y. fitting-integer (calculated operator.Divide x y))
  applied-gives operator.Mod v w = both-of IsInteger _ (integer v) (integer w) (λ x y. fitting-integer (calculated operator.Mod x y))
  applied-gives operator.Rem v w = both-of IsInteger _ (integer v) (integer w) (λ x y. fitting-integer (calculated operator.Rem x y))

  level-boolean : (x : Value-F Value) (wanted : Bool) → is_truth wanted (boolean_in x) ≡ true → level_goes definitions x (target_of (Some type.Boolean)) ≡ true
  level-boolean (Value-F.Boolean b) wanted is = refl
  level-boolean (Value-F.Integer n) wanted is = absurd (let e = is in cc)
  level-boolean (Value-F.Enumerated at n) wanted is = absurd (let e = is in cc)
  level-boolean (Value-F.Record at fields) wanted is = absurd (let e = is in cc)
  level-boolean (Value-F.Component c) wanted is = absurd (let e = is in cc)
  level-boolean (Value-F.Default n) wanted is = absurd (let e = is in cc)
  level-boolean Value-F.Null wanted is = absurd (let e = is in cc)
  level-boolean Value-F.Omit wanted is = absurd (let e = is in cc)

  truth-of : (wanted : Bool) (v : Value) → is_truth wanted (boolean v) ≡ true → IsBoolean v
  truth-of wanted v is = goes-out definitions v (target_of (Some type.Boolean)) ∙ level-boolean (out-Value v) wanted is

  -- a left side that decides is a boolean
  decides-gives : (op : Operator) (v : Value) → decides op v ≡ true → is_of definitions (result_of op) v ≡ true
  decides-gives operator.And v is = truth-of false v is
  decides-gives operator.Or v is = truth-of true v is
  decides-gives _ v is = absurd (let e = is in cc)

  joined-gives : (reading : Reading) (op : Operator) (right : Evaluation) (left : Value) → IfYields (joined reading (op, right) left) (λ u. is_of definitions (result_of op) u ≡ true)
  joined-gives reading op right left = decided (decides op left) refl
    where
      decided : (b : Bool) → decides op left ≡ b → IfYields (if b then Yields left else outcome_and_then (applied op left) (right reading)) (λ u. is_of definitions (result_of op) u ≡ true)
      decided true is = decides-gives op left is
      decided false is = if-then (λ u. is_of definitions (result_of op) u ≡ true) (applied op left) (right reading) (applied-gives op left)

  running-of : (b : Bool) (found : Judgement) (v : Value) → IsBoolean v
      → IsOfTyping definitions (if b then said.fine (typing.Known type.Boolean) else said.after found.broken (said.runs found.typing)).typing v
  running-of true found v is = is
  running-of false found v is = is

  -- ---- presence and running

  last-presence : (ds : List Definition) (name : List ℕ) (names : List (List ℕ)) (v : Value) → IfYields (last_presence ds name names v) IsBoolean
  last-presence ds name [] v = if-mapped IsBoolean (λ state. value.Boolean (is_there state)) (state_of_field ds name v) (λ state. boolean-goes definitions (is_there state) false)
  last-presence ds name (next ∷ names) v = if-then IsBoolean (last_presence ds next names) (field ds name v) (λ w. last-presence ds next names w)

  presence-boolean : (ds : List Definition) (names : List (List ℕ)) (v : Value) → IfYields (presence ds names v) IsBoolean
  presence-boolean ds [] v = tt
  presence-boolean ds (name ∷ names) v = last-presence ds name names v

  runs-boolean : (reading : Reading) (c : ComponentRef) (timer : Option Bool) → IfYields (runs_at reading c timer) IsBoolean
  runs-boolean reading c (Some b) = truth-boolean b
  runs-boolean reading c None =
      if-then IsBoolean (component_runs reading) (component_at reading c)
      (λ v. if-mapped IsBoolean (λ d. value.Boolean (reading.running d.path)) (values.component v) (λ d. boolean-goes definitions (reading.running d.path) false))

-- ---- references

module _ (scope : Scope) (reading : Reading) (fits : FitsIn scope reading) where
  reference-goes : (reference : Reference) → IfYields (referred reading reference) (IsOfTyping scope.definitions (said.check_reference scope reference).typing)
  reference-goes reference =
      subst (λ ds. IfYields (along ds reference.fields (named reading reference.name)) (IsOfTyping scope.definitions (said.check_reference scope reference).typing)) (sym fits.definitions)
      (along-goes scope.definitions reference.fields (check_meaning scope.definitions (scope.names reference.name)).typing (named reading reference.name) (fits.names reference.name))

  self-goes : (itself : Option ℕ) (free : Bool) → IfSome itself (λ at. reading.itself.component_type ≡ at) → IsOfTyping scope.definitions (check_self itself free).typing (value.Component reading.itself)
  self-goes (Some at) free is = subst (λ k. is_of scope.definitions (type.Component k) (value.Component reading.itself) ≡ true) is (component-value-goes scope.definitions reading.itself)
  self-goes None free is = (reading.itself.component_type, component-value-goes scope.definitions reading.itself)

  pub component-goes : (c : ComponentRef) (free : Bool) → IfYields (component_at reading c) (IsOfTyping scope.definitions (check_component scope c free).typing)
  component-goes component.Itself free = self-goes scope.itself free fits.itself
  component-goes component.Mtc free = (reading.mtc.component_type, component-value-goes scope.definitions reading.mtc)
  component-goes (component.Named reference) free = reference-goes reference

  running-goes : (c : ComponentRef) → IfYields (runs reading c) (IsOfTyping scope.definitions (check_running scope c).typing)
  running-goes c =
      if-more (IsBoolean scope.definitions) (IsOfTyping scope.definitions (check_running scope c).typing) (runs reading c) (runs-boolean scope.definitions reading c (timer_at reading c))
      (λ v is. running-of scope.definitions (names_timer scope c) (check_component scope c true) v is)

  ispresent-goes : (reference : Reference) → IfYields (outcome_and_then (presence reading.definitions reference.fields) (named reading reference.name)) (IsOfTyping scope.definitions (said.check_ispresent scope reference).typing)
  ispresent-goes reference =
      if-then (IsBoolean scope.definitions) (presence reading.definitions reference.fields) (named reading reference.name) (presence-boolean scope.definitions reading.definitions reference.fields)

  -- ---- chains

  pub same-operator : (l : Link) → (link l).0 ≡ (said.link l).0
  same-operator l =
      ap (λ (p : Operator × Evaluation). p.0) (fold_out-Link Evaluation (Operator × Evaluation) expression_step link_step l)
      ∙ sym (ap (λ (p : Operator × Judge). p.0) (fold_out-Link Judge (Operator × Judge) said.expression_step said.link_step l))

  pub joined-goes : (first : Judge) (found : Outcome Value) (l : Link) (free : Bool)
      → IfYields (outcome_and_then (joined reading (link l)) found) (IsOfTyping scope.definitions (said.join_link (said.link l).0 first (said.link l).1 scope free).typing)
  joined-goes first found l free =
      if-then (IsOfTyping scope.definitions (said.join_link (said.link l).0 first (said.link l).1 scope free).typing) (joined reading (link l)) found
      (λ left. if-more (λ u. is_of scope.definitions (result_of (link l).0) u ≡ true) (IsOfTyping scope.definitions (said.join_link (said.link l).0 first (said.link l).1 scope free).typing)
      (joined reading (link l) left) (joined-gives scope.definitions reading (link l).0 (link l).1 left)
      (λ u is. subst (λ op. is_of scope.definitions (result_of op) u ≡ true) (same-operator l) is))

  join_links-goes : (links : List Link) (first : Judge) (found : Outcome Value) → ((free : Bool) → IfYields found (IsOfTyping scope.definitions (first scope free).typing)) → (free : Bool)
      → IfYields (after reading found (map link links)) (IsOfTyping scope.definitions (join_links first (map said.link links) scope free).typing)
  join_links-goes [] first found goes free = goes free
  join_links-goes (l ∷ links) first found goes free =
      join_links-goes links (said.join_link (said.link l).0 first (said.link l).1) (outcome_and_then (joined reading (link l)) found) (joined-goes first found l) free

-- ---- expressions

-- what gives values of the type that is said of it
abbrev IsFitting : Evaluation → Judge → Type 0
IsFitting evaluation judgement = (scope : Scope) (reading : Reading) → FitsIn scope reading → (free : Bool) → IfYields (evaluation reading) (IsOfTyping scope.definitions (judgement scope free).typing)

abbrev HeldExpr : Type 0
HeldExpr = (e : Expr) × IsFitting (value_of e) (expression e)

abbrev HeldLink : Type 0
HeldLink = (l : Link) × Unit {0}

abbrev bare : Expr-F HeldExpr HeldLink → Expr-F Expr Link
bare = map-Expr HeldExpr HeldLink Expr Link (λ e. e.0) (λ l. l.0)

abbrev LevelFits : Expr-F Expr Link → Type 0
LevelFits x = IsFitting (expression_step (map-Expr Expr Link Evaluation (Operator × Evaluation) value_of link x))
    (said.expression_step (map-Expr Expr Link Judge (Operator × Judge) expression said.link x))

expr-held : (y : Expr-F HeldExpr HeldLink) → LevelFits (bare y)
expr-held (Expr-F.Int n) = λ scope reading fits free. fitting-integer scope.definitions (integers.within (pos n))
expr-held (Expr-F.Bool b) = λ scope reading fits free. truth-boolean scope.definitions b
expr-held Expr-F.Null = λ scope reading fits free. refl
expr-held (Expr-F.Reference reference) = λ scope reading fits free. component-goes scope reading fits reference free
expr-held (Expr-F.Running reference) = λ scope reading fits free. running-goes scope reading fits reference
expr-held (Expr-F.Ispresent reference) = λ scope reading fits free. ispresent-goes scope reading fits reference
expr-held (Expr-F.Not e) = λ scope reading fits free.
    if-then (IsBoolean scope.definitions) negated (value_of e.0 reading) (negated-boolean scope.definitions)
expr-held (Expr-F.Signed s e) = λ scope reading fits free.
    if-then (IsInteger scope.definitions) (under_sign s) (value_of e.0 reading) (under-sign-integer scope.definitions s)
expr-held (Expr-F.Chain first links) = λ scope reading fits free.
    join_links-goes scope reading fits (map (λ l. l.0) links) (expression first.0) (value_of first.0 reading) (first.1 scope reading fits) free

-- an expression's value is of its type
pub expressions-typed : (e : Expr) → IsFitting (value_of e) (expression e)
expressions-typed = ind-Expr (λ e. IsFitting (value_of e) (expression e)) (λ l. Unit {0}) (λ x y is.
    subst (λ f. IsFitting f (expression (roll-Expr x))) (sym (fold-roll-Expr Evaluation (Operator × Evaluation) expression_step link_step x))
    (subst (λ j. IsFitting (expression_step (map-Expr Expr Link Evaluation (Operator × Evaluation) value_of link x)) j) (sym (fold-roll-Expr Judge (Operator × Judge) said.expression_step said.link_step x))
    (subst LevelFits is (expr-held y)))) (λ x y is. tt)

pub expression_typed : (e : Expr) (scope : Scope) (free : Bool) (reading : Reading) → FitsIn scope reading → IfYields (value_of e reading) (IsOfTyping scope.definitions (expression e scope free).typing)
expression_typed e scope free reading fits = expressions-typed e scope reading fits free
