-- The value of an expression refers only to what is read.
use Rattle.std.proofs.Common.{ℕ, ℤ, pos, Bool, true, false, ◌&&◌, List, [], ◌∷◌, map, bytes_eq, Option, Some, None, if◌then◌else◌, sym, subst}
use Rattle.std.proofs.Math.Bool.{beq}
use Rattle.std.specs.List.{position}
use Rattle.ttcn_syntax.specs.declared.operator.Operator.{Operator}
use Rattle.ttcn_syntax.specs.declared.operator.Operator.TheVariants as operator
use Rattle.ttcn_syntax.specs.declared.operator.Sign.{Sign}
use Rattle.ttcn_syntax.specs.declared.tree.definition.Definition.{Definition}
use Rattle.ttcn_syntax.specs.declared.tree.expression.ComponentRef.{ComponentRef}
use Rattle.ttcn_syntax.specs.declared.tree.expression.ComponentRef.TheVariants as component
use Rattle.ttcn_syntax.specs.declared.tree.expression.Expr.{Expr}
use Rattle.ttcn_syntax.specs.declared.tree.expression.Expr.TheFolds.{fold-roll-Expr, ind-Expr, map-Expr}
use Rattle.ttcn_syntax.specs.declared.tree.expression.Expr.TheOpen.{Expr-F}
use Rattle.ttcn_syntax.specs.declared.tree.expression.Link.{Link}
use Rattle.ttcn_syntax.specs.declared.tree.expression.Reference.{Reference}
use Rattle.value_arithmetic.specs.Integers as integers
use Rattle.value_arithmetic.specs.Integers.{calculated}
use Rattle.check_scope.specs.Names.{fields_at, kind_at, module_names}
use Rattle.check_scope.specs.declared.names.Meaning.{Meaning}
use Rattle.check_scope.specs.declared.names.Meaning.TheVariants as meaning
use Rattle.laws_references.proofs.Values.{LevelRefersTo, StateRefersTo, boolean-refers, component-refers, enumerated-refers, get-at, integer-refers, map-any, null-refers, refers-out, then-any}
use Rattle.laws_references.specs.References.{ReadingRefersTo, RefersTo}
use Rattle.laws_steps.proofs.Outcomes.{then-yields, unmet-yields}
use Rattle.value_types.specs.Evaluation.{Evaluation, after, expression_step, joined, link, link_step, value_of}
use Rattle.value_types.specs.Operations.{applied, both, compared, decides, fitting, logical, negated, ordered, truth, under_sign, with_sign}
use Rattle.value_types.specs.Outcomes.{IfYields, Outcome, Yields, dynamic_error, or_error, or_unmet, outcome_and_then}
use Rattle.value_types.specs.Readings.{Reading, along, by_meaning, component_at, component_referred, component_runs, enumerators_of, field, is_there, last_presence, named, presence, read, referred, runs_at, state_in, state_of_field, timer_at}
use Rattle.value_types.specs.Values as values
use Rattle.value_types.specs.Values.{boolean, equal, integer, is_complete, is_omit, record_in}
use Rattle.value_types.specs.declared.value.ComponentId.{ComponentId}
use Rattle.value_types.specs.declared.value.Value.{Value, out-Value}
use Rattle.value_types.specs.declared.value.Value.TheOpen.{Value-F}
use Rattle.value_types.specs.declared.value.Value.TheVariants as value

module _ (P : ComponentId → Type 0) where
  -- what is given refers only to such components
  abbrev pub Gives : Outcome Value → Type 0
  Gives o = IfYields o (RefersTo P)

  -- ---- fields

  there : (v : Value) (omitted : Bool) → RefersTo P v → Gives (if omitted then dynamic_error else Yields v)
  there v true is = tt
  there v false is = is

  read-gives : (state : Option Value) → StateRefersTo P state → Gives (read state)
  read-gives None is = tt
  read-gives (Some v) is = there v (is_omit v) is

  level-state : (definitions : List Definition) (name : List ℕ) (x : Value-F Value) → LevelRefersTo P x → IfYields (state_in definitions name (record_in x)) (StateRefersTo P)
  level-state definitions name (Value-F.Record at fields) is =
      unmet-yields (StateRefersTo P) _ (get-at (StateRefersTo P) fields (position (λ field. bytes_eq field.name name) (fields_at definitions at)) is)
  level-state definitions name (Value-F.Integer n) is = tt
  level-state definitions name (Value-F.Boolean b) is = tt
  level-state definitions name (Value-F.Enumerated at n) is = tt
  level-state definitions name (Value-F.Component c) is = tt
  level-state definitions name (Value-F.Default n) is = tt
  level-state definitions name Value-F.Null is = tt
  level-state definitions name Value-F.Omit is = tt

  field-gives : (definitions : List Definition) (name : List ℕ) (v : Value) → RefersTo P v → Gives (field definitions name v)
  field-gives definitions name v is =
      then-yields (StateRefersTo P) (RefersTo P) read (state_of_field definitions name v) read-gives (level-state definitions name (out-Value v) (refers-out P v is))

  along-gives : (definitions : List Definition) (names : List (List ℕ)) (found : Outcome Value) → Gives found → Gives (along definitions names found)
  along-gives definitions [] found is = is
  along-gives definitions (name ∷ names) found is =
      along-gives definitions names (outcome_and_then (field definitions name) found)
      (then-yields (RefersTo P) (RefersTo P) (field definitions name) found (field-gives definitions name) is)

  -- ---- operators

  fitting-gives : (o : Option ℤ) → Gives (fitting o)
  fitting-gives o = map-any (RefersTo P) value.Integer (or_error o) (integer-refers P)

  negated-gives : (v : Value) → Gives (negated v)
  negated-gives v = then-any (RefersTo P) _ (or_unmet (boolean v)) (λ b. boolean-refers P _)

  under-sign-gives : (s : Sign) (v : Value) → Gives (under_sign s v)
  under-sign-gives s v = then-any (RefersTo P) _ (or_unmet (integer v)) (λ z. fitting-gives (with_sign s z))

  both-give : {A : Type 0} (f : A → A → Outcome Value) (a b : Option A) → ((x y : A) → Gives (f x y)) → Gives (both f a b)
  both-give f None b all = tt
  both-give f (Some x) None all = tt
  both-give f (Some x) (Some y) all = all x y

  truth-if : (b : Bool) (c : Bool) → Gives (if b then truth c else dynamic_error)
  truth-if true c = boolean-refers P c
  truth-if false c = tt

  compared-gives : (wanted : Bool) (v w : Value) → Gives (compared wanted v w)
  compared-gives wanted v w = truth-if (is_complete v && is_complete w) (beq wanted (equal v w))

  applied-gives : (op : Operator) (v w : Value) → Gives (applied op v w)
  applied-gives operator.Equal v w = compared-gives true v w
  applied-gives operator.NotEqual v w = compared-gives false v w
  applied-gives operator.Or v w = both-give (logical operator.Or) (boolean v) (boolean w) (λ x y. boolean-refers P _)
  applied-gives operator.Xor v w = both-give (logical operator.Xor) (boolean v) (boolean w) (λ x y. boolean-refers P _)
  applied-gives operator.And v w = both-give (logical operator.And) (boolean v) (boolean w) (λ x y. boolean-refers P _)
  applied-gives operator.Less v w = both-give (ordered operator.Less) (integer v) (integer w) (λ x y. boolean-refers P _)
  applied-gives operator.Greater v w = both-give (ordered operator.Greater) (integer v) (integer w) (λ x y. boolean-refers P _)
  applied-gives operator.LessEqual v w = both-give (ordered operator.LessEqual) (integer v) (integer w) (λ x y. boolean-refers P _)
  applied-gives operator.GreaterEqual v w = both-give (ordered operator.GreaterEqual) (integer v) (integer w) (λ x y. boolean-refers P _)
  applied-gives operator.Add v w = both-give _ (integer v) (integer w) (λ x y. fitting-gives (calculated operator.Add x y))
  applied-gives operator.Subtract v w = both-give _ (integer v) (integer w) (λ x y. fitting-gives (calculated operator.Subtract x y))
  applied-gives operator.Multiply v w = both-give _ (integer v) (integer w) (λ x y. fitting-gives (calculated operator.Multiply x y))
  applied-gives operator.Divide v w = both-give _ (integer v) (integer w) (λ x y. fitting-gives (calculated operator.Divide x y))
  applied-gives operator.Mod v w = both-give _ (integer v) (integer w) (λ x y. fitting-gives (calculated operator.Mod x y))
  applied-gives operator.Rem v w = both-give _ (integer v) (integer w) (λ x y. fitting-gives (calculated operator.Rem x y))

  -- ---- presence and running

  last-presence : (definitions : List Definition) (name : List ℕ) (names : List (List ℕ)) (v : Value) → Gives (last_presence definitions name names v)
  last-presence definitions name [] v =
      map-any (RefersTo P) (λ state. value.Boolean (is_there state)) (state_of_field definitions name v) (λ state. boolean-refers P (is_there state))
  last-presence definitions name (next ∷ names) v =
      then-any (RefersTo P) (last_presence definitions next names) (field definitions name v) (λ w. last-presence definitions next names w)

  presence-gives : (definitions : List Definition) (names : List (List ℕ)) (v : Value) → Gives (presence definitions names v)
  presence-gives definitions [] v = tt
  presence-gives definitions (name ∷ names) v = last-presence definitions name names v

  runs-give : (reading : Reading) (c : ComponentRef) (timer : Option Bool) → Gives (runs_at reading c timer)
  runs-give reading c (Some b) = boolean-refers P b
  runs-give reading c None =
      then-any (RefersTo P) (component_runs reading) (component_at reading c)
      (λ v. map-any (RefersTo P) (λ d. value.Boolean (reading.running d.path)) (values.component v) (λ d. boolean-refers P (reading.running d.path)))

  -- ---- names and references

  module _ (reading : Reading) (is : ReadingRefersTo P reading) where
    meant-gives : (name : List ℕ) (m : Option Meaning) → Gives (by_meaning reading name m)
    meant-gives name (Some (meaning.ModuleConstant at item)) = is.constants at item
    meant-gives name (Some (meaning.Enumerator at)) =
        map-any (RefersTo P) (value.Enumerated at) (or_unmet (position (λ e. bytes_eq e.name name) (enumerators_of (kind_at reading.definitions at)))) (enumerated-refers P at)
    meant-gives name _ = is.facts.names name

    named-gives : (name : List ℕ) → Gives (named reading name)
    named-gives name = meant-gives name (module_names reading.definitions name)

    pub referred-gives : (reference : Reference) → Gives (referred reading reference)
    referred-gives reference = along-gives reading.definitions reference.fields (named reading reference.name) (named-gives reference.name)

    pub component-gives : (c : ComponentRef) → Gives (component_at reading c)
    component-gives component.Itself = component-refers P reading.itself is.facts.itself
    component-gives component.Mtc = component-refers P reading.mtc is.facts.mtc
    component-gives (component.Named reference) = referred-gives reference

    level-component : (x : Value-F Value) → LevelRefersTo P x → IfYields (values.component_in x) P
    level-component (Value-F.Component c) of = of
    level-component (Value-F.Record at fields) of = tt
    level-component (Value-F.Integer n) of = tt
    level-component (Value-F.Boolean b) of = tt
    level-component (Value-F.Enumerated at n) of = tt
    level-component (Value-F.Default n) of = tt
    level-component Value-F.Null of = tt
    level-component Value-F.Omit of = tt

    pub referred-is : (c : ComponentRef) → IfYields (component_referred reading c) P
    referred-is c =
        then-yields (RefersTo P) P values.component (component_at reading c) (λ v of. level-component (out-Value v) (refers-out P v of)) (component-gives c)

    -- ---- chains

    decided-gives : (op : Operator) (right : Evaluation) (left : Value) (b : Bool) → RefersTo P left → Gives (if b then Yields left else outcome_and_then (applied op left) (right reading))
    decided-gives op right left true of = of
    decided-gives op right left false of = then-any (RefersTo P) (applied op left) (right reading) (applied-gives op left)

    links-give : (links : List Link) (found : Outcome Value) → Gives found → Gives (after reading found (map link links))
    links-give [] found of = of
    links-give (l ∷ links) found of =
        links-give links (outcome_and_then (joined reading (link l)) found)
        (then-yields (RefersTo P) (RefersTo P) (joined reading (link l)) found (λ left also. decided-gives (link l).0 (link l).1 left (decides (link l).0 left) also) of)

  -- ---- expressions

  -- it refers only to what is read
  abbrev RefersToRead : Evaluation → Type 0
  RefersToRead evaluation = (reading : Reading) → ReadingRefersTo P reading → Gives (evaluation reading)

  abbrev HeldExpr : Type 0
  HeldExpr = (e : Expr) × RefersToRead (value_of e)

  abbrev HeldLink : Type 0
  HeldLink = (l : Link) × Unit {0}

  abbrev LevelRead : Expr-F Expr Link → Type 0
  LevelRead x = RefersToRead (expression_step (map-Expr Expr Link Evaluation (Operator × Evaluation) value_of link x))

  expr-held : (y : Expr-F HeldExpr HeldLink) → LevelRead (map-Expr HeldExpr HeldLink Expr Link (λ e. e.0) (λ l. l.0) y)
  expr-held (Expr-F.Int n) = λ reading is. fitting-gives (integers.within (pos n))
  expr-held (Expr-F.Bool b) = λ reading is. boolean-refers P b
  expr-held Expr-F.Null = λ reading is. null-refers P
  expr-held (Expr-F.Reference reference) = λ reading is. component-gives reading is reference
  expr-held (Expr-F.Running reference) = λ reading is. runs-give reading reference (timer_at reading reference)
  expr-held (Expr-F.Ispresent reference) = λ reading is.
      then-any (RefersTo P) (presence reading.definitions reference.fields) (named reading reference.name) (presence-gives reading.definitions reference.fields)
  expr-held (Expr-F.Not e) = λ reading is. then-any (RefersTo P) negated (value_of e.0 reading) negated-gives
  expr-held (Expr-F.Signed s e) = λ reading is. then-any (RefersTo P) (under_sign s) (value_of e.0 reading) (under-sign-gives s)
  expr-held (Expr-F.Chain first links) = λ reading is. links-give reading is (map (λ l. l.0) links) (value_of first.0 reading) (first.1 reading is)

  pub expression-gives : (e : Expr) → RefersToRead (value_of e)
  expression-gives = ind-Expr (λ e. RefersToRead (value_of e)) (λ l. Unit {0}) (λ x y is.
      subst RefersToRead (sym (fold-roll-Expr Evaluation (Operator × Evaluation) expression_step link_step x))
      (subst LevelRead is (expr-held y))) (λ x y is. tt)
