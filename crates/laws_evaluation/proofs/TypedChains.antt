-- What the constants and templates of a well-typed module give is of their types.
use Rattle.std.proofs.Common.{◌≡◌, ℕ, zero, suc, ◌+◌, Bool, true, false, not, nat_eq, nat_lt, List, [], ◌∷◌, ◌++◌, map, length, get_or, bytes_eq, Option, Some, None, is_none, is_some, IfSome, if◌then◌else◌, refl, sym, ap, subst, ◌∙◌, arith}
use Rattle.std.proofs.lemmas.Bool.{or_parts}
use Rattle.std.proofs.lemmas.Iterator.Adapters.{position_from-zero}
use Rattle.std.proofs.lemmas.List.Elements.{All-cons, All-nil}
use Rattle.std.proofs.lemmas.List.Folds.{list_any-append}
use Rattle.std.specs.Cmp.Lexicographic.{bytes_decides}
use Rattle.std.specs.List.{All, list_any, position, position_from, position_or_len, slice_get}
use Rattle.std.specs.Option.{option_and_then, option_map, option_or}
use Rattle.ttcn_syntax.specs.declared.tree.definition.Definition.{Definition}
use Rattle.ttcn_syntax.specs.declared.tree.definition.DefinitionKind.{DefinitionKind}
use Rattle.ttcn_syntax.specs.declared.tree.definition.DefinitionKind.TheVariants as kind
use Rattle.ttcn_syntax.specs.declared.tree.definition.Enumerator.{Enumerator}
use Rattle.ttcn_syntax.specs.declared.tree.definition.Field.{Field}
use Rattle.ttcn_syntax.specs.declared.tree.definition.Parameter.{Parameter}
use Rattle.ttcn_syntax.specs.declared.tree.definition.TemplateDefinition.{TemplateDefinition}
use Rattle.ttcn_syntax.specs.declared.tree.statement.Constant.{Constant}
use Rattle.ttcn_syntax.specs.declared.tree.statement.Constants.{Constants}
use Rattle.ttcn_syntax.specs.declared.tree.value.TypeName.{TypeName}
use Rattle.ttcn_syntax.specs.declared.tree.value.TypeName.TheVariants as type_name
use Rattle.check_rules.proofs.Meanings.{EachMeans, IfMeans, means-append, means-listed}
use Rattle.laws_checker.proofs.Nothing.{kept, nothing-first, nothing-rest}
use Rattle.laws_checker.proofs.Whole.{definition_is_fine, module_whole, parameters_whole}
use Rattle.check_rules.specs.Calls.{parameters_of, template_type}
use Rattle.check_rules.specs.Definitions.{check_parameter, check_part, check_fields, check_module_constants, check_parameters, parameter_entry, with_parameters}
use Rattle.check_scope.specs.Scopes.{module_scope}
use Rattle.check_rules.specs.Expressions.{check_meaning}
use Rattle.laws_checker.specs.Laws.{IsWhole}
use Rattle.check_scope.specs.Names.{Entry, Names, Scope, constant_entries, constant_of, constants_type, declaring, entries_at, entries_from, field_named, fields_of, kind_at, module_names, resolved, template_of, type_meant}
use Rattle.check_rules.specs.Rules.{AreWellTyped}
use Rattle.check_rules.specs.Targets.{check_new_name, check_type}
use Rattle.check_rules.specs.Templates.{template, template_meant}
use Rattle.check_scope.specs.Typings.{target_of, typed, unless}
use Rattle.check_rules.specs.Values.{value as checked}
use Rattle.check_scope.specs.declared.names.Meaning.{Meaning}
use Rattle.check_scope.specs.declared.names.Meaning.TheVariants as meaning
use Rattle.check_scope.specs.declared.rule.Rule.{Rule}
use Rattle.check_scope.specs.declared.rule.Rule.TheVariants as rule
use Rattle.check_scope.specs.declared.types.DataType.{DataType}
use Rattle.check_scope.specs.declared.types.DataType.TheVariants as type
use Rattle.laws_evaluation.proofs.TypedRecords.{true-both, values_typed}
use Rattle.laws_evaluation.proofs.TypedTemplates.{templates_typed}
use Rattle.laws_evaluation.proofs.TypedValues.{goes-rolled, if-any, nat_eq-refl}
use Rattle.value_types.specs.Chains.{constant_value, given_to, template_value, with_names, within_chains}
use Rattle.value_types.specs.Literals.{value_wanted}
use Rattle.value_types.specs.Outcomes.{IfYields, IsMet, Outcome, Yields, or_unmet, outcome_map, unmet}
use Rattle.value_types.specs.Readings.{Reading, by_meaning, enumerated, enumerators_of, named}
use Rattle.value_types.specs.Templates.{template_wanted}
use Rattle.laws_evaluation.specs.Types.{AreGiven, FieldsDiffer, FitsIn, HasAll, IsOfTyping, is_of, names_timer, names_value, template_goes}
use Rattle.value_types.specs.declared.value.Value.{Value}
use Rattle.value_types.specs.declared.value.Value.TheOpen as level
use Rattle.value_types.specs.declared.value.Value.TheVariants as value

-- ---- fields differ

not-true : (b : Bool) → not b ≡ true → b ≡ false
not-true false is = refl
not-true true is = absurd (let e = is in cc)

bytes-same : (xs : List ℕ) → bytes_eq xs xs ≡ true
bytes-same xs = (bytes_decides xs xs).1 refl

bytes-other : (xs ys : List ℕ) → bytes_eq ys xs ≡ false → bytes_eq xs ys ≡ false
bytes-other xs ys other = go (bytes_eq xs ys) refl
  where
    go : (b : Bool) → bytes_eq xs ys ≡ b → b ≡ false
    go false is = refl
    go true is = absurd (let same : bytes_eq ys xs ≡ true = (bytes_decides ys xs).1 (sym ((bytes_decides xs ys).0 is)) in let e = sym same ∙ other in cc)

-- a name is none of these
abbrev IsNew : List (List ℕ) → Field → Type 0
IsNew before f = list_any (bytes_eq f.name) before ≡ false

-- the field of its name is itself
abbrev IsOwn : List Field → Field → Type 0
IsOwn fields f = field_named f.name fields ≡ Some f

all-imply : {X : Type 0} (P Q : X → Type 0) (xs : List X) → ((x : X) → P x → Q x) → All P xs → All Q xs
all-imply P Q xs f all k d lt = f (get_or xs k d) (all k d lt)

all-both : {X : Type 0} (P Q R : X → Type 0) (xs : List X) → ((x : X) → P x → Q x → R x) → All P xs → All Q xs → All R xs
all-both P Q R xs f all others k d lt = f (get_or xs k d) (all k d lt) (others k d lt)

new-earlier : (before : List (List ℕ)) (name : List ℕ) (f : Field) → IsNew (before ++ name ∷ []) f → IsNew before f
new-earlier before name f is =
    (or_parts (list_any (bytes_eq f.name) before) (list_any (bytes_eq f.name) (name ∷ [])) (sym (list_any-append (bytes_eq f.name) before (name ∷ [])) ∙ is)).0

new-here : (before : List (List ℕ)) (name : List ℕ) (f : Field) → IsNew (before ++ name ∷ []) f → bytes_eq f.name name ≡ false
new-here before name f is =
    (or_parts (bytes_eq f.name name) false
    (or_parts (list_any (bytes_eq f.name) before) (list_any (bytes_eq f.name) (name ∷ [])) (sym (list_any-append (bytes_eq f.name) before (name ∷ [])) ∙ is)).1).0

module _ (names : Names) where
  fields-new : (before : List (List ℕ)) (fields : List Field) → check_fields names before fields ≡ [] → All (IsNew before) fields
  fields-new before [] nothing = All-nil (IsNew before)
  fields-new before (f ∷ fs) nothing =
      let new : List Rule = unless (not (list_any (bytes_eq f.name) before)) rule.DuplicateName in
      let part : List Rule = check_part names f.type_name in
      let others : List Rule = check_fields names (before ++ f.name ∷ []) fs in
      All-cons (IsNew before) f fs (not-true (list_any (bytes_eq f.name) before) (kept (not (list_any (bytes_eq f.name) before)) rule.DuplicateName (nothing-first new part (nothing-first (new ++ part) others nothing))))
      (all-imply (IsNew (before ++ f.name ∷ [])) (IsNew before) fs (new-earlier before f.name) (fields-new (before ++ f.name ∷ []) fs (nothing-rest (new ++ part) others nothing)))

  found-first : (b : Bool) (f : Field) (o : Option Field) → b ≡ true → (if b then Some f else o) ≡ Some f
  found-first true f o is = refl
  found-first false f o is = absurd (let e = is in cc)

  found-later : (b : Bool) (f g : Field) (o : Option Field) → b ≡ false → o ≡ Some g → (if b then Some f else o) ≡ Some g
  found-later false f g o is found = found
  found-later true f g o is found = absurd (let e = is in cc)

  fields-own : (before : List (List ℕ)) (fields : List Field) → check_fields names before fields ≡ [] → All (IsOwn fields) fields
  fields-own before [] nothing = All-nil (IsOwn [])
  fields-own before (f ∷ fs) nothing =
      let new : List Rule = unless (not (list_any (bytes_eq f.name) before)) rule.DuplicateName in
      let part : List Rule = check_part names f.type_name in
      let others : List Rule = check_fields names (before ++ f.name ∷ []) fs in
      let rest : others ≡ [] = nothing-rest (new ++ part) others nothing in
      All-cons (IsOwn (f ∷ fs)) f fs (found-first (bytes_eq f.name f.name) f (field_named f.name fs) (bytes-same f.name))
      (all-both (IsNew (before ++ f.name ∷ [])) (IsOwn fs) (IsOwn (f ∷ fs)) fs
      (λ g is_new own. found-later (bytes_eq f.name g.name) f g (field_named g.name fs) (bytes-other f.name g.name (new-here before f.name g is_new)) own)
      (fields-new (before ++ f.name ∷ []) fs rest) (fields-own (before ++ f.name ∷ []) fs rest))

module _ (definitions : List Definition) (well : AreWellTyped definitions) where
  kind-differ : (k : Option DefinitionKind) (at : ℕ) → kind_at definitions at ≡ k → All (IsOwn (fields_of k)) (fields_of k)
  kind-differ (Some (kind.Record r)) at is = fields-own (module_names definitions) [] r.fields (definition_is_fine definitions well at (kind.Record r) is)
  kind-differ (Some (kind.Enumerated e)) at is = All-nil (IsOwn [])
  kind-differ (Some (kind.Port p)) at is = All-nil (IsOwn [])
  kind-differ (Some (kind.Component c)) at is = All-nil (IsOwn [])
  kind-differ (Some (kind.Constants cs)) at is = All-nil (IsOwn [])
  kind-differ (Some (kind.Template t)) at is = All-nil (IsOwn [])
  kind-differ (Some (kind.Function f)) at is = All-nil (IsOwn [])
  kind-differ (Some (kind.Altstep a)) at is = All-nil (IsOwn [])
  kind-differ (Some (kind.Testcase t)) at is = All-nil (IsOwn [])
  kind-differ None at is = All-nil (IsOwn [])

  -- the fields of a record have names of their own
  pub fields_differ : FieldsDiffer definitions
  fields_differ at = kind-differ (kind_at definitions at) at refl

-- ---- what names of the module stand for

abbrev is_local : Meaning → Bool
is_local (meaning.Variable of) = true
is_local (meaning.Constant of) = true
is_local _ = false

abbrev IsOfModule : Meaning → Type 0
IsOfModule m = is_local m ≡ false

each-of-module : {A : Type 0} (entry : A → Entry) (items : List A) → ((x : A) → IsOfModule (entry x).1) → EachMeans IsOfModule (map entry items)
each-of-module entry [] holds = tt
each-of-module entry (x ∷ items) holds = (holds x, each-of-module entry items holds)

constants-of-module : (at item : ℕ) (constants : List Constant) → EachMeans IsOfModule (constant_entries at item constants)
constants-of-module at item [] = tt
constants-of-module at item (c ∷ constants) = (refl, constants-of-module at (item + 1) constants)

kind-of-module : (at : ℕ) (k : DefinitionKind) → EachMeans IsOfModule (entries_at at k)
kind-of-module at (kind.Record r) = (refl, tt)
kind-of-module at (kind.Enumerated e) = (refl, each-of-module (λ (n : Enumerator). (n.name, meaning.Enumerator at)) e.enumerators (λ n. refl))
kind-of-module at (kind.Port p) = (refl, tt)
kind-of-module at (kind.Component c) = (refl, tt)
kind-of-module at (kind.Constants cs) = constants-of-module at 0 cs.constants
kind-of-module at (kind.Template t) = (refl, tt)
kind-of-module at (kind.Function f) = (refl, tt)
kind-of-module at (kind.Altstep a) = (refl, tt)
kind-of-module at (kind.Testcase t) = (refl, tt)

from-of-module : (at : ℕ) (definitions : List Definition) → EachMeans IsOfModule (entries_from at definitions)
from-of-module at [] = tt
from-of-module at (d ∷ definitions) = means-append IsOfModule (entries_at at d.kind) (entries_from (at + 1) definitions) (kind-of-module at d.kind) (from-of-module (at + 1) definitions)

names-of-module : (definitions : List Definition) (name : List ℕ) → IfMeans IsOfModule (module_names definitions name)
names-of-module definitions name = means-listed IsOfModule (entries_from 0 definitions) name (from-of-module 0 definitions)

enumerated-goes : (definitions : List Definition) (at n : ℕ) → nat_lt n (length (enumerators_of (kind_at definitions at))) ≡ true
    → is_of definitions (type.Enumerated at) (value.Enumerated at n) ≡ true
enumerated-goes definitions at n less =
    ap (λ v. is_of definitions (type.Enumerated at) v) (sym (value.rolls-Enumerated at n))
    ∙ goes-rolled definitions (level.Value-F.Enumerated at n) (target_of (Some (type.Enumerated at)))
    ∙ true-both (nat_eq at at) (nat_lt n (length (enumerators_of (kind_at definitions at)))) (nat_eq-refl at) less

position-goes : (definitions : List Definition) (at n : ℕ) (b : Bool) → nat_lt n (length (enumerators_of (kind_at definitions at))) ≡ b
    → IfYields (outcome_map (value.Enumerated at) (or_unmet (if b then Some n else None))) (λ v. is_of definitions (type.Enumerated at) v ≡ true)
position-goes definitions at n true is = enumerated-goes definitions at n is
position-goes definitions at n false is = tt

enumerated-fits : (definitions : List Definition) (at : ℕ) (name : List ℕ) → IfYields (enumerated definitions at name) (λ v. is_of definitions (type.Enumerated at) v ≡ true)
enumerated-fits definitions at name =
    let test : Enumerator → Bool = λ e. bytes_eq e.name name in
    let n : ℕ = position_or_len test (enumerators_of (kind_at definitions at)) in
    position-goes definitions at n (nat_lt n (length (enumerators_of (kind_at definitions at)))) refl

-- what constants of the module give is of their types
abbrev pub ConstantsFit : List Definition → Reading → Type 0
ConstantsFit definitions reading = (at item : ℕ) → IfYields (reading.constants at item) (IsOfTyping definitions (typed (constants_type (module_names definitions) (kind_at definitions at))))

-- and so are templates
abbrev pub TemplatesFit : List Definition → Reading → Type 0
TemplatesFit definitions reading = (at : ℕ) (values : List Value) → AreGiven definitions (parameters_of (kind_at definitions at)) values
    → IfYields (reading.templates at values) (λ t. IfSome (template_type definitions (kind_at definitions at)) (λ of. template_goes t definitions (target_of (Some of)) ≡ true))

meaning-fits : (definitions : List Definition) (reading : Reading) → reading.definitions ≡ definitions → ConstantsFit definitions reading → (name : List ℕ) (m : Option Meaning) → IfMeans IsOfModule m
    → IfYields (by_meaning reading name m) (IsOfTyping definitions (check_meaning definitions m).typing)
meaning-fits definitions reading is constants name (Some (meaning.ModuleConstant at item)) of = constants at item
meaning-fits definitions reading is constants name (Some (meaning.Enumerator at)) of =
    subst (λ ds. IfYields (enumerated ds at name) (λ v. is_of definitions (type.Enumerated at) v ≡ true)) (sym is) (enumerated-fits definitions at name)
meaning-fits definitions reading is constants name (Some (meaning.Variable t)) of = absurd (let e = of in cc)
meaning-fits definitions reading is constants name (Some (meaning.Constant t)) of = absurd (let e = of in cc)
meaning-fits definitions reading is constants name _ of = if-any (λ v. Unit {0}) (reading.names name) (λ v. tt)

-- a reading of the module fits it
pub module-fits : (reading : Reading) (definitions : List Definition) → reading.definitions ≡ definitions → ConstantsFit definitions reading → TemplatesFit definitions reading → FitsIn (module_scope definitions) reading
module-fits reading definitions is constants templates = record {
  definitions = is;
  names = λ name. subst (λ ds. IfYields (by_meaning reading name (module_names ds name)) (IsOfTyping definitions (check_meaning definitions (module_names definitions name)).typing)) (sym is)
      (meaning-fits definitions reading is constants name (module_names definitions name) (names-of-module definitions name));
  itself = tt;
  template_names = λ name. refl;
  templates = templates;
}

-- ---- parameters

one-later : (test : Parameter → Bool) (i j : ℕ) (ps : List Parameter) → j ≡ suc i → position_from test j ps ≡ option_map suc (position_from test i ps)
one-later test i j [] is = refl
one-later test i j (p ∷ ps) is = chosen (test p) (one-later test (i + 1) (j + 1) ps (omega (arith, is)))
  where
    chosen : (b : Bool) → position_from test (j + 1) ps ≡ option_map suc (position_from test (i + 1) ps)
        → (if b then Some j else position_from test (j + 1) ps) ≡ option_map suc (if b then Some i else position_from test (i + 1) ps)
    chosen true rest = ap Some is
    chosen false rest = rest

position-is : (test : Parameter → Bool) (ps : List Parameter) → position test ps ≡ position_from test 0 ps
position-is test ps = position_from-zero test ps

given-chosen : (b : Bool) (v : Value) (vs : List Value) (left : Option ℕ) → option_and_then (slice_get (v ∷ vs)) (if b then Some 0 else option_map suc left)
    ≡ (if b then Some v else option_and_then (slice_get vs) left)
given-chosen true v vs left = refl
given-chosen false v vs None = refl
given-chosen false v vs (Some n) = refl

chosen-unmet : (b : Bool) (v : Value) (o : Option Value) → or_unmet (if b then Some v else o) ≡ (if b then Yields v else or_unmet o)
chosen-unmet true v o = refl
chosen-unmet false v o = refl

-- what arguments give by a name
given-first : (p : Parameter) (ps : List Parameter) (v : Value) (vs : List Value) (name : List ℕ)
    → given_to (p ∷ ps) (v ∷ vs) name ≡ (if bytes_eq p.name name then Yields v else given_to ps vs name)
given-first p ps v vs name =
    let test : Parameter → Bool = λ q. bytes_eq q.name name in
    ap (λ o. or_unmet (option_and_then (slice_get (v ∷ vs)) o)) (position-is test (p ∷ ps) ∙ ap (λ o. if test p then Some 0 else o) (one-later test 0 (0 + 1) ps (omega arith) ∙ ap (option_map suc) (sym (position-is test ps))))
    ∙ ap or_unmet (given-chosen (test p) v vs (position test ps))
    ∙ chosen-unmet (test p) v (option_and_then (slice_get vs) (position test ps))

none-is : {A : Type 0} (o : Option A) → is_none o ≡ true → o ≡ None
none-is None is = refl
none-is (Some a) is = absurd (let e = is in cc)

if-true : {A : Type 0} (b : Bool) (x y : A) → b ≡ true → (if b then x else y) ≡ x
if-true true x y is = refl
if-true false x y is = absurd (let e = is in cc)

if-false : {A : Type 0} (b : Bool) (x y : A) → b ≡ false → (if b then x else y) ≡ y
if-false false x y is = refl
if-false true x y is = absurd (let e = is in cc)

module _ (reading : Reading) where
  -- a scope behind some of the parameters, where these are left
  record Behind (scope : Scope) (ps : List Parameter) (vs : List Value) : Type 0 where
    fits : FitsIn scope reading
    of_module : (name : List ℕ) → scope.names name ≡ None → module_names scope.definitions name ≡ None
    types : (name : List ℕ) → type_meant (scope.names name) ≡ type_meant (module_names scope.definitions name)
    given : (name : List ℕ) → scope.names name ≡ None → reading.names name ≡ given_to ps vs name

  module _ (scope : Scope) (p : Parameter) (ps : List Parameter) (v : Value) (vs : List Value) (behind : Behind scope (p ∷ ps) (v ∷ vs)) (new : scope.names p.name ≡ None)
      (of : IsOfTyping scope.definitions (typed (resolved (module_names scope.definitions) p.type_name)) v) where
    abbrev next : Scope
    next = declaring scope (parameter_entry scope p ∷ [])

    -- what a name stands for there
    abbrev with : Bool → Option Meaning → Option Meaning
    with b before = option_or (option_or None (if b then Some (meaning.Variable (resolved scope.names p.type_name)) else None)) before

    same-resolved : (t : TypeName) → resolved (module_names scope.definitions) t ≡ resolved scope.names t
    same-resolved type_name.Integer = refl
    same-resolved type_name.Boolean = refl
    same-resolved type_name.Default = refl
    same-resolved (type_name.Named name) = sym (behind.types name)

    its-value : named reading p.name ≡ Yields v
    its-value =
        ap (λ ds. by_meaning reading p.name (module_names ds p.name)) behind.fits.definitions
        ∙ ap (by_meaning reading p.name) (behind.of_module p.name new)
        ∙ behind.given p.name new ∙ given-first p ps v vs p.name ∙ if-true (bytes_eq p.name p.name) (Yields v) (given_to ps vs p.name) (bytes-same p.name)

    value-fits : IfYields (named reading p.name) (IsOfTyping scope.definitions (typed (resolved scope.names p.type_name)))
    value-fits =
        subst (λ o. IfYields o (IsOfTyping scope.definitions (typed (resolved scope.names p.type_name)))) (sym its-value)
        (subst (λ t. IsOfTyping scope.definitions (typed t) v) (same-resolved p.type_name) of)

    name-fits : (b : Bool) (name : List ℕ) → bytes_eq p.name name ≡ b → IfYields (named reading name) (IsOfTyping scope.definitions (check_meaning scope.definitions (with b (scope.names name))).typing)
    name-fits true name is = subst (λ n. IfYields (named reading n) (IsOfTyping scope.definitions (typed (resolved scope.names p.type_name)))) ((bytes_decides p.name name).0 is) value-fits
    name-fits false name is = behind.fits.names name

    same-template : (b : Bool) (name : List ℕ) → bytes_eq p.name name ≡ b → template_meant (module_names scope.definitions name) ≡ template_meant (with b (scope.names name))
    same-template true name is =
        subst (λ n. template_meant (module_names scope.definitions n) ≡ None) ((bytes_decides p.name name).0 is)
        (behind.fits.template_names p.name ∙ ap template_meant new)
    same-template false name is = behind.fits.template_names name

    same-type : (b : Bool) (name : List ℕ) → bytes_eq p.name name ≡ b → type_meant (with b (scope.names name)) ≡ type_meant (module_names scope.definitions name)
    same-type true name is =
        subst (λ n. None ≡ type_meant (module_names scope.definitions n)) ((bytes_decides p.name name).0 is)
        (sym (ap type_meant new) ∙ behind.types p.name)
    same-type false name is = behind.types name

    before-none : (b : Bool) (name : List ℕ) → with b (scope.names name) ≡ None → (scope.names name ≡ None) × (b ≡ false)
    before-none true name none = absurd (let e = none in cc)
    before-none false name none = (none, refl)

    next-behind : Behind next ps vs
    next-behind = record {
      fits = record {
        definitions = behind.fits.definitions;
        names = λ name. name-fits (bytes_eq p.name name) name refl;
        itself = behind.fits.itself;
        template_names = λ name. same-template (bytes_eq p.name name) name refl;
        templates = behind.fits.templates;
      };
      of_module = λ name none. behind.of_module name (before-none (bytes_eq p.name name) name none).0;
      types = λ name. same-type (bytes_eq p.name name) name refl;
      given = λ name none. let before = before-none (bytes_eq p.name name) name none in
          behind.given name before.0 ∙ given-first p ps v vs name ∙ if-false (bytes_eq p.name name) (Yields v) (given_to ps vs name) before.1;
    }

    value-there : (b : Bool) (name : List ℕ) → bytes_eq p.name name ≡ b → HasAll scope reading → names_value (with b (scope.names name)) ≡ true → IsMet (named reading name)
    value-there true name is has valued = subst (λ n. IsMet (named reading n)) ((bytes_decides p.name name).0 is) (subst IsMet (sym its-value) tt)
    value-there false name is has valued = has.values name valued

    timer-there : (b : Bool) (name : List ℕ) → bytes_eq p.name name ≡ b → HasAll scope reading → is_some (reading.timers name) ≡ names_timer (with b (scope.names name))
    timer-there true name is has = subst (λ n. is_some (reading.timers n) ≡ false) ((bytes_decides p.name name).0 is) (has.timers p.name ∙ ap names_timer new)
    timer-there false name is has = has.timers name

    next-has : HasAll scope reading → HasAll next reading
    next-has has = record {
      values = λ name. value-there (bytes_eq p.name name) name refl has;
      timers = λ name. timer-there (bytes_eq p.name name) name refl has;
      templates = has.templates;
    }

  parameters-have : (scope : Scope) (ps : List Parameter) (vs : List Value) → check_parameters scope ps ≡ [] → AreGiven scope.definitions ps vs → Behind scope ps vs → HasAll scope reading → HasAll (with_parameters scope ps) reading
  parameters-have scope [] [] nothing are behind has = has
  parameters-have scope [] (v ∷ vs) nothing are behind has = absurd are
  parameters-have scope (p ∷ ps) [] nothing are behind has = absurd are
  parameters-have scope (p ∷ ps) (v ∷ vs) nothing are behind has =
      let here : List Rule = check_parameter scope p in
      let behind_it : Scope = declaring scope (parameter_entry scope p ∷ []) in
      let others : List Rule = check_parameters behind_it ps in
      let new : scope.names p.name ≡ None =
      none-is (scope.names p.name) (kept (is_none (scope.names p.name)) rule.DuplicateName (nothing-first (check_new_name scope.names p.name) (check_type scope.names true p.type_name) (nothing-first here others nothing))) in
      parameters-have behind_it ps vs (nothing-rest here others nothing) are.1 (next-behind scope p ps v vs behind new are.0) (next-has scope p ps v vs behind new are.0 has)

  parameters-fit : (scope : Scope) (ps : List Parameter) (vs : List Value) → check_parameters scope ps ≡ [] → AreGiven scope.definitions ps vs → Behind scope ps vs → FitsIn (with_parameters scope ps) reading
  parameters-fit scope [] [] nothing are behind = behind.fits
  parameters-fit scope [] (v ∷ vs) nothing are behind = absurd are
  parameters-fit scope (p ∷ ps) [] nothing are behind = absurd are
  parameters-fit scope (p ∷ ps) (v ∷ vs) nothing are behind =
      let here : List Rule = check_parameter scope p in
      let behind_it : Scope = declaring scope (parameter_entry scope p ∷ []) in
      let others : List Rule = check_parameters behind_it ps in
      let new : scope.names p.name ≡ None =
      none-is (scope.names p.name) (kept (is_none (scope.names p.name)) rule.DuplicateName (nothing-first (check_new_name scope.names p.name) (check_type scope.names true p.type_name) (nothing-first here others nothing))) in
      parameters-fit behind_it ps vs (nothing-rest here others nothing) are.1 (next-behind scope p ps v vs behind new are.0)

-- ---- what the module's constants and templates give

pub constants-fine : (scope : Scope) (of : Option DataType) (constants : List Constant) (item : ℕ) (c : Constant) → check_module_constants scope of constants ≡ [] → slice_get constants item ≡ Some c
    → checked c.value scope (target_of of) ≡ []
constants-fine scope of [] item c nothing is = absurd (let e = is in cc)
constants-fine scope of (d ∷ constants) zero c nothing is =
    subst (λ k. checked k.value scope (target_of of) ≡ []) (some-constant d c is) (nothing-first (checked d.value scope (target_of of)) (check_module_constants scope of constants) nothing)
  where
    some-constant : (d c : Constant) → Some d ≡ Some c → d ≡ c
    some-constant d c is = cc
constants-fine scope of (d ∷ constants) (suc item) c nothing is =
    constants-fine scope of constants item c (nothing-rest (checked d.value scope (target_of of)) (check_module_constants scope of constants) nothing) is

module _ (definitions : List Definition) (well : AreWellTyped definitions) where
  abbrev whole : IsWhole (module_scope definitions)
  whole = module_whole definitions well None

  value-of : (c : Constant) (reading : Reading) → FitsIn (module_scope definitions) reading → (of : Option DataType) → checked c.value (module_scope definitions) (target_of of) ≡ []
      → IfYields (value_wanted c.value reading of) (IsOfTyping definitions (typed of))
  value-of c reading fits None nothing = if-any (λ v. Unit {0}) (value_wanted c.value reading None) (λ v. tt)
  value-of c reading fits (Some t) nothing = values_typed c.value (module_scope definitions) reading whole (fields_differ definitions well) fits t false nothing

  module _ (family : (List ℕ → Outcome Value) → Reading) (has : (names : List ℕ → Outcome Value) (name : List ℕ) → (family names).names name ≡ names name)
      (fits : (names : List ℕ → Outcome Value) → FitsIn (module_scope definitions) (family names)) where
    constant-found : (at : ℕ) (cs : Constants) → kind_at definitions at ≡ Some (kind.Constants cs) → (item : ℕ) (c : Option Constant) → slice_get cs.constants item ≡ c
        → IfYields (constant_value (family (λ name. unmet)) c (resolved (module_names definitions) cs.type_name)) (IsOfTyping definitions (typed (resolved (module_names definitions) cs.type_name)))
    constant-found at cs is item None found = tt
    constant-found at cs is item (Some c) found =
        let of = resolved (module_names definitions) cs.type_name in
        let type_fine : List Rule = check_type (module_names definitions) false cs.type_name in
        value-of c (family (λ name. unmet)) (fits (λ name. unmet)) of
        (constants-fine (module_scope definitions) of cs.constants item c
        (nothing-rest type_fine (check_module_constants (module_scope definitions) of cs.constants) (definition_is_fine definitions well at (kind.Constants cs) is)) found)

    constant-fits : (at item : ℕ) (k : Option DefinitionKind) → kind_at definitions at ≡ k
        → IfYields (constant_value (family (λ name. unmet)) (constant_of k item) (constants_type (module_names definitions) k)) (IsOfTyping definitions (typed (constants_type (module_names definitions) k)))
    constant-fits at item (Some (kind.Constants cs)) is = constant-found at cs is item (slice_get cs.constants item) refl
    constant-fits at item (Some (kind.Record r)) is = tt
    constant-fits at item (Some (kind.Enumerated e)) is = tt
    constant-fits at item (Some (kind.Port p)) is = tt
    constant-fits at item (Some (kind.Component c)) is = tt
    constant-fits at item (Some (kind.Template t)) is = tt
    constant-fits at item (Some (kind.Function f)) is = tt
    constant-fits at item (Some (kind.Altstep a)) is = tt
    constant-fits at item (Some (kind.Testcase t)) is = tt
    constant-fits at item None is = tt

    -- a reading with the parameters of a template
    pub given-fits : (t : TemplateDefinition) (values : List Value) → check_parameters (module_scope definitions) t.parameters ≡ [] → AreGiven definitions t.parameters values
        → FitsIn (with_parameters (module_scope definitions) t.parameters) (family (given_to t.parameters values))
    given-fits t values nothing are =
        parameters-fit (family (given_to t.parameters values)) (module_scope definitions) t.parameters values nothing are (record {
          fits = fits (given_to t.parameters values);
          of_module = λ name none. none;
          types = λ name. refl;
          given = λ name none. has (given_to t.parameters values) name;
        })

    pub given-has : (t : TemplateDefinition) (values : List Value) → check_parameters (module_scope definitions) t.parameters ≡ [] → AreGiven definitions t.parameters values
        → HasAll (module_scope definitions) (family (given_to t.parameters values)) → HasAll (with_parameters (module_scope definitions) t.parameters) (family (given_to t.parameters values))
    given-has t values nothing are all =
        parameters-have (family (given_to t.parameters values)) (module_scope definitions) t.parameters values nothing are (record {
          fits = fits (given_to t.parameters values);
          of_module = λ name none. none;
          types = λ name. refl;
          given = λ name none. has (given_to t.parameters values) name;
        }) all

    same-definitions : (scope : Scope) (names : List ℕ → Outcome Value) → FitsIn scope (family names) → scope.definitions ≡ definitions
    same-definitions scope names fit = sym fit.definitions ∙ (fits names).definitions

    template-of : (t : TemplateDefinition) (scope : Scope) (names : List ℕ → Outcome Value) → IsWhole scope → FitsIn scope (family names) → (of : Option DataType)
        → template t.template scope (target_of of) ≡ []
        → IfYields (template_wanted t.template (family names) of) (λ p. IfSome of (λ u. template_goes p definitions (target_of (Some u)) ≡ true))
    template-of t scope names known fit None nothing = if-any (λ p. Unit {0}) (template_wanted t.template (family names) None) (λ p. tt)
    template-of t scope names known fit (Some u) nothing =
        subst (λ ds. IfYields (template_wanted t.template (family names) (Some u)) (λ p. template_goes p ds (target_of (Some u)) ≡ true)) (same-definitions scope names fit)
        (templates_typed t.template scope (family names) known (subst FieldsDiffer (sym (same-definitions scope names fit)) (fields_differ definitions well)) fit u false nothing)

    template-found : (at : ℕ) (t : TemplateDefinition) → kind_at definitions at ≡ Some (kind.Template t) → (values : List Value) → AreGiven definitions t.parameters values
        → IfYields (template_value family (Some t) values) (λ p. IfSome (resolved (module_names definitions) t.type_name) (λ of. template_goes p definitions (target_of (Some of)) ≡ true))
    template-found at t is values are =
        let scope : Scope = module_scope definitions in
        let of = resolved (module_names definitions) t.type_name in
        let type_fine : List Rule = check_type scope.names false t.type_name in
        let parameters : List Rule = check_parameters scope t.parameters in
        let body : List Rule = template t.template (with_parameters scope t.parameters) (target_of of) in
        let fine = definition_is_fine definitions well at (kind.Template t) is in
        let parameters_fine : parameters ≡ [] = nothing-rest type_fine parameters (nothing-first (type_fine ++ parameters) body fine) in
        subst (λ ds. IfYields (template_wanted t.template (family (given_to t.parameters values)) (resolved (module_names ds) t.type_name))
        (λ p. IfSome of (λ of. template_goes p definitions (target_of (Some of)) ≡ true))) (sym (fits (given_to t.parameters values)).definitions)
        (template-of t (with_parameters scope t.parameters) (given_to t.parameters values) (parameters_whole scope t.parameters parameters_fine whole) (given-fits t values parameters_fine are) of
        (nothing-rest (type_fine ++ parameters) body fine))

    template-fits : (at : ℕ) (k : Option DefinitionKind) → kind_at definitions at ≡ k → (values : List Value) → AreGiven definitions (parameters_of k) values
        → IfYields (template_value family (template_of k) values) (λ p. IfSome (template_type definitions k) (λ of. template_goes p definitions (target_of (Some of)) ≡ true))
    template-fits at (Some (kind.Template t)) is values are = template-found at t is values are
    template-fits at (Some (kind.Record r)) is values are = tt
    template-fits at (Some (kind.Enumerated e)) is values are = tt
    template-fits at (Some (kind.Port p)) is values are = tt
    template-fits at (Some (kind.Component c)) is values are = tt
    template-fits at (Some (kind.Constants cs)) is values are = tt
    template-fits at (Some (kind.Function f)) is values are = tt
    template-fits at (Some (kind.Altstep a)) is values are = tt
    template-fits at (Some (kind.Testcase t)) is values are = tt
    template-fits at None is values are = tt

  -- ---- chains

  pub deep-fits : (n : ℕ) (reading : Reading) → reading.definitions ≡ definitions → ConstantsFit definitions (within_chains n reading) × TemplatesFit definitions (within_chains n reading)
  deep-fits zero reading is = (λ at item. tt, λ at values are. tt)
  deep-fits (suc n) reading is =
      let family : (List ℕ → Outcome Value) → Reading = λ names. within_chains n (with_names names reading) in
      let fits : (names : List ℕ → Outcome Value) → FitsIn (module_scope definitions) (family names) =
      λ names. let deep = deep-fits n (with_names names reading) is in module-fits (family names) definitions is deep.0 deep.1 in (
        λ at item. subst (λ ds. IfYields (constant_value (family (λ name. unmet)) (constant_of (kind_at ds at) item) (constants_type (module_names ds) (kind_at ds at)))
            (IsOfTyping definitions (typed (constants_type (module_names definitions) (kind_at definitions at))))) (sym is)
            (constant-fits family (λ names name. refl) fits at item (kind_at definitions at) refl),
        λ at values are. subst (λ ds. IfYields (template_value family (template_of (kind_at ds at)) values)
            (λ p. IfSome (template_type definitions (kind_at definitions at)) (λ of. template_goes p definitions (target_of (Some of)) ≡ true))) (sym is)
            (template-fits family (λ names name. refl) fits at (kind_at definitions at) refl values are),
      )

  chains-fit : (n : ℕ) (reading : Reading) → reading.definitions ≡ definitions → FitsIn (module_scope definitions) (within_chains n reading)
  chains-fit n reading is = let deep = deep-fits n reading is in module-fits (within_chains n reading) definitions is deep.0 deep.1

  named-fit : (n : ℕ) (reading : Reading) → reading.definitions ≡ definitions → (names : List ℕ → Outcome Value) → FitsIn (module_scope definitions) (with_names names (within_chains n reading))
  named-fit n reading is names = let deep = deep-fits n reading is in module-fits (with_names names (within_chains n reading)) definitions is deep.0 deep.1

-- in a well-typed module what constants and templates give fits, however deep they refer to each other
pub all-chains-fit : (definitions : List Definition) → AreWellTyped definitions → (n : ℕ) (reading : Reading) → reading.definitions ≡ definitions
    → FitsIn (module_scope definitions) (within_chains n reading)
all-chains-fit definitions well n reading is = chains-fit definitions well n reading is

-- whatever stands for names that the module doesn't define
pub names-fit : (definitions : List Definition) → AreWellTyped definitions → (n : ℕ) (reading : Reading) → reading.definitions ≡ definitions → (names : List ℕ → Outcome Value)
    → FitsIn (module_scope definitions) (with_names names (within_chains n reading))
names-fit definitions well n reading is names = named-fit definitions well n reading is names
