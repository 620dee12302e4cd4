-- Statements that break no rule break none where further names are visible that they don't declare.
use Rattle.std.proofs.Common.{◌≡◌, ℕ, true, false, List, [], ◌∷◌, ◌++◌, map, Option, Some, None, is_none, IfSome, refl, sym, ap, subst, ◌∙◌}
use Rattle.std.specs.List.{flat_map}
use Rattle.std.specs.Option.{option_or}
use Rattle.ttcn_syntax.specs.declared.tree.statement.Constant.{Constant}
use Rattle.ttcn_syntax.specs.declared.tree.statement.Constants.{Constants}
use Rattle.ttcn_syntax.specs.declared.tree.statement.Timer.{Timer}
use Rattle.ttcn_syntax.specs.declared.tree.statement.Variable.{Variable}
use Rattle.ttcn_syntax.specs.declared.tree.statement.Variables.{Variables}
use Rattle.ttcn_syntax.specs.declared.tree.value.Rhs.{Rhs}
use Rattle.check_rules.specs.Declarations.{behind_all, one_by_one}
use Rattle.check_rules.specs.Targets.{behind_constants, behind_variables, check_constant, check_constants, check_initial, check_new_name, check_timer_name, check_timers, check_type, check_variable, check_variables, constant_entry, variable_entry}
use Rattle.check_rules.specs.Values.{value}
use Rattle.check_scope.specs.Names.{Entry, Scope, declaring, listed, resolved}
use Rattle.check_scope.specs.Typings.{target_of, unless}
use Rattle.check_scope.specs.declared.names.Meaning.{Meaning}
use Rattle.check_scope.specs.declared.names.Meaning.TheVariants as meaning
use Rattle.check_scope.specs.declared.rule.Rule.{Rule}
use Rattle.check_scope.specs.declared.rule.Rule.TheVariants as rule
use Rattle.check_scope.specs.declared.types.DataType.{DataType}
use Rattle.check_scope.specs.declared.types.Target.{Target}
use Rattle.check_rules.specs.Statements.{Check, Place, StatementRules, check_block, with_scope, without_declaration}
use Rattle.laws_checker.proofs.Nothing.{nothing-first, nothing-rest}
use Rattle.laws_statements.proofs.Within.{rhs_stays, value_stays}
use Rattle.laws_statements.proofs.WithinExpressions.{none-append, part-by-part}
use Rattle.laws_statements.proofs.WithinPhrases.{type-fine, type-same}
use Rattle.laws_statements.specs.Declares.{Declared, NoneIsFurther, names_of_all, names_of_constants, names_of_timers, names_of_variables}
use Rattle.laws_statements.specs.Within.{IsWithin, ReturnsStayFine, StaysFine}

-- ---- scopes behind declarations

pub further-first : (s g : Scope) (xs ys : Declared) → NoneIsFurther s g (xs ++ ys) → NoneIsFurther s g xs
further-first s g [] ys none = tt
further-first s g (x ∷ xs) ys none = (none.0, further-first s g xs ys none.1)

pub further-rest : (s g : Scope) (xs ys : Declared) → NoneIsFurther s g (xs ++ ys) → NoneIsFurther s g ys
further-rest s g [] ys none = none
further-rest s g (x ∷ xs) ys none = further-rest s g xs ys none.1

option-within : (one other more : Option Meaning) → IfSome other (λ m. more ≡ Some m) → IfSome (option_or one other) (λ m. option_or one more ≡ Some m)
option-within (Some m) other more within = refl
option-within None other more within = within

declaring-within : (s g : Scope) (entries : List Entry) → IsWithin s g → IsWithin (declaring s entries) (declaring g entries)
declaring-within s g entries within = record {
  definitions = within.definitions;
  itself = within.itself;
  names = λ name. option-within (listed entries name) (s.names name) (g.names name) (within.names name);
}

declaring-further : (s g : Scope) (entries : List Entry) (names : Declared) → NoneIsFurther s g names → NoneIsFurther (declaring s entries) (declaring g entries) names
declaring-further s g entries [] none = tt
declaring-further s g entries (name ∷ names) none = (ap (option_or (listed entries name)) none.0, declaring-further s g entries names none.1)

-- ---- names that are declared one behind the other

module _ {A : Type 0} (rules : Scope → A → List Rule) (name : A → List ℕ) (m : Meaning)
    (keeps : (s g : Scope) → IsWithin s g → (x : A) → g.names (name x) ≡ s.names (name x) → rules s x ≡ [] → rules g x ≡ []) where
  items-fine : (s g : Scope) → IsWithin s g → (items : List A) → NoneIsFurther s g (map name items)
      → one_by_one rules (λ s x. (name x, m)) s items ≡ [] → one_by_one rules (λ s x. (name x, m)) g items ≡ []
  items-fine s g within [] none nothing = refl
  items-fine s g within (x ∷ items) none nothing =
      let entries : List Entry = (name x, m) ∷ [] in
      let rest = λ (scope : Scope). one_by_one rules (λ s x. (name x, m)) (declaring scope entries) items in
      part-by-part (rules s x) (rest s) (rules g x) (rest g) (keeps s g within x none.0)
      (items-fine (declaring s entries) (declaring g entries) (declaring-within s g entries within) items (declaring-further s g entries (map name items) none.1)) nothing

module _ {A : Type 0} (name : A → List ℕ) (m : Meaning) where
  pub behind-within : (s g : Scope) → IsWithin s g → (items : List A) → IsWithin (behind_all (λ s x. (name x, m)) s items) (behind_all (λ s x. (name x, m)) g items)
  behind-within s g within [] = within
  behind-within s g within (x ∷ items) =
      let entries : List Entry = (name x, m) ∷ [] in behind-within (declaring s entries) (declaring g entries) (declaring-within s g entries within) items

  pub behind-further : (s g : Scope) (names : Declared) → NoneIsFurther s g names → (items : List A)
      → NoneIsFurther (behind_all (λ s x. (name x, m)) s items) (behind_all (λ s x. (name x, m)) g items) names
  behind-further s g names none [] = none
  behind-further s g names none (x ∷ items) =
      let entries : List Entry = (name x, m) ∷ [] in behind-further (declaring s entries) (declaring g entries) names (declaring-further s g entries names none) items

-- ---- declarations

new-name-fine : (s g : Scope) (name : List ℕ) → g.names name ≡ s.names name → check_new_name s.names name ≡ [] → check_new_name g.names name ≡ []
new-name-fine s g name same nothing = ap (λ m. unless (is_none m) rule.DuplicateName) same ∙ nothing

initial-fine : (s g : Scope) → IsWithin s g → (target : Target) (right : Option Rhs) → check_initial s target right ≡ [] → check_initial g target right ≡ []
initial-fine s g within target None nothing = refl
initial-fine s g within target (Some right) nothing = rhs_stays target right s g within nothing

-- what is said of a statement stays, where none of the names that it declares is a further one
pub record Stays (said : StatementRules) (names : Declared) : Type 0 where
  pub fine : (place : Place) (g : Scope) → ReturnsStayFine place → IsWithin place.scope g → NoneIsFurther place.scope g names → said.broken place ≡ [] → said.broken (with_scope place g) ≡ []
  pub behind : (place : Place) (g : Scope) → IsWithin place.scope g → said.broken place ≡ [] → IsWithin (said.scope_behind place.scope) (said.scope_behind g)
  pub further : (place : Place) (g : Scope) → IsWithin place.scope g → said.broken place ≡ [] → (others : Declared) → NoneIsFurther place.scope g others
      → NoneIsFurther (said.scope_behind place.scope) (said.scope_behind g) others

module _ (s g : Scope) (within : IsWithin s g) (vs : Variables) (nothing : check_variables s vs ≡ []) where
  abbrev variables-in : Scope → Option DataType → List Rule
  variables-in scope of = one_by_one (check_variable of) (variable_entry of) scope vs.variables

  variables-typed : check_type s.names true vs.type_name ≡ []
  variables-typed = nothing-first (check_type s.names true vs.type_name) (variables-in s (resolved s.names vs.type_name)) nothing

  variables-same : resolved g.names vs.type_name ≡ resolved s.names vs.type_name
  variables-same = type-same s g.names within.names true vs.type_name variables-typed

  pub variables-fine : NoneIsFurther s g (names_of_variables vs) → check_variables g vs ≡ []
  variables-fine none =
      let of = resolved s.names vs.type_name in
      none-append (check_type g.names true vs.type_name) (variables-in g (resolved g.names vs.type_name)) (type-fine s g.names within.names true vs.type_name variables-typed)
      (ap (variables-in g) variables-same
      ∙ items-fine (check_variable of) (λ v. v.name) (meaning.Variable of)
      (λ s g within v same. part-by-part (check_new_name s.names v.name) (check_initial s (target_of of) v.value) (check_new_name g.names v.name) (check_initial g (target_of of) v.value)
      (new-name-fine s g v.name same) (initial-fine s g within (target_of of) v.value))
      s g within vs.variables none (nothing-rest (check_type s.names true vs.type_name) (variables-in s of) nothing))

  pub variables-within : IsWithin (behind_variables s vs) (behind_variables g vs)
  variables-within =
      let of = resolved s.names vs.type_name in
      subst (λ t. IsWithin (behind_variables s vs) (behind_all (variable_entry t) g vs.variables)) (sym variables-same)
      (behind-within {A = Variable} (λ v. v.name) (meaning.Variable of) s g within vs.variables)

  pub variables-further : (others : Declared) → NoneIsFurther s g others → NoneIsFurther (behind_variables s vs) (behind_variables g vs) others
  variables-further others none =
      let of = resolved s.names vs.type_name in
      subst (λ t. NoneIsFurther (behind_variables s vs) (behind_all (variable_entry t) g vs.variables) others) (sym variables-same)
      (behind-further {A = Variable} (λ v. v.name) (meaning.Variable of) s g others none vs.variables)

module _ (s g : Scope) (within : IsWithin s g) (cs : Constants) (nothing : check_constants s cs ≡ []) where
  abbrev constants-in : Scope → Option DataType → List Rule
  constants-in scope of = one_by_one (check_constant of) (constant_entry of) scope cs.constants

  constants-typed : check_type s.names false cs.type_name ≡ []
  constants-typed = nothing-first (check_type s.names false cs.type_name) (constants-in s (resolved s.names cs.type_name)) nothing

  constants-same : resolved g.names cs.type_name ≡ resolved s.names cs.type_name
  constants-same = type-same s g.names within.names false cs.type_name constants-typed

  pub constants-fine : NoneIsFurther s g (names_of_constants cs) → check_constants g cs ≡ []
  constants-fine none =
      let of = resolved s.names cs.type_name in
      none-append (check_type g.names false cs.type_name) (constants-in g (resolved g.names cs.type_name)) (type-fine s g.names within.names false cs.type_name constants-typed)
      (ap (constants-in g) constants-same
      ∙ items-fine (check_constant of) (λ c. c.name) (meaning.Constant of)
      (λ s g within c same. part-by-part (check_new_name s.names c.name) (value c.value s (target_of of)) (check_new_name g.names c.name) (value c.value g (target_of of))
      (new-name-fine s g c.name same) (value_stays c.value (target_of of) s g within))
      s g within cs.constants none (nothing-rest (check_type s.names false cs.type_name) (constants-in s of) nothing))

  pub constants-within : IsWithin (behind_constants s cs) (behind_constants g cs)
  constants-within =
      let of = resolved s.names cs.type_name in
      subst (λ t. IsWithin (behind_constants s cs) (behind_all (constant_entry t) g cs.constants)) (sym constants-same)
      (behind-within {A = Constant} (λ c. c.name) (meaning.Constant of) s g within cs.constants)

  pub constants-further : (others : Declared) → NoneIsFurther s g others → NoneIsFurther (behind_constants s cs) (behind_constants g cs) others
  constants-further others none =
      let of = resolved s.names cs.type_name in
      subst (λ t. NoneIsFurther (behind_constants s cs) (behind_all (constant_entry t) g cs.constants) others) (sym constants-same)
      (behind-further {A = Constant} (λ c. c.name) (meaning.Constant of) s g others none cs.constants)

pub timers-fine : (s g : Scope) → IsWithin s g → (timers : List Timer) → NoneIsFurther s g (names_of_timers timers) → check_timers s timers ≡ [] → check_timers g timers ≡ []
timers-fine s g within timers none nothing =
    items-fine check_timer_name (λ (t : Timer). t.name) meaning.Timer (λ s g within t same. new-name-fine s g t.name same) s g within timers none nothing

-- ---- blocks

-- what is said of a branch or a condition with its block stays
abbrev pub StaysInside : Check → Declared → Type 0
StaysInside said names = (place : Place) (g : Scope) → ReturnsStayFine place → IsWithin place.scope g → NoneIsFurther place.scope g names → said place ≡ [] → said (with_scope place g) ≡ []

pub plain : (said : Check) (names : Declared) → StaysInside said names → Stays (without_declaration said) names
plain said names stays = record {
  fine = stays;
  behind = λ place g within nothing. within;
  further = λ place g within nothing others none. none;
}

pub leaf-stays : (rules : Scope → List Rule) → StaysFine rules → Stays (without_declaration (λ place. rules place.scope)) []
leaf-stays rules stays = plain (λ place. rules place.scope) [] (λ place g may within none nothing. stays place.scope g within nothing)

pub block-fine : {A : Type 0} (said : A → StatementRules) (names : A → Declared) (es : List ((a : A) × Stays (said a) (names a)))
    → StaysInside (check_block (map said (map (λ e. e.0) es))) (names_of_all (map names (map (λ e. e.0) es)))
block-fine said names [] place g may within none nothing = refl
block-fine said names (e ∷ es) place g may within none nothing =
    let h : Scope = place.scope in
    let it : StatementRules = said e.0 in
    let others = check_block (map said (map (λ e. e.0) es)) in
    let rest : Declared = names_of_all (map names (map (λ e. e.0) es)) in
    let first : it.broken place ≡ [] = nothing-first (it.broken place) (others (with_scope place (it.scope_behind h))) nothing in
    none-append (it.broken (with_scope place g)) (others (with_scope place (it.scope_behind g)))
    (e.1.fine place g may within (further-first h g (names e.0) rest none) first)
    (block-fine said names es (with_scope place (it.scope_behind h)) (it.scope_behind g) may (e.1.behind place g within first)
    (e.1.further place g within first rest (further-rest h g (names e.0) rest none))
    (nothing-rest (it.broken place) (others (with_scope place (it.scope_behind h))) nothing))

pub each-fine : {A : Type 0} (said : A → Check) (names : A → Declared) (es : List ((a : A) × StaysInside (said a) (names a)))
    → StaysInside (λ place. flat_map (λ part. part place) (map said (map (λ e. e.0) es))) (names_of_all (map names (map (λ e. e.0) es)))
each-fine said names [] place g may within none nothing = refl
each-fine said names (e ∷ es) place g may within none nothing =
    let others = λ (p : Place). flat_map (λ (part : Check). part p) (map said (map (λ e. e.0) es)) in
    let rest : Declared = names_of_all (map names (map (λ e. e.0) es)) in
    part-by-part (said e.0 place) (others place) (said e.0 (with_scope place g)) (others (with_scope place g))
    (e.1 place g may within (further-first place.scope g (names e.0) rest none))
    (each-fine said names es place g may within (further-rest place.scope g (names e.0) rest none)) nothing
