-- What is read of names fits a scope, where what is seen of the names does.
use Rattle.std.proofs.Common.{◌≡◌, ◌≤◌, ℕ, true, List, Option, Some, None, IfSome, is_some, option_map, refl, sym, subst, ◌∙◌}
use Rattle.ttcn_syntax.specs.declared.tree.definition.Definition.{Definition}
use Rattle.check_rules.specs.Expressions.{check_meaning}
use Rattle.check_rules.specs.Templates.{template_meant}
use Rattle.check_scope.specs.Names.{Names, Scope, module_names}
use Rattle.check_scope.specs.declared.names.Meaning.{Meaning}
use Rattle.check_scope.specs.declared.names.Meaning.TheVariants as meaning
use Rattle.laws_evaluation.proofs.ModuleReadings.{module_has_all}
use Rattle.laws_evaluation.proofs.TypedChains.{names-fit}
use Rattle.laws_evaluation.specs.Types.{FitsIn, HasAll, IsOfTyping, names_timer, names_value}
use Rattle.semantics.specs.Snapshots.{Snapshot, Test, View, facts_of}
use Rattle.check_rules.specs.Limits.{longest_chain}
use Rattle.check_rules.specs.Rules.{AreWellTyped}
use Rattle.value_types.specs.Chains.{with_names, within_chains}
use Rattle.value_types.specs.Frames.{is_running, seen_entry}
use Rattle.value_types.specs.Outcomes.{IfYields, IsMet, or_error}
use Rattle.value_types.specs.Readings.{Reading, by_meaning}
use Rattle.value_types.specs.declared.value.ComponentId.{ComponentId}
use Rattle.laws_types.specs.Fitting.{IsValueOf}

error-yields : {A : Type 0} (P : A → Type 0) (o : Option A) → IfSome o P → IfYields (or_error o) P
error-yields P None is = tt
error-yields P (Some a) is = is

error-met : {A : Type 0} (o : Option A) → IsMet (or_error o)
error-met None = tt
error-met (Some a) = tt

same-there : {A B : Type 0} (f : A → B) (o : Option A) → is_some (option_map f o) ≡ is_some o
same-there f None = refl
same-there f (Some a) = refl

there-is : {A : Type 0} (P : A → Type 0) (o : Option A) (a : A) → o ≡ Some a → IfSome o P → P a
there-is P o a e is = subst (λ o. IfSome o P) e is

-- the names of a scope, and the type of `self` in it, fit what is seen in two views
pub record Knows (test : Test) (itself : ComponentId) (inner outer : View) (names : Names) (own : Option ℕ) : Type 0 where
  pub of_self : IfSome own (λ at. itself.component_type ≡ at)
  pub of_module : (name : List ℕ) → IfSome (module_names test.definitions name) (λ m. names name ≡ Some m)
  pub templates : (name : List ℕ) → module_names test.definitions name ≡ None → template_meant (names name) ≡ None
  pub values : (name : List ℕ) → module_names test.definitions name ≡ None → IfSome (seen_entry inner.values outer.values name) (IsValueOf test.definitions (names name))
  pub timers : (name : List ℕ) → is_some (seen_entry inner.timers outer.timers name) ≡ names_timer (names name)

module _ (test : Test) (well : AreWellTyped test.definitions) (n : ℕ) (enough : longest_chain ≤ n) (itself : ComponentId) (snapshot : Snapshot) (inner outer : View) (names : Names) (own : Option ℕ)
    (knows : Knows test itself inner outer names own) where
  abbrev ds : List Definition
  ds = test.definitions

  abbrev scope : Scope
  scope = record { definitions = ds; names = names; itself = own }

  abbrev facts : Reading
  facts = facts_of test itself snapshot inner outer

  abbrev reading : Reading
  reading = within_chains n facts

  abbrev of-module : Reading
  of-module = with_names facts.names reading

  same-meaning : (name : List ℕ) (m : Option Meaning) → by_meaning of-module name m ≡ by_meaning reading name m
  same-meaning name (Some (meaning.ModuleConstant at item)) = refl
  same-meaning name (Some (meaning.Enumerator at)) = refl
  same-meaning name _ = refl

  -- ---- types

  name-fits : (name : List ℕ) (m : Option Meaning) → module_names ds name ≡ m → IfYields (by_meaning reading name m) (IsOfTyping ds (check_meaning ds (names name)).typing)
  name-fits name None is = error-yields (IsValueOf ds (names name)) (seen_entry inner.values outer.values name) (knows.values name is)
  name-fits name (Some k) is =
      let given : IfYields (by_meaning of-module name (module_names ds name)) (IsOfTyping ds (check_meaning ds (module_names ds name)).typing) = (names-fit ds well n facts refl facts.names).names name in
      let there : names name ≡ Some k = there-is (λ m. names name ≡ Some m) (module_names ds name) k is (knows.of_module name) in
      subst (λ o. IfYields (by_meaning reading name (Some k)) (IsOfTyping ds (check_meaning ds o).typing)) (sym there)
      (subst (λ r. IfYields r (IsOfTyping ds (check_meaning ds (Some k)).typing)) (same-meaning name (Some k))
      (subst (λ o. IfYields (by_meaning of-module name o) (IsOfTyping ds (check_meaning ds o).typing)) is given))

  template-names : (name : List ℕ) (m : Option Meaning) → module_names ds name ≡ m → template_meant (module_names ds name) ≡ template_meant (names name)
  template-names name None is = subst (λ o. template_meant o ≡ template_meant (names name)) (sym is) (sym (knows.templates name is))
  template-names name (Some k) is =
      let there : names name ≡ Some k = there-is (λ m. names name ≡ Some m) (module_names ds name) k is (knows.of_module name) in
      subst (λ o. template_meant o ≡ template_meant (names name)) (sym is) (subst (λ o. template_meant (Some k) ≡ template_meant o) (sym there) refl)

  pub reading-fits : FitsIn scope reading
  reading-fits = record {
    definitions = refl;
    names = λ name. name-fits name (module_names ds name) refl;
    itself = knows.of_self;
    template_names = λ name. template-names name (module_names ds name) refl;
    templates = (names-fit ds well n facts refl facts.names).templates;
  }

  -- ---- what is there

  met-meaning : (name : List ℕ) (m : Option Meaning) → (names_value m ≡ true → IsMet (by_meaning of-module name m)) → IsMet (by_meaning reading name m)
  met-meaning name (Some (meaning.ModuleConstant at item)) given = given refl
  met-meaning name (Some (meaning.Enumerator at)) given = given refl
  met-meaning name _ given = error-met (seen_entry inner.values outer.values name)

  pub reading-has : HasAll scope reading
  reading-has = record {
    values = λ name is. met-meaning name (module_names ds name) ((module_has_all ds well n enough facts refl facts.names).values name);
    timers = λ name. same-there is_running (seen_entry inner.timers outer.timers name) ∙ knows.timers name;
    templates = (module_has_all ds well n enough facts refl facts.names).templates;
  }
