-- What a component asks for is done, and what comes of it.
use Rattle.std.proofs.Common.{◌≡◌, ℕ, ◌<◌, true, List, map, length, Option, Some, None, option_map, get_or, refl, sym, ap, subst, arith, ◌∙◌, if◌then◌else◌}
use Rattle.std.specs.Prelude.{AllPairs}
use Rattle.std.specs.declared.cmp.Ordering.TheVariants.{Less}
use Rattle.std.proofs.lemmas.List.{get_or-map, length-map}
use Rattle.ttcn_syntax.specs.declared.tree.statement.Verdict.TheVariants as verdict
use Rattle.step_forms.specs.Asks.{uncovered_act}
use Rattle.laws_order.proofs.Unmarked.{none-uncovered, uncovered-none}
use Rattle.semantics.proofs.Pairs.{pairs-map}
use Rattle.semantics.specs.Configurations as rules
use Rattle.semantics.specs.Configurations.{is_running_state, path_cmp, path_of}
use Rattle.semantics.specs.Order.{IsOrdered}
use Rattle.semantics.specs.Snapshots.{Test, snapshot_of}
use Rattle.semantics.specs.Statements.{Act, Errs, Requests, Waits, act}
use Rattle.semantics.specs.Steps.{apply, perform, settle, settled, statement_step, touch}
use Rattle.semantics.specs.Taking.{uncovered}
use Rattle.config_parts.specs.Acts.{HasPathsInOrder, IsFailing, IsUncovered, act_by}
use Rattle.config_parts.specs.Legend.{Legend, component_by, going_by}
use Rattle.config_parts.specs.declared.act.Act.{Act as Kept}
use Rattle.config_parts.specs.declared.component.Component.{Component}
use Rattle.config_parts.specs.declared.config.Going.{Going}
use Rattle.value_types.specs.Outcomes.{Fails, Outcome, Yields}
use Rattle.value_types.specs.declared.path.Path.{Path}
use Rattle.value_types.specs.declared.value.ComponentId.{ComponentId}

-- ---- paths

-- pairs of what is made of elements are pairs of the elements
pairs-made : {A B : Type 0} (R : B → B → Type 0) (f : A → B) (xs : List A) → AllPairs R (map f xs) → AllPairs (λ a b. R (f a) (f b)) xs
pairs-made R f xs pairs i j d less within =
    let more : j < length (map f xs) = subst (λ n. j < n) (sym (length-map xs f)) within in
    subst (λ y. R (f (get_or xs i d)) y) (get_or-map f xs j d (f d) within)
    (subst (λ x. R x (get_or (map f xs) j (f d))) (get_or-map f xs i d (f d) (before less within)) (pairs i j (f d) less more))
  where
    before : {i j n : ℕ} → i < j → j < n → i < n
    before less more = omega arith

-- where components stand in the order of the rules, so do their paths
pub paths-in-order : (legend : Legend) (going : Going) → IsOrdered (going_by legend going) → HasPathsInOrder going
paths-in-order legend going ordered =
    pairs-map (λ p q. path_cmp p q ≡ Less) (λ (component : Component). component.itself.path) going.components
    (pairs-made (λ one other. path_cmp (path_of one) (path_of other) ≡ Less) (component_by legend) going.components ordered.components)

-- ---- marks

uncovered-twice : (own : rules.Data) → uncovered (uncovered own) ≡ uncovered own
uncovered-twice own = uncovered-none (uncovered own) (uncovered own).calls refl (none-uncovered own.calls)

-- no mark comes first in what is asked for where the marks are gone
pub is-uncovered : (asked : Act) → IsUncovered (uncovered_act asked)
is-uncovered Waits = refl
is-uncovered (Errs why) = refl
is-uncovered (Requests request own) = ap Some (uncovered-twice own)

settle-uncovered : (c : rules.Going) (path : Path) (own : rules.Data) → settle c path (uncovered own) ≡ settle c path own
settle-uncovered c path own =
    ap (λ (d : rules.Data). touch c path (λ component. record { itself = component.itself; own = d; state = component.state; verdict = component.verdict; queues = component.queues })) (uncovered-twice own)

-- the marks go in the step anyhow
pub apply-uncovered : (test : Test) (c : rules.Going) (itself : ComponentId) (asked : Act) → apply test c itself (uncovered_act asked) ≡ apply test c itself asked
apply-uncovered test c itself Waits = refl
apply-uncovered test c itself (Errs why) = refl
apply-uncovered test c itself (Requests request own) = ap (λ d. Some (perform test d itself request)) (settle-uncovered c itself.path own)

-- ---- what calls answer

-- a step that fails ends the test case
pub behind-failure : (legend : Legend) (step : Option (Outcome rules.Configuration)) → IsFailing step → option_map settled step ≡ Some (rules.Ended verdict.Error)
behind-failure legend None is = absurd is
behind-failure legend (Some (Yields c)) is = absurd is
behind-failure legend (Some (Fails why)) is = refl

-- ---- the statement of a component

module _ (test : Test) (c : rules.Going) (component : rules.Component) where
  abbrev Asked : Act
  Asked = act test (snapshot_of c component) component.own

  pub takes-step : is_running_state component.state ≡ true → statement_step test c component ≡ apply test c component.itself (uncovered_act Asked)
  takes-step e = ap (λ b. if b then apply test c component.itself Asked else None) e ∙ sym (apply-uncovered test c component.itself Asked)

  pub asks : (legend : Legend) (a : Kept) → is_running_state component.state ≡ true → uncovered_act Asked ≡ act_by legend a → statement_step test c component ≡ apply test c component.itself (act_by legend a)
  asks legend a e is = takes-step e ∙ ap (apply test c component.itself) is
