-- Operators and operands that are gone through one by one.
use Rattle.std.proofs.Common.{◌≡◌, ◌≤◌, ℕ, ◌+◌, ◌<◌, List, [], ◌∷◌, map, length, get_or, drop, refl, sym, ap, ◌∙◌}
use Rattle.std.proofs.lemmas.List.{drop_all}
use Rattle.ttcn_syntax.specs.declared.operator.Operator.{Operator}
use Rattle.ttcn_syntax.specs.declared.tree.expression.Link.{Link}
use Rattle.ttcn_syntax.specs.declared.tree.expression.Expr.{Expr}
use Rattle.ttcn_syntax.specs.declared.tree.expression.Expr.TheFolds.{fold-roll-Expr}
use Rattle.ttcn_syntax.specs.declared.tree.expression.Expr.TheOpen.{Expr-F}
use Rattle.ttcn_syntax.specs.declared.tree.expression.Expr.TheVariants as expr
use Rattle.value_types.proofs.Lists.{drop-next}
use Rattle.value_types.specs.Evaluation.{Evaluation, after, expression_step, joined, link, link_step, value_of}
use Rattle.value_types.specs.Outcomes.{Failure, Fails, Outcome, Yields}
use Rattle.value_types.specs.Readings.{Reading}
use Rattle.value_types.specs.declared.value.Value.{Value}

module _ (reading : Reading) where
  pub after-failure : (why : Failure) (links : List (Operator × Evaluation)) → after reading (Fails why) links ≡ Fails why
  after-failure why [] = refl
  after-failure why (l ∷ links) = after-failure why links

  module _ (links : List Link) (i : ℕ) (l : Link) (v : Value) (within : i < length links) (is : l ≡ get_or links i l) where
    -- one more link is gone
    pub chain-next : (o : Outcome Value) → joined reading (link l) v ≡ o → after reading o (map link (drop (i + 1) links)) ≡ after reading (Yields v) (map link (drop i links))
    chain-next o found =
        ap (λ x. after reading x (map link (drop (i + 1) links))) (sym found)
        ∙ ap (λ ls. after reading (Yields v) (map link ls)) (sym (drop-next links i l within is))

    pub chain-fault : (why : Failure) → joined reading (link l) v ≡ Fails why → after reading (Yields v) (map link (drop i links)) ≡ Fails why
    chain-fault why found = sym (chain-next (Fails why) found) ∙ after-failure why (map link (drop (i + 1) links))

  pub chain-end : (links : List Link) (i : ℕ) (v : Value) → length links ≤ i → after reading (Yields v) (map link (drop i links)) ≡ Yields v
  chain-end links i v past = ap (λ ls. after reading (Yields v) (map link ls)) (drop_all i links past)

  -- a chain fails as its first operand does
  pub chain-of-fault : (why : Failure) (first : Expr) (links : List Link) → value_of first reading ≡ Fails why → value_of (expr.Chain first links) reading ≡ Fails why
  chain-of-fault why first links fails = chain-is first links ∙ ap (λ o. after reading o (map link links)) fails ∙ after-failure why (map link links)
    where
      chain-is : (first : Expr) (links : List Link) → value_of (expr.Chain first links) reading ≡ after reading (value_of first reading) (map link links)
      chain-is first links = ap (λ (f : Evaluation). f reading) (ap value_of (sym (expr.rolls-Chain first links)) ∙ fold-roll-Expr Evaluation (Operator × Evaluation) expression_step link_step (Expr-F.Chain first links))
