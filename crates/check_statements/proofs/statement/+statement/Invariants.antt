use Rattle.std.proofs.Common.{◌≡◌, drop}
use Rattle.std.specs.List.{flat_map}
use Rattle.check_scope.specs.internal.Checking.{around, both, inside, least, least_in, view}
use Rattle.check_statements.specs.internal.Places.{place_with}
use Rattle.check_rules.specs.Statements as spec
use Rattle.check_statements.proofs.Blocks.{rest_of_block}
use Rattle.check_statements.proofs.Insides.{rest_of_parts}
use Rattle.check_statements.proofs.statement.+statement.Given as goal

-- what was found so far and what is left are what all break
abbrev pub invariant-block-loop-item : goal.invariant-block-loop-item
invariant-block-loop-item l = record {
  found_is : rest_of_block l.place (view l.scope) (drop l.item-index l.body) (least_in l.found)
      ≡ both (least_in l.fn.found) (least (spec.statements l.fn.body (place_with (view l.fn.scope) l.fn.place)));
  around_is : around l.scope ≡ inside (around l.fn.scope) l.fn.scope.locals;
}

abbrev pub invariant-branches-loop-item : goal.invariant-branches-loop-item
invariant-branches-loop-item l = record {
  found_is : rest_of_parts (λ branch. spec.branch branch (place_with (view l.fn.scope) l.fn.place)) (drop l.item-index l.branches) (least_in l.found)
      ≡ both (least_in l.fn.found) (least (flat_map (λ branch. spec.branch branch (place_with (view l.fn.scope) l.fn.place)) l.fn.branches));
  seen_is : view l.scope ≡ view l.fn.scope;
  around_is : around l.scope ≡ around l.fn.scope;
}

abbrev pub invariant-conditionals-loop-conditional : goal.invariant-conditionals-loop-conditional
invariant-conditionals-loop-conditional l = record {
  found_is : rest_of_parts (λ conditional. spec.conditional conditional (place_with (view l.fn.scope) l.fn.place)) (drop l.conditional-index l.conditionals) (least_in l.found)
      ≡ both (least_in l.fn.found) (least (flat_map (λ conditional. spec.conditional conditional (place_with (view l.fn.scope) l.fn.place)) l.fn.conditionals));
  seen_is : view l.scope ≡ view l.fn.scope;
  around_is : around l.scope ≡ around l.fn.scope;
}
