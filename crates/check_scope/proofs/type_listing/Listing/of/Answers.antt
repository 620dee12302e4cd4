use Rattle.check_scope.proofs.type_listing.Listing.of.Goals as goal

pub invariant_of-result : goal.invariant_of-result
invariant_of-result c = record {
  is_set = rw c.as_slice.ensures.value at c.in_ok-set.ensures;
  is_only = rw c.as_slice-2.ensures.value at c.only_type-only.ensures;
}
