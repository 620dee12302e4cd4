use Rattle.std.proofs.Common.{◌≡◌, drop, map, length}
use Rattle.std.specs.List.{list_any}
use Rattle.value_types.specs.Matching.{is_match, match_fields}
use Rattle.ttcn_values.proofs.matching.+matching.Given as goal

-- the parts that are left decide
abbrev pub invariant-matches_any-loop-part : goal.invariant-matches_any-loop-part
invariant-matches_any-loop-part l = list_any (λ part. is_match part l.value) l.parts ≡ list_any (λ part. is_match part l.value) (drop l.part-index l.parts)

-- the fields that are left decide
abbrev pub invariant-matches_fields-loop-part : goal.invariant-matches_fields-loop-part
invariant-matches_fields-loop-part l = record {
  same-length : length l.parts ≡ length l.fields;
  left : match_fields (map is_match l.parts) l.fields ≡ match_fields (map is_match (drop (length l.yielded) l.parts)) (drop (length l.yielded) l.fields);
}
