-- How large the elements of a record template are.
use Rattle.std.proofs.Common.{◌≡◌, ◌≤◌, ◌<◌, ℕ, List, [], ◌∷◌, max, Bool, true, false, if◌then◌else◌, Some, ap, arith}
use Rattle.std.specs.List.{find}
use Rattle.ttcn_syntax.proofs.tree.template.FieldTemplate.TheLaws as element
use Rattle.ttcn_syntax.proofs.tree.template.Template.TheLaws.{the_size}
use Rattle.ttcn_syntax.specs.declared.tree.template.FieldTemplate.{FieldTemplate, out-FieldTemplate, size_is-FieldTemplate}
use denote.Param.Weighed.{most}

module _ {A : Type 0} (size : A → ℕ) (test : A → Bool) where
  one-within : (b : Bool) (a x : A) (l : List A) → (find test l ≡ Some x → size x ≤ most size l) → (if b then Some a else find test l) ≡ Some x → size x ≤ max (size a) (most size l)
  one-within true a x l behind is = let same : a ≡ x = cc is in let sizes = ap size same in omega arith
  one-within false a x l behind is = let within = behind is in omega arith

  -- what is found is no larger than the largest
  pub found_within : (l : List A) (x : A) → find test l ≡ Some x → size x ≤ most size l
  found_within [] x is = absurd (let none = is in cc)
  found_within (a ∷ l) x is = one-within (test a) a x l (found_within l x) is

-- an element is larger than its template
pub element-larger : (e : FieldTemplate) → the_size (out-FieldTemplate e).template < element.the_size e
element-larger e = omega (arith, size_is-FieldTemplate e)
