-- Lists of the items of the rules differ where those of code's items do.
use Rattle.std.proofs.Common.{◌≡◌, refl, sym, ap, ◌∙◌, ℕ, List, [], ◌∷◌, map, length, get_or, arith}
use Rattle.check_scope.specs.Names.{Entry}
use Rattle.graph_numbers.specs.Lists.{AreDifferent}
use Rattle.semantics.specs.Items as rules
use Rattle.semantics.specs.Sites as sites
use Rattle.ttcn_syntax.specs.declared.tree.statement.Statement.{Statement}
use Rattle.graph_items.specs.Standing.{item_of, part_of, remaining_of, target_of}
use Rattle.graph_items.specs.declared.item.Item.{Item}
use Rattle.graph_items.specs.declared.item.Item.TheVariants as item
use Rattle.graph_items.specs.declared.item.Part.{Part}
use Rattle.graph_items.specs.declared.item.Part.TheVariants as part
use Rattle.ttcn_graph.specs.internal.Within.{AreAllWithin, AreWithin, IsWithin}
use Rattle.ttcn_graph.proofs.ListsKept.{get-map, length-map}

-- back from a part of the rules
abbrev back_part : rules.Part → Part
back_part rules.Whole = part.Whole
back_part (rules.Name k) = part.Name k
back_part (rules.From k) = part.From k
back_part rules.Start = part.Start
back_part rules.Loop = part.Loop
back_part rules.Last = part.Last

back_part-of : (p : Part) → back_part (part_of p) ≡ p
back_part-of part.Whole = refl
back_part-of (part.Name k) = refl
back_part-of (part.From k) = refl
back_part-of part.Start = refl
back_part-of part.Loop = refl
back_part-of part.Last = refl

-- what stands in an item, or something else
abbrev site_in : sites.Site → rules.Item → sites.Site
site_in other (rules.Doing site s p) = site
site_in other (rules.Mark site s) = site
site_in other (rules.Waiting target) = other

abbrev statement-in : Statement → rules.Item → Statement
statement-in other (rules.Doing site s p) = s
statement-in other (rules.Mark site s) = s
statement-in other (rules.Waiting target) = other

abbrev part_in : rules.Part → rules.Item → rules.Part
part_in other (rules.Doing site s p) = p
part_in other (rules.Mark site s) = other
part_in other (rules.Waiting target) = other

abbrev target_in : rules.Target → rules.Item → rules.Target
target_in other (rules.Doing site s p) = other
target_in other (rules.Mark site s) = other
target_in other (rules.Waiting target) = target

abbrev kind_in : rules.Item → ℕ
kind_in (rules.Doing site s p) = 0
kind_in (rules.Mark site s) = 1
kind_in (rules.Waiting target) = 2

head-is : {A : Type 0} {a b : A} {xs ys : List A} → a ∷ xs ≡ b ∷ ys → a ≡ b
head-is {a = a} h = ap (λ l. elim l as (λ _. _) [ [] ↦ a | x ∷ xs ↦ x ]) h

tail-is : {A : Type 0} {a b : A} {xs ys : List A} → a ∷ xs ≡ b ∷ ys → xs ≡ ys
tail-is {xs = xs} h = ap (λ l. elim l as (λ _. List _) [ [] ↦ xs | x ∷ rest ↦ rest ]) h

module _ (lists : List (List Entry)) (differ : AreDifferent lists) where
  item-one : (i j : Item) → IsWithin (length lists) i → IsWithin (length lists) j → item_of lists i ≡ item_of lists j → i ≡ j
  item-one (item.Doing site s p) (item.Doing site' s' p') h k is =
      let at = ap (site_in (sites.beginning 0)) is in
      let declared = differ site.declared site'.declared h k (ap (λ t. t.declared) at) in
      let behaviour = ap (λ t. t.behaviour) at in
      let statement = ap (statement-in s) is in
      let parts = sym (back_part-of p) ∙ ap (λ i. back_part (part_in rules.Whole i)) is ∙ back_part-of p' in
      λ x. item.Doing (record { behaviour = behaviour x; declared = declared x }) (statement x) (parts x)
  item-one (item.Mark site s) (item.Mark site' s') h k is =
      let at = ap (site_in (sites.beginning 0)) is in
      let declared = differ site.declared site'.declared h k (ap (λ t. t.declared) at) in
      let behaviour = ap (λ t. t.behaviour) at in
      let statement = ap (statement-in s) is in
      λ x. item.Mark (record { behaviour = behaviour x; declared = declared x }) (statement x)
  item-one (item.Waiting target) (item.Waiting target') h k is =
      let same = ap (target_in (target_of target)) is in
      λ x. item.Waiting (record { own = (same x).own; reference = (same x).reference; data_type = (same x).data_type })
  item-one (item.Doing site s p) (item.Mark site' s') h k is = absurd (let e = ap kind_in is in omega (arith, e))
  item-one (item.Doing site s p) (item.Waiting target) h k is = absurd (let e = ap kind_in is in omega (arith, e))
  item-one (item.Mark site s) (item.Doing site' s' p') h k is = absurd (let e = ap kind_in is in omega (arith, e))
  item-one (item.Mark site s) (item.Waiting target) h k is = absurd (let e = ap kind_in is in omega (arith, e))
  item-one (item.Waiting target) (item.Doing site s p) h k is = absurd (let e = ap kind_in is in omega (arith, e))
  item-one (item.Waiting target) (item.Mark site s) h k is = absurd (let e = ap kind_in is in omega (arith, e))

  items-one : (xs ys : List Item) → AreWithin (length lists) xs → AreWithin (length lists) ys → remaining_of lists xs ≡ remaining_of lists ys → xs ≡ ys
  items-one [] [] h k is = refl
  items-one (x ∷ xs) (y ∷ ys) h k is = λ t. item-one x y h.0 k.0 (head-is is) t ∷ items-one xs ys h.1 k.1 (tail-is is) t
  items-one [] (y ∷ ys) h k is = absurd (let e = ap length is in omega (arith, e))
  items-one (x ∷ xs) [] h k is = absurd (let e = ap length is in omega (arith, e))

  -- no list of items of the rules has two positions
  pub remaining-apart : (items : List (List Item)) → AreAllWithin (length lists) items → AreDifferent items → AreDifferent (map (remaining_of lists) items)
  remaining-apart items h apart p q below below' same =
      let count = length-map (remaining_of lists) items in
      apart p q (omega (arith, below, count)) (omega (arith, below', count))
      (items-one (get_or items p []) (get_or items q []) (h p) (h q) (sym (get-map (remaining_of lists) items p []) ∙ same ∙ get-map (remaining_of lists) items q []))
