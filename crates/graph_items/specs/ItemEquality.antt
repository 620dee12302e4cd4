-- Items that `==` finds equal are one, and feed a hasher alike.
use Rattle.std.proofs.Common.{◌≡◌, true, true≢false, ap, sym}
use Rattle.std.proofs.lemmas.Bool.{and_parts}
use Rattle.syntax_equality.specs.Equality.{IsOne, OneAt, boolean_one, last, none, number_one, option_one, tests_of, variant_one}
use Rattle.syntax_equality.specs.Statements.{statement_one}
use Rattle.graph_items.specs.Equality.{reference_is, type_one}
use Rattle.graph_items.specs.contracts.item.ItemPartialEq.TheImpl as items
use Rattle.graph_items.specs.contracts.item.Part.{enum as part_enum}
use Rattle.graph_items.specs.contracts.item.PartPartialEq.TheImpl as parts
use Rattle.graph_items.specs.contracts.item.SitePartialEq.TheImpl as sites
use Rattle.graph_items.specs.contracts.item.TargetPartialEq.TheImpl as targets
use Rattle.graph_items.specs.declared.item.Item.{Item}
use Rattle.graph_items.specs.declared.item.Item.TheVariants as item
use Rattle.graph_items.specs.declared.item.Part.{Part}
use Rattle.graph_items.specs.declared.item.Part.TheVariants as part
use Rattle.graph_items.specs.declared.item.Site.{Site}
use Rattle.graph_items.specs.declared.item.Target.{Target}

part_at : (a : Part) → OneAt part_enum.parts (tests_of part_enum (parts.ghosts).eq) (part_enum.as_values a)
part_at part.Whole = none
part_at (part.Name k) = last (number_one k)
part_at (part.From k) = last (number_one k)
part_at part.Start = none
part_at part.Loop = none
part_at part.Last = none

part_one : (a : Part) → IsOne Part (parts.ghosts).eq a
part_one a = variant_one part_enum (tests_of part_enum (parts.ghosts).eq) a (part_at a)

site_one : (a : Site) → IsOne Site (sites.ghosts).eq a
site_one a b h = let p = and_parts _ _ h in λ i. record { behaviour = number_one a.behaviour b.behaviour p.0 i; declared = number_one a.declared b.declared p.1 i }

target_one : (a : Target) → IsOne Target (targets.ghosts).eq a
target_one a b h =
    let p = and_parts _ _ h in
    let q = and_parts _ _ p.1 in
    λ i. record { own = boolean_one a.own b.own p.0 i; reference = reference_is a.reference b.reference q.0 i; data_type = option_one _ type_one a.data_type b.data_type q.1 i }

pub item_one : (a b : Item) → (items.ghosts).eq a b ≡ true → a ≡ b
item_one (item.Doing site s p) (item.Doing site' s' p') h =
    let first = and_parts _ _ h in
    let second = and_parts _ _ first.1 in
    λ i. item.Doing (site_one site site' first.0 i) (statement_one s s' second.0 i) (part_one p p' second.1 i)
item_one (item.Mark site s) (item.Mark site' s') h = let both = and_parts _ _ h in λ i. item.Mark (site_one site site' both.0 i) (statement_one s s' both.1 i)
item_one (item.Waiting target) (item.Waiting target') h = ap item.Waiting (target_one target target' h)
item_one (item.Doing site s p) (item.Mark site' s') h = absurd (true≢false (sym h))
item_one (item.Doing site s p) (item.Waiting target) h = absurd (true≢false (sym h))
item_one (item.Mark site s) (item.Doing site' s' p') h = absurd (true≢false (sym h))
item_one (item.Mark site s) (item.Waiting target) h = absurd (true≢false (sym h))
item_one (item.Waiting target) (item.Doing site s p) h = absurd (true≢false (sym h))
item_one (item.Waiting target) (item.Mark site s) h = absurd (true≢false (sym h))
