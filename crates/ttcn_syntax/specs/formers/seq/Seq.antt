-- How a `Seq` stores its elements, so that a type may hold a `Seq` of itself: as the list that it is seen as.
use mathlib.Core.Path.{◌≡◌, refl, sym}
use mathlib.Core.List.{List, []}
use mathlib.Core.Former.{Former, this, list, via, children}
use base.Stored.{code_map}
use denote.RattleType.{RattleType}
use denote.HoleLaws.{Alike}
use denote.HolePlaces.{Recodes, struct_places, laid}
use denote.Hole.Carrier.{listed, list-listed}
use denote.Hole.Fix.{over}
use denote.Param.Weighed.{Weighed, w_list}
use denote.Model.Placed.{view_places}
use Rattle.std.specs.formers.vec.Vec as vec
use Rattle.std.specs.declared.alloc.Global.{Global}
use Rattle.std.specs.contracts.alloc.Global as heap
use Rattle.std.specs.contracts.impls.GlobalAllocator.TheImpl.{ghosts}
use Rattle.ttcn_syntax.specs.declared.seq.Seq.TheInside.{Inside}
use Rattle.ttcn_syntax.specs.declared.seq.Seq.TheView.{view, invariant}
use Rattle.ttcn_syntax.specs.contracts.seq.Seq as outside
use Rattle.ttcn_syntax.specs.contracts.seq.Seq.TheInside as inside

-- a value is a list
abbrev pub the_former : Former {0} → Former {0}
the_former held = list held

-- the largest measure among the elements
abbrev pub the_weighed : {held : Former {0}} → Weighed held → Weighed (the_former held)
the_weighed weights = w_list weights

-- a `Seq` with no element
pub the_empty : List ⊥
the_empty = []

-- the elements in their order
abbrev pub the_items : (X : Type 0) → List X → List X
the_items X elements = elements

pub the_items_listed : (X : Type 0) (elements : List X) → listed _ (children (the_former this) X elements) ≡ the_items X elements
the_items_listed X elements = list-listed X elements

-- the fields are the `Vec` alone
abbrev fields : Former {0}
fields =
    via (vec.the_former this Global) Inside (λ X stored. stored.elements) (λ X stored. record { elements = stored })
    (λ X stored. refl) (λ X stored. refl)

module _ (R S : RattleType) (h : R.Denot → S.Denot) where
  -- a `Seq` at two types lies in memory alike
  pub the_places : Alike R S h → Alike (outside.the_row R) (outside.the_row S) ((the_former this).map R.Denot S.Denot h)
  the_places alike = view_places fields (list this) view (λ X Y k stored. refl) (λ X stored. refl) R.Denot S.Denot h
      (outside.the_row R).coded (outside.the_row S).coded
      (invariant R.Denot) (invariant S.Denot) (λ _ _ _. refl) (λ _ _ _. refl) (λ _ _. tt) (λ _ _. tt)
      (over (inside.the_row R)) (over (inside.the_row S))
      (struct_places (inside.the_type R) (inside.the_type S) (vec.mapped h, tt) _ (λ _. refl) refl
      (laid _ _ _ (vec.the_places heap.the_row ghosts R S h alike), tt))

  -- the code of a `Seq` is that of the elements
  pub the_codes_placed : Recodes R S h → Recodes (outside.the_row R) (outside.the_row S) ((the_former this).map R.Denot S.Denot h)
  the_codes_placed recodes elements =
      sym (code_map R.coded.code S.coded.code h (λ x. sym (recodes x)) elements)
