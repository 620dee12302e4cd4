-- How a `Boxed` stores its value, so that a type may hold a `Boxed` of itself: as the value that it is seen as.
use mathlib.Core.Path.{refl}
use mathlib.Core.Former.{Former, this, const, pair, via}
use base.Stored.{gnil}
use base.Fml.{ftrue}
use denote.RattleType.{RattleType}
use denote.Memory.{part_of}
use denote.RawPtr.{Ptr}
use denote.Sharing.{nothing}
use denote.HoleLaws.{Alike}
use denote.HolePlaces.{Recodes, struct_places, laid, one_value}
use denote.Hole.Fix.{over}
use denote.Param.Weighed.{Weighed}
use denote.Model.Placed.{view_places}
use Rattle.std.specs.declared.boxed.Box.{Box}
use Rattle.std.specs.contracts.boxed.Box as box
use Rattle.std.specs.declared.alloc.Global.{Global}
use Rattle.std.specs.contracts.alloc.Global as heap
use Rattle.std.specs.contracts.impls.GlobalAllocator.TheImpl.{ghosts}
use Rattle.ttcn_syntax.specs.declared.boxed.Boxed.TheInside.{Inside}
use Rattle.ttcn_syntax.specs.declared.boxed.Boxed.TheView.{view, invariant}
use Rattle.ttcn_syntax.specs.contracts.boxed.Boxed as outside
use Rattle.ttcn_syntax.specs.contracts.boxed.Boxed.TheInside as inside

-- a value is the boxed value
abbrev pub the_former : Former {0} → Former {0}
the_former held = held

-- the measure of a `Boxed` is the boxed value's
abbrev pub the_weighed : {held : Former {0}} → Weighed held → Weighed (the_former held)
the_weighed weights = weights

-- the fields are a pointer, an allocator and the value
abbrev fields : Former {0}
fields =
    via (pair (const (Ptr × Global)) this) Inside (λ X stored. ((stored.inner.ptr, stored.inner.alloc), stored.inner.value))
    (λ X parts. record { inner = record { ptr = parts.0.0; alloc = parts.0.1; value = parts.1 } })
    (λ X stored. refl) (λ X parts. refl)

-- the box with another value in it
abbrev with_value : {X Y : Type 0} → Box X Global → Y → Box Y Global
with_value b y = record { ptr = b.ptr; alloc = b.alloc; value = y }

abbrev box_of : RattleType → RattleType
box_of R = box.the_row R heap.the_row ghosts

module _ (R S : RattleType) (h : R.Denot → S.Denot) where
  -- a `Box` at two types lies in memory alike
  box_places : Alike R S h → Alike (box_of R) (box_of S) (λ b. with_value b (h b.value))
  unfolding part_of
  box_places alike = record {
    mir_same = λ i. (box_of (one_value R (alike.mir_same i) (λ _. ftrue) (λ _ _. nothing) gnil)).mir;
    own_same = λ b i. (box_of (one_value R (alike.mir_same i) (alike.own_same b.value i) (alike.shr_same b.value i) gnil)).own_val (with_value b tt);
    shr_same = λ b i. (box_of (one_value R (alike.mir_same i) (alike.own_same b.value i) (alike.shr_same b.value i) gnil)).shr_at (with_value b tt);
  }

  -- a `Boxed` at two types lies in memory alike
  pub the_places : Alike R S h → Alike (outside.the_row R) (outside.the_row S) ((the_former this).map R.Denot S.Denot h)
  the_places alike = view_places fields this view (λ X Y k stored. refl) (λ X stored. refl) R.Denot S.Denot h
      (outside.the_row R).coded (outside.the_row S).coded
      (invariant R.Denot) (invariant S.Denot) (λ _ _ _. refl) (λ _ _ _. refl) (λ _ _. tt) (λ _ _. tt)
      (over (inside.the_row R)) (over (inside.the_row S))
      (struct_places (inside.the_type R) (inside.the_type S) ((λ b. with_value b (h b.value)), tt) _ (λ _. refl) refl
      (laid _ _ _ (box_places alike), tt))

  -- the code of a `Boxed` is that of the value
  pub the_codes_placed : Recodes R S h → Recodes (outside.the_row R) (outside.the_row S) ((the_former this).map R.Denot S.Denot h)
  the_codes_placed recodes value = recodes value
