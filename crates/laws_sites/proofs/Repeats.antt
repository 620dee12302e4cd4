-- `repeat` puts an `alt` back that is fine where it stands.
use Rattle.std.proofs.Common.{ℕ, List, [], ◌∷◌, Option, Some, None, IfSome}
use Rattle.std.specs.List.{All}
use Rattle.std.proofs.lemmas.List.Elements.{All-cons, All-head, All-tail}
use Rattle.ttcn_syntax.specs.declared.tree.definition.Definition.{Definition}
use Rattle.laws_sites.specs.Standing.{IsFineFrame, IsFineItem, IsFrameOf}
use Rattle.semantics.specs.Configurations.{Frame}
use Rattle.semantics.specs.Items.{Doing, Item, Mark, Waiting, Whole}
use Rattle.semantics.specs.Storing.{with_remaining}
use Rattle.semantics.specs.Taking.{from_mark, repeat_in, repeated}

module _ (ds : List Definition) where
  marked-fine : (behaviour : ℕ) (xs : List Item) → All (IsFineItem ds behaviour) xs → IfSome (from_mark xs) (All (IsFineItem ds behaviour))
  marked-fine behaviour [] all = tt
  marked-fine behaviour (Mark site s ∷ xs) all =
      All-cons (IsFineItem ds behaviour) (Doing site s Whole) xs (All-head (IsFineItem ds behaviour) (Mark site s) xs all) (All-tail (IsFineItem ds behaviour) (Mark site s) xs all)
  marked-fine behaviour (Doing site s part ∷ xs) all = marked-fine behaviour xs (All-tail (IsFineItem ds behaviour) (Doing site s part) xs all)
  marked-fine behaviour (Waiting target ∷ xs) all = marked-fine behaviour xs (All-tail (IsFineItem ds behaviour) (Waiting target) xs all)

  repeat-in : (frame : Frame) (frames : List Frame) (found : Option (List Item)) (below : Option (List Frame)) (behaviour : ℕ) → IsFrameOf ds behaviour frame → All (IsFineFrame ds) frames
      → IfSome found (All (IsFineItem ds behaviour)) → IfSome below (All (IsFineFrame ds)) → IfSome (repeat_in frame frames found below) (All (IsFineFrame ds))
  repeat-in frame frames None below behaviour here all each others = others
  repeat-in frame frames (Some xs) below behaviour here all each others =
      All-cons (IsFineFrame ds) (with_remaining xs frame) frames (behaviour, record { items = each; timers = here.timers }) all

  pub repeat-each : (calls : List Frame) → All (IsFineFrame ds) calls → IfSome (repeated calls) (All (IsFineFrame ds))
  repeat-each [] all = tt
  repeat-each (frame ∷ frames) all =
      let first : IsFineFrame ds frame = All-head (IsFineFrame ds) frame frames all in
      let here : IsFrameOf ds first.0 frame = first.1 in
      repeat-in frame frames (from_mark frame.remaining) (repeated frames) first.0 here (All-tail (IsFineFrame ds) frame frames all)
      (marked-fine first.0 frame.remaining here.items) (repeat-each frames (All-tail (IsFineFrame ds) frame frames all))
