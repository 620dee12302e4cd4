-- What remains where a `repeat` has put its `alt` back fits.
use Rattle.std.proofs.Common.{◌≡◌, ℕ, Bool, true, List, [], ◌∷◌, Option, Some, None, IfSome, is_some, refl}
use Rattle.std.specs.List.{All}
use Rattle.std.proofs.lemmas.List.Elements.{All-head, All-tail}
use Rattle.ttcn_syntax.specs.declared.tree.definition.Definition.{Definition}
use Rattle.check_scope.specs.Names.{Entry}
use Rattle.check_scope.specs.declared.types.DataType.{DataType}
use Rattle.laws_evaluation.specs.Uses.{GivesOnly}
use Rattle.laws_repeat.proofs.Outside.{outside-both}
use Rattle.laws_repeat.proofs.Repeats.{repeat-found}
use Rattle.laws_repeat.specs.Following.{IsOutside, lists_of}
use Rattle.laws_repeat.specs.Marks.{AllAreMarked, AreMarked, IsMarkOutside, StandsAtRepeat}
use Rattle.semantics.specs.Configurations.{Component, Data, Frame}
use Rattle.semantics.specs.Items.{Doing, Item, Mark, Waiting, Whole}
use Rattle.semantics.specs.Snapshots.{Test}
use Rattle.semantics.specs.Storing.{with_calls}
use Rattle.semantics.specs.Taking.{from_mark, repeat_alt, repeat_in, repeated}
use Rattle.check_rules.specs.Rules.{AreWellTyped}
use Rattle.value_types.specs.Outcomes.{or_unmet, outcome_map}
use Rattle.laws_types.proofs.Data.{frame-outside}
use Rattle.laws_types.proofs.Nested.{nest-one}
use Rattle.laws_types.specs.Typed.{Awaits, FitBelow, FitCalls, FitsComponent, FitsData, FitsFrame, FitsOwn, HasFrames, Nest, result_of}

module _ (definitions : List Definition) (well : AreWellTyped definitions) (component_type : ℕ) where
  -- ---- in a frame

  -- items from a mark on, with its `alt` put back: they remain at a site that is not further in than these names
  abbrev FoundAt : ℕ → List Entry → List Item → Type 0
  FoundAt at inner ys = (outer : List Entry) × IsOutside outer inner × Nest definitions at outer ys

  marked-nest : (at : ℕ) (inner declared : List Entry) (xs : List Item) → All (IsMarkOutside inner) xs → Nest definitions at declared xs → IfSome (from_mark xs) (FoundAt at inner)
  marked-nest at inner declared [] all nest = tt
  marked-nest at inner declared (Mark site s ∷ xs) all nest =
      (site.declared, All-head (IsMarkOutside inner) (Mark site s) xs all, nest-one definitions at site s Whole xs nest.0.0 refl nest.1)
  marked-nest at inner declared (Doing site s part ∷ xs) all nest =
      marked-nest at inner nest.1.0 xs (All-tail (IsMarkOutside inner) (Doing site s part) xs all) nest.1.2
  marked-nest at inner declared (Waiting target ∷ xs) all nest = absurd nest

  wider : (at : ℕ) (inner declared : List Entry) → IsOutside inner declared → (found : Option (List Item)) → IfSome found (FoundAt at inner) → IfSome found (FoundAt at declared)
  wider at inner declared out None is = tt
  wider at inner declared out (Some ys) is = (is.0, outside-both is.0 inner declared is.1 out, is.2)

  nest-found : (below : Bool) (at : ℕ) (declared : List Entry) (xs : List Item) → AreMarked below xs → Nest definitions at declared xs → IfSome (from_mark xs) (FoundAt at declared)
  nest-found below at declared [] marked nest = tt
  nest-found below at declared (Mark site s ∷ xs) marked nest = (site.declared, nest.0.1, nest-one definitions at site s Whole xs nest.0.0 refl nest.1)
  nest-found below at declared (Doing site s part ∷ xs) marked nest =
      wider at site.declared declared nest.0.1 (from_mark xs) (marked-nest at site.declared nest.1.0 xs marked.1 nest.1.2)
  nest-found below at declared (Waiting target ∷ xs) marked nest = absurd nest

  awaits-found : (below : Bool) (at : ℕ) (result : Option DataType) (declared : List Entry) (xs : List Item) → AreMarked below xs → Awaits definitions at result declared xs → IfSome (from_mark xs) (FoundAt at declared)
  awaits-found below at result declared [] marked awaits = tt
  awaits-found below at result declared (Doing site s part ∷ xs) marked awaits = nest-found below at declared (Doing site s part ∷ xs) marked awaits
  awaits-found below at result declared (Mark site s ∷ xs) marked awaits = nest-found below at declared (Mark site s ∷ xs) marked awaits
  awaits-found below at result declared (Waiting target ∷ xs) marked (site, t, stands, goal, is, nest) =
      wider at site.declared declared stands.1 (from_mark xs) (nest-found below at site.declared xs marked nest)

  -- ---- in all frames

  abbrev Fit : List Frame → Type 0
  Fit calls = FitCalls definitions component_type calls × HasFrames calls

  found-in : (frame : Frame) (frames : List Frame) (found : Option (List Item)) (below : Option (List Frame)) (at : ℕ) (declared : List Entry) → FitsFrame definitions component_type at declared frame
      → FitBelow definitions component_type (result_of definitions at) frames → IfSome found (FoundAt at declared) → IfSome below Fit → IfSome (repeat_in frame frames found below) Fit
  found-in frame frames None below at declared fits under is others = others
  found-in frame frames (Some ys) below at declared fits under is others =
      let out : FitsFrame definitions component_type at is.0 frame = frame-outside definitions component_type at well is.0 declared frame is.1 fits in
      ((at, is.0, record { on = out.on; names = out.names; seen = out.seen }, is.2, under), tt)

  below-found : (result : Option DataType) (frames : List Frame) → AllAreMarked (lists_of frames) → FitBelow definitions component_type result frames → IfSome (repeated frames) Fit
  below-found result [] marked fits = tt
  below-found result (frame ∷ frames) marked (at, declared, fits, awaits, under) =
      found-in frame frames (from_mark frame.remaining) (repeated frames) at declared fits under (awaits-found _ at result declared frame.remaining marked.0 awaits) (below-found (result_of definitions at) frames marked.1 under)

  calls-found : (calls : List Frame) → AllAreMarked (lists_of calls) → FitCalls definitions component_type calls → IfSome (repeated calls) Fit
  calls-found [] marked fits = tt
  calls-found (frame ∷ frames) marked (at, declared, fits, nest, under) =
      found-in frame frames (from_mark frame.remaining) (repeated frames) at declared fits under (nest-found _ at declared frame.remaining marked.0 nest) (below-found (result_of definitions at) frames marked.1 under)

  repeats : (own : Data) (found : Option (List Frame)) → FitsOwn definitions component_type own → is_some found ≡ true → IfSome found Fit
      → GivesOnly (outcome_map (λ calls. with_calls calls own) (or_unmet found)) (FitsData definitions component_type)
  repeats own None fits there is = absurd (let e = there in cc)
  repeats own (Some calls) fits there is = record { members = fits.members; calls = is.0; defaults = fits.defaults; frames = is.1 }

-- where a component stands at a `repeat`, its `alt` is found, and what then remains fits
abbrev pub FindsAlt : Test → Component → Type 0
FindsAlt test component = StandsAtRepeat component.own.calls → GivesOnly (repeat_alt component.own) (FitsData test.definitions component.itself.component_type)

pub finds-alt : (test : Test) → AreWellTyped test.definitions → (x : Component) → FitsComponent test.definitions x → AllAreMarked (lists_of x.own.calls) → FindsAlt test x
finds-alt test well x fits marked at =
    repeats test.definitions well x.itself.component_type x.own (repeated x.own.calls) fits.own (repeat-found x.own.calls at marked)
    (calls-found test.definitions well x.itself.component_type x.own.calls marked fits.own.calls)
