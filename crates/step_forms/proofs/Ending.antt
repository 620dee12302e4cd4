-- What becomes of the frame below the last one.
use Rattle.std.proofs.Common.{◌≡◌, refl, sym, ap, ◌∙◌, List, [], ◌∷◌, map, Option, Some, None, slice_get, true, false, if◌then◌else◌}
use Rattle.semantics.specs.Configurations as rules
use Rattle.semantics.specs.Items.{Doing, Item, Mark, Waiting}
use Rattle.semantics.specs.Statements as said
use Rattle.semantics.specs.Storing.{with_calls}
use Rattle.step_data.specs.Frames.{left, without_last}
use Rattle.config_parts.specs.Legend.{Legend, data_by, frame_by}
use Rattle.config_parts.specs.declared.frame.Data.{Data}
use Rattle.config_parts.specs.declared.frame.Frame.{Frame}
use Rattle.value_types.specs.declared.value.Value.{Value}

-- what stands behind the first of frames
abbrev pub more-below : List Frame → List Frame
more-below [] = []
more-below (b ∷ more) = more

pub some-below : (calls behind : List Frame) (frame b : Frame) → calls ≡ frame ∷ behind → Some b ≡ slice_get calls 1 → behind ≡ b ∷ more-below behind
some-below calls [] frame b last found = absurd (let bad : Some b ≡ None = found ∙ ap (λ (cs : List Frame). slice_get cs 1) last in cc)
some-below calls (f ∷ more) frame b last found =
    let same : Some b ≡ Some f = found ∙ ap (λ (cs : List Frame). slice_get cs 1) last in
    ap (λ (x : Frame). x ∷ more) (sym (let e : b ≡ f = cc in e))

-- nothing waits first in the frame below
gives-nothing : (stand : said.Stand) (frame : rules.Frame) (frames : List rules.Frame) (list : List Item) (given : Option Value) → said.waits_first list ≡ false
    → said.give_back stand frame frames list given ≡ said.Requests said.Continues (with_calls (frame ∷ frames) stand.own)
gives-nothing stand frame frames [] given none = refl
gives-nothing stand frame frames (Waiting target ∷ items) given none = absurd (let bad : true ≡ false = none in cc)
gives-nothing stand frame frames (Doing site s part ∷ items) given none = refl
gives-nothing stand frame frames (Mark site s ∷ items) given none = refl

module _ (legend : Legend) (own : Data) (frame : Frame) (behind : List Frame) (last : own.calls ≡ frame ∷ behind) where
  left-is : left (data_by legend own) ≡ with_calls (map (frame_by legend) behind) (data_by legend own)
  left-is = ap (λ (calls : List Frame). with_calls (without_last (map (frame_by legend) calls)) (data_by legend own)) last

  module _ (stand : said.Stand) (is : stand.own ≡ data_by legend own) where
    behind-is : left (data_by legend own) ≡ with_calls (map (frame_by legend) behind) stand.own
    behind-is = left-is ∙ ap (with_calls (map (frame_by legend) behind)) (sym is)

    module _ (b : Frame) (more : List Frame) (below : behind ≡ b ∷ more) where
      above : with_calls (map (frame_by legend) (b ∷ more)) stand.own ≡ left (data_by legend own)
      above = sym (behind-is ∙ ap (λ (cs : List Frame). with_calls (map (frame_by legend) cs) stand.own) below)

      pub leave-above : (given : Option Value) → said.waits_first (legend.lists b.remaining) ≡ false
          → said.leave stand (map (frame_by legend) behind) given ≡ said.Requests said.Continues (left (data_by legend own))
      leave-above given none =
          ap (λ (cs : List Frame). said.leave stand (map (frame_by legend) cs) given) below
          ∙ gives-nothing stand (frame_by legend b) (map (frame_by legend) more) (legend.lists b.remaining) given none
          ∙ ap (said.Requests said.Continues) above
