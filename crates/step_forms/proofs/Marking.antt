-- Marks in lists, and the last frame that has one.
use Rattle.std.proofs.Common.{◌≡◌, refl, sym, ap, ◌∙◌, ℕ, zero, suc, subst, ◌+◌, ◌<◌, arith, List, [], ◌∷◌, map, length, drop, get_or, slice_get, Option, Some}
use Rattle.std.proofs.Math.Seq.{drop-cons}
use Rattle.std.proofs.lemmas.List.Elements.{All-head, All-tail}
use Rattle.std.specs.List.{All}
use Rattle.ttcn_syntax.specs.declared.tree.definition.Definition.{Definition}
use Rattle.ttcn_syntax.specs.declared.tree.statement.Statement.{Statement}
use Rattle.step_forms.specs.internal.Marks.{going_on_from}
use Rattle.semantics.specs.Configurations as rules
use Rattle.semantics.specs.Items.{Item, Mark}
use Rattle.semantics.specs.Sites.{Site}
use Rattle.semantics.specs.Taking.{from_mark, repeat_in, repeated}
use Rattle.config_parts.specs.Legend.{Legend, frame_by}
use Rattle.config_parts.specs.Views.{Extent, IsFrameWithin}
use Rattle.config_parts.specs.declared.frame.Frame.{Frame}
use Rattle.ttcn_graph.specs.Ways.{ways_of}

abbrev pub repeated_by : Legend → List Frame → Option (List rules.Frame)
repeated_by legend calls = repeated (map (frame_by legend) calls)

-- ---- one list

pub mark-found : (definitions : List Definition) (site : Site) (s : Statement) (list rest : List Item) → list ≡ Mark site s ∷ rest → from_mark list ≡ slice_get (ways_of definitions list) 0
mark-found definitions site s list rest is = ap from_mark is ∙ sym (ap (λ l. slice_get (ways_of definitions l) 0) is)

-- ---- frames

module _ (legend : Legend) (calls : List Frame) (n : ℕ) (f : Frame) (within : n < length calls) (is : f ≡ get_or calls n f) where
  here : drop n calls ≡ f ∷ drop (n + 1) calls
  here =
      drop-cons calls n f within ∙ ap (λ (x : Frame). x ∷ drop (suc n) calls) (sym is)
      ∙ ap (λ m. f ∷ drop m calls) (let same : suc n ≡ n + 1 = omega arith in same)

  pub frame-found : (items : List Item) → from_mark (legend.lists f.remaining) ≡ Some items → repeated_by legend (drop n calls) ≡ Some (going_on_from items (map (frame_by legend) (drop n calls)))
  frame-found items some =
      ap (repeated_by legend) here
      ∙ ap (λ found. repeat_in (frame_by legend f) (map (frame_by legend) (drop (n + 1) calls)) found (repeated_by legend (drop (n + 1) calls))) some
      ∙ ap (λ (cs : List Frame). Some (going_on_from items (map (frame_by legend) cs))) (sym here)

-- the frames of the rules behind so many
pub frames-drop : (legend : Legend) (calls : List Frame) (n : ℕ) → map (frame_by legend) (drop n calls) ≡ drop n (map (frame_by legend) calls)
frames-drop legend calls zero = refl
frames-drop legend [] (suc n) = refl
frames-drop legend (f ∷ calls) (suc n) = frames-drop legend calls n

-- what remains in the last frame has a position
pub first-within : (size : Extent) (calls : List Frame) (f : Frame) → All (IsFrameWithin size) calls → Some f ≡ slice_get calls 0 → f.remaining < size.lists
first-within size [] f all is = absurd (let bad = is in cc)
first-within size (g ∷ gs) f all is =
    subst (λ (x : Frame). x.remaining < size.lists) (let same : g ≡ f = cc in same) (All-head (IsFrameWithin size) g gs all).remaining

pub all-drop : {A : Type 0} (P : A → Type 0) (n : ℕ) (xs : List A) → All P xs → All P (drop n xs)
all-drop P zero xs all = all
all-drop P (suc n) [] all = all
all-drop P (suc n) (x ∷ xs) all = all-drop P n xs (All-tail P x xs all)
