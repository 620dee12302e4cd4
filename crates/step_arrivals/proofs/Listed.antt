-- Lists that grow, part by part, and the labels of components in them.
use Rattle.std.proofs.Common.{◌≡◌, ℕ, ◌+◌, ◌-◌, ◌<◌, List, [], ◌∷◌, ◌++◌, map, length, drop, get_or, sym, ap, arith, ◌∙◌, append_assoc}
use Rattle.std.specs.List.{filter}
use Rattle.std.proofs.lemmas.List.{at_drop_more, length-drop, length-map}
use Rattle.semantics.specs.Labels.{call_expiries, frame_expiries}
use Rattle.semantics.specs.Steps.{Expiry, Label}
use Rattle.config_parts.specs.Legend.{Legend, entries_by, frame_by, frame_with}
use Rattle.config_parts.specs.declared.frame.Frame.{Frame}
use Rattle.value_types.specs.Frames.{is_running}
use Rattle.value_types.specs.declared.frame.TimerState.{TimerState}
use Rattle.value_types.specs.declared.path.Path.{Path}

-- ---- lists

-- what is made of a list's first elements, before what is made of the rest, is what is made of all: one element more
pub grown : {X Y : Type 0} (F : List X → List Y) (xs : List X) (i : ℕ) (x : X) (before after part all : List Y) → i < length xs → x ≡ get_or xs i x
    → F (x ∷ drop (i + 1) xs) ≡ part ++ F (drop (i + 1) xs) → after ≡ before ++ part → before ++ F (drop i xs) ≡ all → after ++ F (drop (i + 1) xs) ≡ all
grown F xs i x before after part all less read made grows holds =
    ap (λ ys. ys ++ F (drop (i + 1) xs)) grows ∙ append_assoc before part (F (drop (i + 1) xs))
    ∙ ap (λ ys. before ++ ys) (sym made ∙ ap (λ y. F (y ∷ drop (i + 1) xs)) read ∙ sym (at_drop_more F xs i x less)) ∙ holds

-- ---- timers

-- the labels of those among timers that run
abbrev pub timers-by : Legend → Path → ℕ → List (ℕ × TimerState) → List Label
timers-by legend path number timers = map (λ e. Expiry path number e.0) (filter (λ e. is_running e.1) (entries_by legend timers))

-- ---- frames

-- the labels of the lowest frames: so many
abbrev pub calls_below : Legend → Path → List Frame → ℕ → List Label
calls_below legend path calls n = call_expiries path (map (frame_by legend) (drop (length calls - n) calls))

-- one frame more: that of the next number, the labels of which come behind those of the frames below it
pub frame-below : (legend : Legend) (path : Path) (calls : List Frame) (below number : ℕ) (frame : Frame) (before now after : List Label) → below < length calls
    → frame ≡ get_or calls (length calls - 1 - below) frame → number ≡ below + 1 → now ≡ before ++ calls_below legend path calls below
    → after ≡ now ++ frame_expiries path number (frame_with legend [] frame.cells) → after ≡ before ++ calls_below legend path calls (below + 1)
frame-below legend path calls below number frame before now after less read one holds grows =
    let n = length calls in
    let F : List Frame → List Label = λ frames. call_expiries path (map (frame_by legend) frames) in
    let at : n - (below + 1) ≡ n - 1 - below = omega arith in
    let next : n - (below + 1) + 1 ≡ n - below = omega arith in
    let within : n - (below + 1) < n = omega arith in
    let lowest : length (map (frame_by legend) (drop (n - below) calls)) ≡ below =
    (length-map (drop (n - below) calls) (frame_by legend) ∙ length-drop (n - below) calls ∙ omega arith) in
    let more : calls_below legend path calls (below + 1) ≡ calls_below legend path calls below ++ frame_expiries path (below + 1) (frame_by legend frame) =
    (at_drop_more F calls (n - (below + 1)) frame within
    ∙ ap (λ k. F (k ∷ drop (n - (below + 1) + 1) calls)) (ap (λ k. get_or calls k frame) at ∙ sym read)
    ∙ ap (λ k. F (frame ∷ drop k calls)) next
    ∙ ap (λ k. F (drop (n - below) calls) ++ frame_expiries path (k + 1) (frame_by legend frame)) lowest) in
    grows
    ∙ ap (λ ls. ls ++ frame_expiries path number (frame_by legend frame)) holds
    ∙ ap (λ k. (before ++ calls_below legend path calls below) ++ frame_expiries path k (frame_by legend frame)) one
    ∙ append_assoc before (calls_below legend path calls below) (frame_expiries path (below + 1) (frame_by legend frame))
    ∙ ap (λ ls. before ++ ls) (sym more)
