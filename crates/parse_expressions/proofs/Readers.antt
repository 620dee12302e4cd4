-- The readers that go down a bracket at a time.
use Rattle.std.proofs.Common.{◌≡◌, ℕ, zero, suc, ◌-◌, ◌<◌, List, refl, arith}
use Rattle.ttcn_syntax.specs.declared.token.Spanned.{Spanned}
use Rattle.parse_reader.specs.internal.Reading.{head_token}
use Rattle.parse_reader.specs.internal.Values.{value_below, value_by, value_in}
use Rattle.parse_reader.specs.internal.Templates.{shape_below, shape_by, shape_in}

pub value_in_step : (depth : ℕ) (ts : List Spanned) → value_in depth ts ≡ value_by (value_below depth) (head_token ts) ts
unfolding value_in value_below
value_in_step zero ts = refl
value_in_step (suc depth) ts = refl

pub shape_in_step : (depth : ℕ) (ts : List Spanned) → shape_in depth ts ≡ shape_by (shape_below depth) (head_token ts) ts
unfolding shape_in shape_below
shape_in_step zero ts = refl
shape_in_step (suc depth) ts = refl

pub value-below-step : (depth : ℕ) (ts : List Spanned) → 0 < depth → value_below depth ts ≡ value_by (value_below (depth - 1)) (head_token ts) ts
unfolding value_below
value-below-step zero ts h = absurd (omega (arith, h))
value-below-step (suc depth) ts h = let one : suc depth - 1 ≡ depth = omega arith in rw one (value_in_step depth ts)

pub shape-below-step : (depth : ℕ) (ts : List Spanned) → 0 < depth → shape_below depth ts ≡ shape_by (shape_below (depth - 1)) (head_token ts) ts
unfolding shape_below
shape-below-step zero ts h = absurd (omega (arith, h))
shape-below-step (suc depth) ts h = let one : suc depth - 1 ≡ depth = omega arith in rw one (shape_in_step depth ts)
