-- Rows of bytes of which the first five count.
use Rattle.std.specs.Prelude.{◌≡◌, ℕ, ◌+◌, ◌%◌, ◌<◌, List, [], ◌∷◌, replicate, None, AllPairs, slice_index, slice_set, get_or}
use Rattle.std.proofs.Common.{zero, suc, refl, arith, sym}
use Rattle.std.specs.Ordering.{nat_cmp}
use Rattle.std.specs.Cmp.{nat_cmp_is}
use Rattle.std.specs.declared.cmp.Ordering.TheVariants.{Less}
use Rattle.summary.specs.Graph.{Graph}

-- 96 zeros lead on by each of five labels: the byte at that place counts up, and from the top back to 0
abbrev pub counters : ℕ → Graph (List ℕ) ℕ
counters values = record {
  first = replicate 96 0;
  enabled = λ row. 0 ∷ 1 ∷ 2 ∷ 3 ∷ 4 ∷ [];
  after = λ row label. slice_set row (label % 5) ((slice_index row (label % 5) + 1) % values);
  mark = λ row. None;
}

place_of : (i d : ℕ) → i < 5 → get_or (0 ∷ 1 ∷ 2 ∷ 3 ∷ 4 ∷ []) i d ≡ i
place_of zero d h = refl
place_of (suc zero) d h = refl
place_of (suc (suc zero)) d h = refl
place_of (suc (suc (suc zero))) d h = refl
place_of (suc (suc (suc (suc zero)))) d h = refl
place_of (suc (suc (suc (suc (suc i))))) d h = absurd (omega arith)

pub labels_ascend : AllPairs (λ l m. nat_cmp l m ≡ Less) (0 ∷ 1 ∷ 2 ∷ 3 ∷ 4 ∷ [])
labels_ascend i j d h k =
    let low : i < 5 = omega arith in
    let high : j < 5 = omega arith in
    rw (place_of i d low) (rw (place_of j d high) (sym (nat_cmp_is i j Less (omega arith))))
