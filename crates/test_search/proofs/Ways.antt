-- Where label 1 led right and label 0 leads down from there, one comes there first down and then right.
use Rattle.std.proofs.Common.{◌≡◌, ◌==◌, ℕ, zero, suc, ◌+◌, ◌%◌, ◌<◌, Bool, true, false, [], ◌∷◌, arith, refl, subst, sym}
use Rattle.std.specs.Prelude.{Contains, nat_lt}
use Rattle.std.specs.Ordering.{nat_cmp}
use Rattle.std.proofs.lemmas.Bool.Decides.{nat_tests}
use Rattle.search_layer.specs.Late.{IsLate}
use Rattle.test_search.specs.Plane.{plane, ways}

down-is-there : (down right : Bool) → Contains (ways down right) 0 → down ≡ true
down-is-there true right found = refl
down-is-there false true (zero, below, is) = absurd (omega (arith, is))
down-is-there false true (suc k, below, is) = absurd (omega (arith, below))
down-is-there false false (k, below, is) = absurd (omega (arith, below))

right-is-there : (down right : Bool) → Contains (ways down right) 1 → right ≡ true
right-is-there down true found = refl
right-is-there true false (zero, below, is) = absurd (omega (arith, is))
right-is-there true false (suc k, below, is) = absurd (omega (arith, below))
right-is-there false false (k, below, is) = absurd (omega (arith, below))

there-is-down : (right : Bool) → Contains (ways true right) 0
there-is-down true = (0, omega arith, refl)
there-is-down false = (0, omega arith, refl)

there-is-right : (down : Bool) → Contains (ways down true) 1
there-is-right true = (1, omega arith, refl)
there-is-right false = (0, omega arith, refl)

two-ways : (down right : Bool) (label : ℕ) → Contains (ways down right) label → label < 2
two-ways true true label (zero, below, is) = omega (arith, is)
two-ways true true label (suc zero, below, is) = omega (arith, is)
two-ways true true label (suc (suc k), below, is) = absurd (omega (arith, below))
two-ways true false label (zero, below, is) = omega (arith, is)
two-ways true false label (suc k, below, is) = absurd (omega (arith, below))
two-ways false true label (zero, below, is) = omega (arith, is)
two-ways false true label (suc k, below, is) = absurd (omega (arith, below))
two-ways false false label (k, below, is) = absurd (omega (arith, below))

pub late-down : (before last state label : ℕ) → label < last → Contains (plane.enabled before) last → state ≡ plane.after before last → Contains (plane.enabled state) label → IsLate plane nat_cmp before last (plane.after state label)
late-down before zero state label less was behind is = absurd (omega (arith, less))
late-down before (suc zero) state zero less was behind is =
    let down = down-is-there (nat_lt state 6) (nat_lt (state % 3) 2) is in
    let right = right-is-there (nat_lt before 6) (nat_lt (before % 3) 2) was in
    let low : nat_lt before 6 ≡ true = grind (arith, nat_tests, down, behind) in
    let left : nat_lt ((before + 3) % 3) 2 ≡ true = grind (arith, nat_tests, right) in
    record {
      first = 0;
      second = 1;
      enabled = subst (λ (b : Bool). Contains (ways b (nat_lt (before % 3) 2)) 0) (sym low) (there-is-down (nat_lt (before % 3) 2));
      earlier = refl;
      behind = subst (λ (b : Bool). Contains (ways (nat_lt (before + 3) 6) b) 1) (sym left) (there-is-right (nat_lt (before + 3) 6));
      leads = omega (arith, behind);
    }
late-down before (suc zero) state (suc label) less was behind is = absurd (omega (arith, less))
late-down before (suc (suc last)) state label less was behind is = absurd (let low = two-ways (nat_lt before 6) (nat_lt (before % 3) 2) (suc (suc last)) was in omega (arith, low))
