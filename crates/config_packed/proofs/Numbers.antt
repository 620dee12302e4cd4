-- Numbers by how many bytes they take.
use Rattle.std.proofs.Common.{◌≡◌, ℕ, ◌+◌, ◌-◌, ◌*◌, ◌<◌, ◌≤◌, ◌&&◌, nat_lt, Bool, true, false, cond, List, [], ◌∷◌, ◌++◌, ap, ◌∙◌, arith}
use Rattle.std.proofs.lemmas.Bool.{le-ltb, lt-ltb}
use Rattle.config_packed.specs.Reading.{Reads, number_from, read_byte, read_short}
use Rattle.config_packed.specs.Spelling.{both_in, number_in, short, spell_long, two}

pub number_of_one : (wide : ℕ → List ℕ) (n : ℕ) → n < 192 → number_in wide n ≡ n ∷ []
number_of_one wide n h =
    ap (λ (b : Bool). cond {A = List ℕ} b (short n) (255 ∷ wide n)) (lt-ltb n 16128 (omega arith))
    ∙ ap (λ (b : Bool). cond {A = List ℕ} b (n ∷ []) (two n)) (lt-ltb n 192 h)

pub number_of_two : (wide : ℕ → List ℕ) (n : ℕ) → 192 ≤ n → n < 16128 → number_in wide n ≡ two n
number_of_two wide n h k =
    ap (λ (b : Bool). cond {A = List ℕ} b (short n) (255 ∷ wide n)) (lt-ltb n 16128 k)
    ∙ ap (λ (b : Bool). cond {A = List ℕ} b (n ∷ []) (two n)) (le-ltb n 192 h)

pub one_is_number : (wide : Reads ℕ) (first : ℕ) (bytes : List ℕ) → first < 192 → number_from wide first bytes ≡ (first, bytes)
unfolding read_short
one_is_number wide first bytes h =
    ap (λ (b : Bool). cond {A = Reads ℕ} b (read_short first) wide bytes) (lt-ltb first 255 (omega arith))
    ∙ ap (λ (b : Bool). cond {A = Reads ℕ} b (λ bytes. (first, bytes)) (λ bytes. (256 * (first - 192) + (read_byte bytes).0, (read_byte bytes).1)) bytes) (lt-ltb first 192 h)

-- two numbers in one byte

pub both_small : (spell : ℕ → List ℕ) (a b : ℕ) → (nat_lt a 15 && nat_lt b 16) ≡ true → both_in spell a b ≡ (16 * a + b) ∷ []
both_small spell a b is = ap (λ (small : Bool). cond {A = List ℕ} small ((16 * a + b) ∷ []) (255 ∷ (spell_long a ++ spell b))) is

pub both_wide : (spell : ℕ → List ℕ) (a b : ℕ) → (nat_lt a 15 && nat_lt b 16) ≡ false → both_in spell a b ≡ 255 ∷ (spell_long a ++ spell b)
both_wide spell a b is = ap (λ (small : Bool). cond {A = List ℕ} small ((16 * a + b) ∷ []) (255 ∷ (spell_long a ++ spell b))) is
