-- Numbers and lists are read back from the bytes that spell them, whatever follows.
use Rattle.std.proofs.Common.{◌≡◌, ℕ, ◌+◌, ◌-◌, ◌*◌, ◌/◌, ◌%◌, ◌<◌, ◌≤◌, ◌&&◌, nat_lt, Bool, true, false, cond, List, [], ◌∷◌, ◌++◌, length, map, refl, ap, ◌∙◌, arith, append_assoc}
use Rattle.std.proofs.lemmas.Bool.{le-ltb, lt-ltb, ltb-true}
use Rattle.std.specs.List.{flat_map}
use Rattle.config_packed.specs.Reading.{Reads, both_from, number_from, read_byte, read_eight, read_four, read_items, read_list, read_long, read_long_pair, read_number, read_pair, read_short}
use Rattle.config_packed.specs.Spelling.{both_in, eight, four, number_in, short, spell_list, spell_long, spell_long_pair, spell_number, spell_pair}

-- ---- numbers

four-back : (n : ℕ) (rest : List ℕ) → read_four (four n ++ rest) ≡ (n, rest)
unfolding read_four read_byte
four-back n rest = ap (λ (m : ℕ). (m, rest)) (omega arith)

eight-back : (n : ℕ) (rest : List ℕ) → read_eight (eight n ++ rest) ≡ (n, rest)
unfolding read_eight
eight-back n rest =
    let low = n % 4294967296 in
    let high = n / 4294967296 in
    let e = four-back low (four high ++ rest) in
    let f = four-back high rest in
    ap (λ (p : ℕ × List ℕ). (p.0 + 4294967296 * (read_four p.1).0, (read_four p.1).1)) e
    ∙ ap (λ (q : ℕ × List ℕ). (low + 4294967296 * q.0, q.1)) f
    ∙ ap (λ (m : ℕ). (m, rest)) (omega arith)

-- what begins with the first of these bytes
abbrev begins : {A : Type 0} → (ℕ → Reads A) → List ℕ → A × List ℕ
begins next bytes = next (read_byte bytes).0 (read_byte bytes).1

-- a byte below 255 begins a short number
begins-short : (wide : Reads ℕ) (first : ℕ) (rest : List ℕ) → first < 255 → begins (number_from wide) (first ∷ rest) ≡ read_short first rest
unfolding read_byte
begins-short wide first rest h = ap (λ (b : Bool). cond {A = Reads ℕ} b (read_short first) wide rest) (lt-ltb first 255 h)

short-back-when : (b : Bool) (wide : Reads ℕ) (n : ℕ) (rest : List ℕ) → n < 16128 → nat_lt n 192 ≡ b → begins (number_from wide) (short n ++ rest) ≡ (n, rest)
unfolding read_short read_byte
short-back-when true wide n rest h is =
    let small : n < 192 = ltb-true n 192 is in
    ap (λ (b : Bool). begins (number_from wide) (cond {A = List ℕ} b (n ∷ []) ((192 + n / 256) ∷ (n % 256) ∷ []) ++ rest)) is
    ∙ begins-short wide n rest (omega arith)
    ∙ ap (λ (b : Bool). cond {A = Reads ℕ} b (λ bytes. (n, bytes)) (λ bytes. (256 * (n - 192) + (read_byte bytes).0, (read_byte bytes).1)) rest) is
short-back-when false wide n rest h is =
    let first = 192 + n / 256 in
    let large : 192 ≤ first = omega arith in
    ap (λ (b : Bool). begins (number_from wide) (cond {A = List ℕ} b (n ∷ []) (first ∷ (n % 256) ∷ []) ++ rest)) is
    ∙ begins-short wide first ((n % 256) ∷ rest) (omega arith)
    ∙ ap (λ (b : Bool). cond {A = Reads ℕ} b (λ bytes. (first, bytes)) (λ bytes. (256 * (first - 192) + (read_byte bytes).0, (read_byte bytes).1)) ((n % 256) ∷ rest)) (le-ltb first 192 large)
    ∙ ap (λ (m : ℕ). (m, rest)) (omega arith)

number-back-when : (b : Bool) (spell : ℕ → List ℕ) (wide : Reads ℕ) → ((n : ℕ) (rest : List ℕ) → wide (spell n ++ rest) ≡ (n, rest))
    → (n : ℕ) (rest : List ℕ) → nat_lt n 16128 ≡ b → begins (number_from wide) (number_in spell n ++ rest) ≡ (n, rest)
unfolding read_byte
number-back-when true spell wide back n rest is =
    ap (λ (b : Bool). begins (number_from wide) (cond {A = List ℕ} b (short n) (255 ∷ spell n) ++ rest)) is
    ∙ short-back-when (nat_lt n 192) wide n rest (ltb-true n 16128 is) refl
number-back-when false spell wide back n rest is =
    ap (λ (b : Bool). begins (number_from wide) (cond {A = List ℕ} b (short n) (255 ∷ spell n) ++ rest)) is
    ∙ back n rest

number-back : (spell : ℕ → List ℕ) (wide : Reads ℕ) → ((n : ℕ) (rest : List ℕ) → wide (spell n ++ rest) ≡ (n, rest))
    → (n : ℕ) (rest : List ℕ) → begins (number_from wide) (number_in spell n ++ rest) ≡ (n, rest)
number-back spell wide back n rest = number-back-when (nat_lt n 16128) spell wide back n rest refl

pub read-number-back : (n : ℕ) (rest : List ℕ) → read_number (spell_number n ++ rest) ≡ (n, rest)
unfolding read_number spell_number
read-number-back = number-back four read_four four-back

pub read-long-back : (n : ℕ) (rest : List ℕ) → read_long (spell_long n ++ rest) ≡ (n, rest)
unfolding read_long spell_long
read-long-back = number-back eight read_eight eight-back

-- ---- two numbers

both-true : (p q : Bool) → (p && q) ≡ true → (p ≡ true) × (q ≡ true)
both-true true true is = (refl, refl)
both-true true false is = cc
both-true false q is = cc

both-back-when : (small : Bool) (spell : ℕ → List ℕ) (read : Reads ℕ) → ((n : ℕ) (rest : List ℕ) → read (spell n ++ rest) ≡ (n, rest))
    → (a b : ℕ) (rest : List ℕ) → (nat_lt a 15 && nat_lt b 16) ≡ small → begins (both_from read) (both_in spell a b ++ rest) ≡ ((a, b), rest)
unfolding read_byte
both-back-when true spell read back a b rest is =
    let tests = both-true (nat_lt a 15) (nat_lt b 16) is in
    let one = ltb-true a 15 tests.0 in
    let other = ltb-true b 16 tests.1 in
    let both = 16 * a + b in
    let first : both / 16 ≡ a = omega arith in
    let second : both % 16 ≡ b = omega arith in
    ap (λ (small : Bool). begins (both_from read) (cond {A = List ℕ} small (both ∷ []) (255 ∷ (spell_long a ++ spell b)) ++ rest)) is
    ∙ ap (λ (small : Bool). cond {A = Reads (ℕ × ℕ)} small (λ bytes. ((both / 16, both % 16), bytes)) (both_from read 255) rest) (lt-ltb both 240 (omega arith))
    ∙ (λ i. ((first i, second i), rest))
both-back-when false spell read back a b rest is =
    ap (λ (small : Bool). begins (both_from read) (cond {A = List ℕ} small ((16 * a + b) ∷ []) (255 ∷ (spell_long a ++ spell b)) ++ rest)) is
    ∙ ap (both_from read 255) (append_assoc (spell_long a) (spell b) rest)
    ∙ ap (λ (p : ℕ × List ℕ). ((p.0, (read p.1).0), (read p.1).1)) (read-long-back a (spell b ++ rest))
    ∙ ap (λ (p : ℕ × List ℕ). ((a, p.0), p.1)) (back b rest)

both-back : (spell : ℕ → List ℕ) (read : Reads ℕ) → ((n : ℕ) (rest : List ℕ) → read (spell n ++ rest) ≡ (n, rest))
    → (a b : ℕ) (rest : List ℕ) → begins (both_from read) (both_in spell a b ++ rest) ≡ ((a, b), rest)
both-back spell read back a b rest = both-back-when (nat_lt a 15 && nat_lt b 16) spell read back a b rest refl

pub read-pair-back : (a b : ℕ) (rest : List ℕ) → read_pair (spell_pair a b ++ rest) ≡ ((a, b), rest)
unfolding read_pair spell_pair
read-pair-back = both-back spell_number read_number read-number-back

pub read-long-pair-back : (a b : ℕ) (rest : List ℕ) → read_long_pair (spell_long_pair a b ++ rest) ≡ ((a, b), rest)
unfolding read_long_pair spell_long_pair
read-long-pair-back = both-back spell_long read_long read-long-back

-- ---- lists

module _ {A : Type 0} (spell : A → List ℕ) (read : Reads A) where
  -- what is spelled is read back
  abbrev pub ComesBack : A → Type 0
  ComesBack a = (rest : List ℕ) → read (spell a ++ rest) ≡ (a, rest)

  pub item-back : (x : A) (xs : List A) (rest : List ℕ) → ComesBack x
      → read_items read (length xs) (flat_map spell xs ++ rest) ≡ (xs, rest)
      → read_items read (length (x ∷ xs)) (flat_map spell (x ∷ xs) ++ rest) ≡ (x ∷ xs, rest)
  unfolding read_items
  item-back x xs rest back e =
      ap (read_items read (length (x ∷ xs))) (append_assoc (spell x) (flat_map spell xs) rest)
      ∙ ap (λ (p : A × List ℕ). (p.0 ∷ (read_items read (length xs) p.1).0, (read_items read (length xs) p.1).1)) (back (flat_map spell xs ++ rest))
      ∙ ap (λ (p : List A × List ℕ). (x ∷ p.0, p.1)) e

  pub items-back : ((a : A) → ComesBack a) → (items : List A) (rest : List ℕ) → read_items read (length items) (flat_map spell items ++ rest) ≡ (items, rest)
  unfolding read_items
  items-back back [] rest = refl
  items-back back (x ∷ xs) rest = item-back x xs rest (back x) (items-back back xs rest)

  -- a list is read back where its items are
  pub list-from-items : (items : List A) (rest : List ℕ) → read_items read (length items) (flat_map spell items ++ rest) ≡ (items, rest) → read_list read ((spell_long (length items) ++ flat_map spell items) ++ rest) ≡ (items, rest)
  unfolding read_list
  list-from-items items rest e =
      ap (read_list read) (append_assoc (spell_long (length items)) (flat_map spell items) rest)
      ∙ ap (λ (p : ℕ × List ℕ). read_items read p.0 p.1) (read-long-back (length items) (flat_map spell items ++ rest))
      ∙ e

  pub read-list-back : ((a : A) → ComesBack a) → (items : List A) (rest : List ℕ) → read_list read (spell_list spell items ++ rest) ≡ (items, rest)
  unfolding spell_list
  read-list-back back items rest = list-from-items items rest (items-back back items rest)

-- something is read of each item of a list, where it is read of an item
pub items-seen : {A B : Type 0} (spell : A → List ℕ) (read : Reads B) (seen : A → B)
    → ((a : A) (rest : List ℕ) → read (spell a ++ rest) ≡ (seen a, rest))
    → (items : List A) (rest : List ℕ) → read_items read (length items) (flat_map spell items ++ rest) ≡ (map seen items, rest)
unfolding read_items
items-seen spell read seen back [] rest = refl
items-seen {A} {B} spell read seen back (x ∷ xs) rest =
    ap (read_items read (length (x ∷ xs))) (append_assoc (spell x) (flat_map spell xs) rest)
    ∙ ap (λ (p : B × List ℕ). (p.0 ∷ (read_items read (length xs) p.1).0, (read_items read (length xs) p.1).1)) (back x (flat_map spell xs ++ rest))
    ∙ ap (λ (p : List B × List ℕ). (seen x ∷ p.0, p.1)) (items-seen spell read seen back xs rest)
