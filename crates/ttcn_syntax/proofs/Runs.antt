-- Runs of bytes that pass a test, at the front of a list.
use Rattle.std.proofs.Common.{◌≡◌, ℕ, ◌<◌, ◌≤◌, Bool, true, false, List, [], ◌∷◌, ◌++◌, length, get_or, refl, ap, arith, sym}
use Rattle.std.specs.List.{prefix_len, AllPass}
use Rattle.std.proofs.lemmas.List.Sums.{prefix_len_is}
use Rattle.std.proofs.lemmas.List.Elements.{All-nil, All-cons, All-head, All-tail}

-- where each byte passes, the run is the whole list
pub whole_run : (p : ℕ → Bool) (xs : List ℕ) → ((k : ℕ) → k < length xs → p (get_or xs k 0) ≡ true) → length xs ≡ prefix_len p xs
whole_run p xs each = sym (prefix_len_is p xs (length xs) 0 (omega arith) each (λ (h : length xs < length xs). absurd (omega arith)))

pub passes-head : (p : ℕ → Bool) (x : ℕ) (xs : List ℕ) → AllPass p (x ∷ xs) → p x ≡ true
passes-head p x xs h = All-head (λ x. p x ≡ true) x xs h

pub passes-tail : (p : ℕ → Bool) (x : ℕ) (xs : List ℕ) → AllPass p (x ∷ xs) → AllPass p xs
passes-tail p x xs h = All-tail (λ x. p x ≡ true) x xs h

pub passes-cons : (p : ℕ → Bool) (x : ℕ) (xs : List ℕ) → p x ≡ true → AllPass p xs → AllPass p (x ∷ xs)
passes-cons p x xs h t = All-cons (λ x. p x ≡ true) x xs h t

-- bytes that pass lie within the run
pub run-reaches : (p : ℕ → Bool) (bytes after : List ℕ) → AllPass p bytes → length bytes ≤ prefix_len p (bytes ++ after)
run-reaches p [] after h = omega arith
run-reaches p (b ∷ bs) after h =
    let yes = passes-head p b bs h in
    let more = run-reaches p bs after (passes-tail p b bs h) in
    rw yes (omega (arith, more))

-- the run ends at the first byte that does not pass
pub run-ends : (p : ℕ → Bool) (bytes : List ℕ) (c : ℕ) (after : List ℕ) → AllPass p bytes → p c ≡ false → prefix_len p (bytes ++ c ∷ after) ≡ length bytes
run-ends p [] c after h stops = rw stops refl
run-ends p (b ∷ bs) c after h stops =
    let yes = passes-head p b bs h in
    let more = run-ends p bs c after (passes-tail p b bs h) stops in
    rw yes (omega (arith, more))

-- a list is its run and what follows
pub record Run (p : ℕ → Bool) (xs : List ℕ) : Type 0 where
  pub bytes : List ℕ
  pub after : List ℕ
  pub is : bytes ++ after ≡ xs
  pub count : length bytes ≡ prefix_len p xs
  pub each : AllPass p bytes

run-cons : (p : ℕ → Bool) (x : ℕ) (xs : List ℕ) (test : Bool) → p x ≡ test → Run p xs → Run p (x ∷ xs)
run-cons p x xs true h r = record {
  bytes = x ∷ r.bytes;
  after = r.after;
  is = ap (λ ys. x ∷ ys) r.is;
  count = rw h (omega (arith, r.count));
  each = passes-cons p x r.bytes h r.each;
}
run-cons p x xs false h r = record {
  bytes = [];
  after = x ∷ xs;
  is = refl;
  count = rw h refl;
  each = All-nil (λ x. p x ≡ true);
}

pub run_of : (p : ℕ → Bool) (xs : List ℕ) → Run p xs
run_of p [] = record { bytes = []; after = []; is = refl; count = refl; each = All-nil (λ x. p x ≡ true) }
run_of p (x ∷ xs) = run-cons p x xs (p x) refl (run_of p xs)
