-- What a filter keeps.
use Rattle.std.proofs.Common.{◌≡◌, ℕ, zero, suc, ◌<◌, Bool, true, cond, List, [], ◌∷◌, ◌++◌, get_or, length, refl, sym, subst, arith, inl, inr}
use Rattle.std.specs.Prelude.{Contains, ◌⊎◌}
use Rattle.std.specs.List.{filter}
use Rattle.std.proofs.lemmas.List.Elements.{All-contains, Contains-append_left, Contains-append_right, filter-append, filter_passes}

module _ {A : Type 0} (test : A → Bool) where
  pub passed : (xs : List A) (x : A) → Contains (filter test xs) x → test x ≡ true
  passed xs x found = All-contains (λ y. test y ≡ true) (filter test xs) x (filter_passes test xs) found

  one-kept : (x : A) (b : Bool) → b ≡ true → Contains (cond b (x ∷ []) []) x
  one-kept x b e = subst (λ (c : Bool). Contains (cond c (x ∷ []) []) x) (sym e) (0, omega arith, refl)

  first-or-later : (y : A) (ys : List A) (x : A) → Contains (y ∷ ys) x → (y ≡ x) ⊎ Contains ys x
  first-or-later y ys x found = from found.0 found.1 found.2
    where
      from : (k : ℕ) → k < length (y ∷ ys) → get_or (y ∷ ys) k x ≡ x → (y ≡ x) ⊎ Contains ys x
      from zero below e = inl e
      from (suc k) below e = inr (k, omega (arith, below), e)

  pub kept : (xs : List A) (x : A) → Contains xs x → test x ≡ true → Contains (filter test xs) x
  kept [] x found passes = absurd (nothing found.0 found.1)
    where
      nothing : (k : ℕ) → k < 0 → ⊥
      nothing k below = omega arith
  kept (y ∷ ys) x found passes =
      let later : Contains ys x → Contains (filter test ys) x = λ more. kept ys x more passes in
      subst (λ (zs : List A). Contains zs x) (sym (filter-append test (y ∷ []) ys)) (in-either later (first-or-later y ys x found))
    where
      in-either : (Contains ys x → Contains (filter test ys) x) → (y ≡ x) ⊎ Contains ys x → Contains (filter test (y ∷ []) ++ filter test ys) x
      in-either later (inl same) = Contains-append_left (filter test (y ∷ [])) (filter test ys) x (subst (λ (z : A). Contains (filter test (z ∷ [])) x) (sym same) (one-kept x (test x) passes))
      in-either later (inr more) = Contains-append_right (filter test (y ∷ [])) (filter test ys) x (later more)
