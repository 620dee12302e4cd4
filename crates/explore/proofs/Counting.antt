-- Runs of more steps reach no fewer states.
use Rattle.std.proofs.Common.{◌≡◌, ℕ, suc, ◌≤◌, List, [], ◌∷◌, length, refl, sym, ◌∙◌, arith, inl, inr}
use Rattle.std.specs.Prelude.{◌≢◌}
use Rattle.explore.proofs.Lists.{In, Ordered, each-in, contains_in, in-contains, ordered-from-pairs}
use Rattle.summary.specs.Exploration.{Counts, IsReached}
use Rattle.summary.specs.Graph.{Graph}

module _ {A : Type 0} where
  -- a list without one of its items
  without : (ys : List A) (x : A) → In x ys → List A
  without [] x i = absurd i
  without (y ∷ ys) x (inl e) = ys
  without (y ∷ ys) x (inr i) = y ∷ without ys x i

  one-less : (ys : List A) (x : A) (i : In x ys) → length ys ≡ suc (length (without ys x i))
  unfolding without
  one-less [] x i = absurd i
  one-less (y ∷ ys) x (inl e) = omega arith
  one-less (y ∷ ys) x (inr i) = let rest = one-less ys x i in omega arith

  others : (ys : List A) (x : A) (i : In x ys) (z : A) → In z ys → x ≢ z → In z (without ys x i)
  unfolding without
  others [] x i z found differ = absurd i
  others (y ∷ ys) x (inl e) z (inl f) differ = absurd (differ (sym e ∙ f))
  others (y ∷ ys) x (inl e) z (inr k) differ = k
  others (y ∷ ys) x (inr i) z (inl f) differ = inl f
  others (y ∷ ys) x (inr i) z (inr k) differ = inr (others ys x i z k differ)

  -- a list of different items is no longer than one that has them all
  no-longer : (xs ys : List A) → Ordered (λ x z. x ≢ z) xs → ((x : A) → In x xs → In x ys) → length xs ≤ length ys
  no-longer [] ys differ all = omega arith
  no-longer (x ∷ xs) ys differ all =
      let i : In x ys = all x (inl refl) in
      let rest : length xs ≤ length (without ys x i) = no-longer xs (without ys x i) differ.1 (λ z found. others ys x i z (all z (inr found)) (each-in (λ z. x ≢ z) xs differ.0 z found)) in
      let one = one-less ys x i in
      omega arith

module _ {C L : Type 0} (g : Graph C L) where
  pub counts-grow : (n m few many : ℕ) → n ≤ m → Counts g n few → Counts g m many → few ≤ many
  counts-grow n m few many le counts more =
      let later : (c : C) → IsReached g n c → IsReached g m c = λ c is. record { run = is.run; is_run = is.is_run; short = (let short = is.short in omega arith); ends = is.ends } in
      let fits : length counts.configurations ≤ length more.configurations =
      no-longer counts.configurations more.configurations (ordered-from-pairs (λ c d. c ≢ d) counts.configurations counts.different)
      (λ c i. contains_in more.configurations c (more.all c (later c (counts.reached c (in-contains counts.configurations c i))))) in
      omega (arith, fits, counts.number, more.number)
