-- Sizes: the longest chain from some things, and what they weigh together.
use Rattle.std.proofs.Common.{◌≡◌, ℕ, ◌+◌, ◌<◌, ◌≤◌, max, List, [], ◌∷◌, ◌++◌, length, sym, subst, ◌∙◌, arith, inl, inr}
use Rattle.std.proofs.lemmas.Bool.{cases_lt}
use Rattle.std.proofs.lemmas.List.Elements.{Contains-append_cases, Contains-append_left, Contains-append_right}
use Rattle.check_survey.specs.Graphs.Weigh.{nothing}
use Rattle.check_survey.specs.Graphs.{IsChain, own, references}
use Rattle.check_survey.specs.internal.Search.{HasLongest, HaveSize}
use Rattle.check_survey.specs.Things.{capped}
use Rattle.check_survey.specs.declared.size.Size.{Size}
use Rattle.check_survey.specs.declared.thing.Thing.{Thing}
use Rattle.check_survey.proofs.Chains.{Contains-first, Contains-only, weigh-append, weigh-thing}

module _ (things : List Thing) where
  -- no thing begins no chain
  longest-none : HasLongest things [] 0
  longest-none = record { bound = λ i rest among chain. absurd (omega (arith, among.1)); reached = λ some. absurd (omega arith) }

  -- chains from these things or those
  longest-beside : (these those : List ℕ) (m n : ℕ) → HasLongest things these m → HasLongest things those n → HasLongest things (these ++ those) (max m n)
  longest-beside these those m n left right = record {
    bound = λ i rest among chain. elim (Contains-append_cases these those i among) [
      | inl first ↦ (let b = left.bound i rest first chain in omega (arith, b))
      | inr second ↦ (let b = right.bound i rest second chain in omega (arith, b))
    ];
    reached = λ some. elim (cases_lt m n) [
      | inl below ↦ (let most : max m n ≡ n = omega arith in let r = right.reached (omega arith) in
          (r.0, r.1, Contains-append_right these those r.0 r.2, r.3, r.4 ∙ sym most))
      | inr above ↦ (let most : max m n ≡ m = omega arith in let r = left.reached (omega arith) in
          (r.0, r.1, Contains-append_left these those r.0 r.2, r.3, r.4 ∙ sym most))
    ];
  }

  -- chains from a thing go on with those from what it refers to
  longest-around : (i m : ℕ) → i < length things → HasLongest things (references things i) m → HasLongest things (i ∷ []) (m + 1)
  longest-around i m within inside = record {
    bound = λ j rest among. subst (λ k. IsChain things (k ∷ rest) → length (k ∷ rest) ≤ m + 1) (Contains-only i j among) (at_most rest);
    reached = λ some. elim (cases_lt 0 m) [
      | inl more ↦ (let r = inside.reached more in (i, r.0 ∷ r.1, Contains-first i [], (r.2, r.3), (let e = r.4 in omega (arith, e))))
      | inr none ↦ (i, [], Contains-first i [], within, omega arith)
    ];
  }
    where
      at_most : (rest : List ℕ) → IsChain things (i ∷ rest) → length (i ∷ rest) ≤ m + 1
      at_most [] chain = omega arith
      at_most (next ∷ rest) chain = let b = inside.bound next rest chain.0 chain.1 in omega (arith, b)

  pub size-none : (size : Size) → size.chain ≡ 0 → size.weight ≡ 0 → HaveSize things [] size
  size-none size chain weight = record {
    longest = 0;
    has_longest = longest-none;
    chain = omega arith;
    total = 0;
    weigh = nothing;
    weight = omega arith;
  }

  pub size-beside : (these those : List ℕ) (a b size : Size) → HaveSize things these a → HaveSize things those b
      → size.chain ≡ max a.chain b.chain → size.weight ≡ capped (a.weight + b.weight) → HaveSize things (these ++ those) size
  size-beside these those a b size left right chain weight = record {
    longest = max left.longest right.longest;
    has_longest = longest-beside these those left.longest right.longest left.has_longest right.has_longest;
    chain = omega (arith, left.chain, right.chain);
    total = left.total + right.total;
    weigh = weigh-append things these those left.total right.total left.weigh right.weigh;
    weight = omega (arith, left.weight, right.weight);
  }

  pub size-around : (i : ℕ) (a size : Size) → i < length things → HaveSize things (references things i) a
      → size.chain ≡ capped (a.chain + 1) → size.weight ≡ capped (a.weight + own things i) → HaveSize things (i ∷ []) size
  size-around i a size within inside chain weight = record {
    longest = inside.longest + 1;
    has_longest = longest-around i inside.longest within inside.has_longest;
    chain = omega (arith, inside.chain);
    total = inside.total + own things i;
    weigh = weigh-thing things i inside.total within inside.weigh;
    weight = omega (arith, inside.weight);
  }
