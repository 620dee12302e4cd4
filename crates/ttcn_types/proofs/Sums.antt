-- Running sums, which number constants and templates.
use Rattle.std.proofs.Common.{◌≡◌, ◌≤◌, ℕ, zero, suc, ◌+◌, ◌<◌, List, [], ◌∷◌, ◌++◌, length, get_or, take, drop, refl, sym, ap, ◌∙◌, add-zero, zero-add, add_assoc}
use Rattle.std.proofs.lemmas.List.{append-nil, drop_all}
use Rattle.ttcn_syntax.specs.declared.tree.definition.Definition.{Definition}
use Rattle.check_rules.specs.Parts.{how_many, how_many_in, number_at}

-- at each definition a number and how many come before it
abbrev pub sums : ℕ → List Definition → List ℕ
sums n [] = []
sums n (definition ∷ definitions) = n ∷ sums (n + how_many definition.kind) definitions

sums-at : (n at : ℕ) (definitions : List Definition) → get_or (sums n definitions) at (n + how_many_in definitions) ≡ n + how_many_in (take at definitions)
sums-at n zero [] = refl
sums-at n (suc at) [] = refl
sums-at n zero (definition ∷ definitions) = sym (add-zero n)
sums-at n (suc at) (definition ∷ definitions) =
    ap (get_or (sums (n + how_many definition.kind) definitions) at) (sym (add_assoc n (how_many definition.kind) (how_many_in definitions)))
    ∙ sums-at (n + how_many definition.kind) at definitions
    ∙ add_assoc n (how_many definition.kind) (how_many_in (take at definitions))

-- the sums so far and those that are left are all of them, and so are the numbers that they sum
pub record Summing (definitions : List Definition) (i : ℕ) (before : List ℕ) (total : ℕ) : Type 0 where
  pub all : before ++ sums total (drop i definitions) ≡ sums 0 definitions
  pub whole : total + how_many_in (drop i definitions) ≡ how_many_in definitions

pub summing-count : (definitions : List Definition) (i : ℕ) (before : List ℕ) (total : ℕ) → length definitions ≤ i → Summing definitions i before total → total ≡ how_many_in definitions
summing-count definitions i before total past so_far =
    sym (add-zero total) ∙ ap (λ ds. total + how_many_in ds) (sym (drop_all i definitions past)) ∙ so_far.whole

pub summing-end : (definitions : List Definition) (i : ℕ) (before : List ℕ) (total : ℕ) → length definitions ≤ i → Summing definitions i before total
    → (at : ℕ) → get_or before at total ≡ number_at definitions at
summing-end definitions i before total past so_far at =
    let none : drop i definitions ≡ [] = drop_all i definitions past in
    let all : before ≡ sums 0 definitions = sym (append-nil before) ∙ ap (λ ds. before ++ sums total ds) (sym none) ∙ so_far.all in
    let whole : total ≡ 0 + how_many_in definitions =
    sym (add-zero total) ∙ ap (λ ds. total + how_many_in ds) (sym none) ∙ so_far.whole ∙ sym (zero-add (how_many_in definitions)) in
    ap (λ b. get_or b at total) all ∙ ap (get_or (sums 0 definitions) at) whole ∙ sums-at 0 at definitions ∙ zero-add (how_many_in (take at definitions))
