-- Things put to one another, part by part.
use Rattle.std.proofs.Common.{◌≡◌, ℕ, ◌+◌, ◌≤◌, List, [], ◌∷◌, ◌++◌, sym, ap, ◌∙◌, arith}
use Rattle.std.proofs.lemmas.List.{append-nil}
use Rattle.check_survey.specs.Things.{add, capped, largest, leaf, parts}
use Rattle.check_survey.specs.declared.thing.Thing.{Thing}

same : (m n : ℕ) (r : List ℕ) (s : List ℕ) → m ≡ n → r ≡ s → parts m r ≡ parts n s
same m n r s own references = ap (λ k. parts k r) own ∙ ap (parts n) references

-- one more part
pub with_leaf : (a : Thing) → a.own ≤ largest → parts (capped (a.own + 1)) a.references ≡ add a leaf
with_leaf a fits = same (capped (a.own + 1)) (add a leaf).own a.references (a.references ++ []) (omega arith) (sym (append-nil a.references))

-- one more reference
pub with_reference : (a : Thing) (to : ℕ) → parts a.own (a.references ++ to ∷ []) ≡ add a (parts 0 (to ∷ []))
with_reference a to = ap (λ n. parts n (a.references ++ to ∷ [])) (omega arith)
