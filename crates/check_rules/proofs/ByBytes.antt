-- What a hash map with byte strings as keys has at a name, behind an insertion.
use Rattle.std.proofs.Common.{◌≡◌, ℕ, Bool, true, false, if◌then◌else◌, List, Option, Some, None, is_some, not, bytes_eq, refl, sym, ap, subst, ◌∙◌}
use Rattle.std.proofs.lemmas.Cmp.{nat_list_eq_equiv}
use Rattle.std.specs.Cmp.Lexicographic.{bytes_decides}
use Rattle.std.specs.HashMap.{HashMap, UpdatesBy, get_by}
use Rattle.std.specs.Map.{AreApart, IsKeyTest, KeepsOthers, lookup}
use Rattle.std.specs.Option.{option_or}

other-entries : {K X : Type 0} (eq : K → K → Bool) (test : K → Bool) (old new : List (K × X)) → KeepsOthers eq test old new → (other : K → Bool) → IsKeyTest eq other → AreApart test other
    → lookup other new ≡ lookup other old
unfolding KeepsOthers
other-entries eq test old new keeps = keeps

apart : (bs cs ks : List ℕ) → bytes_eq cs bs ≡ false → bytes_eq bs ks ≡ true → bytes_eq cs ks ≡ false
apart bs cs ks differ same = nat_list_eq_equiv.symm cs ks ∙ sym (nat_list_eq_equiv.congr bs ks cs same) ∙ nat_list_eq_equiv.symm bs cs ∙ differ

module _ {K X S : Type 0} (bytes : K → List ℕ) (bs : List ℕ) (m n : HashMap K X S) (w : Option X) where
  pub looked-up : UpdatesBy (λ x y. bytes_eq (bytes x) (bytes y)) (λ k. bytes_eq bs (bytes k)) m n w → (cs : List ℕ)
      → get_by (λ k. bytes_eq cs (bytes k)) n ≡ (if bytes_eq cs bs then w else get_by (λ k. bytes_eq cs (bytes k)) m)
  looked-up updates cs = go (bytes_eq cs bs) refl
    where
      go : (b : Bool) → bytes_eq cs bs ≡ b → get_by (λ k. bytes_eq cs (bytes k)) n ≡ (if b then w else get_by (λ k. bytes_eq cs (bytes k)) m)
      go true is = subst (λ l. get_by (λ k. bytes_eq l (bytes k)) n ≡ w) (sym ((bytes_decides cs bs).0 is)) updates.1
      go false is =
          other-entries (λ x y. bytes_eq (bytes x) (bytes y)) (λ k. bytes_eq bs (bytes k)) m.entries n.entries updates.3 (λ k. bytes_eq cs (bytes k))
          (λ x y. nat_list_eq_equiv.congr cs (bytes x) (bytes y)) (λ k. apart bs cs (bytes k) is)

-- what is put under a name that had nothing
pub put-first : {A : Type 0} (b : Bool) (x : A) (o : Option A) → (b ≡ true → o ≡ None) → (if b then Some x else o) ≡ option_or o (if b then Some x else None)
put-first true x o none = ap (λ p. option_or p (Some x)) (sym (none refl))
put-first false x o none = go o
  where
    go : {A : Type 0} (p : Option A) → p ≡ option_or p None
    go None = refl
    go (Some y) = refl

-- a name that had nothing gets a value
pub added-first : {K X S : Type 0} (bytes : K → List ℕ) (bs name : List ℕ) (m n : HashMap K X S) (x : X)
    → UpdatesBy (λ y z. bytes_eq (bytes y) (bytes z)) (λ k. bytes_eq bs (bytes k)) m n (Some x) → bs ≡ name → get_by (λ k. bytes_eq name (bytes k)) m ≡ None → (other : List ℕ)
    → get_by (λ k. bytes_eq other (bytes k)) n ≡ option_or (get_by (λ k. bytes_eq other (bytes k)) m) (if bytes_eq other name then Some x else None)
added-first bytes bs name m n x updates same none other =
    looked-up bytes bs m n (Some x) updates other
    ∙ ap (λ l. if bytes_eq other l then Some x else get_by (λ k. bytes_eq other (bytes k)) m) same
    ∙ put-first (bytes_eq other name) x (get_by (λ k. bytes_eq other (bytes k)) m) (λ is. ap (λ l. get_by (λ k. bytes_eq l (bytes k)) m) ((bytes_decides other name).0 is) ∙ none)

pub nothing : {A : Type 0} (o : Option A) (b : Bool) → is_some o ≡ not b → b ≡ true → o ≡ None
nothing None b is holds = refl
nothing (Some x) b is holds = absurd (let e : true ≡ not true = is ∙ ap not holds in cc)
