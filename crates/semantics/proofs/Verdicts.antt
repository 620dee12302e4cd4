-- The worse of two verdicts, in any order and grouping.
use Rattle.std.proofs.Common.{◌≡◌, ℕ, ⊎_elim, refl, sym, ap, ◌∙◌, arith, max, nat_eq, if◌then◌else◌}
use Rattle.std.specs.Ordering.{match_ordering, nat_cmp}
use Rattle.std.specs.Cmp.{nat_cmp_is}
use Rattle.std.specs.declared.cmp.Ordering.{Ordering}
use Rattle.std.specs.declared.cmp.Ordering.TheVariants.{Less, Equal, Greater}
use Rattle.std.proofs.Math.Nat.{max_comm, max-eq_left, max-eq_right}
use Rattle.std.proofs.lemmas.Bool.{cases_order}
use Rattle.ttcn_syntax.specs.declared.tree.statement.Verdict.{Verdict}
use Rattle.ttcn_syntax.specs.declared.tree.statement.Verdict.TheVariants as verdict
use Rattle.semantics.specs.Configurations.{badness, worse}

abbrev verdict_of : ℕ → Verdict
verdict_of n = if nat_eq n 0 then verdict.None else if nat_eq n 1 then verdict.Pass else if nat_eq n 2 then verdict.Inconc else if nat_eq n 3 then verdict.Fail else verdict.Error

of-badness : (v : Verdict) → verdict_of (badness v) ≡ v
of-badness verdict.None = refl
of-badness verdict.Pass = refl
of-badness verdict.Inconc = refl
of-badness verdict.Fail = refl
of-badness verdict.Error = refl

same-badness : (v w : Verdict) → badness v ≡ badness w → v ≡ w
same-badness v w e = sym (of-badness v) ∙ ap verdict_of e ∙ of-badness w

chosen-badness : (o : Ordering) (v w : Verdict) → badness (match_ordering o w v v) ≡ match_ordering o (badness w) (badness v) (badness v)
chosen-badness Less v w = refl
chosen-badness Equal v w = refl
chosen-badness Greater v w = refl

greater-number : (n m : ℕ) → match_ordering (nat_cmp n m) m n n ≡ max n m
greater-number n m =
    ⊎_elim (λ same. ap (λ o. match_ordering o m n n) (sym (nat_cmp_is n m Equal same)) ∙ sym (max-eq_left (omega (arith, same))))
    (λ differ. ⊎_elim (λ lt. ap (λ o. match_ordering o m n n) (sym (nat_cmp_is n m Less lt)) ∙ sym (max-eq_right (omega (arith, lt))))
    (λ lt. ap (λ o. match_ordering o m n n) (sym (nat_cmp_is n m Greater lt)) ∙ sym (max-eq_left (omega (arith, lt)))) differ)
    (cases_order n m)

max-assoc : (n m k : ℕ) → max (max n m) k ≡ max n (max m k)
max-assoc n m k = omega arith

badness-worse : (v w : Verdict) → badness (worse v w) ≡ max (badness v) (badness w)
badness-worse v w = chosen-badness (nat_cmp (badness v) (badness w)) v w ∙ greater-number (badness v) (badness w)

pub worse-commutes : (v w : Verdict) → worse v w ≡ worse w v
worse-commutes v w = same-badness (worse v w) (worse w v) (badness-worse v w ∙ max_comm (badness v) (badness w) ∙ sym (badness-worse w v))

pub worse-associates : (u v w : Verdict) → worse (worse u v) w ≡ worse u (worse v w)
worse-associates u v w = same-badness (worse (worse u v) w) (worse u (worse v w))
    (badness-worse (worse u v) w ∙ ap (λ n. max n (badness w)) (badness-worse u v) ∙ max-assoc (badness u) (badness v) (badness w)
    ∙ sym (badness-worse u (worse v w) ∙ ap (max (badness u)) (badness-worse v w)))

pub worse-none : (v : Verdict) → worse v verdict.None ≡ v
worse-none verdict.None = refl
worse-none verdict.Pass = refl
worse-none verdict.Inconc = refl
worse-none verdict.Fail = refl
worse-none verdict.Error = refl

pub none-worse : (v : Verdict) → worse verdict.None v ≡ v
none-worse v = worse-commutes verdict.None v ∙ worse-none v

-- two pairs, pair by pair or part by part
pub worse-pairs : (a b c d : Verdict) → worse (worse a b) (worse c d) ≡ worse (worse a c) (worse b d)
worse-pairs a b c d =
    worse-associates a b (worse c d) ∙ ap (worse a) (sym (worse-associates b c d) ∙ ap (λ v. worse v d) (worse-commutes b c) ∙ worse-associates c b d) ∙ sym (worse-associates a c (worse b d))
