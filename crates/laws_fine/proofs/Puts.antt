-- Entries by name: what is put for two names doesn't depend on which comes first.
use Rattle.std.proofs.Common.{◌≡◌, ℕ, true, false, List, [], ◌∷◌, bytes_eq, refl, sym, ap, ◌∙◌}
use Rattle.std.specs.Ordering.{is_eq, match_ordering}
use Rattle.std.specs.declared.cmp.Ordering.{Ordering}
use Rattle.std.specs.declared.cmp.Ordering.TheVariants.{Less, Equal, Greater}
use Rattle.std.proofs.lemmas.Cmp.{alike_right, nat_list_cmp_total}
use Rattle.std.proofs.lemmas.Map.Text.{is_eq-slice_cmp}
use Rattle.laws_steps.proofs.Entries.{turned}
use Rattle.semantics.specs.Entries.{Entries, name_cmp, put}

-- ---- putting

put-is : {A : Type 0} (name : List ℕ) (a : A) (e : List ℕ × A) (es : Entries A) (o : Ordering) → name_cmp name e.0 ≡ o
    → put name a (e ∷ es) ≡ match_ordering o ((name, a) ∷ e ∷ es) ((name, a) ∷ es) (e ∷ put name a es)
put-is name a e es o is = ap (λ t. match_ordering t ((name, a) ∷ e ∷ es) ((name, a) ∷ es) (e ∷ put name a es)) is

-- of two names the lesser one is put first or last
swap-less : {A : Type 0} (name other : List ℕ) → name_cmp name other ≡ Less → (a b : A) (e : List ℕ × A) (es : Entries A) (o p : Ordering) → name_cmp name e.0 ≡ o → name_cmp other e.0 ≡ p
    → put name a (put other b es) ≡ put other b (put name a es) → put name a (put other b (e ∷ es)) ≡ put other b (put name a (e ∷ es))
swap-less name other less a b e es Less Less is is-other rest =
    ap (put name a) (put-is other b e es Less is-other) ∙ put-is name a (other, b) (e ∷ es) Less less
    ∙ sym (ap (put other b) (put-is name a e es Less is) ∙ put-is other b (name, a) (e ∷ es) Greater (turned name other Less less) ∙ ap (λ more. (name, a) ∷ more) (put-is other b e es Less is-other))
swap-less name other less a b e es Less Equal is is-other rest =
    ap (put name a) (put-is other b e es Equal is-other) ∙ put-is name a (other, b) es Less less
    ∙ sym (ap (put other b) (put-is name a e es Less is) ∙ put-is other b (name, a) (e ∷ es) Greater (turned name other Less less) ∙ ap (λ more. (name, a) ∷ more) (put-is other b e es Equal is-other))
swap-less name other less a b e es Less Greater is is-other rest =
    ap (put name a) (put-is other b e es Greater is-other) ∙ put-is name a e (put other b es) Less is
    ∙ sym (ap (put other b) (put-is name a e es Less is) ∙ put-is other b (name, a) (e ∷ es) Greater (turned name other Less less) ∙ ap (λ more. (name, a) ∷ more) (put-is other b e es Greater is-other))
swap-less name other less a b e es Equal p is is-other rest =
    let above : name_cmp other e.0 ≡ Greater = sym (alike_right nat_list_cmp_total name e.0 other is) ∙ turned name other Less less in
    ap (put name a) (put-is other b e es Greater above) ∙ put-is name a e (put other b es) Equal is
    ∙ sym (ap (put other b) (put-is name a e es Equal is) ∙ put-is other b (name, a) es Greater (turned name other Less less))
swap-less name other less a b e es Greater p is is-other rest =
    let above : name_cmp other e.0 ≡ Greater = turned e.0 other Less (nat_list_cmp_total.trans e.0 name other (turned name e.0 Greater is) less) in
    ap (put name a) (put-is other b e es Greater above) ∙ put-is name a e (put other b es) Greater is ∙ ap (λ more. e ∷ more) rest
    ∙ sym (ap (put other b) (put-is name a e es Greater is) ∙ put-is other b e (put name a es) Greater above)

put-less : {A : Type 0} (name other : List ℕ) → name_cmp name other ≡ Less → (a b : A) (es : Entries A) → put name a (put other b es) ≡ put other b (put name a es)
put-less name other less a b [] =
    put-is name a (other, b) [] Less less ∙ sym (put-is other b (name, a) [] Greater (turned name other Less less))
put-less name other less a b (e ∷ es) =
    swap-less name other less a b e es (name_cmp name e.0) (name_cmp other e.0) refl refl (put-less name other less a b es)

not-same : (name other : List ℕ) → bytes_eq name other ≡ false → name_cmp name other ≡ Equal → ⊥
not-same name other differs equal = let no : true ≡ false = sym (ap is_eq equal) ∙ is_eq-slice_cmp name other ∙ differs in cc

put-told : {A : Type 0} (name other : List ℕ) (o : Ordering) → name_cmp name other ≡ o → bytes_eq name other ≡ false → (a b : A) (es : Entries A) → put name a (put other b es) ≡ put other b (put name a es)
put-told name other Less is differs a b es = put-less name other is a b es
put-told name other Equal is differs a b es = absurd (not-same name other differs is)
put-told name other Greater is differs a b es = sym (put-less other name (turned name other Greater is) b a es)

-- what is put for two names
pub put-swap : {A : Type 0} (name other : List ℕ) → bytes_eq name other ≡ false → (a b : A) (es : Entries A) → put name a (put other b es) ≡ put other b (put name a es)
put-swap name other differs a b es = put-told name other (name_cmp name other) refl differs a b es
