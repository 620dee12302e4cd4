-- Lists to which elements are added, one by one.
use Rattle.std.proofs.Common.{◌≡◌, ℕ, ◌+◌, ◌<◌, ◌≤◌, List, [], ◌∷◌, ◌++◌, map, length, get_or, drop, sym, ap, ◌∙◌, append_assoc}
use Rattle.std.proofs.lemmas.List.{append-nil, drop_all}
use Rattle.std.specs.List.{flat_map}
use Rattle.check_scope.proofs.Lookups.{drop-next}

module _ {A B : Type 0} (f : A → B) (elements : List A) (i : ℕ) where
  pub mapped-next : (x : A) (so_far next : List B) → i < length elements → x ≡ get_or elements i x → next ≡ so_far ++ f x ∷ []
      → next ++ map f (drop (i + 1) elements) ≡ so_far ++ map f (drop i elements)
  mapped-next x so_far next inside is next_is =
      ap (λ l. l ++ map f (drop (i + 1) elements)) next_is
      ∙ append_assoc so_far (f x ∷ []) (map f (drop (i + 1) elements))
      ∙ ap (λ l. so_far ++ map f l) (sym (drop-next elements i x inside is))

  pub mapped-end : (so_far : List B) → length elements ≤ i → so_far ≡ so_far ++ map f (drop i elements)
  mapped-end so_far past = sym (append-nil so_far) ∙ ap (λ l. so_far ++ map f l) (sym (drop_all i elements past))

module _ {A B : Type 0} (f : A → List B) (elements : List A) (i : ℕ) where
  pub joined-next : (x : A) (so_far next : List B) → i < length elements → x ≡ get_or elements i x → next ≡ so_far ++ f x
      → next ++ flat_map f (drop (i + 1) elements) ≡ so_far ++ flat_map f (drop i elements)
  joined-next x so_far next inside is next_is =
      ap (λ l. l ++ flat_map f (drop (i + 1) elements)) next_is
      ∙ append_assoc so_far (f x) (flat_map f (drop (i + 1) elements))
      ∙ ap (λ l. so_far ++ flat_map f l) (sym (drop-next elements i x inside is))

  pub joined-end : (so_far : List B) → length elements ≤ i → so_far ≡ so_far ++ flat_map f (drop i elements)
  joined-end so_far past = sym (append-nil so_far) ∙ ap (λ l. so_far ++ flat_map f l) (sym (drop_all i elements past))
