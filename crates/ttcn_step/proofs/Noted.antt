-- Lists that are made of others, one element more.
use Rattle.std.proofs.Common.{◌≡◌, List, [], ◌∷◌, ◌++◌, map, sym, ap, ◌∙◌}
use Rattle.std.proofs.lemmas.List.{map-append}

pub map-more : {A B C D : Type 0} (f : A → D) (g : C → D) (h : B → C) (xs new : List A) (ys : List B) (x : A) (y : B) → new ≡ xs ++ x ∷ [] → f x ≡ g (h y) → map f xs ≡ map g (map h ys)
    → map f new ≡ map g (map h (ys ++ y ∷ []))
map-more f g h xs new ys x y grows same holds =
    ap (map f) grows ∙ map-append f xs (x ∷ []) ∙ ap (λ zs. zs ++ f x ∷ []) holds ∙ ap (λ z. map g (map h ys) ++ z ∷ []) same
    ∙ sym (map-append g (map h ys) (h y ∷ [])) ∙ ap (map g) (sym (map-append h ys (y ∷ [])))

pub map-same-more : {A B D : Type 0} (f : A → D) (g : B → D) (xs new : List A) (ys : List B) (x : A) (y : B) → new ≡ xs ++ x ∷ [] → f x ≡ g y → map f xs ≡ map g ys → map f new ≡ map g (ys ++ y ∷ [])
map-same-more f g xs new ys x y grows same holds =
    ap (map f) grows ∙ map-append f xs (x ∷ []) ∙ ap (λ zs. zs ++ f x ∷ []) holds ∙ ap (λ z. map g ys ++ z ∷ []) same ∙ sym (map-append g ys (y ∷ []))
