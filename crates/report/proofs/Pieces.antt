-- Lists made item by item.
use Rattle.std.proofs.Common.{◌≡◌, ℕ, ◌+◌, ◌<◌, ◌≤◌, List, [], ◌∷◌, ◌++◌, length, take, get_or, sym, ap, ◌∙◌, add-one, append-nil}
use Rattle.std.specs.List.{flat_map}
use Rattle.std.proofs.Math.Seq.{take-suc}
use Rattle.std.proofs.lemmas.Grind.{flat_map-append}

-- the texts of one item more
pub flat_map-take_more : {X A : Type 0} (f : X → List A) (xs : List X) (i : ℕ) (d : X) → i < length xs
    → flat_map f (take i xs) ++ f (get_or xs i d) ≡ flat_map f (take (i + 1) xs)
flat_map-take_more f xs i d h =
    rw (add-one, take-suc xs i d h, flat_map-append f (take i xs) (get_or xs i d ∷ []))
    (ap (λ t. flat_map f (take i xs) ++ t) (sym (append-nil (f (get_or xs i d)))))
