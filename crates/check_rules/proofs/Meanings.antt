-- What holds of all that names stand for.
use Rattle.std.proofs.Common.{Bool, true, false, if◌then◌else◌, List, [], ◌∷◌, ◌++◌, ℕ, bytes_eq, Option, Some, None}
use Rattle.std.specs.Option.{option_or}
use Rattle.check_scope.specs.Names.{Entry, listed}
use Rattle.check_scope.specs.declared.names.Meaning.{Meaning}

module _ (P : Meaning → Type 0) where
  abbrev pub IfMeans : Option Meaning → Type 0
  IfMeans None = Unit {0}
  IfMeans (Some m) = P m

  abbrev pub EachMeans : List Entry → Type 0
  EachMeans [] = Unit {0}
  EachMeans (entry ∷ entries) = P entry.1 × EachMeans entries

  pub means-or : (one other : Option Meaning) → IfMeans one → IfMeans other → IfMeans (option_or one other)
  means-or None other one_means other_means = other_means
  means-or (Some m) other one_means other_means = one_means

  means-if : (b : Bool) (m : Meaning) → P m → IfMeans (if b then Some m else None)
  means-if true m means = means
  means-if false m means = tt

  pub means-listed : (entries : List Entry) (name : List ℕ) → EachMeans entries → IfMeans (listed entries name)
  means-listed [] name each = tt
  means-listed (entry ∷ entries) name each =
      means-or (listed entries name) (if bytes_eq entry.0 name then Some entry.1 else None) (means-listed entries name each.1)
      (means-if (bytes_eq entry.0 name) entry.1 each.0)

  pub means-append : (xs ys : List Entry) → EachMeans xs → EachMeans ys → EachMeans (xs ++ ys)
  means-append [] ys xs_mean ys_mean = ys_mean
  means-append (x ∷ xs) ys xs_mean ys_mean = (xs_mean.0, means-append xs ys xs_mean.1 ys_mean)
