-- A name of the module stands for what is defined at the position that it means.
use Rattle.std.proofs.Common.{◌≡◌, ℕ, suc, ◌+◌, Bool, true, false, ◌||◌, List, [], ◌∷◌, ◌++◌, map, bytes_eq, slice_get, Option, Some, None, option_map, if◌then◌else◌, refl, sym, ap, subst, ◌∙◌, arith}
use Rattle.std.specs.List.{list_any}
use Rattle.std.specs.Option.{option_or}
use Rattle.std.proofs.lemmas.Slice.Eq.{bytes_eq-Decides}
use Rattle.ttcn_syntax.specs.declared.tree.definition.Definition.{Definition}
use Rattle.ttcn_syntax.specs.declared.tree.definition.DefinitionKind.{DefinitionKind}
use Rattle.ttcn_syntax.specs.declared.tree.definition.DefinitionKind.TheVariants as kind
use Rattle.ttcn_syntax.specs.declared.tree.definition.EnumeratedType.{EnumeratedType}
use Rattle.ttcn_syntax.specs.declared.tree.definition.Enumerator.{Enumerator}
use Rattle.ttcn_syntax.specs.declared.tree.statement.Constant.{Constant}
use Rattle.check_scope.specs.Names.{Entry, constant_at, constant_entries, constant_of, entries_at, entries_from, kind_at, listed, module_names}
use Rattle.check_scope.specs.declared.names.Meaning.{Meaning}
use Rattle.check_scope.specs.declared.names.Meaning.TheVariants as meaning
use Rattle.laws_statements.specs.Named.{IsDefinedAs}

pub same-name : (a b : List ℕ) → bytes_eq a b ≡ true → a ≡ b
same-name a b = (bytes_eq-Decides a b).0

own-name : (a : List ℕ) → bytes_eq a a ≡ true
own-name a = (bytes_eq-Decides a a).1 refl

some-is : {A : Type 0} {a b : A} → Some a ≡ Some b → a ≡ b
some-is h = cc

from-zero : (P : ℕ → Type 0) (k : ℕ) → P k → P (0 + k)
from-zero P k holds = let same : k ≡ 0 + k = omega arith in subst P same holds

module _ (P : List ℕ → Meaning → Type 0) where
  -- P holds of each entry
  abbrev Each : List Entry → Type 0
  Each [] = Unit {0}
  Each (entry ∷ entries) = P entry.0 entry.1 × Each entries

  each-append : (xs ys : List Entry) → Each xs → Each ys → Each (xs ++ ys)
  each-append [] ys left right = right
  each-append (x ∷ xs) ys left right = (left.0, each-append xs ys left.1 right)

  -- and so of what is listed
  listed-holds : (entries : List Entry) → Each entries → (name : List ℕ) (m : Meaning) → listed entries name ≡ Some m → P name m
  listed-holds [] each name m is = absurd (let e = is in cc)
  listed-holds (entry ∷ entries) each name m is = by (listed-holds entries each.1 name m) (listed entries name) refl is
    where
      here : (b : Bool) → bytes_eq entry.0 name ≡ b → (if b then Some entry.1 else None) ≡ Some m → P name m
      here true same found = subst (λ n. P n m) (same-name entry.0 name same) (subst (P entry.0) (some-is found) each.0)
      here false same found = absurd (let e = found in cc)

      by : (listed entries name ≡ Some m → P name m) → (later : Option Meaning) → listed entries name ≡ later → option_or later (if bytes_eq entry.0 name then Some entry.1 else None) ≡ Some m → P name m
      by holds (Some x) at found = holds (at ∙ found)
      by holds None at found = here (bytes_eq entry.0 name) refl found

module _ (definitions : List Definition) where
  abbrev Fits : List ℕ → Meaning → Type 0
  Fits = IsDefinedAs definitions

  enumerators-fit : (at : ℕ) (e : EnumeratedType) → kind_at definitions at ≡ Some (kind.Enumerated e) → (those : List Enumerator)
      → ((name : List ℕ) → list_any (λ n. bytes_eq n.name name) those ≡ true → list_any (λ n. bytes_eq n.name name) e.enumerators ≡ true)
      → Each Fits (map (λ n. (n.name, meaning.Enumerator at)) those)
  enumerators-fit at e is [] among = tt
  enumerators-fit at e is (n ∷ those) among = (
    (e, is, among n.name (ap (λ b. b || list_any (λ x. bytes_eq x.name n.name) those) (own-name n.name))),
    enumerators-fit at e is those (λ name there. among name (or-true (bytes_eq n.name name) (list_any (λ x. bytes_eq x.name name) those) there)),
  )
    where
      or-true : (a b : Bool) → b ≡ true → (a || b) ≡ true
      or-true true b h = refl
      or-true false b h = h

  constants-fit : (at item : ℕ) (those : List Constant) → ((k : ℕ) (c : Constant) → slice_get those k ≡ Some c → constant_at definitions at (item + k) ≡ Some c)
      → Each Fits (constant_entries at item those)
  constants-fit at item [] stands = tt
  constants-fit at item (c ∷ those) stands =
      let first : item + 0 ≡ item = omega arith in (
        (c, subst (λ n. constant_at definitions at n ≡ Some c) first (stands 0 c refl), refl),
        constants-fit at (item + 1) those (λ k d there.
            let next : item + suc k ≡ item + 1 + k = omega arith in
            subst (λ n. constant_at definitions at n ≡ Some d) next (stands (suc k) d there)),
      )

  entries-fit : (at : ℕ) (k : DefinitionKind) → kind_at definitions at ≡ Some k → Each Fits (entries_at at k)
  entries-fit at (kind.Record r) is = ((r, is, refl), tt)
  entries-fit at (kind.Enumerated e) is = ((e, is, refl), enumerators-fit at e is e.enumerators (λ name there. there))
  entries-fit at (kind.Port p) is = ((p, is, refl), tt)
  entries-fit at (kind.Component c) is = ((c, is, refl), tt)
  entries-fit at (kind.Constants cs) is =
      constants-fit at 0 cs.constants (λ k c there. from-zero (λ n. constant_at definitions at n ≡ Some c) k (subst (λ d. constant_of d k ≡ Some c) (sym is) there))
  entries-fit at (kind.Template t) is = ((t, is, refl), tt)
  entries-fit at (kind.Function f) is = ((f, is, refl), tt)
  entries-fit at (kind.Altstep a) is = ((a, is, refl), tt)
  entries-fit at (kind.Testcase t) is = ((t, is, refl), tt)

  all-fit : (at : ℕ) (those : List Definition) → ((k : ℕ) (d : Definition) → slice_get those k ≡ Some d → slice_get definitions (at + k) ≡ Some d)
      → Each Fits (entries_from at those)
  all-fit at [] stands = tt
  all-fit at (d ∷ those) stands =
      let first : at + 0 ≡ at = omega arith in
      let here : slice_get definitions at ≡ Some d = subst (λ n. slice_get definitions n ≡ Some d) first (stands 0 d refl) in
      each-append Fits (entries_at at d.kind) (entries_from (at + 1) those)
      (entries-fit at d.kind (ap (λ found. option_map (λ x. x.kind) found) here))
      (all-fit (at + 1) those (λ k x there.
      let next : at + suc k ≡ at + 1 + k = omega arith in
      subst (λ n. slice_get definitions n ≡ Some x) next (stands (suc k) x there)))

  pub name_defined : (name : List ℕ) (m : Meaning) → module_names definitions name ≡ Some m → IsDefinedAs definitions name m
  name_defined name m is =
      listed-holds Fits (entries_from 0 definitions) (all-fit 0 definitions (λ k d there. from-zero (λ n. slice_get definitions n ≡ Some d) k there)) name m is
