-- Names that are declared one after the other, and taken back.
use mathlib.Core.Path.{fun_ext}
use Rattle.std.proofs.Common.{◌≡◌, refl, sym, ap, ◌∙◌, ℕ, Bool, true, false, true≢false, List, [], ◌∷◌, ◌++◌, Option, Some, None, is_some, bytes_eq, length, take, arith, length-append, if◌then◌else◌}
use Rattle.std.proofs.Math.Seq.{take-append_seam}
use Rattle.std.proofs.lemmas.Slice.Eq.{bytes_eq-Decides}
use Rattle.std.specs.Option.{IsSome, option_or, option_to_list}
use Rattle.check_scope.specs.Names.{Entry, Names}
use Rattle.check_scope.specs.declared.names.Meaning.{Meaning}
use Rattle.graph_sites.specs.declared.own.Kept.{Kept}
use Rattle.std.specs.Borrow.{Bor}
use Rattle.std.specs.HashMap.{HashMap, IsUnchanged}
use Rattle.std.specs.Map.{lookup}
use Rattle.std.specs.declared.hash.BuildHasherDefault.{BuildHasherDefault}
use Rattle.std.specs.declared.hash.FoldHasher.{FoldHasher}
use Rattle.graph_sites.specs.internal.KeptNames.{AreKept, entries_of, latest_in, meant}
use Rattle.graph_sites.specs.internal.OwnNames.{own_names}

pub entries_of-push : (before : List Entry) (kept : List Kept) (k : Kept) → entries_of before (kept ++ k ∷ []) ≡ (k.name.now, k.meaning) ∷ entries_of before kept
entries_of-push before [] k = refl
entries_of-push before (first ∷ kept) k = entries_of-push ((first.name.now, first.meaning) ∷ before) kept k

pub kept-push : (before : List Entry) (kept : List Kept) (k : Kept) → AreKept before kept → k.before ≡ own_names (entries_of before kept) k.name.now
    → AreKept before (kept ++ k ∷ [])
kept-push before [] k all is = (is, tt)
kept-push before (first ∷ kept) k all is = (all.0, kept-push ((first.name.now, first.meaning) ∷ before) kept k all.1 is)

pub kept-pop : (before : List Entry) (kept : List Kept) (k : Kept) → AreKept before (kept ++ k ∷ [])
    → AreKept before kept × (k.before ≡ own_names (entries_of before kept) k.name.now)
kept-pop before [] k all = (tt, all.0)
kept-pop before (first ∷ kept) k all =
    let rest = kept-pop ((first.name.now, first.meaning) ∷ before) kept k all.1 in ((all.0, rest.0), rest.1)

meant-put : (b : Bool) (v : Option Meaning) (o : Option (Option Meaning)) → meant (if b then Some v else o) ≡ (if b then v else meant o)
meant-put true v o = refl
meant-put false v o = refl

by_name : (b : Bool) (m : Meaning) (o : Option Meaning) → (if b then Some m else o) ≡ option_or (if b then Some m else None) o
by_name true m o = refl
by_name false m o = refl

-- a table of the latest meanings, with one more name
pub latest-declared : (name : List ℕ) (m : Meaning) (entries : List Entry) (new old : List ℕ → Option (Option Meaning))
    → ((q : List ℕ) → new q ≡ (if bytes_eq name q then Some (Some m) else old q)) → (λ q. meant (old q)) ≡ own_names entries
    → (λ q. meant (new q)) ≡ own_names ((name, m) ∷ entries)
latest-declared name m entries new old put is = fun_ext (λ q.
    ap meant (put q) ∙ meant-put (bytes_eq name q) (Some m) (old q) ∙ ap (λ (o : Names). if bytes_eq name q then Some m else o q) is ∙ by_name (bytes_eq name q) m (own_names entries q))

back : (name q : List ℕ) (m : Meaning) (entries : List Entry) (b : Bool) → bytes_eq name q ≡ b
    → (if b then own_names entries name else option_or (if b then Some m else None) (own_names entries q)) ≡ own_names entries q
back name q m entries true is = ap (own_names entries) ((bytes_eq-Decides name q).0 is)
back name q m entries false is = refl

-- and without the last one
pub latest-retracted : (name : List ℕ) (m : Meaning) (before : Option Meaning) (entries : List Entry) (new old : List ℕ → Option (Option Meaning))
    → ((q : List ℕ) → new q ≡ (if bytes_eq name q then Some before else old q)) → (λ q. meant (old q)) ≡ own_names ((name, m) ∷ entries)
    → before ≡ own_names entries name → (λ q. meant (new q)) ≡ own_names entries
latest-retracted name m before entries new old put is kept = fun_ext (λ q.
    ap meant (put q) ∙ meant-put (bytes_eq name q) before (old q) ∙ ap (λ (o : Names). if bytes_eq name q then before else o q) is
    ∙ ap (λ o. if bytes_eq name q then o else own_names ((name, m) ∷ entries) q) kept ∙ back name q m entries (bytes_eq name q) refl)

-- a name that is declared is found
pub not-absent : (name : List ℕ) (m : Meaning) (entries : List Entry) (old : List ℕ → Option (Option Meaning))
    → (λ q. meant (old q)) ≡ own_names ((name, m) ∷ entries) → old name ≡ None → ⊥
not-absent name m entries old is absent =
    let none = sym (ap meant absent) ∙ ap (λ (o : Names). o name) is ∙ sym (by_name (bytes_eq name name) m (own_names entries name)) in
    let itself = (bytes_eq-Decides name name).1 refl in
    let found = none ∙ ap (λ b. if b then Some m else own_names entries name) itself in
    true≢false (sym (ap is_some found))

-- what was pushed goes
pub popped : (old new : List Kept) (k : Kept) (last : Option Kept) → IsSome last → old ++ k ∷ [] ≡ new ++ option_to_list last → new ≡ old
popped old new k None some is = absurd (true≢false (sym some))
popped old new k (Some l) some is =
    let one = length-append old (k ∷ []) in
    let other = length-append new (l ∷ []) in
    let same = ap length is in
    let count : length new ≡ length old = omega (arith, one, other, same) in
    sym (take-append_seam new (l ∷ [])) ∙ ap (take (length new)) (sym is) ∙ ap (λ n. take n (old ++ k ∷ [])) count ∙ take-append_seam old (k ∷ [])

pub unchanged : (old new : HashMap (Bor (List ℕ)) (Option Meaning) (BuildHasherDefault FoldHasher)) → IsUnchanged old new → latest_in new ≡ latest_in old
unchanged old new is = fun_ext (λ name. ap (λ entries. meant (lookup (λ key. bytes_eq name key.now) entries)) is)
