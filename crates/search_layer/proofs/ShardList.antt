-- The shards of candidates that follow one another, one more at a time.
use Rattle.std.proofs.Common.{◌≡◌, ℕ, ◌+◌, ◌-◌, ◌<◌, ◌≤◌, List, [], ◌∷◌, ◌++◌, length, get_or, refl, sym, ap, subst, ◌∙◌, length-append, arith}
use Rattle.std.specs.Prelude.{Option, Some}
use Rattle.std.proofs.lemmas.List.{get_or_append_left, get_or_push}
use Rattle.std.proofs.lemmas.Option.{same_Some, slice_get_read}
use mathlib.Core.Logic.{dite}
use native.Mathlib.Decide.{ℕ_discrete}
use Rattle.search_shards.specs.Sharded.{shard_of}
use Rattle.search_layer.specs.declared.visited.Candidate.{Candidate}
use Rattle.search_layer.specs.internal.Shards.{AreShardsFrom, IsShardAt}

module _ {C L : Type 0} (input : C → List (List ℕ)) (shards : ℕ) (cs : List (Candidate (Option C) L)) where
  -- the shard of the candidate at a position
  pub shard-here : (at number : ℕ) (c : Candidate (Option C) L) → at < length cs → c ≡ get_or cs at c → ((s : C) → c.state ≡ Some s → number ≡ shard_of input shards s) → IsShardAt input shards cs at number
  shard-here at number c low is own d s there given =
      let same = same_Some c d (sym (slice_get_read cs (length cs) at c refl low is) ∙ there) in
      own s (ap (λ (x : Candidate (Option C) L). x.state) same ∙ given)

  pub shards-more : (from at : ℕ) (numbers : List ℕ) (number : ℕ) → from ≤ at → length numbers ≡ at - from → AreShardsFrom input shards cs from numbers → IsShardAt input shards cs at number
      → AreShardsFrom input shards cs from (numbers ++ number ∷ [])
  shards-more from at numbers number low count each here k within = dite (ℕ_discrete (length numbers) k)
      (λ last.
      let place : at ≡ from + k = omega arith in
      subst (λ n. IsShardAt input shards cs (from + k) n) (sym (get_or_push numbers number 0 k last)) (subst (λ i. IsShardAt input shards cs i number) place here))
      (λ earlier.
      let size = length-append numbers (number ∷ []) in
      let inside : k < length numbers = omega arith in
      subst (λ n. IsShardAt input shards cs (from + k) n) (sym (get_or_append_left numbers (number ∷ []) 0 k inside)) (each k inside))
