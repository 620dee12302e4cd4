-- Transfers in pieces: what was taken, and then what a call does.
use Rattle.std.proofs.Common.{◌≡◌, ℕ, ◌+◌, ◌-◌, ◌^◌, ◌<◌, ◌≤◌, List, [], ◌++◌, arith, length, length-append, length-take-le, take, drop, Option, subst, sym, ap, ◌∙◌, append-nil}
use Rattle.std.proofs.Math.Nat.{min-eq_left}
use Rattle.std.proofs.lemmas.List.{take_rest}
use Rattle.std.proofs.Math.Seq.{drop-drop, take-add}
use Rattle.std.specs.Io.KnownBytes.{Appends, Keeps}
use Rattle.std.proofs.KnownBytes.{Appends-nil, Appends-kept, Appends-trans}
use Rattle.ttcnx_streams.specs.Counts.{one_more}
use Rattle.ttcnx_streams.specs.Transfers.{Device, Took, TookPart}

-- the count is below its greatest, so it grows
pub counts-on : (before mid after : ℕ) → mid ≡ before → after ≡ one_more mid → before < 2 ^ 64 - 1 → after ≡ before + 1
counts-on before mid after same more below = more ∙ ap one_more same ∙ min-eq_left {n = before + 1} {m = 2 ^ 64 - 1} (omega arith)

-- a call that keeps what is known appends nothing
pub keeps-all : (a b : Option (List ℕ)) → Keeps a b → Appends a b []
keeps-all a b kept = Appends-kept a a b [] (Appends-nil a) kept

-- what stands behind a piece of the rest
pub rest-behind : (bytes rest : List ℕ) (count more : ℕ) → rest ≡ drop count bytes → take (length rest - more) (drop more rest) ≡ drop (count + more) bytes
rest-behind bytes rest count more behind = take_rest rest more ∙ ap (drop more) behind ∙ drop-drop more count bytes

-- a piece more of bytes
pub took-more : {before mid after : Device} (bytes rest : List ℕ) (count more : ℕ) → rest ≡ drop count bytes → Took before mid (take count bytes)
    → Appends mid.bytes after.bytes (take more rest) → after.failed ≡ mid.failed → Took before after (take (count + more) bytes)
took-more bytes rest count more behind took appends same = record {
  taken = subst (Appends _ _) (ap (λ l. take count bytes ++ take more l) behind ∙ sym (take-add count more bytes)) (Appends-trans _ _ _ _ _ took.taken appends);
  none_failed = same ∙ took.none_failed;
}

-- a beginning was taken, and then a call failed that took nothing
pub took_part : {before mid after : Device} (bytes : List ℕ) (count : ℕ) → Took before mid (take count bytes) → Appends mid.bytes after.bytes []
    → after.failed ≡ one_more mid.failed → before.failed < 2 ^ 64 - 1 → TookPart before after bytes
took_part bytes count took nothing more below = record {
  count = count;
  taken = subst (Appends _ _) (append-nil (take count bytes)) (Appends-trans _ _ _ _ _ took.taken nothing);
  one_failed = counts-on _ _ _ took.none_failed more below;
}

-- a piece that there was room for
pub has-room : (text piece : List ℕ) (n most : ℕ) → n ≤ length piece → length piece ≤ most - length text → length text ≤ most → length (text ++ take n piece) ≤ most
has-room text piece n most given room before = omega (arith, length-append text (take n piece), length-take-le n piece given)
