-- A reader whose bytes are known gives one text.
use Rattle.std.proofs.Common.{◌≡◌, ℕ, ◌≤◌, List, ◌++◌, length, take, Option, None, Some, IfSome, inl, inr, sym, ap, ◌∙◌, append-nil, take_all}
use Rattle.std.proofs.Math.Seq.{take-append_seam}
use Rattle.std.specs.Prelude.{◌⊎◌}
use Rattle.std.specs.Io.KnownBytes.{Consumes, IsAtEnd}
use Rattle.ttcnx_streams.specs.Transfers.{Device, WasRead}

first_bytes : (before after : Option (List ℕ)) (text : List ℕ) (most : ℕ) → Consumes before after text → length text ≤ most → IsAtEnd after ⊎ (length text ≡ most)
    → IfSome before (λ bytes. text ≡ take most bytes)
first_bytes None after text most given fits whole = tt
first_bytes (Some bytes) None text most given fits whole = absurd given
first_bytes (Some bytes) (Some rest) text most given fits (inl end) =
    let all : bytes ≡ text = given ∙ ap (λ l. text ++ l) end ∙ append-nil text in
    sym (ap (take most) all ∙ take_all most text fits)
first_bytes (Some bytes) (Some rest) text most given fits (inr full) =
    sym (ap (take most) given ∙ ap (λ n. take n (text ++ rest)) (sym full) ∙ take-append_seam text rest)

-- it is the beginning of these bytes
pub known_text : {most : ℕ} {before after : Device} (text : List ℕ) → WasRead most before after text → IfSome before.bytes (λ bytes. text ≡ take most bytes)
known_text text read = first_bytes _ _ text _ read.gave.given read.gave.at_most read.whole
