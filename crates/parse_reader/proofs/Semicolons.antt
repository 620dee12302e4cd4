-- What the loop over semicolons goes by.
use Rattle.std.proofs.Common.{◌≡◌, ◌<◌, true, false, List, [], ◌∷◌, length, refl, arith}
use Rattle.ttcn_syntax.specs.declared.token.Spanned.{Spanned}
use Rattle.ttcn_syntax.specs.declared.token.Symbol.{Symbol}
use Rattle.ttcn_syntax.specs.declared.token.Symbol.TheVariants as mark
use Rattle.parse_reader.specs.internal.Reading.{after_semicolons, behind, sees}

pub sees_something : (s : Symbol) (ts : List Spanned) → sees s ts ≡ true → length (behind ts) < length ts
unfolding sees
sees_something s [] h = cc
sees_something s (k ∷ ts) h = omega arith

pub over_semicolon : (ts : List Spanned) → sees mark.Semicolon ts ≡ true → after_semicolons ts ≡ after_semicolons (behind ts)
unfolding sees after_semicolons
over_semicolon [] h = cc
over_semicolon (k ∷ ts) h = rw h refl

pub no_semicolon : (ts : List Spanned) → sees mark.Semicolon ts ≡ false → after_semicolons ts ≡ ts
unfolding sees after_semicolons
no_semicolon [] h = refl
no_semicolon (k ∷ ts) h = rw h refl
