-- Readers in pieces: what several functions of the code read one behind the other is what one reader reads.
use Rattle.std.proofs.Common.{◌≡◌, List, refl}
use Rattle.std.specs.Prelude.{None, Some}
use Rattle.ttcn_syntax.specs.declared.token.Spanned.{Spanned}
use Rattle.parse_reader.specs.internal.Reading.{Parsed, Parser, and_then}

-- a step that a piece begins with is the first step of all
pub piece : {A B C : Type 0} (o : Parsed A) (f : A → Parser B) (k : B → Parser C) (g : A → Parser C)
    → ((a : A) (rest : List Spanned) → and_then (f a rest) k ≡ g a rest) → and_then (and_then o f) k ≡ and_then o g
piece (Some p) f k g same = same p.0 p.1
piece None f k g same = refl

pub step : {A C : Type 0} (o : Parsed A) (f g : A → Parser C) → ((a : A) (rest : List Spanned) → f a rest ≡ g a rest) → and_then o f ≡ and_then o g
step (Some p) f g same = same p.0 p.1
step None f g same = refl

-- the same of a piece of a piece
pub piece-within : {A B C D : Type 0} (o : Parsed A) (f : A → Parser B) (h : B → Parser C) (k : C → Parser D) (g : A → Parser D)
    → ((a : A) (rest : List Spanned) → and_then (and_then (f a rest) h) k ≡ g a rest) → and_then (and_then (and_then o f) h) k ≡ and_then o g
piece-within (Some p) f h k g same = same p.0 p.1
piece-within None f h k g same = refl

pub again : {A B C : Type 0} (o : Parsed A) (g : A → Parser B) (f : B → Parser C) → and_then o (λ a r. and_then (g a r) f) ≡ and_then (and_then o g) f
again (Some p) g f = refl
again None g f = refl
