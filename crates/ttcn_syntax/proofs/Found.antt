-- A piece that stands at the front of a list: the bytes that it has, and those behind it.
use Rattle.std.proofs.Common.{◌≡◌, ℕ, List, ◌++◌, length}
use Rattle.ttcn_syntax.specs.declared.piece.Piece.{Piece}
use Rattle.ttcn_syntax.specs.Cut.{Fits}

pub record Found (rest : List ℕ) (found : Piece × ℕ) : Type 0 where
  pub bytes : List ℕ
  pub after : List ℕ
  pub is : bytes ++ after ≡ rest
  pub count : length bytes ≡ found.1
  pub fits : Fits bytes after found.0
