-- Places in a text: lines and columns from 1, columns in bytes, lines ended by a line feed.
use Rattle.std.specs.Prelude.{ℕ, ◌+◌, ◌==◌, List, if◌then◌else◌}
use Rattle.std.specs.List.{count_by, suffix_len}
use Rattle.ttcn_syntax.specs.declared.place.Span.{Span}
use Rattle.ttcn_syntax.specs.Characters.{is_within_line}

-- the place behind these bytes of a text: one line more than line feeds, and one column more than
-- bytes behind the last line feed
abbrev pub place_behind : List ℕ → Span
place_behind before = record { line = 1 + count_by (λ b. b == 10) before; column = 1 + suffix_len is_within_line before }

-- the place one byte on
abbrev pub next_place : Span → ℕ → Span
next_place place b =
    if b == 10
    then record { line = place.line + 1; column = 1 }
    else record { line = place.line; column = place.column + 1 }
