-- What a file of rows has.
use Rattle.std.specs.Prelude.{ℕ, List, Bool, codes, nat_eq, count_by}
use Rattle.std.specs.List.{starts_with}
use Rattle.std.specs.Str.Iter.{HasSubslice}

-- the line begins a row
abbrev pub is_title : List ℕ → Bool
is_title line = starts_with nat_eq line (codes "== ")

-- how many of the lines begin a row
abbrev pub title_count : List (List ℕ) → ℕ
title_count lines = count_by is_title lines

-- the text has a repeat, or what looks like the beginning of one
abbrev pub HasRepeat : List ℕ → Type 0
HasRepeat text = HasSubslice text (codes "<<")
