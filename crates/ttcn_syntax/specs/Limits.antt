-- The limit of texts, this tool's choice.
use Rattle.std.specs.Prelude.{ℕ}

-- the most bytes that a text may have
abbrev pub longest_text : ℕ
longest_text = 1048576
