-- The limits of definitions, this tool's choice.
use Rattle.std.specs.Prelude.{ℕ}

-- the most records, constants and templates, or altsteps that may refer one to the next
abbrev pub longest_chain : ℕ
longest_chain = 200

-- the most fields that a record may have, those of the records in it among them
abbrev pub most_fields : ℕ
most_fields = 1000

-- the most parts that a constant, a template or an altstep may have, written out
abbrev pub most_parts : ℕ
most_parts = 10000
