use Rattle.std.proofs.Common.{◌≡◌, [], length, string_bytes}
use denote.Text.{Utf8}
use denote.Shadow.{shadow}
use Rattle.test_corpus.specs.Rows.{HasRepeat}
use Rattle.test_corpus.proofs.repeat.expand_repeats.Given as goal

-- what is left is text, and all of it where there is no repeat
abbrev pub invariant-loop-before : goal.invariant-loop-before
invariant-loop-before l = shadow (Utf8 l.rest) × (¬ HasRepeat l.text → (string_bytes l.whole ≡ []) × (l.rest ≡ l.text))

-- each turn passes at least over the brackets of a repeat
abbrev pub decreases-loop-before : goal.decreases-loop-before
decreases-loop-before l = length l.rest
