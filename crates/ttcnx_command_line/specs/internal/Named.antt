-- What is built with lists of names, which lie somewhere in memory.
use Rattle.std.specs.Prelude.{◌≡◌, List}
use Rattle.std.specs.Borrow.{Bor}
use Rattle.clap.specs.Walk.{Text, texts}
use Rattle.ttcnx_command_line.specs.App.{Lists, format_words, lint_words, verdict_words}

-- it holds for some list of these words
abbrev pub HoldsAtNames : List Text → (Bor (List (Bor Text)) → Type 0) → Type 0
HoldsAtNames words P = (names : Bor (List (Bor Text))) × (texts names.now ≡ words) × P names

-- the lists have the words that name formats and verdicts
pub record HasWords (lists : Lists) : Type 0 where
  pub formats : texts lists.formats.now ≡ format_words
  pub lint_formats : texts lists.lint_formats.now ≡ lint_words
  pub verdicts : texts lists.verdicts.now ≡ verdict_words
