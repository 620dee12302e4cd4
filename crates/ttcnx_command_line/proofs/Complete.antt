-- Words that have no fault give one of the eight subcommands, with all that it takes.
use Rattle.std.proofs.Common.{◌≡◌, ◌∙◌, ◌⊎◌, ◌==◌, ◌-◌, ◌&&◌, ◌||◌, ℕ, Bool, cond, inl, inr, true, false, not, refl, sym, ap, subst, arith, List, [], ◌∷◌, Option, Some, None, is_some, option_map, codes, true≢false}
use Rattle.std.specs.List.{find, list_any}
use Rattle.std.specs.Prelude.{option_and_then, slice_get}
use Rattle.std.specs.Option.{option_map_or}
use Rattle.std.specs.Str.{bytes_eq}
use Rattle.std.proofs.lemmas.Slice.Eq.{bytes_eq-Decides}
use Rattle.clap.specs.Facts.{explicit_source}
use Rattle.clap.specs.Values.{read_as, reading_of}
use Rattle.clap.specs.ValueTests.{accepts}
use Rattle.clap.specs.Walk.{Held, Names, finished, settled, walk, Row, Rule, Text, answers_to, first_of, nothing_held, one_of, row_text, rows_after, stop_after, walk_from}
use Rattle.clap.specs.Simple.{App, Shape, built, entered, label_of, names_of, new_rule, rows_at, subcommand_of}
use Rattle.clap.specs.Faults.{defaults_fault, entered_fault, fault_of, level_fault, settle_fault, walk_fault}
use Rattle.clap.specs.Kinds.{Kinds, check_kinds, or_else}
use Rattle.clap.specs.Takes.{is_given}
use Rattle.clap.specs.declared.builder.value_parser.ValueParser.{ValueParser}
use Rattle.clap.specs.declared.builder.value_parser.ValueParser.TheVariants as vp
use Rattle.clap.proofs.ValueTestLemmas.{accepts-Accepts}
use Rattle.ttcn_syntax.specs.declared.tree.statement.Verdict.{Verdict}
use Rattle.ttcn_syntax.specs.declared.tree.statement.Verdict.TheVariants as verdict
use Rattle.ttcnx_command_line.specs.App.{format_words, lint_words, most_expiries, names_of_words, ttcnx_app, verdict_words}
use Rattle.ttcnx_command_line.specs.Command.{format_word, lint_format_word, verdict_word}
use Rattle.ttcnx_command_line.specs.declared.command.Format.{Format}
use Rattle.ttcnx_command_line.specs.declared.command.Format.TheVariants as format
use Rattle.ttcnx_command_line.specs.declared.command.LintFormat.{LintFormat}
use Rattle.ttcnx_command_line.specs.declared.command.LintFormat.TheVariants as lint_format
use Rattle.ttcnx_command_line.specs.internal.Given.{GivesCommand, GivesFlag, GivesFormat, GivesLintFormat, GivesNumber, GivesRun, GivesRunFile, GivesText, GivesTexts, MayGiveNumber, MayGiveVerdict}
use Rattle.ttcnx_command_line.proofs.Walks.{IsNoHelp, none-of, walk-enters}
use Rattle.ttcnx_command_line.proofs.Fills.{AllOf, Fills, FirstPasses, HasValue, IsWanted, MayHave, level-rows, level-values, no-check}

-- ---- from a first value to what is read

text-from : (rows : List Row) (a : Rule) → HasValue rows a → GivesText rows a.id
text-from rows a v = rw v.is (go v.row.values v.first)
  where
    go : (values : List Text) → FirstPasses a values → (text : Text) × (slice_get values 0 ≡ Some text)
    go [] h = absurd h
    go (x ∷ xs) h = (x, refl)

first-passed : (rows : List Row) (a : Rule) (q : ValueParser) → a.parser ≡ Some q → HasValue rows a
    → (text : Text) × (first_of a.id rows ≡ Some text) × (accepts a.ignore_case q text ≡ true)
first-passed rows a q is v = rw v.is (go v.row.values v.first)
  where
    go : (values : List Text) → FirstPasses a values → (text : Text) × (slice_get values 0 ≡ Some text) × (accepts a.ignore_case q text ≡ true)
    go [] h = absurd h
    go (x ∷ xs) h = (x, refl, rw is at h)

passed : (rows : List Row) (a : Rule) (q : ValueParser) → a.parser ≡ Some q → HasValue rows a
    → (text : Text) × (one_of a.id rows ≡ Some (read_as (reading_of q) text)) × (accepts a.ignore_case q text ≡ true)
passed rows a q is v = rw (v.is, v.reading, is) (go v.row.values v.first)
  where
    go : (values : List Text) → FirstPasses a values
        → (text : Text) × (option_map (read_as (reading_of q)) (slice_get values 0) ≡ Some (read_as (reading_of q) text)) × (accepts a.ignore_case q text ≡ true)
    go [] h = absurd h
    go (x ∷ xs) h = (x, refl, rw is at h)

number-from : (rows : List Row) (a : Rule) (low high : ℕ) → a.parser ≡ Some (vp.Unsigned low high) → HasValue rows a → GivesNumber rows a.id low high
number-from rows a low high is v =
    let p = passed rows a (vp.Unsigned low high) is v in
    (p.0, p.1, accepts-Accepts a.ignore_case (vp.Unsigned low high) p.0 p.2)

flag-from : (rows : List Row) (a : Rule) → a.parser ≡ Some vp.Bool → HasValue rows a → GivesFlag rows a.id
flag-from rows a is v = passed rows a vp.Bool is v

-- the values of an argument
texts-from : (rows : List Row) (a : Rule) → HasValue rows a → GivesTexts rows a.id
texts-from rows a v = (v.row.values, ap (option_map (λ r. r.values)) v.is)

-- ---- words that name something

abbrev IsOneOf : List Text → Text → Type 0
IsOneOf [] text = ⊥
IsOneOf (word ∷ words) text = (text ≡ word) ⊎ IsOneOf words text

one-of-words : (words : List Text) (text : Text) → accepts false (vp.Names (names_of_words words)) text ≡ true → IsOneOf words text
one-of-words [] text e = absurd (true≢false (sym e))
one-of-words (word ∷ words) text e = go (bytes_eq word text) refl e (one-of-words words text)
  where
    go : (b : Bool) → bytes_eq word text ≡ b → (b || accepts false (vp.Names (names_of_words words)) text) ≡ true
        → (accepts false (vp.Names (names_of_words words)) text ≡ true → IsOneOf words text) → IsOneOf (word ∷ words) text
    go true hit any rest = inl (sym ((bytes_eq-Decides word text).0 hit))
    go false miss any rest = inr (rest any)

word-from : (rows : List Row) (a : Rule) (words : List Text) → a.ignore_case ≡ false → a.parser ≡ Some (vp.Names (names_of_words words)) → HasValue rows a
    → (text : Text) × (first_of a.id rows ≡ Some text) × IsOneOf words text
word-from rows a words as_written is v =
    let text = first-passed rows a (vp.Names (names_of_words words)) is v in
    (text.0, text.1, one-of-words words text.0 (subst (λ b. accepts b (vp.Names (names_of_words words)) text.0 ≡ true) as_written text.2))

named-format : (text : Text) → IsOneOf format_words text → (f : Format) × (text ≡ format_word f)
named-format text (inl e) = (format.Text, e)
named-format text (inr (inl e)) = (format.Json, e)
named-format text (inr (inr (inl e))) = (format.Mermaid, e)
named-format text (inr (inr (inr (inl e)))) = (format.Svg, e)
named-format text (inr (inr (inr (inr none)))) = absurd none

named-lint-format : (text : Text) → IsOneOf lint_words text → (f : LintFormat) × (text ≡ lint_format_word f)
named-lint-format text (inl e) = (lint_format.Text, e)
named-lint-format text (inr (inl e)) = (lint_format.Json, e)
named-lint-format text (inr (inr none)) = absurd none

named-verdict : (text : Text) → IsOneOf verdict_words text → (v : Verdict) × (text ≡ verdict_word v)
named-verdict text (inl e) = (verdict.None, e)
named-verdict text (inr (inl e)) = (verdict.Pass, e)
named-verdict text (inr (inr (inl e))) = (verdict.Inconc, e)
named-verdict text (inr (inr (inr (inl e)))) = (verdict.Fail, e)
named-verdict text (inr (inr (inr (inr (inl e))))) = (verdict.Error, e)
named-verdict text (inr (inr (inr (inr (inr none))))) = absurd none

format-from : (rows : List Row) (a : Rule) → a.id ≡ codes "format" → a.ignore_case ≡ false → a.parser ≡ Some (vp.Names (names_of_words format_words)) → HasValue rows a
    → GivesFormat rows
format-from rows a own as_written is v =
    let text = word-from rows a format_words as_written is v in
    let f = named-format text.0 text.2 in
    (f.0, subst (λ id. first_of id rows ≡ Some (format_word f.0)) own (text.1 ∙ ap Some f.1))

lint-format-from : (rows : List Row) (a : Rule) → a.id ≡ codes "format" → a.ignore_case ≡ false → a.parser ≡ Some (vp.Names (names_of_words lint_words)) → HasValue rows a
    → GivesLintFormat rows
lint-format-from rows a own as_written is v =
    let text = word-from rows a lint_words as_written is v in
    let f = named-lint-format text.0 text.2 in
    (f.0, subst (λ id. first_of id rows ≡ Some (lint_format_word f.0)) own (text.1 ∙ ap Some f.1))

-- ---- what may be left out

number-if-there : (rows : List Row) (a : Rule) (low high : ℕ) → a.parser ≡ Some (vp.Unsigned low high) → MayHave rows a → MayGiveNumber rows a.id low high
number-if-there rows a low high is may = go (find (λ r. bytes_eq r.id a.id) rows) refl
  where
    go : (o : Option Row) → find (λ r. bytes_eq r.id a.id) rows ≡ o → MayGiveNumber rows a.id low high
    go None none = inl (ap (option_and_then row_text) none, ap (option_and_then (λ r. slice_get r.values 0)) none)
    go (Some r) found = inr (number-from rows a low high is (may r found))

verdict-if-there : (rows : List Row) (a : Rule) → a.ignore_case ≡ false → a.parser ≡ Some (vp.Names (names_of_words verdict_words)) → MayHave rows a → MayGiveVerdict rows a.id
verdict-if-there rows a as_written is may = go (find (λ r. bytes_eq r.id a.id) rows) refl
  where
    go : (o : Option Row) → find (λ r. bytes_eq r.id a.id) rows ≡ o → MayGiveVerdict rows a.id
    go None none = inl (ap (option_and_then (λ r. slice_get r.values 0)) none)
    go (Some r) found =
        let text = word-from rows a verdict_words as_written is (may r found) in
        let v = named-verdict text.0 text.2 in
        inr (v.0, text.1 ∙ ap Some v.1)

-- ---- the command as clap builds it

abbrev app : App
app = built ttcnx_app

abbrev names : Names
names = names_of app

abbrev at_nth : List Shape → ℕ → Shape
at_nth [] n = app.top
at_nth (s ∷ rest) n = cond (n == 0) s (at_nth rest (n - 1))

abbrev nth_rule : List Rule → ℕ → Rule
nth_rule [] n = new_rule []
nth_rule (a ∷ rest) n = cond (n == 0) a (nth_rule rest (n - 1))

abbrev check_built : Shape
check_built = at_nth app.subs 0

abbrev run_built : Shape
run_built = at_nth app.subs 1

abbrev replay_built : Shape
replay_built = at_nth app.subs 2

abbrev coarsen_built : Shape
coarsen_built = at_nth app.subs 3

abbrev double_built : Shape
double_built = at_nth app.subs 4

abbrev explain_built : Shape
explain_built = at_nth app.subs 5

abbrev lint_built : Shape
lint_built = at_nth app.subs 6

abbrev list_built : Shape
list_built = at_nth app.subs 7

abbrev rule_at : Shape → ℕ → Rule
rule_at s n = nth_rule s.rules n

check-fills : AllOf (Fills check_built.rules) check_built.rules
check-fills = (set, (request, tt))
  where
    set : Fills check_built.rules (rule_at check_built 0)
    set = record { own = refl; action = refl; full = inr (inl (omega arith)); defaults = tt }

    request : Fills check_built.rules (rule_at check_built 1)
    request = record { own = refl; action = refl; full = inl refl; defaults = tt }

run-fills : AllOf (Fills run_built.rules) run_built.rules
run-fills = (
  record { own = refl; action = refl; full = inr (inl (omega arith)); defaults = tt },
  (
    record { own = refl; action = refl; full = inr (inl (omega arith)); defaults = tt },
    (
      record { own = refl; action = refl; full = inr (inl (omega arith)); defaults = tt },
      (
        record { own = refl; action = refl; full = inr (inl (omega arith)); defaults = tt },
        (
          record { own = refl; action = refl; full = inr (inr tt); defaults = refl },
          (
            record { own = refl; action = refl; full = inr (inl (omega arith)); defaults = refl },
            (
              record { own = refl; action = refl; full = inr (inl (omega arith)); defaults = refl },
              (
                record { own = refl; action = refl; full = inr (inl (omega arith)); defaults = refl },
                (
                  record { own = refl; action = refl; full = inr (inr tt); defaults = refl },
                  (
                    record { own = refl; action = refl; full = inr (inr tt); defaults = refl },
                    (
                      record { own = refl; action = refl; full = inr (inl (omega arith)); defaults = tt },
                      (
                        record { own = refl; action = refl; full = inr (inr tt); defaults = refl },
                        (
                          record { own = refl; action = refl; full = inr (inr tt); defaults = refl },
                          (
                            record { own = refl; action = refl; full = inr (inr tt); defaults = refl },
                            (
                              record { own = refl; action = refl; full = inr (inl (omega arith)); defaults = tt },
                              (
                                record { own = refl; action = refl; full = inr (inr tt); defaults = refl },
                                (
                                  record { own = refl; action = refl; full = inr (inl (omega arith)); defaults = tt },
                                  (
                                    record { own = refl; action = refl; full = inr (inl (omega arith)); defaults = tt },
                                    (
                                      record { own = refl; action = refl; full = inl refl; defaults = tt },
                                      tt,
                                    ),
                                  ),
                                ),
                              ),
                            ),
                          ),
                        ),
                      ),
                    ),
                  ),
                ),
              ),
            ),
          ),
        ),
      ),
    ),
  ),
)

-- the commands about a run have these arguments
abbrev run_file_rules : List Rule
run_file_rules = replay_built.rules

run-file-fills : AllOf (Fills run_file_rules) run_file_rules
run-file-fills = (
  record { own = refl; action = refl; full = inr (inl (omega arith)); defaults = tt },
  (
    record { own = refl; action = refl; full = inr (inl (omega arith)); defaults = tt },
    (
      record { own = refl; action = refl; full = inr (inl (omega arith)); defaults = tt },
      (
        record { own = refl; action = refl; full = inr (inl (omega arith)); defaults = tt },
        (
          record { own = refl; action = refl; full = inl refl; defaults = tt },
          tt,
        ),
      ),
    ),
  ),
)

explain-fills : AllOf (Fills explain_built.rules) explain_built.rules
explain-fills = (
  record { own = refl; action = refl; full = inr (inl (omega arith)); defaults = tt },
  (
    record { own = refl; action = refl; full = inr (inl (omega arith)); defaults = tt },
    (
      record { own = refl; action = refl; full = inr (inl (omega arith)); defaults = tt },
      (
        record { own = refl; action = refl; full = inr (inl (omega arith)); defaults = tt },
        (
          record { own = refl; action = refl; full = inr (inl (omega arith)); defaults = refl },
          (
            record { own = refl; action = refl; full = inl refl; defaults = tt },
            tt,
          ),
        ),
      ),
    ),
  ),
)

lint-fills : AllOf (Fills lint_built.rules) lint_built.rules
lint-fills = (
  record { own = refl; action = refl; full = inr (inl (omega arith)); defaults = tt },
  (
    record { own = refl; action = refl; full = inr (inl (omega arith)); defaults = refl },
    (
      record { own = refl; action = refl; full = inl refl; defaults = tt },
      tt,
    ),
  ),
)

-- ---- what one level gives

file-given : (s : Shape) → s.rules ≡ check_built.rules → (words : List Text) → level_fault s [] nothing_held words false [] ≡ [] → GivesText (rows_after s.rules [] words) (codes "FILE")
file-given s is words e =
    let fills = subst (λ rules. AllOf (Fills rules) rules) (sym is) check-fills in
    let v = subst (AllOf (λ a. IsWanted a → HasValue (rows_after s.rules [] words) a)) is (level-values s words fills e) in
    text-from _ _ (v.0 (inl refl))

run-given : (words : List Text) → level_fault run_built [] nothing_held words false [] ≡ [] → GivesRun (rows_after run_built.rules [] words)
run-given words e =
    let v = level-values run_built words run-fills e in
    let may = level-rows run_built words run-fills e in
    record {
      file = text-from _ _ (v.0 (inl refl));
      testcase = text-from _ _ (v.1.0 (inl refl));
      plan = record {
        steps = number-if-there _ _ 0 100000 refl may.1.1.1.0;
        limit = number-from _ _ 1 10000000 refl (v.1.1.1.1.1.0 (inr tt));
        workers = number-from _ _ 1 64 refl (v.1.1.1.1.1.1.0 (inr tt));
        piece = number-from _ _ 1 65536 refl (v.1.1.1.1.1.1.1.0 (inr tt));
      };
      json = flag-from _ _ refl (v.1.1.1.1.1.1.1.1.0 (inr tt));
      explain = flag-from _ _ refl (v.1.1.1.1.1.1.1.1.1.0 (inr tt));
      wishes = record {
        until_complete = flag-from _ _ refl (v.1.1.1.1.0 (inr tt));
        expiries = number-if-there _ _ 0 most_expiries refl may.1.1.1.1.1.1.1.1.1.1.0;
        patient_timers = flag-from _ _ refl (v.1.1.1.1.1.1.1.1.1.1.1.0 (inr tt));
        few_expiries = flag-from _ _ refl (v.1.1.1.1.1.1.1.1.1.1.1.1.0 (inr tt));
        partial = flag-from _ _ refl (v.1.1.1.1.1.1.1.1.1.1.1.1.1.0 (inr tt));
        first = verdict-if-there _ _ refl refl may.1.1.1.1.1.1.1.1.1.1.1.1.1.1.0;
        quiet = flag-from _ _ refl (v.1.1.1.1.1.1.1.1.1.1.1.1.1.1.1.0 (inr tt));
      };
    }

run-file-given : (s : Shape) → s.rules ≡ run_file_rules → (words : List Text) → level_fault s [] nothing_held words false [] ≡ [] → GivesRunFile (rows_after s.rules [] words)
run-file-given s is words e =
    let rows = rows_after s.rules [] words in
    let fills = subst (λ rules. AllOf (Fills rules) rules) (sym is) run-file-fills in
    let v = subst (AllOf (λ a. IsWanted a → HasValue rows a)) is (level-values s words fills e) in
    record {
      file = text-from rows _ (v.0 (inl refl));
      testcase = text-from rows _ (v.1.0 (inl refl));
      run = text-from rows _ (v.1.1.1.0 (inl refl));
    }

explain-given : (words : List Text) → level_fault explain_built [] nothing_held words false [] ≡ []
    → GivesRunFile (rows_after explain_built.rules [] words) × GivesFormat (rows_after explain_built.rules [] words)
explain-given words e =
    let v = level-values explain_built words explain-fills e in (
      record {
        file = text-from _ _ (v.0 (inl refl));
        testcase = text-from _ _ (v.1.0 (inl refl));
        run = text-from _ _ (v.1.1.1.0 (inl refl));
      },
      format-from _ _ refl refl refl (v.1.1.1.1.0 (inr tt)),
    )

lint-given : (words : List Text) → level_fault lint_built [] nothing_held words false [] ≡ []
    → GivesTexts (rows_after lint_built.rules [] words) (codes "FILE") × GivesLintFormat (rows_after lint_built.rules [] words)
lint-given words e =
    let v = level-values lint_built words lint-fills e in
    (texts-from _ _ (v.0 (inl refl)), lint-format-from _ _ refl refl refl (v.1.0 (inr tt)))

-- ---- the subcommand at which the walk stops

chosen : (T : Option Shape → Type 0) (name : Text) (subs : List Shape) → AllOf (λ s. answers_to name (label_of s) ≡ true → T (Some s)) subs → T None
    → T (find (λ s. answers_to name (label_of s)) subs)
chosen T name [] all none = none
chosen T name (s ∷ rest) all none = go (answers_to name (label_of s)) all.0 (chosen T name rest all.1 none)
  where
    go : (hit : Bool) → (hit ≡ true → T (Some s)) → T (find (λ x. answers_to name (label_of x)) rest) → T (cond hit (Some s) (find (λ x. answers_to name (label_of x)) rest))
    go true here later = here refl
    go false here later = later

-- the level below has no fault, and is entered
abbrev Gives : List Text → Option Shape → Type 0
Gives words o = option_map_or (λ s. level_fault s [] nothing_held words false []) o [] ≡ []
    → is_some (option_map (λ s. rows_at s words) o) ≡ true → GivesCommand (option_map (λ s. rows_at s words) o)

not-help : (name : Text) → bytes_eq name (codes "help") ≡ false → (bytes_eq (codes "help") name || false) ≡ true → ⊥
not-help name other hit = go (bytes_eq (codes "help") name) refl hit
  where
    go : (b : Bool) → bytes_eq (codes "help") name ≡ b → (b || false) ≡ true → ⊥
    go true is e =
        let same : codes "help" ≡ name = (bytes_eq-Decides (codes "help") name).0 is in
        let back = (bytes_eq-Decides name (codes "help")).1 (sym same) in
        true≢false (sym back ∙ other)
    go false is e = true≢false (sym e)

entered-given : (p : Text × List Text) → bytes_eq p.0 (codes "help") ≡ false → Gives p.1 (find (λ s. answers_to p.0 (label_of s)) app.subs)
entered-given p other = chosen (Gives p.1) p.0 app.subs (
  λ hit e some. inl (inl refl, file-given check_built refl p.1 e),
  (
    λ hit e some. inr (inl (refl, run-given p.1 e)),
    (
      λ hit e some. inr (inr (inr (inl (inl refl, run-file-given replay_built refl p.1 e)))),
      (
        λ hit e some. inr (inr (inr (inl (inr (inl refl), run-file-given coarsen_built refl p.1 e)))),
        (
          λ hit e some. inr (inr (inr (inl (inr (inr refl), run-file-given double_built refl p.1 e)))),
          (
            λ hit e some. let given = explain-given p.1 e in inr (inr (inr (inr (refl, given.0, given.1)))),
            (
              λ hit e some. let given = lint-given p.1 e in inr (inr (inl (refl, given.0, given.1))),
              (
                λ hit e some. inl (inr refl, file-given list_built refl p.1 e),
                (
                  λ hit e some. absurd (not-help p.0 other hit),
                  tt,
                ),
              ),
            ),
          ),
        ),
      ),
    ),
  ),
) (λ e some. absurd (true≢false (sym some)))

is-entered : (has : Bool) → (not has && true) ≡ false → has ≡ true
is-entered true e = refl
is-entered false e = absurd (true≢false e)

-- the walk, the level below and the last checks have no fault
steps-parts : (a b c d : Kinds) (x y z : Bool) → or_else a (or_else b (or_else c (or_else d (check_kinds x y z)))) ≡ [] → (a ≡ []) × (b ≡ []) × (y ≡ false)
steps-parts a b c d x y z e =
    let first = none-of a (or_else b (or_else c (or_else d (check_kinds x y z)))) e in
    let second = none-of b (or_else c (or_else d (check_kinds x y z))) first.1 in
    let third = none-of c (or_else d (check_kinds x y z)) second.1 in
    let fourth = none-of d (check_kinds x y z) third.1 in
    (first.0, second.0, (no-check x y z fourth.1).0)

level-parts : (s : Shape) (above : Names) (h : Held) (words : List Text) (has : Bool) (below : Kinds) → level_fault s above h words has below ≡ []
    → (walk_fault s above (walk_from h) words ≡ []) × (below ≡ []) × ((not has && s.subcommand_required) ≡ false)
level-parts s above h words has below e =
    let end = (walk s.rules above h words).held in
    let rows = finished s.rules end in
    steps-parts (walk_fault s above (walk_from h) words) below (settle_fault s.rules s.args_override_self end) (defaults_fault (settled s.rules end).rows s.rules)
    (not has && (s.arg_required_else_help && not (list_any (λ r. explicit_source r.source) rows))) (not has && s.subcommand_required)
    (not (s.subcommand_negates_reqs && has) && list_any (λ a. a.required && not (is_given a.id rows)) s.rules) e

pub all-given : (words : List Text) → fault_of ttcnx_app words ≡ [] → GivesCommand (subcommand_of ttcnx_app words)
all-given words e =
    let stop = stop_after app.top.rules names words in
    let parts = level-parts app.top names nothing_held words (is_some (entered app stop)) (entered_fault app stop) e in
    go stop (walk-enters app.top refl names (walk_from nothing_held) words tt parts.0) parts.1 (is-entered (is_some (entered app stop)) parts.2)
  where
    go : (stop : Option (Text × List Text)) → IsNoHelp stop → entered_fault app stop ≡ [] → is_some (entered app stop) ≡ true → GivesCommand (entered app stop)
    go None other free some = absurd (true≢false (sym some))
    go (Some p) other free some = entered-given p other free some
