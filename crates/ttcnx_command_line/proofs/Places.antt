-- What clap makes of words doesn't depend on where the names of a list lie in memory: what is defined of a command
-- is the same of the command whose lists of names are moved to the place 0.
use Rattle.std.proofs.Common.{◌≡◌, ◌∙◌, ◌&&◌, ◌||◌, ◌==◌, ◌+◌, ℕ, Bool, cond, true, false, not, zero, suc, refl, ap, ap₂, List, [], ◌∷◌, map, min, length, drop, Option, Some, None, is_some, option_map}
use Rattle.std.specs.List.{find, fold, list_all, list_any}
use Rattle.std.specs.Option.{option_map_or}
use Rattle.std.specs.Str.{bytes_eq, chars}
use Rattle.std.specs.Prelude.{encode_utf8, nat_le, slice_get}
use Rattle.std.specs.Borrow.{Bor}
use Rattle.clap.specs.Facts.{parser_of_value, unwrap_or_range}
use Rattle.clap.specs.Kinds.{or_else, range_kinds, value_kinds, values_kinds}
use Rattle.clap.specs.Lexer.{long_of, short_of}
use Rattle.clap.specs.Matches.{count_text}
use Rattle.clap.specs.Values.{reading_of, refused_kind, same_text}
use Rattle.clap.specs.ValueTests.{accepts}
use Rattle.clap.specs.Walk.{Held, Names, Outcome, Row, Rule, Step, Text, Waiting, Walk, action_of, after_flag, after_step, arg_by_id, arg_by_index, arg_by_long, arg_by_short, attached_value, bundle_met, bundle_step, count_of, default_rows, done, finished, flag_met, has_long, has_row, has_short, idle, is_multiple, is_pending, long_met, long_or_other, most_values, next, next_position, nothing_held, option, option_met, option_word, plain, plain_word, positional, pushed, reacted, reading_by, refused, rows_after, settled, settled_rows, short_met, short_or_plain, subcommand, subcommand_met, subcommand_or_other, takes_several, takes_values, texts, to_positional, trailing, used, used_as, used_by_id, value, values_or_missing, waits, walk, walk_from, walked, walked_from, with_default, word_met}
use Rattle.clap.specs.Simple.{Shape}
use Rattle.clap.specs.Faults.{action_fault, count_fault, repeat_fault, use_fault, values_fault}
use Rattle.clap.specs.Takes.{action_passes, count_passes, use_passes, values_pass}
use Rattle.clap.specs.declared.builder.action.ArgAction.{ArgAction}
use Rattle.clap.specs.declared.builder.action.ArgAction.TheVariants as action
use Rattle.clap.specs.declared.builder.value_parser.ValueParser.{ValueParser}
use Rattle.clap.specs.declared.builder.value_parser.ValueParser.TheVariants as vp
use Rattle.ttcnx_command_line.specs.App.{lent, names_of_words}

-- ---- one parser

-- the parser, with its names at the place 0
abbrev pub moved : ValueParser → ValueParser
moved (vp.Names names) = vp.Names (names_of_words (texts names.now))
moved p = p

abbrev pub each : (P : ValueParser → ValueParser → Type 0) → ((p : ValueParser) → P p p)
    → ((names : Bor (List (Bor Text))) → P (vp.Names (names_of_words (texts names.now))) (vp.Names names)) → (p : ValueParser) → P (moved p) p
each P same names vp.String = same vp.String
each P same names vp.NonEmptyString = same vp.NonEmptyString
each P same names vp.Bool = same vp.Bool
each P same names vp.Boolish = same vp.Boolish
each P same names vp.Falsey = same vp.Falsey
each P same names (vp.Signed low high) = same (vp.Signed low high)
each P same names (vp.Unsigned low high) = same (vp.Unsigned low high)
each P same names vp.Float = same vp.Float
each P same names vp.Char = same vp.Char
each P same names (vp.Names n) = names n
each P same names (vp.Values v) = same (vp.Values v)

any-name : (ignore_case : Bool) (text : Text) (names : List (Bor Text))
    → list_any (λ name. same_text ignore_case name.now text) (map lent (texts names)) ≡ list_any (λ name. same_text ignore_case name.now text) names
any-name ignore_case text [] = refl
any-name ignore_case text (name ∷ rest) = ap (λ b. same_text ignore_case name.now text || b) (any-name ignore_case text rest)

pub accepts-same : (ignore_case : Bool) (text : Text) (p : ValueParser) → accepts ignore_case (moved p) text ≡ accepts ignore_case p text
accepts-same ignore_case text = each (λ p q. accepts ignore_case p text ≡ accepts ignore_case q text) (λ p. refl) (λ names. any-name ignore_case text names.now)

pub reading-same : (p : ValueParser) → reading_of (moved p) ≡ reading_of p
reading-same = each (λ p q. reading_of p ≡ reading_of q) (λ p. refl) (λ names. refl)

pub refused-same : (p : ValueParser) → refused_kind (moved p) ≡ refused_kind p
refused-same = each (λ p q. refused_kind p ≡ refused_kind q) (λ p. refl) (λ names. refl)

pub value-kinds-same : (ignore_case : Bool) (text : Text) (p : ValueParser) → value_kinds ignore_case (moved p) text ≡ value_kinds ignore_case p text
value-kinds-same ignore_case text p = ap₂ (λ b k. cond b [] (k ∷ [])) (accepts-same ignore_case text p) (refused-same p)

pub values-kinds-same : (ignore_case : Bool) (values : List Text) (p : ValueParser) → values_kinds ignore_case (moved p) values ≡ values_kinds ignore_case p values
values-kinds-same ignore_case [] p = refl
values-kinds-same ignore_case (v ∷ vs) p = ap₂ or_else (value-kinds-same ignore_case v p) (values-kinds-same ignore_case vs p)

pub all-accepted-same : (ignore_case : Bool) (values : List Text) (p : ValueParser) → list_all (accepts ignore_case (moved p)) values ≡ list_all (accepts ignore_case p) values
all-accepted-same ignore_case [] p = refl
all-accepted-same ignore_case (v ∷ vs) p = ap₂ (λ a b. a && b) (accepts-same ignore_case v p) (all-accepted-same ignore_case vs p)

-- ---- one argument

abbrev pub moved_rule : Rule → Rule
moved_rule a = record a { parser = option_map moved a.parser }

of-rule : {Z : Type 0} (F : ValueParser → Z) → ((p : ValueParser) → F (moved p) ≡ F p) → (o : Option ValueParser)
    → F (parser_of_value (option_map moved o)) ≡ F (parser_of_value o)
of-rule F h None = refl
of-rule F h (Some p) = h p

pub rule-reading : (a : Rule) → reading_by (moved_rule a) ≡ reading_by a
rule-reading a = of-rule reading_of reading-same a.parser

pub rule-fault : (a : Rule) (values : List Text) → values_fault (moved_rule a) values ≡ values_fault a values
rule-fault a values = of-rule (λ p. values_kinds a.ignore_case p values) (values-kinds-same a.ignore_case values) a.parser

pub rule-passes : (a : Rule) (values : List Text) → values_pass (moved_rule a) values ≡ values_pass a values
rule-passes a values = of-rule (λ p. list_all (accepts a.ignore_case p) values) (all-accepted-same a.ignore_case values) a.parser

pub used-same : (a : Rule) (values : List Text) (rows : List Row) → used (moved_rule a) values rows ≡ used a values rows
used-same a values rows = ap (λ how. used_as (action_of a) a.id how (values_or_missing a values) rows) (rule-reading a)

pub count-fault-same : (a : Rule) (values : List Text) (rows : List Row) → count_fault (moved_rule a) values rows ≡ count_fault a values rows
count-fault-same a [] rows = let text = count_text (min (count_of a.id rows + 1) 255) in
    of-rule (λ p. value_kinds a.ignore_case p text) (value-kinds-same a.ignore_case text) a.parser
count-fault-same a (v ∷ vs) rows = rule-fault a (v ∷ vs)

pub action-fault-same : (x : ArgAction) (again : Bool) (a : Rule) (values : List Text) (rows : List Row)
    → action_fault x again (moved_rule a) values rows ≡ action_fault x again a values rows
action-fault-same action.Set again a values rows = ap (or_else (repeat_fault again a.id rows)) (rule-fault a values)
action-fault-same action.SetTrue again a values rows = ap (or_else (repeat_fault again a.id rows)) (rule-fault a values)
action-fault-same action.SetFalse again a values rows = ap (or_else (repeat_fault again a.id rows)) (rule-fault a values)
action-fault-same action.Append again a values rows = rule-fault a values
action-fault-same action.Count again a values rows = count-fault-same a values rows
action-fault-same action.Help again a values rows = refl
action-fault-same action.HelpShort again a values rows = refl
action-fault-same action.HelpLong again a values rows = refl
action-fault-same action.Version again a values rows = refl

pub use-fault-same : (again : Bool) (a : Rule) (values : List Text) (rows : List Row) → use_fault again (moved_rule a) values rows ≡ use_fault again a values rows
use-fault-same again a values rows = ap (or_else (range_kinds (unwrap_or_range a.range).start_inclusive (most_values a) (length values)))
    (action-fault-same (action_of a) again a (values_or_missing a values) rows)

pub count-passes-same : (a : Rule) (values : List Text) (rows : List Row) → count_passes (moved_rule a) values rows ≡ count_passes a values rows
count-passes-same a [] rows = let text = count_text (min (count_of a.id rows + 1) 255) in
    of-rule (λ p. accepts a.ignore_case p text) (accepts-same a.ignore_case text) a.parser
count-passes-same a (v ∷ vs) rows = rule-passes a (v ∷ vs)

pub action-passes-same : (x : ArgAction) (again : Bool) (a : Rule) (values : List Text) (rows : List Row)
    → action_passes x again (moved_rule a) values rows ≡ action_passes x again a values rows
action-passes-same action.Set again a values rows = ap (λ b. (not (has_row a.id rows) || again) && b) (rule-passes a values)
action-passes-same action.SetTrue again a values rows = ap (λ b. (not (has_row a.id rows) || again) && b) (rule-passes a values)
action-passes-same action.SetFalse again a values rows = ap (λ b. (not (has_row a.id rows) || again) && b) (rule-passes a values)
action-passes-same action.Append again a values rows = rule-passes a values
action-passes-same action.Count again a values rows = count-passes-same a values rows
action-passes-same action.Help again a values rows = refl
action-passes-same action.HelpShort again a values rows = refl
action-passes-same action.HelpLong again a values rows = refl
action-passes-same action.Version again a values rows = refl

pub use-passes-same : (again : Bool) (a : Rule) (values : List Text) (rows : List Row) → use_passes again (moved_rule a) values rows ≡ use_passes again a values rows
use-passes-same again a values rows = ap (λ b. nat_le (unwrap_or_range a.range).start_inclusive (length values) && (nat_le (length values) (most_values a) && b))
    (action-passes-same (action_of a) again a (values_or_missing a values) rows)

-- ---- a walk

pub find-same : (p : Rule → Bool) → ((a : Rule) → p (moved_rule a) ≡ p a) → (xs : List Rule) → find p (map moved_rule xs) ≡ option_map moved_rule (find p xs)
find-same p h [] = refl
find-same p h (a ∷ rest) = ap₂ (λ b o. cond b (Some (moved_rule a)) o) (h a) (find-same p h rest) ∙ go (p a)
  where
    go : (b : Bool) → cond b (Some (moved_rule a)) (option_map moved_rule (find p rest)) ≡ option_map moved_rule (cond b (Some a) (find p rest))
    go true = refl
    go false = refl

pub any-same : (p : Rule → Bool) → ((a : Rule) → p (moved_rule a) ≡ p a) → (xs : List Rule) → list_any p (map moved_rule xs) ≡ list_any p xs
any-same p h [] = refl
any-same p h (a ∷ rest) = ap₂ (λ x y. x || y) (h a) (any-same p h rest)

pub all-same : (p : Rule → Bool) → ((a : Rule) → p (moved_rule a) ≡ p a) → (xs : List Rule) → list_all p (map moved_rule xs) ≡ list_all p xs
all-same p h [] = refl
all-same p h (a ∷ rest) = ap₂ (λ x y. x && y) (h a) (all-same p h rest)

pub default-same : (rows : List Row) (a : Rule) → with_default rows (moved_rule a) ≡ with_default rows a
default-same rows a = ap (λ how. cond (has_row a.id rows) rows (default_rows a.id how a.defaults rows)) (rule-reading a)

pub defaults-same : (xs : List Rule) (rows : List Row) → fold with_default rows (map moved_rule xs) ≡ fold with_default rows xs
defaults-same [] rows = refl
defaults-same (a ∷ rest) rows = ap (λ r. fold with_default r (map moved_rule rest)) (default-same rows a) ∙ defaults-same rest (with_default rows a)

module _ (c : List Rule) where
  abbrev pub m : List Rule
  m = map moved_rule c

  pub by-id : (id : Text) → arg_by_id m id ≡ option_map moved_rule (arg_by_id c id)
  by-id id = find-same (λ a. bytes_eq a.id id) (λ a. refl) c

  pub by-long : (name : Text) → arg_by_long m name ≡ option_map moved_rule (arg_by_long c name)
  by-long name = find-same (λ a. not (is_some a.index) && has_long a name) (λ a. refl) c

  pub by-short : (x : ℕ) → arg_by_short m x ≡ option_map moved_rule (arg_by_short c x)
  by-short x = find-same (λ a. not (is_some a.index) && has_short a x) (λ a. refl) c

  pub by-index : (i : ℕ) → arg_by_index m i ≡ option_map moved_rule (arg_by_index c i)
  by-index i = find-same (λ a. option_map_or (λ k. k == i) a.index false) (λ a. refl) c

  pub settled-rows-same : (p : Option (Text × List Text)) (rows : List Row) → settled_rows m p rows ≡ settled_rows c p rows
  settled-rows-same None rows = refl
  settled-rows-same (Some p) rows = ap (λ o. used_by_id o p.1 rows) (by-id p.0) ∙ go (arg_by_id c p.0)
    where
      go : (o : Option Rule) → used_by_id (option_map moved_rule o) p.1 rows ≡ used_by_id o p.1 rows
      go None = refl
      go (Some a) = used-same a p.1 rows

  pub settled-same : (h : Held) → settled m h ≡ settled c h
  settled-same h = ap (λ rows. record h { rows = rows; pending = None }) (settled-rows-same h.pending h.rows)

  pub reacted-same : (a : Rule) (values : List Text) (h : Held) → reacted m (moved_rule a) values h ≡ reacted c a values h
  reacted-same a values h = ap (λ rows. record h { rows = rows; pending = None })
      (ap (used (moved_rule a) values) (settled-rows-same h.pending h.rows) ∙ used-same a values (settled c h).rows)

  pub option-met-same : (a : Rule) (v : Option Text) (h : Held) → option_met m (moved_rule a) v h ≡ option_met c a v h
  option-met-same a None h = ap (λ (k : Held). (record k { pending = Some (a.id, []) }, waits a.id)) (settled-same h)
  option-met-same a (Some v) h = ap (λ (k : Held). (k, done)) (reacted-same a (v ∷ []) h)

  pub flag-met-same : (a : Rule) (v : Option Text) (h : Held) → flag_met m (moved_rule a) v h ≡ flag_met c a v h
  flag-met-same a None h = ap (λ (k : Held). (k, done)) (reacted-same a [] h)
  flag-met-same a (Some v) h = refl

  pub long-met-same : (o : Option Rule) (v : Option Text) (h : Held) → long_met m (option_map moved_rule o) v h ≡ long_met c o v h
  long-met-same None v h = refl
  long-met-same (Some a) v h = ap₂ (λ x y. cond (takes_values a) x y) (option-met-same a v h) (flag-met-same a v h)

  pub short-met-same : (o : Option Rule) (rest : Text) (h : Held) (f g : Held → Held × Outcome) → ((k : Held) → f k ≡ g k)
      → short_met m (option_map moved_rule o) rest h f ≡ short_met c o rest h g
  short-met-same None rest h f g same = refl
  short-met-same (Some a) rest h f g same = ap₂ (λ x y. cond (takes_values a) x y) (option-met-same a (attached_value rest) h)
      (same (reacted m (moved_rule a) [] h) ∙ ap g (reacted-same a [] h))

  pub bundle-step-same : (o : Option ℕ) (flags : Text) (skip : ℕ) (so_far : Outcome) (h : Held) (f g : Text → ℕ → Outcome → Held → Held × Outcome)
      → ((t : Text) (n : ℕ) (x : Outcome) (k : Held) → f t n x k ≡ g t n x k) → bundle_step m o flags skip so_far h f ≡ bundle_step c o flags skip so_far h g
  bundle-step-same None flags skip so_far h f g same = refl
  bundle-step-same (Some x) flags zero so_far h f g same =
      let rest = drop (length (encode_utf8 x)) flags in
      ap (λ o. short_met m o rest h (f rest 0 done)) (by-short x) ∙ short-met-same (arg_by_short c x) rest h (f rest 0 done) (g rest 0 done) (same rest 0 done)
  bundle-step-same (Some x) flags (suc skip) so_far h f g same = same (drop (length (encode_utf8 x)) flags) skip so_far h

  pub bundle-same : (k : ℕ) (flags : Text) (skip : ℕ) (so_far : Outcome) (h : Held) → bundle_met m k flags skip so_far h ≡ bundle_met c k flags skip so_far h
  unfolding bundle_met
  bundle-same zero flags skip so_far h = refl
  bundle-same (suc k) flags skip so_far h = bundle-step-same (slice_get (chars flags) 0) flags skip so_far h (bundle_met m k) (bundle_met c k) (bundle-same k)

  abbrev pub after : Text → Text → Held → Option Rule → Held × Step
  after id word h o = ((option_word o id word h).0, next (option_word o id word h).1)

  pub plain-same : (waiting : Waiting) (word : Text) (h : Held) → plain_word m waiting word h ≡ plain_word c waiting word h
  plain-same idle word h = refl
  plain-same positional word h = refl
  plain-same (option id) word h = ap (after id word h) (by-id id) ∙ go (arg_by_id c id)
    where
      go : (o : Option Rule) → after id word h (option_map moved_rule o) ≡ after id word h o
      go None = refl
      go (Some a) = refl

  pub after-flag-same : (waiting : Waiting) (word : Text) (h : Held) (outcome : Outcome) → after_flag m waiting word h outcome ≡ after_flag c waiting word h outcome
  after-flag-same waiting word h done = refl
  after-flag-same waiting word h (waits id) = refl
  after-flag-same waiting word h plain = plain-same waiting word h
  after-flag-same waiting word h refused = plain-same waiting word h

  pub after-met-same : (waiting : Waiting) (word : Text) (x y : Held × Outcome) → x ≡ y → after_flag m waiting word x.0 x.1 ≡ after_flag c waiting word y.0 y.1
  after-met-same waiting word x y e = ap (λ (z : Held × Outcome). after_flag m waiting word z.0 z.1) e ∙ after-flag-same waiting word y.0 y.1

  pub short-word-same : (o : Option Text) (waiting : Waiting) (word : Text) (h : Held) → short_or_plain m waiting word o h ≡ short_or_plain c waiting word o h
  short-word-same None waiting word h = plain-same waiting word h
  short-word-same (Some flags) waiting word h = after-met-same waiting word _ _ (bundle-same (length flags) flags h.skip plain (record h { skip = 0 }))

  pub long-word-same : (o : Option (Text × Option Text)) (waiting : Waiting) (word : Text) (h : Held) → long_or_other m waiting word o h ≡ long_or_other c waiting word o h
  long-word-same None waiting word h = short-word-same (short_of word) waiting word h
  long-word-same (Some p) waiting word h =
      after-met-same waiting word _ _ (ap (λ o. long_met m o p.1 h) (by-long p.0) ∙ long-met-same (arg_by_long c p.0) p.1 h)

  pub other-same : (o : Option Text) (waiting : Waiting) (position : ℕ) (word : Text) (h : Held)
      → subcommand_or_other m o waiting position word h ≡ subcommand_or_other c o waiting position word h
  other-same (Some name) waiting position word h = refl
  other-same None waiting position word h = ap (λ x. cond (bytes_eq word (45 ∷ 45 ∷ [])) (h, trailing position) x) (long-word-same (long_of word) waiting word h)

  pub word-same : (names : Names) (is_trailing : Bool) (waiting : Waiting) (position : ℕ) (word : Text) (h : Held)
      → word_met m names is_trailing waiting position word h ≡ word_met c names is_trailing waiting position word h
  word-same names true waiting position word h = refl
  word-same names false waiting position word h = other-same (subcommand_met names waiting word) waiting position word h

  pub to-positional-same : (o : Option Rule) (word : Text) (w : Walk) (h : Held) → to_positional m (option_map moved_rule o) word w h ≡ to_positional c o word w h
  to-positional-same None word w h = refl
  to-positional-same (Some a) word w h = ap (λ (k : Held). record {
    held = pushed a.id word (cond (is_pending a h.pending && takes_several a) h k);
    waiting = cond (is_multiple a) positional idle;
    position = next_position a w.position;
    is_trailing = w.is_trailing || a.trailing_var_arg;
    stopped = None;
  }) (settled-same h)

  pub step-same : (word : Text) (w : Walk) (h : Held) (step : Step) → after_step m word w h step ≡ after_step c word w h step
  step-same word w h (next waiting) = refl
  step-same word w h (trailing position) = refl
  step-same word w h (subcommand name) = refl
  step-same word w h value = ap (λ o. to_positional m o word w h) (by-index w.position) ∙ to-positional-same (arg_by_index c w.position) word w h

  abbrev pub at_word : Names → Walk → Text → Held × Step
  at_word names w word = word_met c names w.is_trailing w.waiting w.position word w.held

  pub walked-same : (names : Names) (w : Walk) (word : Text) → walked m names w word ≡ walked c names w word
  unfolding walked
  walked-same names w word = go w.stopped
    where
      go : (o : Option (Text × List Text)) → walked_from m names o w word ≡ walked_from c names o w word
      go (Some p) = refl
      go None = ap (λ (z : Held × Step). after_step m word w z.0 z.1) (word-same names w.is_trailing w.waiting w.position word w.held) ∙ step-same word w (at_word names w word).0 (at_word names w word).1

  pub walks-same : (names : Names) (w : Walk) (words : List Text) → fold (walked m names) w words ≡ fold (walked c names) w words
  walks-same names w [] = refl
  walks-same names w (word ∷ rest) = ap (λ k. fold (walked m names) k rest) (walked-same names w word) ∙ walks-same names (walked c names w word) rest

  pub finished-same : (h : Held) → finished m h ≡ finished c h
  finished-same h = ap (λ rows. fold with_default rows m) (settled-rows-same h.pending h.rows) ∙ defaults-same c (settled c h).rows

  pub rows-same : (names : Names) (words : List Text) → rows_after m names words ≡ rows_after c names words
  rows-same names words = ap (λ (w : Walk). finished m w.held) (walks-same names (walk_from nothing_held) words) ∙ finished-same (walk c names nothing_held words).held

abbrev pub moved_shape : Shape → Shape
moved_shape s = record s { rules = map moved_rule s.rules }
