-- The faults that clap finds in words don't depend on where the names of a list lie in memory.
use Rattle.std.proofs.Common.{◌≡◌, ◌∙◌, ◌&&◌, ◌||◌, ℕ, Bool, cond, true, false, not, zero, suc, refl, ap, ap₂, List, [], ◌∷◌, map, length, drop, Option, Some, None, is_some, option_map}
use Rattle.std.specs.List.{list_any}
use Rattle.std.specs.Option.{option_map_or}
use Rattle.std.specs.Str.{bytes_eq, chars}
use Rattle.std.specs.Prelude.{encode_utf8, slice_get}
use Rattle.clap.specs.Facts.{explicit_source}
use Rattle.clap.specs.Kinds.{Kinds, check_kinds, or_else, request_kinds}
use Rattle.clap.specs.Lexer.{long_of, short_of}
use Rattle.clap.specs.Walk.{Held, Names, Row, Rule, Step, Text, Waiting, Walk, action_of, arg_by_id, arg_by_index, arg_by_long, arg_by_short, attached_value, finished, has_row, is_empty, is_pending, next, reacted, settled, subcommand, subcommand_met, takes_several, takes_values, trailing, value, walk, walk_from, walked, with_default}
use Rattle.clap.specs.Simple.{Shape}
use Rattle.clap.specs.Faults.{bundle_step_fault, check_fault, defaults_fault, flag_word_fault, flags_fault, level_fault, long_fault, option_fault, other_fault, positional_fault, react_fault, settle_fault, short_fault, step_fault, stray_fault, turn_fault, use_fault, walk_fault, word_fault}
use Rattle.clap.specs.Takes.{is_given}
use Rattle.clap.specs.declared.error.kind.ErrorKind.TheVariants as kind
use Rattle.ttcnx_command_line.proofs.Places.{any-same, at_word, by-id, by-index, by-long, by-short, default-same, finished-same, moved_rule, moved_shape, reacted-same, rule-fault, settled-same, use-fault-same, walked-same, walks-same, word-same}

module _ (s : Shape) where
  abbrev pub rules : List Rule
  rules = s.rules

  abbrev pub there : List Rule
  there = map moved_rule s.rules

  abbrev pub again : Bool
  again = s.args_override_self

  pub settle-fault-same : (h : Held) → settle_fault there again h ≡ settle_fault rules again h
  settle-fault-same h = go h.pending
    where
      by-rule : (p : Text × List Text) (o : Option Rule) → option_map_or (λ a. use_fault again a p.1 h.rows) (option_map moved_rule o) []
          ≡ option_map_or (λ a. use_fault again a p.1 h.rows) o []
      by-rule p None = refl
      by-rule p (Some a) = use-fault-same again a p.1 h.rows

      go : (o : Option (Text × List Text)) → option_map_or (λ p. option_map_or (λ a. use_fault again a p.1 h.rows) (arg_by_id there p.0) []) o []
          ≡ option_map_or (λ p. option_map_or (λ a. use_fault again a p.1 h.rows) (arg_by_id rules p.0) []) o []
      go None = refl
      go (Some p) = ap (λ o. option_map_or (λ a. use_fault again a p.1 h.rows) o []) (by-id rules p.0) ∙ by-rule p (arg_by_id rules p.0)

  pub react-fault-same : (a : Rule) (values : List Text) (h : Held) → react_fault there again (moved_rule a) values h ≡ react_fault rules again a values h
  react-fault-same a values h = ap₂ or_else (settle-fault-same h)
      (use-fault-same again a values (settled there h).rows ∙ ap (λ (k : Held). use_fault again a values k.rows) (settled-same rules h))

  pub option-fault-same : (a : Rule) (v : Option Text) (h : Held) → option_fault there again (moved_rule a) v h ≡ option_fault rules again a v h
  option-fault-same a None h = settle-fault-same h
  option-fault-same a (Some v) h = react-fault-same a (v ∷ []) h

  pub long-fault-same : (o : Option Rule) (v : Option Text) (h : Held) → long_fault there again (option_map moved_rule o) v h ≡ long_fault rules again o v h
  long-fault-same None v h = refl
  long-fault-same (Some a) v h = ap₂ (λ x y. cond (takes_values a) x (cond (is_some v) (kind.TooManyValues ∷ []) y)) (option-fault-same a v h) (react-fault-same a [] h)

  pub short-fault-same : (o : Option Rule) (rest : Text) (h : Held) (f g : Held → Kinds) → ((k : Held) → f k ≡ g k)
      → short_fault there again (option_map moved_rule o) rest h f ≡ short_fault rules again o rest h g
  short-fault-same None rest h f g same = refl
  short-fault-same (Some a) rest h f g same = ap₂ (λ x y. cond (takes_values a) x y) (option-fault-same a (attached_value rest) h)
      (ap₂ or_else (react-fault-same a [] h) (same (reacted there (moved_rule a) [] h) ∙ ap g (reacted-same rules a [] h)))

  pub bundle-step-fault-same : (o : Option ℕ) (flags : Text) (skip : ℕ) (h : Held) (f g : Text → ℕ → Held → Kinds) → ((t : Text) (n : ℕ) (k : Held) → f t n k ≡ g t n k)
      → bundle_step_fault there again o flags skip h f ≡ bundle_step_fault rules again o flags skip h g
  bundle-step-fault-same None flags skip h f g same = refl
  bundle-step-fault-same (Some x) flags zero h f g same =
      let rest = drop (length (encode_utf8 x)) flags in
      ap (λ o. short_fault there again o rest h (f rest 0)) (by-short rules x) ∙ short-fault-same (arg_by_short rules x) rest h (f rest 0) (g rest 0) (same rest 0)
  bundle-step-fault-same (Some x) flags (suc skip) h f g same = same (drop (length (encode_utf8 x)) flags) skip h

  pub flags-fault-same : (k : ℕ) (flags : Text) (skip : ℕ) (h : Held) → flags_fault there again k flags skip h ≡ flags_fault rules again k flags skip h
  unfolding flags_fault
  flags-fault-same zero flags skip h = refl
  flags-fault-same (suc k) flags skip h =
      bundle-step-fault-same (slice_get (chars flags) 0) flags skip h (flags_fault there again k) (flags_fault rules again k) (flags-fault-same k)

  pub short-word-fault-same : (o : Option Text) (h : Held)
      → option_map_or (λ flags. flags_fault there again (length flags) flags h.skip (record h { skip = 0 })) o []
      ≡ option_map_or (λ flags. flags_fault rules again (length flags) flags h.skip (record h { skip = 0 })) o []
  short-word-fault-same None h = refl
  short-word-fault-same (Some flags) h = flags-fault-same (length flags) flags h.skip (record h { skip = 0 })

  pub flag-word-fault-same : (o : Option (Text × Option Text)) (word : Text) (h : Held) → flag_word_fault there again o word h ≡ flag_word_fault rules again o word h
  flag-word-fault-same None word h = short-word-fault-same (short_of word) h
  flag-word-fault-same (Some p) word h = ap (λ o. long_fault there again o p.1 h) (by-long rules p.0) ∙ long-fault-same (arg_by_long rules p.0) p.1 h

  pub other-fault-same : (o : Option Text) (word : Text) (h : Held) → other_fault (moved_shape s) o word h ≡ other_fault s o word h
  other-fault-same (Some name) word h = refl
  other-fault-same None word h = ap (λ x. cond (bytes_eq word (45 ∷ 45 ∷ [])) [] x) (flag-word-fault-same (long_of word) word h)

  pub word-fault-same : (names : Names) (is_trailing : Bool) (waiting : Waiting) (word : Text) (h : Held)
      → word_fault (moved_shape s) names is_trailing waiting word h ≡ word_fault s names is_trailing waiting word h
  word-fault-same names true waiting word h = refl
  word-fault-same names false waiting word h = other-fault-same (subcommand_met names waiting word) word h

  pub positional-fault-same : (o : Option Rule) (h : Held) → option_map_or (λ a. positional_fault there again a h) (option_map moved_rule o) (stray_fault s)
      ≡ option_map_or (λ a. positional_fault rules again a h) o (stray_fault s)
  positional-fault-same None h = refl
  positional-fault-same (Some a) h = ap (λ x. cond (is_pending a h.pending && takes_several a) [] x) (settle-fault-same h)

  pub step-fault-same : (position : ℕ) (h : Held) (step : Step) → step_fault (moved_shape s) position h step ≡ step_fault s position h step
  step-fault-same position h (next waiting) = refl
  step-fault-same position h (trailing p) = refl
  step-fault-same position h (subcommand name) = refl
  step-fault-same position h value = ap (λ o. option_map_or (λ a. positional_fault there again a h) o (stray_fault s)) (by-index rules position)
      ∙ positional-fault-same (arg_by_index rules position) h

  pub turn-fault-same : (names : Names) (w : Walk) (word : Text) → turn_fault (moved_shape s) names w word ≡ turn_fault s names w word
  turn-fault-same names w word = ap₂ (λ x y. cond (is_some w.stopped) [] (or_else x y)) (word-fault-same names w.is_trailing w.waiting word w.held)
      (ap (λ (z : Held × Step). step_fault (moved_shape s) w.position z.0 z.1) (word-same rules names w.is_trailing w.waiting w.position word w.held) ∙ step-fault-same w.position (at_word rules names w word).0 (at_word rules names w word).1)

  pub walk-fault-same : (names : Names) (w : Walk) (words : List Text) → walk_fault (moved_shape s) names w words ≡ walk_fault s names w words
  unfolding walk_fault
  walk-fault-same names w [] = refl
  walk-fault-same names w (word ∷ rest) = ap₂ or_else (turn-fault-same names w word)
      (ap (λ k. walk_fault (moved_shape s) names k rest) (walked-same rules names w word) ∙ walk-fault-same names (walked rules names w word) rest)

  pub defaults-fault-same : (xs : List Rule) (rows : List Row) → defaults_fault rows (map moved_rule xs) ≡ defaults_fault rows xs
  unfolding defaults_fault
  defaults-fault-same [] rows = refl
  defaults-fault-same (a ∷ rest) rows = ap₂ or_else
      (ap (λ x. cond (has_row a.id rows || is_empty a.defaults) [] (or_else (request_kinds (action_of a)) x)) (rule-fault a a.defaults))
      (ap (λ r. defaults_fault r (map moved_rule rest)) (default-same rows a) ∙ defaults-fault-same rest (with_default rows a))

  pub check-fault-same : (rows : List Row) (has : Bool) → check_fault (moved_shape s) rows has ≡ check_fault s rows has
  check-fault-same rows has = ap (λ x. check_kinds (not has && (s.arg_required_else_help && not (list_any (λ r. explicit_source r.source) rows)))
      (not has && s.subcommand_required) (not (s.subcommand_negates_reqs && has) && x)) (any-same (λ a. a.required && not (is_given a.id rows)) (λ a. refl) rules)

  -- the checks behind the walk, at where it ends
  abbrev pub end_fault : Shape → Kinds → Bool → Held → Kinds
  end_fault t below has h = or_else below (or_else (settle_fault t.rules t.args_override_self h)
      (or_else (defaults_fault (settled t.rules h).rows t.rules) (check_fault t (finished t.rules h) has)))

  pub end-fault-same : (below : Kinds) (has : Bool) (h : Held) → end_fault (moved_shape s) below has h ≡ end_fault s below has h
  end-fault-same below has h = ap (or_else below) (ap₂ or_else (settle-fault-same h) (ap₂ or_else
      (ap (λ (k : Held). defaults_fault k.rows there) (settled-same rules h) ∙ defaults-fault-same rules (settled rules h).rows)
      (ap (λ rows. check_fault (moved_shape s) rows has) (finished-same rules h) ∙ check-fault-same (finished rules h) has)))

  pub level-fault-same : (names : Names) (h : Held) (words : List Text) (has : Bool) (below : Kinds)
      → level_fault (moved_shape s) names h words has below ≡ level_fault s names h words has below
  level-fault-same names h words has below = ap₂ or_else (walk-fault-same names (walk_from h) words)
      (ap (λ (w : Walk). end_fault (moved_shape s) below has w.held) (walks-same rules names (walk_from h) words) ∙ end-fault-same below has (walk rules names h words).held)
