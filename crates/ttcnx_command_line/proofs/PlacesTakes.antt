-- Whether clap takes words doesn't depend on where the names of a list lie in memory.
use Rattle.std.proofs.Common.{◌≡◌, ◌∙◌, ◌&&◌, ◌||◌, ℕ, Bool, cond, true, false, not, zero, suc, refl, ap, ap₂, List, [], ◌∷◌, map, length, drop, Option, Some, None, is_some, option_map}
use Rattle.std.specs.List.{list_all, list_any}
use Rattle.std.specs.Option.{option_map_or}
use Rattle.std.specs.Str.{bytes_eq, chars}
use Rattle.std.specs.Prelude.{encode_utf8, slice_get}
use Rattle.clap.specs.Facts.{explicit_source}
use Rattle.clap.specs.Lexer.{long_of, short_of}
use Rattle.clap.specs.Values.{is_request}
use Rattle.clap.specs.Walk.{Held, Names, Row, Rule, Step, Text, Waiting, Walk, action_of, arg_by_id, arg_by_index, arg_by_long, arg_by_short, attached_value, finished, is_empty, is_pending, next, reacted, settled, subcommand, subcommand_met, takes_several, takes_values, trailing, value, walk, walk_from, walked}
use Rattle.clap.specs.Simple.{Shape}
use Rattle.clap.specs.Takes.{bundle_step_passes, default_passes, flag_word_passes, flags_pass, is_given, is_valid, level_passes, long_passes, option_passes, other_passes, positional_passes, react_passes, settle_passes, short_passes, step_passes, turn_passes, use_passes, walk_passes, word_passes}
use Rattle.ttcnx_command_line.proofs.Places.{all-same, at_word, by-id, by-index, by-long, by-short, finished-same, moved_rule, moved_shape, reacted-same, rule-passes, settled-same, use-passes-same, walked-same, walks-same, word-same}

module _ (s : Shape) where
  abbrev pub rules : List Rule
  rules = s.rules

  abbrev pub there : List Rule
  there = map moved_rule s.rules

  abbrev pub again : Bool
  again = s.args_override_self

  pub settle-passes-same : (h : Held) → settle_passes there again h ≡ settle_passes rules again h
  settle-passes-same h = go h.pending
    where
      by-rule : (p : Text × List Text) (o : Option Rule) → option_map_or (λ a. use_passes again a p.1 h.rows) (option_map moved_rule o) true
          ≡ option_map_or (λ a. use_passes again a p.1 h.rows) o true
      by-rule p None = refl
      by-rule p (Some a) = use-passes-same again a p.1 h.rows

      go : (o : Option (Text × List Text)) → option_map_or (λ p. option_map_or (λ a. use_passes again a p.1 h.rows) (arg_by_id there p.0) true) o true
          ≡ option_map_or (λ p. option_map_or (λ a. use_passes again a p.1 h.rows) (arg_by_id rules p.0) true) o true
      go None = refl
      go (Some p) = ap (λ o. option_map_or (λ a. use_passes again a p.1 h.rows) o true) (by-id rules p.0) ∙ by-rule p (arg_by_id rules p.0)

  pub react-passes-same : (a : Rule) (values : List Text) (h : Held) → react_passes there again (moved_rule a) values h ≡ react_passes rules again a values h
  react-passes-same a values h = ap₂ (λ x y. x && y) (settle-passes-same h)
      (use-passes-same again a values (settled there h).rows ∙ ap (λ (k : Held). use_passes again a values k.rows) (settled-same rules h))

  pub option-passes-same : (a : Rule) (v : Option Text) (h : Held) → option_passes there again (moved_rule a) v h ≡ option_passes rules again a v h
  option-passes-same a None h = settle-passes-same h
  option-passes-same a (Some v) h = react-passes-same a (v ∷ []) h

  pub long-passes-same : (o : Option Rule) (v : Option Text) (h : Held) → long_passes there again (option_map moved_rule o) v h ≡ long_passes rules again o v h
  long-passes-same None v h = refl
  long-passes-same (Some a) v h = ap₂ (λ x y. cond (takes_values a) x (not (is_some v) && y)) (option-passes-same a v h) (react-passes-same a [] h)

  pub short-passes-same : (o : Option Rule) (rest : Text) (h : Held) (f g : Held → Bool) → ((k : Held) → f k ≡ g k)
      → short_passes there again (option_map moved_rule o) rest h f ≡ short_passes rules again o rest h g
  short-passes-same None rest h f g same = refl
  short-passes-same (Some a) rest h f g same = ap₂ (λ x y. cond (takes_values a) x y) (option-passes-same a (attached_value rest) h)
      (ap₂ (λ x y. x && y) (react-passes-same a [] h) (same (reacted there (moved_rule a) [] h) ∙ ap g (reacted-same rules a [] h)))

  pub bundle-step-passes-same : (o : Option ℕ) (flags : Text) (skip : ℕ) (h : Held) (f g : Text → ℕ → Held → Bool) → ((t : Text) (n : ℕ) (k : Held) → f t n k ≡ g t n k)
      → bundle_step_passes there again o flags skip h f ≡ bundle_step_passes rules again o flags skip h g
  bundle-step-passes-same None flags skip h f g same = refl
  bundle-step-passes-same (Some x) flags zero h f g same =
      let rest = drop (length (encode_utf8 x)) flags in
      ap (λ o. short_passes there again o rest h (f rest 0)) (by-short rules x) ∙ short-passes-same (arg_by_short rules x) rest h (f rest 0) (g rest 0) (same rest 0)
  bundle-step-passes-same (Some x) flags (suc skip) h f g same = same (drop (length (encode_utf8 x)) flags) skip h

  pub flags-pass-same : (k : ℕ) (flags : Text) (skip : ℕ) (h : Held) → flags_pass there again k flags skip h ≡ flags_pass rules again k flags skip h
  unfolding flags_pass
  flags-pass-same zero flags skip h = refl
  flags-pass-same (suc k) flags skip h =
      bundle-step-passes-same (slice_get (chars flags) 0) flags skip h (flags_pass there again k) (flags_pass rules again k) (flags-pass-same k)

  pub short-word-passes-same : (o : Option Text) (h : Held)
      → option_map_or (λ flags. flags_pass there again (length flags) flags h.skip (record h { skip = 0 })) o true
      ≡ option_map_or (λ flags. flags_pass rules again (length flags) flags h.skip (record h { skip = 0 })) o true
  short-word-passes-same None h = refl
  short-word-passes-same (Some flags) h = flags-pass-same (length flags) flags h.skip (record h { skip = 0 })

  pub flag-word-passes-same : (o : Option (Text × Option Text)) (word : Text) (h : Held) → flag_word_passes there again o word h ≡ flag_word_passes rules again o word h
  flag-word-passes-same None word h = short-word-passes-same (short_of word) h
  flag-word-passes-same (Some p) word h = ap (λ o. long_passes there again o p.1 h) (by-long rules p.0) ∙ long-passes-same (arg_by_long rules p.0) p.1 h

  pub other-passes-same : (o : Option Text) (word : Text) (h : Held) → other_passes (moved_shape s) o word h ≡ other_passes s o word h
  other-passes-same (Some name) word h = refl
  other-passes-same None word h = ap (λ x. bytes_eq word (45 ∷ 45 ∷ []) || x) (flag-word-passes-same (long_of word) word h)

  pub word-passes-same : (names : Names) (is_trailing : Bool) (waiting : Waiting) (word : Text) (h : Held)
      → word_passes (moved_shape s) names is_trailing waiting word h ≡ word_passes s names is_trailing waiting word h
  word-passes-same names is_trailing waiting word h = ap (λ x. is_trailing || x) (other-passes-same (subcommand_met names waiting word) word h)

  pub positional-passes-same : (o : Option Rule) (h : Held) → option_map_or (λ a. positional_passes there again a h) (option_map moved_rule o) false
      ≡ option_map_or (λ a. positional_passes rules again a h) o false
  positional-passes-same None h = refl
  positional-passes-same (Some a) h = ap (λ x. (is_pending a h.pending && takes_several a) || x) (settle-passes-same h)

  pub step-passes-same : (position : ℕ) (h : Held) (step : Step) → step_passes (moved_shape s) position h step ≡ step_passes s position h step
  step-passes-same position h (next waiting) = refl
  step-passes-same position h (trailing p) = refl
  step-passes-same position h (subcommand name) = refl
  step-passes-same position h value = ap (λ o. option_map_or (λ a. positional_passes there again a h) o false) (by-index rules position)
      ∙ positional-passes-same (arg_by_index rules position) h

  pub turn-passes-same : (names : Names) (w : Walk) (word : Text) → turn_passes (moved_shape s) names w word ≡ turn_passes s names w word
  turn-passes-same names w word = ap₂ (λ x y. is_some w.stopped || (x && y)) (word-passes-same names w.is_trailing w.waiting word w.held)
      (ap (λ (z : Held × Step). step_passes (moved_shape s) w.position z.0 z.1) (word-same rules names w.is_trailing w.waiting w.position word w.held) ∙ step-passes-same w.position (at_word rules names w word).0 (at_word rules names w word).1)

  pub walk-passes-same : (names : Names) (w : Walk) (words : List Text) → walk_passes (moved_shape s) names w words ≡ walk_passes s names w words
  unfolding walk_passes
  walk-passes-same names w [] = refl
  walk-passes-same names w (word ∷ rest) = ap₂ (λ x y. x && y) (turn-passes-same names w word)
      (ap (λ k. walk_passes (moved_shape s) names k rest) (walked-same rules names w word) ∙ walk-passes-same names (walked rules names w word) rest)

  pub defaults-pass-same : (xs : List Rule) → list_all default_passes (map moved_rule xs) ≡ list_all default_passes xs
  defaults-pass-same [] = refl
  defaults-pass-same (a ∷ rest) = ap₂ (λ x y. (is_empty a.defaults || (not (is_request (action_of a)) && x)) && y) (rule-passes a a.defaults) (defaults-pass-same rest)

  pub valid-same : (rows : List Row) (has : Bool) → is_valid (moved_shape s) rows has ≡ is_valid s rows has
  valid-same rows has = ap₂ (λ x y. (not s.arg_required_else_help || (has || list_any (λ r. explicit_source r.source) rows))
      && ((not s.subcommand_required || has) && (x && ((s.subcommand_negates_reqs && has) || y))))
      (all-same (λ a. a.is_free) (λ a. refl) rules) (all-same (λ a. not a.required || is_given a.id rows) (λ a. refl) rules)

  abbrev pub end_passes : Shape → Bool → Held → Bool
  end_passes t has h = settle_passes t.rules t.args_override_self h && (list_all default_passes t.rules && is_valid t (finished t.rules h) has)

  pub end-passes-same : (has : Bool) (h : Held) → end_passes (moved_shape s) has h ≡ end_passes s has h
  end-passes-same has h = ap₂ (λ x y. x && y) (settle-passes-same h) (ap₂ (λ x y. x && y) (defaults-pass-same rules)
      (ap (λ rows. is_valid (moved_shape s) rows has) (finished-same rules h) ∙ valid-same (finished rules h) has))

  pub level-passes-same : (names : Names) (h : Held) (words : List Text) (has : Bool) → level_passes (moved_shape s) names h words has ≡ level_passes s names h words has
  level-passes-same names h words has = ap₂ (λ x y. x && y) (walk-passes-same names (walk_from h) words)
      (ap (λ (w : Walk). end_passes (moved_shape s) has w.held) (walks-same rules names (walk_from h) words) ∙ end-passes-same has (walk rules names h words).held)
