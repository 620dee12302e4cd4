-- What holds after a walk over words that has no fault.
use Rattle.std.proofs.Common.{◌≡◌, ◌&&◌, ℕ, Bool, cond, true, false, not, zero, suc, refl, sym, subst, List, [], ◌∷◌, length, drop, Option, Some, None, is_some, codes, true≢false}
use Rattle.std.specs.List.{find, fold}
use Rattle.std.specs.Option.{option_map_or}
use Rattle.std.specs.Str.{bytes_eq, chars}
use Rattle.std.specs.Prelude.{encode_utf8, slice_get}
use Rattle.clap.specs.Lexer.{long_of, short_of}
use Rattle.clap.specs.Kinds.{Kinds, or_else}
use Rattle.clap.specs.Walk.{Held, Names, Outcome, Row, Rule, Step, Text, Waiting, Walk, after_flag, after_step, arg_by_id, arg_by_index, arg_by_long, arg_by_short, attached_value, bundle_met, bundle_step, done, flag_met, has_long, has_short, idle, is_pending, long_met, long_or_other, next, option, option_met, option_word, plain, plain_word, positional, pushed, reacted, refused, settled, settled_rows, short_met, short_or_plain, subcommand, subcommand_met, subcommand_or_other, takes_several, takes_values, to_positional, trailing, used, used_by_id, value, waits, walked, walked_from, word_met}
use Rattle.clap.specs.Simple.{Shape}
use Rattle.clap.specs.Faults.{bundle_step_fault, flag_word_fault, flags_fault, long_fault, option_fault, other_fault, react_fault, short_fault, step_fault, stray_fault, turn_fault, use_fault, walk_fault, word_fault}
use Rattle.clap.specs.declared.error.kind.ErrorKind.TheVariants as kind

-- where two steps have no fault, neither has
pub none-of : (a b : Kinds) → or_else a b ≡ [] → (a ≡ []) × (b ≡ [])
none-of [] b e = (refl, e)
none-of (k ∷ ks) b e = cc

-- what each use of an argument keeps where it has no fault, the whole walk keeps
module _ (s : Shape) (Q : List Row → Type 0)
    (keeps : (a : Rule) (p : Rule → Bool) → find p s.rules ≡ Some a → (values : List Text) (rows : List Row) → Q rows
    → use_fault s.args_override_self a values rows ≡ [] → Q (used a values rows)) where
  abbrev c : List Rule
  c = s.rules

  abbrev again : Bool
  again = s.args_override_self

  pub settle-keeps : (pending : Option (Text × List Text)) (rows : List Row) → Q rows
      → option_map_or (λ p. option_map_or (λ a. use_fault s.args_override_self a p.1 rows) (arg_by_id s.rules p.0) []) pending [] ≡ []
      → Q (settled_rows s.rules pending rows)
  settle-keeps None rows q e = q
  settle-keeps (Some p) rows q e = by-id (arg_by_id c p.0) refl e
    where
      by-id : (o : Option Rule) → arg_by_id c p.0 ≡ o → option_map_or (λ a. use_fault again a p.1 rows) o [] ≡ [] → Q (used_by_id o p.1 rows)
      by-id None is free = q
      by-id (Some a) is free = keeps a (λ x. bytes_eq x.id p.0) is p.1 rows q free

  react-keeps : (a : Rule) (p : Rule → Bool) → find p c ≡ Some a → (values : List Text) (h : Held) → Q h.rows → react_fault c again a values h ≡ []
      → Q (reacted c a values h).rows
  react-keeps a p is values h q e =
      let parts = none-of _ _ e in
      keeps a p is values (settled c h).rows (settle-keeps h.pending h.rows q parts.0) parts.1

  option-keeps : (a : Rule) (p : Rule → Bool) → find p c ≡ Some a → (v : Option Text) (h : Held) → Q h.rows → option_fault c again a v h ≡ []
      → Q (option_met c a v h).0.rows
  option-keeps a p is None h q e = settle-keeps h.pending h.rows q e
  option-keeps a p is (Some v) h q e = react-keeps a p is (v ∷ []) h q e

  flag-keeps : (a : Rule) (p : Rule → Bool) → find p c ≡ Some a → (v : Option Text) (h : Held) → Q h.rows
      → cond (is_some v) (kind.TooManyValues ∷ []) (react_fault c again a [] h) ≡ [] → Q (flag_met c a v h).0.rows
  flag-keeps a p is None h q e = react-keeps a p is [] h q e
  flag-keeps a p is (Some v) h q e = q

  long-keeps : (o : Option Rule) (p : Rule → Bool) → find p c ≡ o → (v : Option Text) (h : Held) → Q h.rows → long_fault c again o v h ≡ []
      → Q (long_met c o v h).0.rows
  long-keeps None p is v h q e = q
  long-keeps (Some a) p is v h q e = go (takes_values a) e
    where
      go : (b : Bool) → cond b (option_fault c again a v h) (cond (is_some v) (kind.TooManyValues ∷ []) (react_fault c again a [] h)) ≡ []
          → Q (cond b (option_met c a v h) (flag_met c a v h)).0.rows
      go true free = option-keeps a p is v h q free
      go false free = flag-keeps a p is v h q free

  short-keeps : (o : Option Rule) (p : Rule → Bool) → find p c ≡ o → (rest : Text) (h : Held) (met : Held → Held × Outcome) (fault : Held → Kinds)
      → ((now : Held) → Q now.rows → fault now ≡ [] → Q (met now).0.rows) → Q h.rows → short_fault c again o rest h fault ≡ []
      → Q (short_met c o rest h met).0.rows
  short-keeps None p is rest h met fault then q e = q
  short-keeps (Some a) p is rest h met fault then q e = go (takes_values a) e
    where
      go : (b : Bool) → cond b (option_fault c again a (attached_value rest) h) (or_else (react_fault c again a [] h) (fault (reacted c a [] h))) ≡ []
          → Q (cond b (option_met c a (attached_value rest) h) (met (reacted c a [] h))).0.rows
      go true free = option-keeps a p is (attached_value rest) h q free
      go false free =
          let parts = none-of _ _ free in
          then (reacted c a [] h) (react-keeps a p is [] h q parts.0) parts.1

  character-keeps : (o : Option ℕ) (flags : Text) (skip : ℕ) (so_far : Outcome) (h : Held) (met : Text → ℕ → Outcome → Held → Held × Outcome) (fault : Text → ℕ → Held → Kinds)
      → ((more : Text) (left : ℕ) (before : Outcome) (now : Held) → Q now.rows → fault more left now ≡ [] → Q (met more left before now).0.rows)
      → Q h.rows → bundle_step_fault c again o flags skip h fault ≡ [] → Q (bundle_step c o flags skip so_far h met).0.rows
  character-keeps None flags skip so_far h met fault then q e = q
  character-keeps (Some x) flags zero so_far h met fault then q e =
      let more = drop (length (encode_utf8 x)) flags in
      short-keeps (arg_by_short c x) (λ a. not (is_some a.index) && has_short a x) refl more h (met more 0 done) (fault more 0) (then more 0 done) q e
  character-keeps (Some x) flags (suc skip) so_far h met fault then q e = then (drop (length (encode_utf8 x)) flags) skip so_far h q e

  bundle-keeps : (k : ℕ) (flags : Text) (skip : ℕ) (so_far : Outcome) (h : Held) → Q h.rows → flags_fault c again k flags skip h ≡ []
      → Q (bundle_met c k flags skip so_far h).0.rows
  unfolding bundle_met flags_fault
  bundle-keeps zero flags skip so_far h q e = q
  bundle-keeps (suc k) flags skip so_far h q e =
      character-keeps (slice_get (chars flags) 0) flags skip so_far h (bundle_met c k) (flags_fault c again k) (bundle-keeps k) q e

  -- a word that is no flag leaves the rows
  plain-leaves : (waiting : Waiting) (word : Text) (h : Held) → (plain_word c waiting word h).0.rows ≡ h.rows
  plain-leaves idle word h = refl
  plain-leaves positional word h = refl
  plain-leaves (option id) word h = go (arg_by_id c id)
    where
      go : (o : Option Rule) → (option_word o id word h).0.rows ≡ h.rows
      go None = refl
      go (Some a) = refl

  flag-leaves : (waiting : Waiting) (word : Text) (h : Held) (outcome : Outcome) → (after_flag c waiting word h outcome).0.rows ≡ h.rows
  flag-leaves waiting word h done = refl
  flag-leaves waiting word h (waits id) = refl
  flag-leaves waiting word h plain = plain-leaves waiting word h
  flag-leaves waiting word h refused = plain-leaves waiting word h

  short-word-keeps : (o : Option Text) (waiting : Waiting) (word : Text) (h : Held) → Q h.rows → option_map_or (λ flags. flags_fault c again (length flags) flags h.skip (record h { skip = 0 })) o [] ≡ []
      → Q (short_or_plain c waiting word o h).0.rows
  short-word-keeps None waiting word h q e = subst Q (sym (plain-leaves waiting word h)) q
  short-word-keeps (Some flags) waiting word h q e =
      subst Q (sym (flag-leaves waiting word _ _)) (bundle-keeps (length flags) flags h.skip plain (record h { skip = 0 }) q e)

  flag-word-keeps : (o : Option (Text × Option Text)) (waiting : Waiting) (word : Text) (h : Held) → Q h.rows → flag_word_fault c again o word h ≡ []
      → Q (long_or_other c waiting word o h).0.rows
  flag-word-keeps None waiting word h q e = short-word-keeps (short_of word) waiting word h q e
  flag-word-keeps (Some p) waiting word h q e =
      subst Q (sym (flag-leaves waiting word _ _)) (long-keeps (arg_by_long c p.0) (λ a. not (is_some a.index) && has_long a p.0) refl p.1 h q e)

  other-keeps : (o : Option Text) (waiting : Waiting) (position : ℕ) (word : Text) (h : Held) → Q h.rows → other_fault s o word h ≡ []
      → Q (subcommand_or_other c o waiting position word h).0.rows
  other-keeps (Some name) waiting position word h q e = q
  other-keeps None waiting position word h q e = go (bytes_eq word (45 ∷ 45 ∷ [])) e
    where
      go : (b : Bool) → cond b [] (flag_word_fault c again (long_of word) word h) ≡ []
          → Q (cond b (h, trailing position) (long_or_other c waiting word (long_of word) h)).0.rows
      go true free = q
      go false free = flag-word-keeps (long_of word) waiting word h q free

  word-keeps : (names : Names) (is_trailing : Bool) (waiting : Waiting) (position : ℕ) (word : Text) (h : Held) → Q h.rows
      → word_fault s names is_trailing waiting word h ≡ [] → Q (word_met c names is_trailing waiting position word h).0.rows
  word-keeps names true waiting position word h q e = q
  word-keeps names false waiting position word h q e = other-keeps (subcommand_met names waiting word) waiting position word h q e

  positional-keeps : (o : Option Rule) (word : Text) (w : Walk) (h : Held) → Q h.rows
      → option_map_or (λ a. cond (is_pending a h.pending && takes_several a) [] (option_map_or (λ p. option_map_or (λ x. use_fault again x p.1 h.rows) (arg_by_id c p.0) []) h.pending [])) o (stray_fault s) ≡ []
      → Q (to_positional c o word w h).held.rows
  positional-keeps None word w h q e = q
  positional-keeps (Some a) word w h q e = go (is_pending a h.pending && takes_several a) e
    where
      go : (b : Bool) → cond b [] (option_map_or (λ p. option_map_or (λ x. use_fault again x p.1 h.rows) (arg_by_id c p.0) []) h.pending []) ≡ []
          → Q (pushed a.id word (cond b h (settled c h))).rows
      go true free = q
      go false free = settle-keeps h.pending h.rows q free

  step-keeps : (word : Text) (w : Walk) (h : Held) (step : Step) → Q h.rows → step_fault s w.position h step ≡ [] → Q (after_step c word w h step).held.rows
  step-keeps word w h (next waiting) q e = q
  step-keeps word w h (trailing position) q e = q
  step-keeps word w h (subcommand name) q e = q
  step-keeps word w h value q e = positional-keeps (arg_by_index c w.position) word w h q e

  turn-keeps : (names : Names) (w : Walk) (word : Text) → Q w.held.rows → turn_fault s names w word ≡ [] → Q (walked c names w word).held.rows
  unfolding walked
  turn-keeps names w word q e = go w.stopped e
    where
      go : (o : Option (Text × List Text)) → cond (is_some o) [] (or_else (word_fault s names w.is_trailing w.waiting word w.held)
          (step_fault s w.position (word_met c names w.is_trailing w.waiting w.position word w.held).0 (word_met c names w.is_trailing w.waiting w.position word w.held).1)) ≡ []
          → Q (walked_from c names o w word).held.rows
      go (Some p) free = q
      go None free =
          let parts = none-of _ _ free in
          step-keeps word w _ _ (word-keeps names w.is_trailing w.waiting w.position word w.held q parts.0) parts.1

  pub walk-keeps : (names : Names) (w : Walk) (words : List Text) → Q w.held.rows → walk_fault s names w words ≡ [] → Q (fold (walked s.rules names) w words).held.rows
  unfolding walk_fault
  walk-keeps names w [] q e = q
  walk-keeps names w (word ∷ rest) q e =
      let parts = none-of _ _ e in
      walk-keeps names (walked c names w word) rest (turn-keeps names w word q parts.0) parts.1

-- ---- a walk with no fault stops at no `help`, where that is a subcommand that clap adds

abbrev pub IsNoHelp : Option (Text × List Text) → Type 0
IsNoHelp None = Unit {0}
IsNoHelp (Some p) = bytes_eq p.0 (codes "help") ≡ false

abbrev EntersNoHelp : Step → Type 0
EntersNoHelp (subcommand name) = bytes_eq name (codes "help") ≡ false
EntersNoHelp _ = Unit {0}

module _ (s : Shape) (has_help : s.disable_help_subcommand ≡ false) where
  plain-enters : (waiting : Waiting) (word : Text) (h : Held) → EntersNoHelp (plain_word s.rules waiting word h).1
  plain-enters idle word h = tt
  plain-enters positional word h = tt
  plain-enters (option id) word h = tt

  flag-enters : (waiting : Waiting) (word : Text) (h : Held) (outcome : Outcome) → EntersNoHelp (after_flag s.rules waiting word h outcome).1
  flag-enters waiting word h done = tt
  flag-enters waiting word h (waits id) = tt
  flag-enters waiting word h plain = plain-enters waiting word h
  flag-enters waiting word h refused = plain-enters waiting word h

  short-enters : (o : Option Text) (waiting : Waiting) (word : Text) (h : Held) → EntersNoHelp (short_or_plain s.rules waiting word o h).1
  short-enters None waiting word h = plain-enters waiting word h
  short-enters (Some flags) waiting word h = flag-enters waiting word _ _

  long-enters : (o : Option (Text × Option Text)) (waiting : Waiting) (word : Text) (h : Held) → EntersNoHelp (long_or_other s.rules waiting word o h).1
  long-enters None waiting word h = short-enters (short_of word) waiting word h
  long-enters (Some p) waiting word h = flag-enters waiting word _ _

  no-help : (hit disabled : Bool) → disabled ≡ false → cond (hit && not disabled) (kind.DisplayHelp ∷ kind.InvalidSubcommand ∷ []) [] ≡ [] → hit ≡ false
  no-help true true off e = absurd (true≢false off)
  no-help true false off e = cc
  no-help false disabled off e = refl

  other-enters : (o : Option Text) (waiting : Waiting) (position : ℕ) (word : Text) (h : Held) → other_fault s o word h ≡ []
      → EntersNoHelp (subcommand_or_other s.rules o waiting position word h).1
  other-enters (Some name) waiting position word h e = no-help _ _ has_help e
  other-enters None waiting position word h e = go (bytes_eq word (45 ∷ 45 ∷ []))
    where
      go : (b : Bool) → EntersNoHelp (cond b (h, trailing position) (long_or_other s.rules waiting word (long_of word) h)).1
      go true = tt
      go false = long-enters (long_of word) waiting word h

  word-enters : (names : Names) (is_trailing : Bool) (waiting : Waiting) (position : ℕ) (word : Text) (h : Held)
      → word_fault s names is_trailing waiting word h ≡ [] → EntersNoHelp (word_met s.rules names is_trailing waiting position word h).1
  word-enters names true waiting position word h e = tt
  word-enters names false waiting position word h e = other-enters (subcommand_met names waiting word) waiting position word h e

  step-enters : (word : Text) (w : Walk) (h : Held) (step : Step) → IsNoHelp w.stopped → EntersNoHelp step → IsNoHelp (after_step s.rules word w h step).stopped
  step-enters word w h (next waiting) before new = before
  step-enters word w h (trailing position) before new = before
  step-enters word w h (subcommand name) before new = new
  step-enters word w h value before new = go (arg_by_index s.rules w.position)
    where
      go : (o : Option Rule) → IsNoHelp (to_positional s.rules o word w h).stopped
      go None = before
      go (Some a) = tt

  turn-enters : (names : Names) (w : Walk) (word : Text) → IsNoHelp w.stopped → turn_fault s names w word ≡ [] → IsNoHelp (walked s.rules names w word).stopped
  unfolding walked
  turn-enters names w word before e = go w.stopped before e
    where
      go : (o : Option (Text × List Text)) → IsNoHelp o → cond (is_some o) [] (or_else (word_fault s names w.is_trailing w.waiting word w.held)
          (step_fault s w.position (word_met s.rules names w.is_trailing w.waiting w.position word w.held).0 (word_met s.rules names w.is_trailing w.waiting w.position word w.held).1)) ≡ []
          → IsNoHelp (walked_from s.rules names o w word).stopped
      go (Some p) old free = old
      go None old free =
          step-enters word w _ _ before (word-enters names w.is_trailing w.waiting w.position word w.held (none-of _ _ free).0)

  pub walk-enters : (names : Names) (w : Walk) (words : List Text) → IsNoHelp w.stopped → walk_fault s names w words ≡ [] → IsNoHelp (fold (walked s.rules names) w words).stopped
  unfolding walk_fault
  walk-enters names w [] before e = before
  walk-enters names w (word ∷ rest) before e =
      let parts = none-of _ _ e in
      walk-enters names (walked s.rules names w word) rest (turn-enters names w word before parts.0) parts.1
