-- What is known of the tokens behind a place is known one token further to the front.
use Rattle.std.proofs.Common.{◌≡◌, ◌∙◌, true, false, List, [], ◌∷◌, Option, Some, None, MatchOption, ap, refl, sym, subst, inl, inr, unwrap_or}
use Rattle.std.specs.Prelude.{◌⊎◌}
use Rattle.ttcn_syntax.specs.declared.place.Span.{Span}
use Rattle.ttcn_syntax.specs.declared.token.Spanned.{Spanned}
use Rattle.ttcn_syntax.specs.declared.token.Symbol.{Symbol}
use Rattle.ttcn_syntax.specs.declared.token.Symbol.TheVariants as mark
use Rattle.ttcn_syntax.specs.declared.token.Token.{Token}
use Rattle.ttcn_syntax.specs.declared.token.Token.TheVariants as token
use Rattle.parse_limits.specs.declared.limits.Closing.{Closing}
use Rattle.parse_limits.specs.internal.Behind.{Finds, FindsBehind, IsElsewhere, Unopened}
use Rattle.parse_limits.specs.Groups.{Balanced, Group, Is, closes, opens, partner}
use Rattle.parse_limits.specs.Groups.Balanced.{nothing, plain, pair}
use Rattle.parse_limits.specs.Groups.Group.{braces}
use Rattle.parse_limits.specs.LeftOut.{HasLeftOut, Ignored, Shown, begins_ignored, is_left_out}
use Rattle.parse_limits.specs.LeftOut.Ignored.{part}
use Rattle.parse_limits.specs.LeftOut.Shown.{first, behind_token, behind_part}
use Rattle.parse_limits.proofs.Balances.{one-first, one-group, one-rest, opening-stays-open, partner-closes, partner-opens}

-- ---- what is found

shown-behind : {k x : Spanned} {ts : List Spanned} → Shown (k ∷ ts) x → ((rest : List Spanned) → Ignored (k ∷ ts) rest → ⊥) → (x ≡ k) ⊎ Shown ts x
shown-behind first no-part = inl refl
shown-behind (behind_token _ s) no-part = inr s
shown-behind (behind_part p s) no-part = absurd (no-part _ p)

one-part : {ts rest other : List Spanned} → Ignored ts rest → Ignored ts other → rest ≡ other
one-part (part word group) (part word' group') = one-group group group'

shown-behind-part : {k x : Spanned} {ts rest : List Spanned} → Shown (k ∷ ts) x → Ignored (k ∷ ts) rest → (x ≡ k) ⊎ Shown rest x
shown-behind-part first p = inl refl
shown-behind-part (behind_token no-part _) p = absurd (no-part _ p)
shown-behind-part {x = x} (behind_part q s) p = inr (subst (λ r. Shown r x) (one-part q p) s)

left-out-in : {k x : Spanned} {ts : List Spanned} → (x ≡ k) ⊎ Shown ts x → is_left_out x.token ≡ true → is_left_out k.token ≡ false → HasLeftOut ts
left-out-in (inl same) left_out used = cc
left-out-in {x = x} (inr stands) left_out used = record { shown = x; stands = stands; left_out = left_out }

-- a token that begins used ignored part and is not left out
pub finds-on : {k : Spanned} {ts : List Spanned} (found : Option Span) → ((rest : List Spanned) → Ignored (k ∷ ts) rest → ⊥) → is_left_out k.token ≡ false
    → Finds ts found → Finds (k ∷ ts) found
finds-on None no-part used h = λ has. h (left-out-in (shown-behind has.stands no-part) has.left_out used)
finds-on (Some place) no-part used h = record { shown = h.shown; stands = behind_token no-part h.stands; left_out = h.left_out }

-- a word that begins an ignored part
pub finds-behind-part : {k : Spanned} {ts rest : List Spanned} (found : Option Span) → Ignored (k ∷ ts) rest → is_left_out k.token ≡ false
    → Finds rest found → Finds (k ∷ ts) found
finds-behind-part None p used h = λ has. h (left-out-in (shown-behind-part has.stands p) has.left_out used)
finds-behind-part (Some place) p used h = record { shown = h.shown; stands = behind_part p h.stands; left_out = h.left_out }

pub no-part : {k : Spanned} {ts : List Spanned} → begins_ignored k.token ≡ false → (rest : List Spanned) → Ignored (k ∷ ts) rest → ⊥
no-part used rest (part word group) = cc

pub no-part-of-no-group : {k : Spanned} {ts : List Spanned} → ((rest : List Spanned) → Group ts rest → ⊥) → (rest : List Spanned) → Ignored (k ∷ ts) rest → ⊥
no-part-of-no-group no-group rest (part word group) = no-group rest group

-- a word that begins an ignored part if a group is behind it
pub finds-on-word : (k : Spanned) (ts : List Spanned) (group : Option (Option Span)) (found : Option Span) → begins_ignored k.token ≡ true → is_left_out k.token ≡ false
    → FindsBehind ts group → Finds ts found → Finds (k ∷ ts) (unwrap_or group found)
finds-on-word k ts None found begins used no-group h = finds-on found (no-part-of-no-group no-group) used h
finds-on-word k ts (Some behind) found begins used group h = finds-behind-part behind (part begins group.1) used group.2

pub finds-here : (k : Spanned) (ts : List Spanned) → is_left_out k.token ≡ true → HasLeftOut (k ∷ ts)
finds-here k ts left_out = record { shown = k; stands = first; left_out = left_out }

-- ---- the closing brackets

-- the token `k` is no bracket
plain-closing : {k c : Spanned} {ts rest : List Spanned} → opens k.token ≡ false → closes k.token ≡ false → closes c.token ≡ true → Balanced (k ∷ ts) (c ∷ rest) → Balanced ts (c ∷ rest)
plain-closing no_open no_close hc nothing = cc
plain-closing no_open no_close hc (plain _ _ b) = b
plain-closing no_open no_close hc (pair {opening = s} is p b ic b') = cc (ap opens is, partner-opens s p)

pub unopened-plain : (k : Spanned) (ts : List Spanned) (all : List Closing) → opens k.token ≡ false → closes k.token ≡ false → Unopened all ts → Unopened all (k ∷ ts)
unfolding Unopened
unopened-plain k ts [] no_open no_close h = λ c rest b hc. h c rest (plain-closing no_open no_close hc b) hc
unopened-plain k ts (top ∷ others) no_open no_close h = record {
  place = h.place;
  rest = h.rest;
  balanced = plain no_open no_close h.balanced;
  bracket = h.bracket;
  closing = h.closing;
  found = h.found;
  onward = h.onward;
}

-- `k` closes
pub unopened-close : (k : Spanned) (ts : List Spanned) (all : List Closing) (bracket : Symbol) (found : Option Span) → Is k (token.Symbol bracket) → closes k.token ≡ true → Finds ts found → Unopened all ts
    → Unopened (record { bracket = bracket; found = found } ∷ all) (k ∷ ts)
unfolding Unopened
unopened-close k ts all bracket found is hc f h = record {
  place = k;
  rest = ts;
  balanced = nothing;
  bracket = is;
  closing = hc;
  found = f;
  onward = h;
}

-- what a bracket that opens is closed by
record Closed (ts : List Spanned) (closing : Symbol) (rest : List Spanned) : Type 0 where
  place : Spanned
  middle : List Spanned
  inner : Balanced ts (place ∷ middle)
  closed : Is place (token.Symbol closing)
  outer : Balanced middle rest

symbol-or : Symbol → Token → Symbol
symbol-or s (token.Symbol t) = t
symbol-or s _ = s

same_symbol : {s t : Symbol} → token.Symbol s ≡ token.Symbol t → s ≡ t
unfolding symbol-or
same_symbol {s = s} h = ap (symbol-or s) h

same-partner : (s : Symbol) {t u : Symbol} → partner s ≡ Some t → partner s ≡ Some u → u ≡ t
same-partner s p q = cc

closed-of : {k c : Spanned} {ts rest : List Spanned} {opening closing : Symbol} → Is k (token.Symbol opening) → partner opening ≡ Some closing → closes c.token ≡ true
    → Balanced (k ∷ ts) (c ∷ rest) → Closed ts closing (c ∷ rest)
closed-of {opening = o} is p hc nothing = cc (ap closes is, opening-stays-open o p)
closed-of {opening = o} is p hc (plain no_open _ b) = cc (ap opens is, partner-opens o p)
closed-of is p hc (pair {c = c} {middle = m} is' p' b ic b') =
    let same = same_symbol (sym is ∙ is') in
    record {
      place = c;
      middle = m;
      inner = b;
      closed = ic ∙ ap (λ s. token.Symbol s) (same-partner _ p (ap partner same ∙ p'));
      outer = b';
    }

-- `k` opens what the first of the brackets closes
pub unopened-pair : (k : Spanned) (ts : List Spanned) {opening closing : Symbol} (found : Option Span) (others : List Closing) → Is k (token.Symbol opening) → partner opening ≡ Some closing
    → Unopened (record { bracket = closing; found = found } ∷ others) ts → Unopened others (k ∷ ts)
unfolding Unopened
unopened-pair k ts {opening = o} found [] is p h = λ c rest b hc.
    let by = closed-of is p hc b in
    h.onward c rest (subst (λ m. Balanced m (c ∷ rest)) (one-rest by.inner (ap closes by.closed ∙ partner-closes o p) h.balanced h.closing) by.outer) hc
unopened-pair k ts found (top ∷ others) is p h =
    let next = h.onward in
    record {
      place = next.place;
      rest = next.rest;
      balanced = pair is p h.balanced h.bracket next.balanced;
      bracket = next.bracket;
      closing = next.closing;
      found = next.found;
      onward = next.onward;
    }

-- the first of the brackets closes something else, or there is none
nothing-closes : {ts rest : List Spanned} {closing : Symbol} (all : List Closing) → IsElsewhere closing all → Unopened all ts → (place : Spanned) → Balanced ts (place ∷ rest) → closes place.token ≡ true
    → Is place (token.Symbol closing) → ⊥
unfolding Unopened
nothing-closes [] elsewhere h place b hc is = h place _ b hc
nothing-closes (top ∷ others) elsewhere h place b hc is =
    let same = same_symbol (sym is ∙ ap (λ (k : Spanned). k.token) (one-first b hc h.balanced h.closing) ∙ h.bracket) in
    elsewhere top.found others (ap (λ s. record { bracket = s; found = top.found } ∷ others) (sym same))

pub unopened-none : (k : Spanned) (ts : List Spanned) {opening closing : Symbol} (all : List Closing) → Is k (token.Symbol opening) → partner opening ≡ Some closing
    → IsElsewhere closing all → Unopened all ts → Unopened [] (k ∷ ts)
unfolding Unopened
unopened-none k ts {opening = o} all is p elsewhere h = λ c rest b hc.
    let by = closed-of is p hc b in
    nothing-closes all elsewhere h by.place by.inner (ap closes by.closed ∙ partner-closes o p) by.closed

-- ---- groups

pub no-group : {k : Spanned} {ts : List Spanned} → (Is k (token.Symbol mark.LeftBrace) → ⊥) → (rest : List Spanned) → Group (k ∷ ts) rest → ⊥
no-group other rest (braces is b ic) = other is

pub no-group-elsewhere : (k : Spanned) (ts : List Spanned) (all : List Closing) → IsElsewhere mark.RightBrace all → Unopened all ts → (rest : List Spanned) → Group (k ∷ ts) rest → ⊥
no-group-elsewhere k ts all elsewhere h rest (braces {c = c} is b ic) = nothing-closes all elsewhere h c b (ap closes ic) ic

pub group-of : (k : Spanned) (ts : List Spanned) (found : Option Span) (others : List Closing) → Is k (token.Symbol mark.LeftBrace) → Unopened (record { bracket = mark.RightBrace; found = found } ∷ others) ts
    → FindsBehind (k ∷ ts) (Some found)
unfolding Unopened
group-of k ts found others is h = (h.rest, braces is h.balanced h.bracket, h.found)

-- ---- a bracket that opens, by what was taken from the brackets

abbrev Taken : Symbol → List Closing → List Closing → Option (Option Span) → Type 0
Taken closing before after result = MatchOption result (IsElsewhere closing before × (after ≡ [])) (λ found. before ≡ record { bracket = closing; found = found } ∷ after)

pub unopened-open : (k : Spanned) (ts : List Spanned) {opening closing : Symbol} (before after : List Closing) (result : Option (Option Span)) → Is k (token.Symbol opening) → partner opening ≡ Some closing
    → Taken closing before after result → Unopened before ts → Unopened after (k ∷ ts)
unopened-open k ts before after None is p taken h = rw taken.1 (unopened-none k ts before is p taken.0 h)
unopened-open k ts before after (Some found) is p taken h = unopened-pair k ts found after is p (rw taken at h)

group-taken : (k : Spanned) (ts : List Spanned) (before after : List Closing) (result : Option (Option Span)) → Is k (token.Symbol mark.LeftBrace)
    → Taken mark.RightBrace before after result → Unopened before ts → FindsBehind (k ∷ ts) result
group-taken k ts before after None is taken h = no-group-elsewhere k ts before taken.0 h
group-taken k ts before after (Some found) is taken h = group-of k ts found after is (rw taken at h)

pub group-open : (k : Spanned) (ts : List Spanned) {opening closing : Symbol} (before after : List Closing) (result : Option (Option Span)) → Is k (token.Symbol opening) → opening ≡ mark.LeftBrace
    → partner opening ≡ Some closing → Taken closing before after result → Unopened before ts → FindsBehind (k ∷ ts) result
group-open k ts before after result is brace p taken h =
    let closing_brace = same-partner mark.LeftBrace refl (ap partner (sym brace) ∙ p) in
    group-taken k ts before after result (is ∙ ap (λ s. token.Symbol s) brace) (rw closing_brace at taken) h

pub no-brace : {k : Spanned} {ts : List Spanned} {s : Symbol} → Is k (token.Symbol s) → (s ≡ mark.LeftBrace → ⊥) → (rest : List Spanned) → Group (k ∷ ts) rest → ⊥
no-brace is other = no-group (λ is'. other (same_symbol (sym is ∙ is')))

-- ---- tokens that are no symbols

pub word-opens : (t : Token) → ((s : Symbol) → t ≡ token.Symbol s → ⊥) → opens t ≡ false
word-opens (token.Symbol s) other = absurd (other s refl)
word-opens _ other = refl

pub word-closes : (t : Token) → ((s : Symbol) → t ≡ token.Symbol s → ⊥) → closes t ≡ false
word-closes (token.Symbol s) other = absurd (other s refl)
word-closes _ other = refl

-- ---- behind the last token

shows-nothing : {x : Spanned} → Shown [] x → ⊥
shows-nothing h = elim h [ ]

pub finds-nothing : HasLeftOut [] → ⊥
finds-nothing has = shows-nothing has.stands

balances-nothing : {c : Spanned} {rest : List Spanned} → Balanced [] (c ∷ rest) → ⊥
balances-nothing h = elim h [ ]

pub unopened-nothing : Unopened [] []
unfolding Unopened
unopened-nothing = λ c rest b hc. balances-nothing b

pub no-group-of-nothing : (rest : List Spanned) → Group [] rest → ⊥
no-group-of-nothing rest h = elim h [ ]
