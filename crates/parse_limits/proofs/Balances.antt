-- Which tokens are balanced: at most one bracket of a list is the first that closes what none of the tokens opens.
use Rattle.std.proofs.Common.{◌≡◌, ◌∙◌, Bool, true, false, List, [], ◌∷◌, Option, Some, None, ap, refl, sym, subst}
use Rattle.ttcn_syntax.specs.declared.token.Spanned.{Spanned}
use Rattle.ttcn_syntax.specs.declared.token.Symbol.{Symbol}
use Rattle.ttcn_syntax.specs.declared.token.Symbol.TheVariants as mark
use Rattle.ttcn_syntax.specs.declared.token.Token.TheVariants as token
use Rattle.parse_limits.specs.Groups.{Balanced, Group, closes, opens, partner}
use Rattle.parse_limits.specs.Groups.Balanced.{nothing, plain, pair}
use Rattle.parse_limits.specs.Groups.Group.{braces}

-- ---- symbols

pub partner-opens : (s : Symbol) {t : Symbol} → partner s ≡ Some t → opens (token.Symbol s) ≡ true
partner-opens mark.LeftBrace h = refl
partner-opens mark.LeftParen h = refl
partner-opens mark.LeftBracket h = refl
partner-opens _ h = cc

pub opening-stays-open : (s : Symbol) {t : Symbol} → partner s ≡ Some t → closes (token.Symbol s) ≡ false
opening-stays-open mark.LeftBrace h = refl
opening-stays-open mark.LeftParen h = refl
opening-stays-open mark.LeftBracket h = refl
opening-stays-open _ h = cc

none-or-closes : Option Symbol → Bool
none-or-closes None = true
none-or-closes (Some t) = closes (token.Symbol t)

pub partner-closes : (s : Symbol) {t : Symbol} → partner s ≡ Some t → closes (token.Symbol t) ≡ true
unfolding none-or-closes
partner-closes mark.LeftBrace h = sym (ap none-or-closes h)
partner-closes mark.LeftParen h = sym (ap none-or-closes h)
partner-closes mark.LeftBracket h = sym (ap none-or-closes h)
partner-closes _ h = cc

pub no-partner-opens : (s : Symbol) → partner s ≡ None → opens (token.Symbol s) ≡ false
no-partner-opens mark.LeftBrace h = cc
no-partner-opens mark.LeftParen h = cc
no-partner-opens mark.LeftBracket h = cc
no-partner-opens _ h = refl

-- ---- the first closing bracket

abbrev pub behind_first : List Spanned → List Spanned
behind_first [] = []
behind_first (k ∷ ts) = ts

moved : {ts others rest : List Spanned} → ts ≡ others → Balanced others rest → Balanced ts rest
moved {rest = rest} same b = subst (λ m. Balanced m rest) (sym same) b

-- what a balanced run of tokens up to a closing bracket leaves is the same for each
pub first-closing : {ts rest other : List Spanned} {c d : Spanned} → Balanced ts (c ∷ rest) → closes c.token ≡ true → Balanced ts (d ∷ other) → closes d.token ≡ true
    → c ∷ rest ≡ d ∷ other
first-closing nothing hc nothing hd = refl
first-closing nothing hc (plain no_open no_close b) hd = cc
first-closing nothing hc (pair {opening = s} is p b ic b') hd = cc (ap closes is, opening-stays-open s p)
first-closing (plain no_open no_close a) hc nothing hd = cc
first-closing (plain no_open no_close a) hc (plain no_open' no_close' b) hd = first-closing a hc b hd
first-closing (plain no_open no_close a) hc (pair {opening = s} is p b ic b') hd = cc (ap opens is, partner-opens s p)
first-closing (pair {opening = s} is p a ic a') hc nothing hd = cc (ap closes is, opening-stays-open s p)
first-closing (pair {opening = s} is p a ic a') hc (plain no_open no_close b) hd = cc (ap opens is, partner-opens s p)
first-closing (pair {opening = s} is p a ic a') hc (pair {opening = s'} is' p' b ic' b') hd =
    let same = first-closing a (ap closes ic ∙ partner-closes s p) b (ap closes ic' ∙ partner-closes s' p') in
    first-closing a' hc (moved (ap behind_first same) b') hd

pub one-rest : {ts rest other : List Spanned} {c d : Spanned} → Balanced ts (c ∷ rest) → closes c.token ≡ true → Balanced ts (d ∷ other) → closes d.token ≡ true → rest ≡ other
one-rest a hc b hd = ap behind_first (first-closing a hc b hd)

first-or : Spanned → List Spanned → Spanned
first-or k [] = k
first-or k (first ∷ ts) = first

pub one-first : {ts rest other : List Spanned} {c d : Spanned} → Balanced ts (c ∷ rest) → closes c.token ≡ true → Balanced ts (d ∷ other) → closes d.token ≡ true → c ≡ d
unfolding first-or
one-first {c = c} a hc b hd = ap (first-or c) (first-closing a hc b hd)

pub one-group : {ts rest other : List Spanned} → Group ts rest → Group ts other → rest ≡ other
one-group (braces is b ic) (braces is' b' ic') = one-rest b (ap closes ic) b' (ap closes ic')
