-- What may stand behind a phrase.
use Rattle.std.proofs.Common.{◌≡◌, ℕ, suc, ◌-◌, ◌≤◌, ◌<◌, Bool, true, false, ◌⊎◌, inl, inr, List, [], ◌∷◌, length, drop, refl, ap, ◌∙◌, arith}
use Rattle.std.specs.Prelude.{Option, Some, None, ◌||◌}
use Rattle.ttcn_syntax.specs.Operators.{Joins, level_of, operator_of, written, or_joins, xor_joins, and_joins, equality_joins, order_joins, sum_joins, product_joins}
use Rattle.ttcn_syntax.specs.declared.operator.Level.{Level}
use Rattle.ttcn_syntax.specs.declared.operator.Level.TheVariants as level
use Rattle.ttcn_syntax.specs.declared.operator.Operator.{Operator}
use Rattle.ttcn_syntax.specs.declared.operator.Operator.TheVariants as operator
use Rattle.ttcn_syntax.specs.declared.token.Symbol.{Symbol}
use Rattle.ttcn_syntax.specs.declared.token.Symbol.TheVariants as mark
use Rattle.ttcn_syntax.specs.declared.token.Token.{Token}
use Rattle.ttcn_syntax.specs.declared.token.Token.TheVariants as token
use Rattle.ttcn_syntax.specs.declared.token.Spanned.{Spanned}
use Rattle.ttcn_syntax.specs.declared.token.Word.{Word}
use Rattle.ttcn_syntax.specs.declared.token.Word.TheVariants as word
use Rattle.parse_limits.specs.Groups.{Is}
use Rattle.parse_grammar.specs.Grammar.{EndsInBrace, Ends, last, earlier, in_brace, before_semicolon, before_brace}
use Rattle.parse_reader.specs.internal.Reading.{head_token, may_end, sees, sees_word}
use Rattle.parse_reader.specs.internal.Expressions.{next_field}
use Rattle.parse_grammar.proofs.Tokens.{sees-here, sees-is, sees-word-is}

pub either : (b : Bool) → (b ≡ true) ⊎ (b ≡ false)
either true = inl refl
either false = inr refl

-- ---- how far what stands before a token may reach: where it goes on with this token, a lower number

abbrev pub word_rank : Word → ℕ
word_rank word.Or = 19
word_rank word.Xor = 17
word_rank word.And = 15
word_rank word.Mod = 5
word_rank word.Rem = 5
word_rank word.Ifpresent = 21
word_rank word.Optional = 23
word_rank word.Language = 24
word_rank word.To = 26
word_rank word.From = 26
word_rank word.Sender = 26
word_rank word.Else = 26
word_rank word.With = 29
word_rank _ = 30

abbrev pub symbol_rank : Symbol → ℕ
symbol_rank mark.Dot = 0
symbol_rank mark.LeftParen = 1
symbol_rank mark.Assign = 2
symbol_rank mark.Colon = 2
symbol_rank mark.Star = 5
symbol_rank mark.Slash = 5
symbol_rank mark.Plus = 7
symbol_rank mark.Minus = 7
symbol_rank mark.Less = 9
symbol_rank mark.Greater = 9
symbol_rank mark.LessEqual = 9
symbol_rank mark.GreaterEqual = 9
symbol_rank mark.Equal = 11
symbol_rank mark.NotEqual = 11
symbol_rank mark.DotDot = 21
symbol_rank mark.Comma = 24
symbol_rank mark.Arrow = 26
symbol_rank mark.LeftBrace = 27
symbol_rank _ = 30

abbrev pub rank : Option Token → ℕ
rank (Some (token.Word w)) = word_rank w
rank (Some (token.Symbol s)) = symbol_rank s
rank _ = 30

-- an operand of a level is followed by nothing below this number
abbrev pub number : Level → ℕ
number level.Sign = 4
number level.Product = 6
number level.Sum = 8
number level.Order = 10
number level.Equality = 12
number level.Not = 14
number level.And = 16
number level.Xor = 18
number level.Or = 20

-- what is left begins with nothing below this number
pub record Follows (n : ℕ) (rest : List Spanned) : Type 0 where
  pub least : n ≤ rank (head_token rest)

pub loosen : (m n : ℕ) (rest : List Spanned) → m ≤ n → Follows n rest → Follows m rest
loosen m n rest less f = record { least = omega (arith, less, f.least) }

pub follows-at : (n : ℕ) (k : Spanned) (rest : List Spanned) (t : Token) → Is k t → n ≤ rank (Some t) → Follows n (k ∷ rest)
follows-at n k rest t is less = record { least = rw is less }

pub follows-end : (rest : List Spanned) → rest ≡ [] → Follows 30 rest
follows-end rest is = record { least = rw is (omega arith) }

-- ---- what does not come next

pub no_symbol : (s : Symbol) (n : ℕ) (rest : List Spanned) → Follows n rest → symbol_rank s < n → sees s rest ≡ false
no_symbol s n rest f less = elim (either (sees s rest)) [
  | inl there ↦ (let begins = sees-is s rest there in
      let next : rank (head_token rest) ≡ symbol_rank s = ap (λ ts. rank (head_token ts)) begins.all ∙ ap (λ t. rank (Some t)) begins.is in
      absurd (omega (arith, f.least, less, next)))
  | inr other ↦ other
]

pub no-word : (w : Word) (n : ℕ) (rest : List Spanned) → Follows n rest → word_rank w < n → sees_word w rest ≡ false
no-word w n rest f less = elim (either (sees_word w rest)) [
  | inl there ↦ (let begins = sees-word-is w rest there in
      let next : rank (head_token rest) ≡ word_rank w = ap (λ ts. rank (head_token ts)) begins.all ∙ ap (λ t. rank (Some t)) begins.is in
      absurd (omega (arith, f.least, less, next)))
  | inr other ↦ other
]

pub no-field : (n : ℕ) (rest : List Spanned) → Follows n rest → 0 < n → next_field rest ≡ None
no-field n rest f less = rw (no_symbol mark.Dot n rest f less) refl

-- ---- operators

pub written-operator : (o : Operator) → operator_of (written o) ≡ Some o
written-operator operator.Or = refl
written-operator operator.Xor = refl
written-operator operator.And = refl
written-operator operator.Equal = refl
written-operator operator.NotEqual = refl
written-operator operator.Less = refl
written-operator operator.Greater = refl
written-operator operator.LessEqual = refl
written-operator operator.GreaterEqual = refl
written-operator operator.Add = refl
written-operator operator.Subtract = refl
written-operator operator.Multiply = refl
written-operator operator.Divide = refl
written-operator operator.Mod = refl
written-operator operator.Rem = refl

-- an operator comes one below the number of its level
pub written-rank : (o : Operator) → number (level_of o) ≡ suc (rank (Some (written o)))
written-rank operator.Or = refl
written-rank operator.Xor = refl
written-rank operator.And = refl
written-rank operator.Equal = refl
written-rank operator.NotEqual = refl
written-rank operator.Less = refl
written-rank operator.Greater = refl
written-rank operator.LessEqual = refl
written-rank operator.GreaterEqual = refl
written-rank operator.Add = refl
written-rank operator.Subtract = refl
written-rank operator.Multiply = refl
written-rank operator.Divide = refl
written-rank operator.Mod = refl
written-rank operator.Rem = refl

pub tighter : {outer inner : Level} → Joins outer inner → suc (number inner) < number outer
tighter or_joins = omega arith
tighter xor_joins = omega arith
tighter and_joins = omega arith
tighter equality_joins = omega arith
tighter order_joins = omega arith
tighter sum_joins = omega arith
tighter product_joins = omega arith

-- every operand reaches over dots, brackets and ':='
pub at-least : (l : Level) → 3 < number l
at-least level.Sign = omega arith
at-least level.Product = omega arith
at-least level.Sum = omega arith
at-least level.Order = omega arith
at-least level.Equality = omega arith
at-least level.Not = omega arith
at-least level.And = omega arith
at-least level.Xor = omega arith
at-least level.Or = omega arith

-- ---- what may end

pub brace-shrinks : {ts rest : List Spanned} → EndsInBrace ts rest → length rest < length ts
brace-shrinks (last is) = omega arith
brace-shrinks (earlier more) = omega (arith, brace-shrinks more)

dropped : (n : ℕ) (k : Spanned) (ts : List Spanned) (m : ℕ) → n ≡ suc m → drop n (k ∷ ts) ≡ drop m ts
dropped n k ts m e = rw e refl

brace-seen : {ts rest : List Spanned} → EndsInBrace ts rest → sees mark.RightBrace (drop (length ts - length rest - 1) ts) ≡ true
brace-seen (last {k = k} {rest = rest} is) =
    let none : length (k ∷ rest) - length rest - 1 ≡ 0 = omega arith in rw none (sees-here mark.RightBrace k rest is)
brace-seen (earlier {k = k} {ts = ts} {rest = rest} more) =
    let shorter = brace-shrinks more in
    let one : length (k ∷ ts) - length rest - 1 ≡ suc (length ts - length rest - 1) = omega (arith, shorter) in
    rw (dropped (length (k ∷ ts) - length rest - 1) k ts (length ts - length rest - 1) one) (brace-seen more)

or-true : (a b : Bool) → b ≡ true → (a || b) ≡ true
or-true true b h = refl
or-true false b h = h

pub may-end-here : {ts rest : List Spanned} → Ends ts rest → may_end ts rest ≡ true
unfolding may_end
may-end-here {ts = ts} (in_brace {rest = rest} brace) =
    or-true (sees mark.Semicolon rest) _ (or-true (sees mark.RightBrace rest) _ (brace-seen brace))
may-end-here (before_semicolon {k = k} {rest = rest} is) = rw (sees-here mark.Semicolon k rest is) refl
may-end-here {ts = ts} (before_brace {k = k} {rest = rest} is) =
    or-true (sees mark.Semicolon (k ∷ rest)) _ (rw (sees-here mark.RightBrace k rest is) refl)
