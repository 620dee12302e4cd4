-- What is spelled is what the parser reads: references and expressions.
use Rattle.std.proofs.Common.{◌≡◌, ℕ, zero, suc, ◌≤◌, ◌<◌, Bool, true, false, inl, inr, List, [], ◌∷◌, ◌++◌, length, append-nil, append_assoc, refl, sym, ap, ◌∙◌, arith, rules}
use Rattle.std.specs.Prelude.{Option, Some, None, ◌&&◌}
use denote.Enum.Bare.{same_true, true_same}
use Rattle.ttcn_syntax.specs.Operators.{Joins, level_of, operator_of, written, or_joins, xor_joins, and_joins, equality_joins, order_joins, sum_joins, product_joins}
use Rattle.ttcn_syntax.specs.contracts.operator.Level as a_level
use Rattle.ttcn_syntax.specs.declared.operator.Level.{Level}
use Rattle.ttcn_syntax.specs.declared.operator.Level.TheVariants as level
use Rattle.ttcn_syntax.specs.declared.operator.Operator.{Operator}
use Rattle.ttcn_syntax.specs.declared.operator.Sign.TheVariants as sign
use Rattle.ttcn_syntax.specs.declared.token.Symbol.{Symbol}
use Rattle.ttcn_syntax.specs.declared.token.Symbol.TheVariants as mark
use Rattle.ttcn_syntax.specs.declared.token.Token.{Token}
use Rattle.ttcn_syntax.specs.declared.token.Token.TheVariants as token
use Rattle.ttcn_syntax.specs.declared.token.Spanned.{Spanned}
use Rattle.ttcn_syntax.specs.declared.token.Word.{Word}
use Rattle.ttcn_syntax.specs.declared.token.Word.TheVariants as word
use Rattle.ttcn_syntax.specs.declared.tree.expression.ComponentRef.{ComponentRef}
use Rattle.ttcn_syntax.specs.declared.tree.expression.ComponentRef.TheVariants as component_ref
use Rattle.ttcn_syntax.specs.declared.tree.expression.Expr.{Expr}
use Rattle.ttcn_syntax.specs.declared.tree.expression.Expr.TheVariants as expr
use Rattle.ttcn_syntax.specs.declared.tree.expression.Link.{Link}
use Rattle.ttcn_syntax.specs.declared.tree.expression.Reference.{Reference}
use Rattle.ttcn_syntax.specs.declared.tree.value.TypeName.{TypeName}
use Rattle.parse_reader.specs.declared.shape.Shape.{Shape}
use Rattle.parse_reader.specs.declared.shape.Shape.TheVariants as shape
use Rattle.parse_limits.specs.Groups.{Is}
use Rattle.parse_grammar.specs.Grammar.{Parts, Production, Spells, a_component, a_primary, a_reference, a_type, an_operand, phrase, the_links}
use Rattle.parse_reader.specs.Trees.{link}
use Rattle.parse_grammar.specs.Grammar as spelled
use Rattle.parse_reader.specs.internal.Reading.{Parser, behind, head_token, is_symbol, is_word, same_level, same_symbol, same_word, second, sees, sees_word}
use Rattle.parse_reader.specs.internal.Expressions.{at_equality, at_level, at_or, at_order, at_product, at_sum, chain, component, eat_operator, expression, inner, links_from, most_links, negation, next_field, next_operator, operand_of, primary, reference, referred, signed}
use Rattle.parse_reader.specs.internal.Values.{assigns, calls, creates}
use Rattle.parse_reader.specs.internal.Templates.{infinite, shape_by, shape_expression, shape_in}
use Rattle.parse_reader.specs.internal.Reading as read
use Rattle.parse_reader.specs.internal.Expressions as read_expressions
use Rattle.parse_reader.specs.internal.Values as read_values
use Rattle.parse_reader.specs.internal.Templates as read_templates
use Rattle.parse_grammar.proofs.Spellings.{shrinks, turn-shrinks}
use Rattle.parse_grammar.proofs.Tokens.{expect-here, expect-word-here, name-here, sees-by, sees-here, sees-is, sees-word-by, sees-word-here, sees-word-is}
use Rattle.parse_grammar.proofs.Follow.{Follows, at-least, either, follows-at, loosen, no-field, no_symbol, number, rank, tighter, written-operator, written-rank}
use Rattle.parse_grammar.proofs.Claims.{Claim, KnownInTurn, Opened, OperandRead, PrimaryRead, all, by, end, then, this}
use Rattle.parse_grammar.proofs.CompleteLists.{by-turns, fields-read, none-is-some, some-is}

-- ---- how an expression begins

-- the tokens that begin one, but for names and '-'
pub data First : Token → Type 0 where
  an_int : {n : ℕ} → First (token.Int n)
  a_true : First (token.Word word.True)
  a_false : First (token.Word word.False)
  a_null : First (token.Word word.Null)
  itself : First (token.Word word.SelfWord)
  an_mtc : First (token.Word word.Mtc)
  present : First (token.Word word.Ispresent)
  a_not : First (token.Word word.Not)
  paren : First (token.Symbol mark.LeftParen)
  a_plus : First (token.Symbol mark.Plus)

-- what stands behind the first name: a dot and no 'create', an operator, or what follows the expression
pub data Behind : List Spanned → List Spanned → Type 0 where
  dotted : {ts rest : List Spanned} → sees mark.Dot ts ≡ true → is_word word.Create (second ts) ≡ false → Behind ts rest
  same : {ts : List Spanned} → Behind ts ts
  operator : {ts rest : List Spanned} → Follows 3 ts → Behind ts rest

-- ':' does not come next, unless behind the expression
pub record Uncolored (ts rest : List Spanned) : Type 0 where
  pub none : sees mark.Colon rest ≡ false → sees mark.Colon ts ≡ false

pub data Starts : List Spanned → List Spanned → Type 0 where
  plain : {k : Spanned} {t : Token} {ts rest : List Spanned} → Is k t → First t → length rest ≤ length ts → Uncolored ts rest → Starts (k ∷ ts) rest
  minus : {k : Spanned} {ts rest : List Spanned} → Is k (token.Symbol mark.Minus) → sees_word word.Infinity ts ≡ false → length rest ≤ length ts
      → Uncolored ts rest → Starts (k ∷ ts) rest
  named : {k : Spanned} {bytes : List ℕ} {ts rest : List Spanned} → Is k (token.Id bytes) → length rest ≤ length ts → Behind ts rest → Uncolored ts rest → Starts (k ∷ ts) rest

behind-more : {ts middle rest : List Spanned} → Behind ts middle → Behind middle rest → Behind ts rest
behind-more (dotted d c) b = dotted d c
behind-more same b = b
behind-more (operator f) b = operator f

dot-is-no-colon : (ts : List Spanned) → sees mark.Dot ts ≡ true → sees mark.Colon ts ≡ false
unfolding same_symbol
dot-is-no-colon ts h = let begins = sees-is mark.Dot ts h in rw begins.all (sees-by mark.Colon begins.first (behind ts) _ begins.is)

behind-uncolored : {ts rest : List Spanned} → Behind ts rest → Uncolored ts rest
behind-uncolored (dotted {ts = ts} d c) = record { none = λ h. dot-is-no-colon ts d }
behind-uncolored same = record { none = λ h. h }
behind-uncolored (operator {ts = ts} f) = record { none = λ h. no_symbol mark.Colon 3 ts f (omega arith) }

both : {ts middle rest : List Spanned} → Uncolored ts middle → Uncolored middle rest → Uncolored ts rest
both u v = record { none = λ h. u.none (v.none h) }

pub extend : {ts middle rest : List Spanned} → Starts ts middle → length rest ≤ length middle → Behind middle rest → Starts ts rest
extend (plain is f less u) fewer b = plain is f (omega (arith, less, fewer)) (both u (behind-uncolored b))
extend (minus is i less u) fewer b = minus is i (omega (arith, less, fewer)) (both u (behind-uncolored b))
extend (named is less c u) fewer b = named is (omega (arith, less, fewer)) (behind-more c b) (both u (behind-uncolored b))

alone : (ts : List Spanned) → Uncolored ts ts
alone ts = record { none = λ h. h }

-- it begins with no token but these
abbrev pub begins : Token → Bool
begins (token.Int n) = true
begins (token.Id bytes) = true
begins (token.Word word.True) = true
begins (token.Word word.False) = true
begins (token.Word word.Null) = true
begins (token.Word word.SelfWord) = true
begins (token.Word word.Mtc) = true
begins (token.Word word.Ispresent) = true
begins (token.Word word.Not) = true
begins (token.Symbol mark.LeftParen) = true
begins (token.Symbol mark.Plus) = true
begins (token.Symbol mark.Minus) = true
begins _ = false

first-begins : {t : Token} → First t → begins t ≡ true
first-begins an_int = refl
first-begins a_true = refl
first-begins a_false = refl
first-begins a_null = refl
first-begins itself = refl
first-begins an_mtc = refl
first-begins present = refl
first-begins a_not = refl
first-begins paren = refl
first-begins a_plus = refl

starts-begin : {k : Spanned} {ts rest : List Spanned} → Starts (k ∷ ts) rest → begins k.token ≡ true
starts-begin (plain is f less u) = rw is (first-begins f)
starts-begin (minus is i less u) = rw is refl
starts-begin (named is less b u) = rw is refl

pub not-first-symbol : (s : Symbol) (ts rest : List Spanned) → Starts ts rest → begins (token.Symbol s) ≡ false → sees s ts ≡ false
not-first-symbol s [] rest s0 h = elim s0 [ ]
not-first-symbol s (k ∷ ts) rest s0 h = elim (either (sees s (k ∷ ts))) [
  | inl there ↦ (let b = sees-is s (k ∷ ts) there in
      let t : begins k.token ≡ begins (token.Symbol s) = ap (λ us. first_of us) b.all ∙ ap begins b.is in
      let e = sym (starts-begin s0) ∙ t ∙ h in cc)
  | inr other ↦ other
]
  where
    first_of : List Spanned → Bool
    first_of [] = false
    first_of (k ∷ ts) = begins k.token

pub not-first-word : (w : Word) (ts rest : List Spanned) → Starts ts rest → begins (token.Word w) ≡ false → sees_word w ts ≡ false
not-first-word w [] rest s0 h = elim s0 [ ]
not-first-word w (k ∷ ts) rest s0 h = elim (either (sees_word w (k ∷ ts))) [
  | inl there ↦ (let b = sees-word-is w (k ∷ ts) there in
      let t : begins k.token ≡ begins (token.Word w) = ap (λ us. first_of us) b.all ∙ ap begins b.is in
      let e = sym (starts-begin s0) ∙ t ∙ h in cc)
  | inr other ↦ other
]
  where
    first_of : List Spanned → Bool
    first_of [] = false
    first_of (k ∷ ts) = begins k.token

uncolored-start : {ts rest end : List Spanned} → Starts ts rest → Uncolored ts end
uncolored-start {ts = ts} {rest = rest} s = record { none = λ h. not-first-symbol mark.Colon ts rest s refl }

-- ---- what is spelled begins so

pub starts-reference : {r : Reference} {ts rest : List Spanned} → Spells (phrase (a_reference r)) ts rest → Starts ts rest
unfolding same_symbol
starts-reference (spelled.by (spelled.dotted_name name []) (spelled.then (spelled.this is) (spelled.then (spelled.all spelled.end) spelled.end))) =
    named is (omega arith) same (alone _)
starts-reference (spelled.by (spelled.dotted_name name (f ∷ fs)) (spelled.then (spelled.this {k = k} is) (spelled.then (spelled.all (spelled.then (spelled.all (spelled.then (spelled.this {k = d} dot) (spelled.then (spelled.this {k = n} {rest = ts} field) spelled.end))) more)) spelled.end))) =
    let b = dotted (sees-here mark.Dot d (n ∷ ts) dot) (rw field refl) in
    let shorter = turn-shrinks more in
    named is (omega (arith, shorter)) b (behind-uncolored b)

pub starts-component : {c : ComponentRef} {ts rest : List Spanned} → Spells (phrase (a_component c)) ts rest → Starts ts rest
starts-component (spelled.by spelled.itself (spelled.then (spelled.this is) spelled.end)) = plain is itself (omega arith) (alone _)
starts-component (spelled.by spelled.mtc (spelled.then (spelled.this is) spelled.end)) = plain is an_mtc (omega arith) (alone _)
starts-component (spelled.by (spelled.named r) (spelled.then s spelled.end)) = starts-reference s

behind-running : {d w : Spanned} {rest : List Spanned} → Is d (token.Symbol mark.Dot) → Is w (token.Word word.Running) → Behind (d ∷ w ∷ rest) rest
unfolding same_word
behind-running {d = d} {w = w} {rest = rest} dot is = dotted (sees-here mark.Dot d (w ∷ rest) dot) (rw is refl)

behind-links : {l : Level} {n : Link} {ls : List Link} {ts rest : List Spanned} → Spells (phrase (the_links l (n ∷ ls))) ts rest → Behind ts rest
behind-links (spelled.by (spelled.next_link {outer = outer} e ls j o at) (spelled.then (spelled.this {k = k} {rest = ts} is) more)) =
    operator (follows-at 3 k ts (written o) is (omega (arith, written-rank o, at-least (level_of o))))

uncolored-paren : {k : Spanned} {ts end : List Spanned} → Is k (token.Symbol mark.LeftParen) → Uncolored (k ∷ ts) end
unfolding same_symbol
uncolored-paren {k = k} {ts = ts} is = record { none = λ h. sees-by mark.Colon k ts _ is }

mutual
  pub starts-primary : {e : Expr} {ts rest : List Spanned} → Spells (phrase (a_primary e)) ts rest → Starts ts rest
  starts-primary (spelled.by (spelled.number n) (spelled.then (spelled.this is) spelled.end)) = plain is an_int (omega arith) (alone _)
  starts-primary (spelled.by spelled.true_word (spelled.then (spelled.this is) spelled.end)) = plain is a_true (omega arith) (alone _)
  starts-primary (spelled.by spelled.false_word (spelled.then (spelled.this is) spelled.end)) = plain is a_false (omega arith) (alone _)
  starts-primary (spelled.by spelled.null (spelled.then (spelled.this is) spelled.end)) = plain is a_null (omega arith) (alone _)
  starts-primary (spelled.by (spelled.referred c) (spelled.then s spelled.end)) = starts-component s
  starts-primary (spelled.by (spelled.running c) (spelled.then s (spelled.then (spelled.this {k = d} dot) (spelled.then (spelled.this {k = w} {rest = rest} is) spelled.end)))) =
      extend (starts-component s) (omega arith) (behind-running dot is)
  starts-primary (spelled.by (spelled.is_present r) (spelled.then (spelled.this is) (spelled.then (spelled.this opening) more))) =
      let shorter = turn-shrinks more in plain is present (omega (arith, shorter)) (uncolored-paren opening)
  starts-primary (spelled.by (spelled.bracketed e) (spelled.then (spelled.this is) (spelled.then s (spelled.then (spelled.this close) spelled.end)))) =
      let shorter = shrinks s in plain is paren (omega (arith, shorter)) (uncolored-start (starts-operand s))

  pub starts-operand : {l : Level} {e : Expr} {ts rest : List Spanned} → Spells (phrase (an_operand l e)) ts rest → Starts ts rest
  starts-operand (spelled.by (spelled.unsigned e) (spelled.then s spelled.end)) = starts-primary s
  starts-operand (spelled.by (spelled.plus e) (spelled.then (spelled.this is) (spelled.then s spelled.end))) =
      let shorter = shrinks s in plain is a_plus (omega (arith, shorter)) (uncolored-start (starts-primary s))
  starts-operand (spelled.by (spelled.minus e) (spelled.then (spelled.this {rest = ts} is) (spelled.then {middle = rest} s spelled.end))) =
      let shorter = shrinks s in
      let next = starts-primary s in
      minus is (not-first-word word.Infinity ts rest next refl) (omega (arith, shorter)) (uncolored-start next)
  starts-operand (spelled.by (spelled.affirmed e) (spelled.then s spelled.end)) = starts-operand s
  starts-operand (spelled.by (spelled.negated e) (spelled.then (spelled.this is) (spelled.then s spelled.end))) =
      let shorter = shrinks s in plain is a_not (omega (arith, shorter)) (uncolored-start (starts-operand s))
  starts-operand (spelled.by (spelled.alone e j) (spelled.then s spelled.end)) = starts-operand s
  starts-operand (spelled.by (spelled.joined e l ls j once) (spelled.then s (spelled.then more spelled.end))) =
      extend (starts-operand s) (shrinks more) (behind-links more)

-- ---- what does not begin so

-- the second token is no '(', no ':=', and none of '.' 'create'
pub record Quiet (ts : List Spanned) : Type 0 where
  pub no_call : calls ts ≡ false
  pub no_assignment : assigns ts ≡ false
  pub no_create : creates ts ≡ false
  pub infinity : infinite ts ≡ false

dot-is-no : (s : Symbol) (ts : List Spanned) → sees mark.Dot ts ≡ true → same_symbol mark.Dot s ≡ false → sees s ts ≡ false
dot-is-no s ts h other = let begins = sees-is mark.Dot ts h in rw begins.all (sees-by s begins.first (behind ts) _ begins.is ∙ other)

-- a token that is no name, and no '-'
pub plain-quiet : (k : Spanned) (t : Token) (ts : List Spanned) → Is k t → First t → Quiet (k ∷ ts)
unfolding calls assigns creates infinite sees sees_word same_symbol same_word
plain-quiet k t ts is an_int = record { no_call = rw is refl; no_assignment = rw is refl; no_create = rw is refl; infinity = rw is refl }
plain-quiet k t ts is a_true = record { no_call = rw is refl; no_assignment = rw is refl; no_create = rw is refl; infinity = rw is refl }
plain-quiet k t ts is a_false = record { no_call = rw is refl; no_assignment = rw is refl; no_create = rw is refl; infinity = rw is refl }
plain-quiet k t ts is a_null = record { no_call = rw is refl; no_assignment = rw is refl; no_create = rw is refl; infinity = rw is refl }
plain-quiet k t ts is itself = record { no_call = rw is refl; no_assignment = rw is refl; no_create = rw is refl; infinity = rw is refl }
plain-quiet k t ts is an_mtc = record { no_call = rw is refl; no_assignment = rw is refl; no_create = rw is refl; infinity = rw is refl }
plain-quiet k t ts is present = record { no_call = rw is refl; no_assignment = rw is refl; no_create = rw is refl; infinity = rw is refl }
plain-quiet k t ts is a_not = record { no_call = rw is refl; no_assignment = rw is refl; no_create = rw is refl; infinity = rw is refl }
plain-quiet k t ts is paren = record { no_call = rw is refl; no_assignment = rw is refl; no_create = rw is refl; infinity = rw is refl }
plain-quiet k t ts is a_plus = record { no_call = rw is refl; no_assignment = rw is refl; no_create = rw is refl; infinity = rw is refl }

pub minus-quiet : (k : Spanned) (ts : List Spanned) → Is k (token.Symbol mark.Minus) → sees_word word.Infinity ts ≡ false → Quiet (k ∷ ts)
unfolding calls assigns creates infinite sees sees_word same_symbol
minus-quiet k ts is i = record { no_call = rw is refl; no_assignment = rw is refl; no_create = rw is refl; infinity = rw is i }

-- a name is quiet by what stands behind it
pub name-quiet : (k : Spanned) (bytes : List ℕ) (ts : List Spanned) → Is k (token.Id bytes) → sees mark.LeftParen ts ≡ false → sees mark.Assign ts ≡ false
    → (is_symbol mark.Dot (head_token ts) && is_word word.Create (second ts)) ≡ false → Quiet (k ∷ ts)
unfolding calls assigns creates infinite sees sees_word
name-quiet k bytes ts is p a c = record { no_call = rw is p; no_assignment = rw is a; no_create = rw is c; infinity = rw is refl }

no-dot : (ts : List Spanned) (b : Bool) → sees mark.Dot ts ≡ false → (is_symbol mark.Dot (head_token ts) && b) ≡ false
unfolding sees
no-dot ts b h = rw h refl

dot-and : (ts : List Spanned) (b : Bool) → sees mark.Dot ts ≡ true → b ≡ false → (is_symbol mark.Dot (head_token ts) && b) ≡ false
unfolding sees
dot-and ts b h other = rw h other

follows-quiet : (k : Spanned) (bytes : List ℕ) (ts : List Spanned) → Is k (token.Id bytes) → Follows 3 ts → Quiet (k ∷ ts)
follows-quiet k bytes ts is f =
    name-quiet k bytes ts is (no_symbol mark.LeftParen 3 ts f (omega arith)) (no_symbol mark.Assign 3 ts f (omega arith))
    (no-dot ts _ (no_symbol mark.Dot 3 ts f (omega arith)))

behind-quiet : (k : Spanned) (bytes : List ℕ) (ts rest : List Spanned) → Is k (token.Id bytes) → Behind ts rest → Follows 3 rest → Quiet (k ∷ ts)
unfolding same_symbol
behind-quiet k bytes ts rest is (dotted d c) f =
    name-quiet k bytes ts is (dot-is-no mark.LeftParen ts d refl) (dot-is-no mark.Assign ts d refl) (dot-and ts _ d c)
behind-quiet k bytes ts rest is same f = follows-quiet k bytes ts is f
behind-quiet k bytes ts rest is (operator g) f = follows-quiet k bytes ts is g

pub starts-quiet : (ts rest : List Spanned) → Starts ts rest → Follows 3 rest → Quiet ts
starts-quiet [] rest s g = elim s [ ]
starts-quiet (k ∷ ts) rest (plain {t = t} is f less u) g = plain-quiet k t ts is f
starts-quiet (k ∷ ts) rest (minus is i less u) g = minus-quiet k ts is i
starts-quiet (k ∷ ts) rest (named {bytes = bytes} is less b u) g = behind-quiet k bytes ts rest is b g

-- the second token is no ':'
pub starts-uncolored : (ts rest : List Spanned) → Starts ts rest → sees mark.Colon rest ≡ false → is_symbol mark.Colon (second ts) ≡ false
unfolding sees
starts-uncolored [] rest s h = elim s [ ]
starts-uncolored (k ∷ ts) rest (plain is f less u) h = u.none h
starts-uncolored (k ∷ ts) rest (minus is i less u) h = u.none h
starts-uncolored (k ∷ ts) rest (named is less b u) h = u.none h

-- ---- references, components, types

reference-by : (bytes : List ℕ) (fields : List (List ℕ)) (k : Spanned) (ts rest : List Spanned) → Is k (token.Id bytes) → read_expressions.fields ts ≡ Some (fields, rest)
    → reference (k ∷ ts) ≡ Some (record { name = bytes; fields = fields }, rest)
unfolding reference
reference-by bytes fields k ts rest is h = rw (name-here bytes k ts is) (rw h refl)

pub reference-reads : {r : Reference} {ps : Parts} {ts rest : List Spanned} → Production (a_reference r) ps → KnownInTurn ps ts rest → Claim (a_reference r) ts rest
reference-reads (spelled.dotted_name name fields) (then (this {k = k} {rest = ts} is) (then (all {rest = rest} fs) end)) = λ h.
    reference-by name fields k ts rest is (fields-read fields ts rest fs h (length ts) (omega arith) [])

pub component_at : (k : Spanned) (ts : List Spanned) (t : Token) → Is k t → component (k ∷ ts) ≡ read_expressions.component_by (Some t) (k ∷ ts)
unfolding component
component_at k ts t is = rw is refl

pub named-by : (r : Reference) (ts rest : List Spanned) → reference ts ≡ Some (r, rest) → read_expressions.named_reference ts ≡ Some (component_ref.Named r, rest)
unfolding read_expressions.named_reference
named-by r ts rest h = rw h refl

pub component-reads : {c : ComponentRef} {ps : Parts} {ts rest : List Spanned} → Production (a_component c) ps → KnownInTurn ps ts rest → Claim (a_component c) ts rest
component-reads spelled.itself (then (this {k = k} {rest = ts} is) end) = λ h. component_at k ts _ is
component-reads spelled.mtc (then (this {k = k} {rest = ts} is) end) = λ h. component_at k ts _ is
component-reads (spelled.named r) (then (by {rest = rest} (spelled.by (spelled.dotted_name name fields) (spelled.then (spelled.this {k = k} {rest = ts} is) more)) claim) end) = λ h.
    component_at k ts _ is ∙ named-by r (k ∷ ts) rest (claim h)

type_at : (k : Spanned) (ts : List Spanned) (t : Token) → Is k t → read_values.a_type (k ∷ ts) ≡ read.with_rest (read_values.type_by (Some t)) ts
unfolding read_values.a_type
type_at k ts t is = rw is refl

pub type-reads : {n : TypeName} {ps : Parts} {ts rest : List Spanned} → Production (a_type n) ps → KnownInTurn ps ts rest → Claim (a_type n) ts rest
type-reads spelled.integer (then (this {k = k} {rest = ts} is) end) = type_at k ts _ is
type-reads spelled.boolean (then (this {k = k} {rest = ts} is) end) = type_at k ts _ is
type-reads spelled.default (then (this {k = k} {rest = ts} is) end) = type_at k ts _ is
type-reads (spelled.type_by_name name) (then (this {k = k} {rest = ts} is) end) = type_at k ts _ is

-- ---- an expression as a template

shape-else : (p : Parser Shape) (t : Token) → First t → is_symbol mark.LeftParen (Some t) ≡ false → shape_by p (Some t) ≡ shape_expression
unfolding same_symbol
shape-else p t an_int h = refl
shape-else p t a_true h = refl
shape-else p t a_false h = refl
shape-else p t a_null h = refl
shape-else p t itself h = refl
shape-else p t an_mtc h = refl
shape-else p t present h = refl
shape-else p t a_not h = refl
shape-else p t paren h = cc
shape-else p t a_plus h = refl

shape-at : (d : ℕ) (k : Spanned) (ts : List Spanned) (t : Token) → Is k t → ((p : Parser Shape) → shape_by p (Some t) ≡ shape_expression)
    → shape_in d (k ∷ ts) ≡ shape_expression (k ∷ ts)
unfolding shape_in
shape-at zero k ts t is h = rw is (rw (h read.refuse) refl)
shape-at (suc d) k ts t is h = rw is (rw (h (shape_in d)) refl)

shape-plain : (d : ℕ) (ts rest : List Spanned) → Starts ts rest → sees mark.LeftParen ts ≡ false → shape_in d ts ≡ shape_expression ts
shape-plain d [] rest s h = elim s [ ]
shape-plain d (k ∷ ts) rest (plain {t = t} is f less u) h =
    shape-at d k ts t is (λ p. shape-else p t f (sym (sees-by mark.LeftParen k ts t is) ∙ h))
shape-plain d (k ∷ ts) rest (minus is i less u) h = shape-at d k ts _ is (λ p. refl)
shape-plain d (k ∷ ts) rest (named is less b u) h = shape-at d k ts _ is (λ p. refl)

shape-expression-reads : (ts rest : List Spanned) (e : Expr) → calls ts ≡ false → expression ts ≡ Some (e, rest) → shape_expression ts ≡ Some (shape.Expr e, rest)
unfolding shape_expression
shape-expression-reads ts rest e none h = rw none (rw h refl)

pub expression-reads : (ts rest : List Spanned) (e : Expr) → OperandRead level.Or e ts rest → Follows 20 rest → expression ts ≡ Some (e, rest)
unfolding expression
expression-reads ts rest e o f = o.reads (length ts) (omega arith) f

closed-reads : (first e : Expr) (c : Spanned) (middle rest : List Spanned) → Is c (token.Symbol mark.RightParen)
    → at_or (inner (length middle)) (Some first) middle ≡ Some (e, rest) → read_templates.closed_expression first (c ∷ middle) ≡ Some (shape.Expr e, rest)
unfolding read_templates.closed_expression read_expressions.expression_from
closed-reads first e c middle rest is h = rw (expect-here mark.RightParen c middle is) (rw h refl)

opened-reads : (p : Parser Shape) (first : Expr) (x : Shape × List Spanned) (c : Spanned) (middle : List Spanned) → Is c (token.Symbol mark.RightParen)
    → read_templates.closed_expression first (c ∷ middle) ≡ Some x → read_templates.opened_by p first (c ∷ middle) ≡ Some x
unfolding read_templates.opened_by same_symbol
opened-reads p first x c middle is h = rw (sees-by mark.DotDot c middle _ is) (rw (sees-here mark.RightParen c middle is) h)

parens-reads : (p : Parser Shape) (first : Expr) (x : Shape × List Spanned) (k c : Spanned) (ts middle : List Spanned) → Is k (token.Symbol mark.LeftParen)
    → infinite ts ≡ false → p ts ≡ Some (shape.Expr first, c ∷ middle) → Is c (token.Symbol mark.RightParen) → read_templates.opened_by p first (c ∷ middle) ≡ Some x
    → read_templates.in_parens p (k ∷ ts) ≡ Some x
unfolding read_templates.in_parens
parens-reads p first x k c ts middle is i h close more =
    rw (expect-here mark.LeftParen k ts is) (rw i (rw h (rw (sees-word-by word.Ifpresent c middle _ close) more)))

pub parens-at : (d : ℕ) (k : Spanned) (ts : List Spanned) → Is k (token.Symbol mark.LeftParen) → shape_in (suc d) (k ∷ ts) ≡ read_templates.in_parens (shape_in d) (k ∷ ts)
unfolding shape_in
parens-at d k ts is = rw is refl

opened-shape : (e : Expr) (ts rest : List Spanned) → Opened level.Or e ts rest → (d : ℕ) → length ts ≤ d → Follows 20 rest → shape_in d ts ≡ Some (shape.Expr e, rest)
opened-shape e ts rest o d w f =
    let more = o.goes_on (length o.middle) (omega arith) f in
    let few : suc (length o.inside) ≤ d = rw o.all at w in
    rw o.all (by-turns (λ d. shape_in d (o.opening ∷ o.inside) ≡ Some (shape.Expr e, rest)) d (omega (arith, few)) (λ m count.
    parens-at m o.opening o.inside o.is_opening
    ∙ parens-reads (shape_in m) o.first (shape.Expr e, rest) o.opening o.closing o.inside o.middle o.is_opening o.infinity
    (o.shaped m (omega (arith, few, count))) o.is_closing
    (opened-reads (shape_in m) o.first (shape.Expr e, rest) o.closing o.middle o.is_closing (closed-reads o.first e o.closing o.middle rest o.is_closing more))))

pub expression-shape : (e : Expr) (ts rest : List Spanned) → Starts ts rest → OperandRead level.Or e ts rest → (d : ℕ) → length ts ≤ d → Follows 20 rest
    → shape_in d ts ≡ Some (shape.Expr e, rest)
expression-shape e ts rest s o d w f = elim (either (sees mark.LeftParen ts)) [
  | inl there ↦ opened-shape e ts rest (o.opened there) d w f
  | inr other ↦ shape-plain d ts rest s other
      ∙ shape-expression-reads ts rest e (starts-quiet ts rest s (loosen 3 20 rest (omega arith) f)).no_call (expression-reads ts rest e o f)
]

-- ---- operands without operators

primary-at : (p : Parser Expr) (k : Spanned) (ts : List Spanned) (t : Token) → Is k t → primary p (k ∷ ts) ≡ read_expressions.primary_by p (Some t) (k ∷ ts)
unfolding primary
primary-at p k ts t is = rw is refl

-- of one token
one-token : (e : Expr) (k : Spanned) (ts : List Spanned) (t : Token) → Is k t → is_symbol mark.LeftParen (Some t) ≡ false
    → ((p : Parser Expr) → read_expressions.primary_by p (Some t) (k ∷ ts) ≡ Some (e, ts)) → PrimaryRead e (k ∷ ts) ts
one-token e k ts t is other h = record {
  reads = λ d w f. primary-at (inner d) k ts t is ∙ h (inner d);
  opened = λ there. (let never = sym there ∙ sees-by mark.LeftParen k ts t is ∙ other in cc);
}

-- a component is no word of an expression, and no bracket
refers : {c : ComponentRef} {ts rest : List Spanned} (p : Parser Expr) → Spells (phrase (a_component c)) ts rest
    → (primary p ts ≡ referred ts) × (sees mark.LeftParen ts ≡ false)
refers p (spelled.by spelled.itself (spelled.then (spelled.this {k = k} {rest = ts} is) spelled.end)) = (primary-at p k ts _ is, sees-by mark.LeftParen k ts _ is)
refers p (spelled.by spelled.mtc (spelled.then (spelled.this {k = k} {rest = ts} is) spelled.end)) = (primary-at p k ts _ is, sees-by mark.LeftParen k ts _ is)
refers p (spelled.by (spelled.named r) (spelled.then (spelled.by (spelled.dotted_name name fields) (spelled.then (spelled.this {k = k} {rest = ts} is) more)) spelled.end)) =
    (primary-at p k ts _ is, sees-by mark.LeftParen k ts _ is)

referred-reads : (c : ComponentRef) (ts rest : List Spanned) → component ts ≡ Some (c, rest) → sees mark.Dot rest ≡ false → referred ts ≡ Some (expr.Reference c, rest)
unfolding referred
referred-reads c ts rest h none = rw h (rw none refl)

running-reads : (c : ComponentRef) (ts : List Spanned) (k r : Spanned) (rest : List Spanned) → component ts ≡ Some (c, k ∷ r ∷ rest) → Is k (token.Symbol mark.Dot)
    → Is r (token.Word word.Running) → referred ts ≡ Some (expr.Running c, rest)
unfolding referred same_word
running-reads c ts k r rest h dot is = rw h (rw (sees-here mark.Dot k (r ∷ rest) dot) (rw is refl))

pub word-field : (k w : Spanned) (rest : List Spanned) (x : Word) → Is k (token.Symbol mark.Dot) → Is w (token.Word x) → next_field (k ∷ w ∷ rest) ≡ None
word-field k w rest x dot is = rw (sees-here mark.Dot k (w ∷ rest) dot) (rw is refl)

present-reads : (r : Reference) (k o c : Spanned) (ts rest : List Spanned) → Is k (token.Word word.Ispresent) → Is o (token.Symbol mark.LeftParen)
    → reference ts ≡ Some (r, c ∷ rest) → Is c (token.Symbol mark.RightParen) → read_expressions.is_present (k ∷ o ∷ ts) ≡ Some (expr.Ispresent r, rest)
unfolding read_expressions.is_present
present-reads r k o c ts rest is opening h close =
    rw (expect-word-here word.Ispresent k (o ∷ ts) is) (rw (expect-here mark.LeftParen o ts opening) (rw h (rw (expect-here mark.RightParen c rest close) refl)))

bracketed-reads : (p : Parser Expr) (k c : Spanned) (ts rest : List Spanned) (e : Expr) → Is k (token.Symbol mark.LeftParen) → p ts ≡ Some (e, c ∷ rest)
    → Is c (token.Symbol mark.RightParen) → read_expressions.bracketed p (k ∷ ts) ≡ Some (e, rest)
unfolding read_expressions.bracketed
bracketed-reads p k c ts rest e is h close = rw (expect-here mark.LeftParen k ts is) (rw h (rw (expect-here mark.RightParen c rest close) refl))

inner-deeper : (d : ℕ) (ts : List Spanned) → inner (suc d) ts ≡ at_or (inner d) None ts
unfolding inner
inner-deeper d ts = refl

signed-on : (p : Parser Expr) (e : Expr) (ts : List Spanned) → signed p (Some e) ts ≡ Some (e, ts)
unfolding signed
signed-on p e ts = refl

follows-paren : (n : ℕ) (c : Spanned) (rest : List Spanned) → n ≤ 30 → Is c (token.Symbol mark.RightParen) → Follows n (c ∷ rest)
follows-paren n c rest less is = follows-at n c rest _ is less

pub primary-reads : {e : Expr} {ps : Parts} {ts rest : List Spanned} → Production (a_primary e) ps → KnownInTurn ps ts rest → Claim (a_primary e) ts rest
unfolding same_symbol
primary-reads (spelled.number n) (then (this {k = k} {rest = ts} is) end) = one-token _ k ts _ is refl (λ p. refl)
primary-reads spelled.true_word (then (this {k = k} {rest = ts} is) end) = one-token _ k ts _ is refl (λ p. refl)
primary-reads spelled.false_word (then (this {k = k} {rest = ts} is) end) = one-token _ k ts _ is refl (λ p. refl)
primary-reads spelled.null (then (this {k = k} {rest = ts} is) end) = one-token _ k ts _ is refl (λ p. refl)
primary-reads (spelled.referred c) (then (by {ts = ts} {rest = rest} s claim) end) = record {
  reads = λ d w f. (refers (inner d) s).0 ∙ referred-reads c ts rest (claim (no-field 3 rest f (omega arith))) (no_symbol mark.Dot 3 rest f (omega arith));
  opened = λ there. (let never = sym there ∙ (refers (inner 0) s).1 in cc);
}
primary-reads (spelled.running c) (then (by {ts = ts} s claim) (then (this {k = k} dot) (then (this {k = r} {rest = rest} is) end))) = record {
  reads = λ d w f. (refers (inner d) s).0 ∙ running-reads c ts k r rest (claim (word-field k r rest _ dot is)) dot is;
  opened = λ there. (let never = sym there ∙ (refers (inner 0) s).1 in cc);
}
primary-reads (spelled.is_present r) (then (this {k = k} is) (then (this {k = o} opening) (then (by {ts = ts} s claim) (then (this {k = c} {rest = rest} close) end)))) = record {
  reads = λ d w f. primary-at (inner d) k (o ∷ ts) _ is
      ∙ present-reads r k o c ts rest is opening (claim (no-field 30 (c ∷ rest) (follows-paren 30 c rest (omega arith) close) (omega arith))) close;
  opened = λ there. (let never = sym there ∙ sees-by mark.LeftParen k (o ∷ ts) _ is in cc);
}
primary-reads (spelled.bracketed e) (then (this {k = k} is) (then (by {ts = ts} s claim) (then (this {k = c} {rest = rest} close) end))) = record {
  reads = λ d w f. primary-at (inner d) k ts _ is
      ∙ by-turns (λ d. read_expressions.bracketed (inner d) (k ∷ ts) ≡ Some (e, rest)) d (omega (arith, w)) (λ m count.
      bracketed-reads (inner (suc m)) k c ts rest e is
      (inner-deeper m ts ∙ claim.reads m (omega (arith, w, count)) (follows-paren 20 c rest (omega arith) close)) close);
  opened = λ there. record {
    opening = k;
    inside = ts;
    all = refl;
    is_opening = is;
    first = e;
    closing = c;
    middle = rest;
    infinity = (starts-quiet ts (c ∷ rest) (starts-operand s) (follows-paren 3 c rest (omega arith) close)).infinity;
    shaped = λ d w. expression-shape e ts (c ∷ rest) (starts-operand s) claim d w (follows-paren 20 c rest (omega arith) close);
    is_closing = close;
    fewer = omega arith;
    goes_on = λ d w f. signed-on (inner d) e rest;
  };
}

-- ---- signs and negations

primary-signs : {e : Expr} {ts rest : List Spanned} → Spells (phrase (a_primary e)) ts rest → (sees mark.Plus ts ≡ false) × (sees mark.Minus ts ≡ false)
unfolding same_symbol
primary-signs (spelled.by (spelled.number n) (spelled.then (spelled.this {k = k} {rest = ts} is) more)) = (sees-by mark.Plus k ts _ is, sees-by mark.Minus k ts _ is)
primary-signs (spelled.by spelled.true_word (spelled.then (spelled.this {k = k} {rest = ts} is) more)) = (sees-by mark.Plus k ts _ is, sees-by mark.Minus k ts _ is)
primary-signs (spelled.by spelled.false_word (spelled.then (spelled.this {k = k} {rest = ts} is) more)) = (sees-by mark.Plus k ts _ is, sees-by mark.Minus k ts _ is)
primary-signs (spelled.by spelled.null (spelled.then (spelled.this {k = k} {rest = ts} is) more)) = (sees-by mark.Plus k ts _ is, sees-by mark.Minus k ts _ is)
primary-signs (spelled.by (spelled.referred c) (spelled.then s more)) = component-signs s
  where
    component-signs : {c : ComponentRef} {ts rest : List Spanned} → Spells (phrase (a_component c)) ts rest → (sees mark.Plus ts ≡ false) × (sees mark.Minus ts ≡ false)
    component-signs (spelled.by spelled.itself (spelled.then (spelled.this {k = k} {rest = ts} is) more)) = (sees-by mark.Plus k ts _ is, sees-by mark.Minus k ts _ is)
    component-signs (spelled.by spelled.mtc (spelled.then (spelled.this {k = k} {rest = ts} is) more)) = (sees-by mark.Plus k ts _ is, sees-by mark.Minus k ts _ is)
    component-signs (spelled.by (spelled.named r) (spelled.then (spelled.by (spelled.dotted_name name fields) (spelled.then (spelled.this {k = k} {rest = ts} is) others)) more)) =
        (sees-by mark.Plus k ts _ is, sees-by mark.Minus k ts _ is)
primary-signs (spelled.by (spelled.running c) (spelled.then (spelled.by spelled.itself (spelled.then (spelled.this {k = k} {rest = ts} is) others)) more)) =
    (sees-by mark.Plus k ts _ is, sees-by mark.Minus k ts _ is)
primary-signs (spelled.by (spelled.running c) (spelled.then (spelled.by spelled.mtc (spelled.then (spelled.this {k = k} {rest = ts} is) others)) more)) =
    (sees-by mark.Plus k ts _ is, sees-by mark.Minus k ts _ is)
primary-signs (spelled.by (spelled.running c) (spelled.then (spelled.by (spelled.named r) (spelled.then (spelled.by (spelled.dotted_name name fields) (spelled.then (spelled.this {k = k} {rest = ts} is) last)) others)) more)) =
    (sees-by mark.Plus k ts _ is, sees-by mark.Minus k ts _ is)
primary-signs (spelled.by (spelled.is_present r) (spelled.then (spelled.this {k = k} {rest = ts} is) more)) = (sees-by mark.Plus k ts _ is, sees-by mark.Minus k ts _ is)
primary-signs (spelled.by (spelled.bracketed e) (spelled.then (spelled.this {k = k} {rest = ts} is) more)) = (sees-by mark.Plus k ts _ is, sees-by mark.Minus k ts _ is)

unsigned-reads : (p : Parser Expr) (ts : List Spanned) (x : Expr × List Spanned) → (sees mark.Plus ts ≡ false) × (sees mark.Minus ts ≡ false)
    → primary p ts ≡ Some x → signed p None ts ≡ Some x
unfolding signed
unsigned-reads p ts x other h = rw other.0 (rw other.1 h)

plus-reads : (p : Parser Expr) (k : Spanned) (ts rest : List Spanned) (e : Expr) → Is k (token.Symbol mark.Plus) → primary p ts ≡ Some (e, rest)
    → signed p None (k ∷ ts) ≡ Some (expr.Signed sign.Plus e, rest)
unfolding signed
plus-reads p k ts rest e is h = rw (sees-here mark.Plus k ts is) (rw h refl)

minus-reads : (p : Parser Expr) (k : Spanned) (ts rest : List Spanned) (e : Expr) → Is k (token.Symbol mark.Minus) → primary p ts ≡ Some (e, rest)
    → signed p None (k ∷ ts) ≡ Some (expr.Signed sign.Minus e, rest)
unfolding signed same_symbol
minus-reads p k ts rest e is h = rw (sees-by mark.Plus k ts _ is) (rw (sees-here mark.Minus k ts is) (rw h refl))

negated-reads : (p : Option Expr → Parser Expr) (k : Spanned) (ts rest : List Spanned) (e : Expr) → Is k (token.Word word.Not) → p None ts ≡ Some (e, rest)
    → negation p None (k ∷ ts) ≡ Some (expr.Not e, rest)
unfolding negation
negated-reads p k ts rest e is h = rw (sees-word-here word.Not k ts is) (rw h refl)

chain-none : (outer : Level) (p : Option Expr → Parser Expr) (ts : List Spanned) → p None ts ≡ None → chain outer p None ts ≡ None
unfolding chain
chain-none outer p ts h = rw h refl

signed-none : (p : Parser Expr) (k : Spanned) (ts : List Spanned) → Is k (token.Word word.Not) → signed p None (k ∷ ts) ≡ None
unfolding signed sees primary referred component read_expressions.named_reference reference read.name
signed-none p k ts is = rw is refl

not-first : (p : Parser Expr) (ts : List Spanned) → sees_word word.Not ts ≡ true → at_equality p None ts ≡ None
not-first p ts h =
    let begins = sees-word-is word.Not ts h in
    let none : signed p None ts ≡ None = rw begins.all (signed-none p begins.first (behind ts) begins.is) in
    chain-none level.Equality (at_order p) ts (chain-none level.Order (at_sum p) ts (chain-none level.Sum (at_product p) ts
    (chain-none level.Product (signed p) ts none)))

affirmed-reads : (p : Parser Expr) (ts : List Spanned) (x : Expr × List Spanned) → at_equality p None ts ≡ Some x → negation (at_equality p) None ts ≡ Some x
unfolding negation
affirmed-reads p ts x h =
    elim (either (sees_word word.Not ts)) [
      | inl there ↦ none-is-some (sym (not-first p ts there) ∙ h)
      | inr other ↦ rw other h
    ]

affirmed-on : (p : Parser Expr) (first : Expr) (ts : List Spanned) (x : Expr × List Spanned) → at_equality p (Some first) ts ≡ Some x
    → negation (at_equality p) (Some first) ts ≡ Some x
unfolding negation
affirmed-on p first ts x h = h

-- ---- operands and the operators between them

joins-one : {outer a b : Level} → Joins outer a → Joins outer b → a ≡ b
joins-one or_joins or_joins = refl
joins-one xor_joins xor_joins = refl
joins-one and_joins and_joins = refl
joins-one equality_joins equality_joins = refl
joins-one order_joins order_joins = refl
joins-one sum_joins sum_joins = refl
joins-one product_joins product_joins = refl

joins-chain : {outer inner : Level} (p : Parser Expr) → Joins outer inner → operand_of p outer ≡ chain outer (operand_of p inner)
joins-chain p or_joins = refl
joins-chain p xor_joins = refl
joins-chain p and_joins = refl
joins-chain p equality_joins = refl
joins-chain p order_joins = refl
joins-chain p sum_joins = refl
joins-chain p product_joins = refl

operator-here : (o : Operator) (k : Spanned) → Is k (written o) → operator_of k.token ≡ Some o
operator-here o k is = ap operator_of is ∙ written-operator o

-- the operator of a token has the rank of the token
token-rank : (t : Token) (o : Operator) → operator_of t ≡ Some o → number (level_of o) ≡ suc (rank (Some t))
token-rank (token.Word word.Or) o h = rw (sym (some-is h)) refl
token-rank (token.Word word.Xor) o h = rw (sym (some-is h)) refl
token-rank (token.Word word.And) o h = rw (sym (some-is h)) refl
token-rank (token.Word word.Mod) o h = rw (sym (some-is h)) refl
token-rank (token.Word word.Rem) o h = rw (sym (some-is h)) refl
token-rank (token.Symbol mark.Equal) o h = rw (sym (some-is h)) refl
token-rank (token.Symbol mark.NotEqual) o h = rw (sym (some-is h)) refl
token-rank (token.Symbol mark.Less) o h = rw (sym (some-is h)) refl
token-rank (token.Symbol mark.Greater) o h = rw (sym (some-is h)) refl
token-rank (token.Symbol mark.LessEqual) o h = rw (sym (some-is h)) refl
token-rank (token.Symbol mark.GreaterEqual) o h = rw (sym (some-is h)) refl
token-rank (token.Symbol mark.Plus) o h = rw (sym (some-is h)) refl
token-rank (token.Symbol mark.Minus) o h = rw (sym (some-is h)) refl
token-rank (token.Symbol mark.Star) o h = rw (sym (some-is h)) refl
token-rank (token.Symbol mark.Slash) o h = rw (sym (some-is h)) refl
token-rank _ o h = none-is-some h

not-of-level : (outer : Level) (t : Token) (o : Option Operator) → ((found : Operator) → o ≡ Some found → number (level_of found) ≡ suc (rank (Some t)))
    → number outer ≤ rank (Some t) → at_level outer o ≡ None
unfolding same_level
not-of-level outer t None f less = refl
not-of-level outer t (Some o) f less =
    elim (either (same_level (level_of o) outer)) [
      | inl there ↦
          (let same : level_of o ≡ outer = same_true a_level.the_type (search rules) (level_of o) outer there in
          let up = f o refl in
          let up2 : number outer ≡ suc (rank (Some t)) = rw same at up in
          absurd (omega (arith, less, up2)))
      | inr other ↦ rw other refl
    ]

no-operator : (outer : Level) (ts : List Spanned) → Follows (number outer) ts → next_operator outer ts ≡ None
no-operator outer [] f = refl
no-operator outer (k ∷ ts) f = not-of-level outer k.token (operator_of k.token) (λ o h. token-rank k.token o h) f.least

-- where none follows, none is read
no-links : (p : Parser Expr) (outer : Level) (n : ℕ) (found : List Link) (rest : List Spanned) → Follows (number outer) rest
    → links_from p outer n found rest ≡ Some (found, rest)
unfolding links_from eat_operator
no-links p outer zero found rest f = refl
no-links p outer (suc n) found rest f = rw (no-operator outer rest f) refl

alone-reads : (outer : Level) (p : Option Expr → Parser Expr) (begun : Option Expr) (ts rest : List Spanned) (e : Expr) → p begun ts ≡ Some (e, rest)
    → Follows (number outer) rest → chain outer p begun ts ≡ Some (e, rest)
unfolding chain
alone-reads outer p begun ts rest e h f = rw h (rw (no-links (p None) outer (most_links outer rest) [] rest f) refl)

chain-reads : (outer : Level) (p : Option Expr → Parser Expr) (begun : Option Expr) (ts middle rest : List Spanned) (e : Expr) (l : Link) (ls : List Link)
    → p begun ts ≡ Some (e, middle) → links_from (p None) outer (most_links outer middle) [] middle ≡ Some (l ∷ ls, rest)
    → chain outer p begun ts ≡ Some (expr.Chain e (l ∷ ls), rest)
unfolding chain
chain-reads outer p begun ts middle rest e l ls h more = rw h (rw more refl)

link-reads : (outer : Level) (p : Parser Expr) (n : ℕ) (found : List Link) (k : Spanned) (ts middle : List Spanned) (x : List Link × List Spanned)
    (o : Operator) (e : Expr) → Is k (written o) → level_of o ≡ outer → p ts ≡ Some (e, middle)
    → links_from p outer n (found ++ link o e ∷ []) middle ≡ Some x → links_from p outer (suc n) found (k ∷ ts) ≡ Some x
unfolding links_from eat_operator same_level
link-reads outer p n found k ts middle x o e is at h more =
    let next : next_operator outer (k ∷ ts) ≡ Some o = rw (operator-here o k is) (rw (true_same a_level.the_type (level_of o) outer at) refl) in
    rw next (rw h more)

links-short : {outer : Level} {ls : List Link} {ts rest : List Spanned} → Spells (phrase (the_links outer ls)) ts rest → length ls ≤ length ts
links-short (spelled.by (spelled.no_link outer) spelled.end) = omega arith
links-short (spelled.by (spelled.next_link e ls j o at) (spelled.then (spelled.this is) (spelled.then s (spelled.then more spelled.end)))) =
    omega (arith, links-short more, shrinks s)

-- as many turns as links are enough
enough : (outer : Level) (ts : List Spanned) (ls : List Link) → (outer ≡ level.Order → length ls ≤ 1) → length ls ≤ length ts
    → length ls ≤ most_links outer ts
unfolding most_links same_level
enough outer ts ls once short =
    elim (either (same_level outer level.Order)) [
      | inl there ↦ rw there (once (same_true a_level.the_type (search rules) outer level.Order there))
      | inr other ↦ rw other short
    ]

one-link : (l : Link) (ls : List Link) → ls ≡ [] → length (l ∷ ls) ≤ 1
one-link l ls is = rw is (omega arith)

follows-tighter : {outer inner : Level} (rest : List Spanned) → Joins outer inner → Follows (number outer) rest → Follows (number inner) rest
follows-tighter {outer = outer} {inner = i} rest j f = loosen (number i) (number outer) rest (omega (arith, tighter j)) f

-- behind an operand come the operators of its level
links-follow : {outer inner : Level} {ls : List Link} {ts rest : List Spanned} → Spells (phrase (the_links outer ls)) ts rest
    → Joins outer inner → Follows (number outer) rest → Follows (number inner) ts
links-follow (spelled.by (spelled.no_link outer) spelled.end) j f = follows-tighter _ j f
links-follow {outer = outer} {inner = i} (spelled.by (spelled.next_link e ls joins o at) (spelled.then (spelled.this {k = k} {rest = ts} is) more)) j f =
    let up : number outer ≡ suc (rank (Some (written o))) = ap number (sym at) ∙ written-rank o in
    follows-at (number i) k ts (written o) is (omega (arith, up, tighter j))

pub links-reads : {l : Level} {ls : List Link} {ps : Parts} {ts rest : List Spanned} → Production (the_links l ls) ps → KnownInTurn ps ts rest → Claim (the_links l ls) ts rest
links-reads (spelled.no_link outer) (end {ts = ts}) = λ i j d w f n few found.
    no-links (operand_of (inner d) i None) outer n found ts f ∙ ap (λ all. Some (all, ts)) (sym (append-nil found))
links-reads (spelled.next_link {outer = outer} {inner = tight} e ls joins o at) (then (this {k = k} {rest = ts} is) (then (by {rest = middle} s claim) (then (by {rest = rest} more others) end))) = λ i j d w f n few found.
    let shorter = shrinks s in
    let operand = ap (λ l. operand_of (inner d) l None ts) (sym (joins-one joins j)) ∙ claim.reads d (omega (arith, w)) (links-follow more joins f) in
    by-turns (λ n. links_from (operand_of (inner d) i None) outer n found (k ∷ ts) ≡ Some (found ++ link o e ∷ ls, rest)) n (omega (arith, few)) (λ m count.
    link-reads outer (operand_of (inner d) i None) m found k ts middle (found ++ link o e ∷ ls, rest) o e is at operand
    (others i j d (omega (arith, w, shorter)) f m (omega (arith, few, count)) (found ++ link o e ∷ [])
    ∙ ap (λ all. Some (all, rest)) (append_assoc found (link o e ∷ []) ls)))

-- what was opened at one level goes on at another
opened-at : {l outer : Level} {e other : Expr} {ts middle rest : List Spanned} → Opened l e ts middle → length rest ≤ length middle
    → ((first : Expr) (us : List Spanned) → length middle ≤ length us
    → ((d : ℕ) → length us ≤ d → Follows (number l) middle → operand_of (inner d) l (Some first) us ≡ Some (e, middle))
    → (d : ℕ) → length us ≤ d → Follows (number outer) rest → operand_of (inner d) outer (Some first) us ≡ Some (other, rest))
    → Opened outer other ts rest
opened-at o less up =
    let few = o.fewer in record {
      opening = o.opening;
      inside = o.inside;
      all = o.all;
      is_opening = o.is_opening;
      first = o.first;
      closing = o.closing;
      middle = o.middle;
      infinity = o.infinity;
      shaped = o.shaped;
      is_closing = o.is_closing;
      fewer = omega (arith, few, less);
      goes_on = λ d w f. up o.first o.middle o.fewer o.goes_on d w f;
    }

no-paren : {A : Type 0} (k : Spanned) (ts : List Spanned) (t : Token) → Is k t → is_symbol mark.LeftParen (Some t) ≡ false
    → sees mark.LeftParen (k ∷ ts) ≡ true → A
no-paren k ts t is other there = let never = sym there ∙ sees-by mark.LeftParen k ts t is ∙ other in cc

pub operand-reads : {l : Level} {e : Expr} {ps : Parts} {ts rest : List Spanned} → Production (an_operand l e) ps → KnownInTurn ps ts rest → Claim (an_operand l e) ts rest
unfolding same_symbol
operand-reads (spelled.unsigned e) (then (by {ts = ts} {rest = rest} s claim) end) = record {
  reads = λ d w f. unsigned-reads (inner d) ts (e, rest) (primary-signs s) (claim.reads d w (loosen 3 4 rest (omega arith) f));
  opened = claim.opened;
}
operand-reads (spelled.plus e) (then (this {k = k} is) (then (by {ts = ts} {rest = rest} s claim) end)) = record {
  reads = λ d w f. plus-reads (inner d) k ts rest e is (claim.reads d (omega (arith, w)) (loosen 3 4 rest (omega arith) f));
  opened = no-paren k ts _ is refl;
}
operand-reads (spelled.minus e) (then (this {k = k} is) (then (by {ts = ts} {rest = rest} s claim) end)) = record {
  reads = λ d w f. minus-reads (inner d) k ts rest e is (claim.reads d (omega (arith, w)) (loosen 3 4 rest (omega arith) f));
  opened = no-paren k ts _ is refl;
}
operand-reads (spelled.affirmed e) (then (by {ts = ts} {rest = rest} s claim) end) = record {
  reads = λ d w f. affirmed-reads (inner d) ts (e, rest) (claim.reads d w (loosen 12 14 rest (omega arith) f));
  opened = λ there. opened-at (claim.opened there) (omega arith) (λ first us few on d w f.
      affirmed-on (inner d) first us (e, rest) (on d w (loosen 12 14 rest (omega arith) f)));
}
operand-reads (spelled.negated e) (then (this {k = k} is) (then (by {ts = ts} {rest = rest} s claim) end)) = record {
  reads = λ d w f. negated-reads (at_equality (inner d)) k ts rest e is (claim.reads d (omega (arith, w)) (loosen 12 14 rest (omega arith) f));
  opened = no-paren k ts _ is refl;
}
operand-reads (spelled.alone {outer = outer} {inner = i} e j) (then (by {ts = ts} {rest = rest} s claim) end) = record {
  reads = λ d w f. ap (λ p. p None ts) (joins-chain (inner d) j)
      ∙ alone-reads outer (operand_of (inner d) i) None ts rest e (claim.reads d w (follows-tighter rest j f)) f;
  opened = λ there. opened-at (claim.opened there) (omega arith) (λ first us few on d w f.
      ap (λ p. p (Some first) us) (joins-chain (inner d) j)
      ∙ alone-reads outer (operand_of (inner d) i) (Some first) us rest e (on d w (follows-tighter rest j f)) f);
}
operand-reads (spelled.joined {outer = outer} {inner = i} e l ls j once) (then (by {ts = ts} {rest = middle} s claim) (then (by {rest = rest} more links) end)) =
    let shorter = shrinks s in
    let less = shrinks more in
    let short = enough outer middle (l ∷ ls) (λ is. one-link l ls (once is)) (links-short more) in record {
      reads = λ d w f. ap (λ p. p None ts) (joins-chain (inner d) j)
          ∙ chain-reads outer (operand_of (inner d) i) None ts middle rest e l ls (claim.reads d w (links-follow more j f))
          (links i j d (omega (arith, w, shorter)) f (most_links outer middle) short []);
      opened = λ there. opened-at (claim.opened there) less (λ first us few on d w f.
          ap (λ p. p (Some first) us) (joins-chain (inner d) j)
          ∙ chain-reads outer (operand_of (inner d) i) (Some first) us middle rest e l ls (on d w (links-follow more j f))
          (links i j d (omega (arith, w, few)) f (most_links outer middle) short []));
    }

name-finite : (k : Spanned) (ts : List Spanned) (bytes : List ℕ) → Is k (token.Id bytes) → infinite (k ∷ ts) ≡ false
unfolding infinite sees sees_word
name-finite k ts bytes is = rw is refl

-- no expression begins with 'infinity', or with that behind a sign
pub starts-finite : (ts rest : List Spanned) → Starts ts rest → infinite ts ≡ false
starts-finite [] rest s = elim s [ ]
starts-finite (k ∷ ts) rest (plain {t = t} is f less u) = (plain-quiet k t ts is f).infinity
starts-finite (k ∷ ts) rest (minus is i less u) = (minus-quiet k ts is i).infinity
starts-finite (k ∷ ts) rest (named is less b u) = name-finite k ts _ is

-- of no tokens no expression is read
pub no-expression : expression [] ≡ None
unfolding expression chain negation signed primary referred component read_expressions.named_reference reference read.name sees sees_word
no-expression = refl
