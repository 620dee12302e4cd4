-- What is spelled is what the parser reads: values and templates.
use Rattle.std.proofs.Common.{◌≡◌, ℕ, zero, suc, ◌≤◌, Bool, true, false, List, [], ◌∷◌, length, refl, ap, ◌∙◌, arith}
use Rattle.std.specs.Prelude.{Some, None}
use Rattle.ttcn_syntax.specs.declared.token.Symbol.{Symbol}
use Rattle.ttcn_syntax.specs.declared.token.Symbol.TheVariants as mark
use Rattle.ttcn_syntax.specs.declared.token.Token.{Token}
use Rattle.ttcn_syntax.specs.declared.token.Token.TheVariants as token
use Rattle.ttcn_syntax.specs.declared.token.Spanned.{Spanned}
use Rattle.ttcn_syntax.specs.declared.token.Word.{Word}
use Rattle.ttcn_syntax.specs.declared.token.Word.TheVariants as word
use Rattle.ttcn_syntax.specs.declared.tree.expression.Expr.{Expr}
use Rattle.ttcn_syntax.specs.declared.tree.value.Call.{Call}
use Rattle.ttcn_syntax.specs.declared.tree.value.FieldValue.{FieldValue}
use Rattle.ttcn_syntax.specs.declared.tree.value.Rhs.{Rhs}
use Rattle.ttcn_syntax.specs.declared.tree.value.Rhs.TheVariants as rhs
use Rattle.ttcn_syntax.specs.declared.tree.value.TypeName.{TypeName}
use Rattle.ttcn_syntax.specs.declared.tree.value.Value.{Value}
use Rattle.ttcn_syntax.specs.declared.tree.value.Value.TheVariants as value
use Rattle.ttcn_syntax.specs.declared.tree.template.Bound.{Bound}
use Rattle.ttcn_syntax.specs.declared.tree.template.Bound.TheVariants as bound
use Rattle.ttcn_syntax.specs.declared.tree.template.FieldTemplate.{FieldTemplate}
use Rattle.ttcn_syntax.specs.declared.tree.template.MessageTemplate.{MessageTemplate}
use Rattle.ttcn_syntax.specs.declared.tree.template.Template.{Template}
use Rattle.ttcn_syntax.specs.declared.tree.template.TemplateBody.{TemplateBody}
use Rattle.ttcn_syntax.specs.declared.tree.template.TemplateBody.TheVariants as body
use Rattle.parse_reader.specs.declared.shape.Shape.{Shape}
use Rattle.parse_reader.specs.declared.shape.Shape.TheVariants as shape
use Rattle.parse_limits.specs.Groups.{Is}
use Rattle.parse_grammar.specs.Grammar.{Parts, Production, Spells, a_body, a_bound, a_call, a_field_template, a_field_value, a_message, a_pattern, a_rhs, a_template, a_type, a_value, commas, each, phrase, separated}
use Rattle.parse_reader.specs.Trees.{field_template, field_value, template_of}
use Rattle.parse_grammar.specs.Grammar as spelled
use Rattle.parse_reader.specs.internal.Reading.{Parser, behind, is_symbol, is_word, same_symbol, same_word, second, sees, sees_word}
use Rattle.parse_reader.specs.internal.Expressions.{expression}
use Rattle.parse_reader.specs.internal.Values.{assigns, calls, creates, value_by, value_in}
use Rattle.parse_reader.specs.internal.Templates.{infinite, shape_by, shape_expression, shape_in}
use Rattle.parse_reader.specs.internal.Reading as read
use Rattle.parse_reader.specs.internal.Values as read_values
use Rattle.parse_reader.specs.internal.Templates as read_templates
use Rattle.parse_grammar.proofs.Spellings.{shrinks}
use Rattle.parse_grammar.proofs.Tokens.{expect-here, expect-word-here, first-step, name-here, read-is, sees-by, sees-here, sees-word-by, sees-word-here}
use Rattle.parse_grammar.proofs.Follow.{Follows, follows-at, loosen, no_symbol, no-word}
use Rattle.parse_grammar.proofs.Claims.{BoundRead, Claim, Known, KnownInTurn, all, and_more, by, end, last_one, then, this, with_end, without_end}
use Rattle.parse_grammar.proofs.CompleteLists.{Each, by-turns, commas-are-read, commas-read, until-read}
use Rattle.parse_grammar.proofs.CompleteExpressions.{First, Quiet, Starts, begins, expression-reads, expression-shape, minus, named, no-expression, not-first-symbol, not-first-word, plain, starts-finite, starts-operand, starts-quiet, starts-uncolored}
use Rattle.parse_grammar.proofs.CompleteExpressions as first

-- ---- how a value begins

pub data ValueStarts : List Spanned → List Spanned → Type 0 where
  an_expression : {ts rest : List Spanned} → Starts ts rest → ValueStarts ts rest
  omitted : {k : Spanned} {rest : List Spanned} → Is k (token.Word word.Omit) → ValueStarts (k ∷ rest) rest
  braced : {k : Spanned} {ts rest : List Spanned} → Is k (token.Symbol mark.LeftBrace) → ValueStarts (k ∷ ts) rest

pub starts-value : {v : Value} {ts rest : List Spanned} → Spells (phrase (a_value v)) ts rest → ValueStarts ts rest
starts-value (spelled.by (spelled.value_expr e) (spelled.then s spelled.end)) = an_expression (starts-operand s)
starts-value (spelled.by spelled.value_omit (spelled.then (spelled.this is) spelled.end)) = omitted is
starts-value (spelled.by (spelled.value_listed vs) (spelled.then (spelled.this is) more)) = braced is
starts-value (spelled.by (spelled.value_assigned fs) (spelled.then (spelled.this is) more)) = braced is

omit-quiet : (k : Spanned) (ts : List Spanned) → Is k (token.Word word.Omit) → Quiet (k ∷ ts)
unfolding calls assigns creates infinite sees sees_word same_word
omit-quiet k ts is = record { no_call = rw is refl; no_assignment = rw is refl; no_create = rw is refl; infinity = rw is refl }

brace-quiet : (k : Spanned) (ts : List Spanned) → Is k (token.Symbol mark.LeftBrace) → Quiet (k ∷ ts)
unfolding calls assigns creates infinite sees sees_word same_symbol
brace-quiet k ts is = record { no_call = rw is refl; no_assignment = rw is refl; no_create = rw is refl; infinity = rw is refl }

pub value-quiet : (ts rest : List Spanned) → ValueStarts ts rest → Follows 3 rest → Quiet ts
value-quiet ts rest (an_expression s) f = starts-quiet ts rest s f
value-quiet (k ∷ ts) rest (omitted is) f = omit-quiet k ts is
value-quiet (k ∷ ts) rest (braced is) f = brace-quiet k ts is

pub not-value-symbol : (s : Symbol) (ts rest : List Spanned) → ValueStarts ts rest → begins (token.Symbol s) ≡ false → same_symbol mark.LeftBrace s ≡ false
    → sees s ts ≡ false
not-value-symbol s ts rest (an_expression e) h g = not-first-symbol s ts rest e h
not-value-symbol s (k ∷ ts) rest (omitted is) h g = sees-by s k ts _ is
not-value-symbol s (k ∷ ts) rest (braced is) h g = sees-by s k ts _ is ∙ g

pub not-value-word : (w : Word) (ts rest : List Spanned) → ValueStarts ts rest → begins (token.Word w) ≡ false → same_word word.Omit w ≡ false
    → sees_word w ts ≡ false
not-value-word w ts rest (an_expression e) h g = not-first-word w ts rest e h
not-value-word w (k ∷ ts) rest (omitted is) h g = sees-word-by w k ts _ is ∙ g
not-value-word w (k ∷ ts) rest (braced is) h g = sees-word-by w k ts _ is

-- ---- values

value_at : (d : ℕ) (k : Spanned) (ts : List Spanned) (t : Token) → Is k t → ((p : Parser Value) → value_by p (Some t) ≡ read_values.value_expression)
    → value_in d (k ∷ ts) ≡ read_values.value_expression (k ∷ ts)
unfolding value_in
value_at zero k ts t is h = rw is (rw (h read.refuse) refl)
value_at (suc d) k ts t is h = rw is (rw (h (value_in d)) refl)

value-else : (p : Parser Value) (t : Token) → First t → value_by p (Some t) ≡ read_values.value_expression
value-else p t first.an_int = refl
value-else p t first.a_true = refl
value-else p t first.a_false = refl
value-else p t first.a_null = refl
value-else p t first.itself = refl
value-else p t first.an_mtc = refl
value-else p t first.present = refl
value-else p t first.a_not = refl
value-else p t first.paren = refl
value-else p t first.a_plus = refl

value-plain : (d : ℕ) (ts rest : List Spanned) → Starts ts rest → value_in d ts ≡ read_values.value_expression ts
value-plain d [] rest s = elim s [ ]
value-plain d (k ∷ ts) rest (plain {t = t} is f less u) = value_at d k ts t is (λ p. value-else p t f)
value-plain d (k ∷ ts) rest (minus is i less u) = value_at d k ts _ is (λ p. refl)
value-plain d (k ∷ ts) rest (named is less b u) = value_at d k ts _ is (λ p. refl)

value-expression-reads : (ts rest : List Spanned) (e : Expr) → expression ts ≡ Some (e, rest) → read_values.value_expression ts ≡ Some (value.Expr e, rest)
unfolding read_values.value_expression
value-expression-reads ts rest e h = rw h refl

omit-at : (d : ℕ) (k : Spanned) (ts : List Spanned) → Is k (token.Word word.Omit) → value_in d (k ∷ ts) ≡ Some (value.Omit, ts)
unfolding value_in
omit-at zero k ts is = rw is refl
omit-at (suc d) k ts is = rw is refl

braced-at : (d : ℕ) (k : Spanned) (ts : List Spanned) → Is k (token.Symbol mark.LeftBrace) → value_in (suc d) (k ∷ ts) ≡ read_values.braced_value (value_in d) (k ∷ ts)
unfolding value_in
braced-at d k ts is = rw is refl

no-value : (d : ℕ) → value_in d [] ≡ None
unfolding value_in read_values.value_expression
no-value zero = rw no-expression refl
no-value (suc d) = rw no-expression refl

one_value : (d : ℕ) (v : Value) (ts rest : List Spanned) → Known (phrase (a_value v)) ts rest → length ts ≤ d → Follows 24 rest → value_in d ts ≡ Some (v, rest)
one_value d v ts rest (by s claim) w f = claim d w (loosen 20 24 rest (omega arith) f)

each-value : (d : ℕ) → Each (value_in d) (λ v. phrase (a_value v)) d
each-value d = record { nothing = no-value d; reads = λ v ts rest s w f. one_value d v ts rest s w f }

value-closes : (s : Symbol) (v : Value) (ts rest : List Spanned) → begins (token.Symbol s) ≡ false → same_symbol mark.LeftBrace s ≡ false → Known (phrase (a_value v)) ts rest → sees s ts ≡ false
value-closes s v ts rest h g (by spells claim) = not-value-symbol s ts rest (starts-value spells) h g

brace-assigns : (c : Spanned) (rest : List Spanned) → Is c (token.Symbol mark.RightBrace) → assigns (c ∷ rest) ≡ false
unfolding assigns
brace-assigns c rest is = rw is refl

no-assignments : (vs : List Value) (ts : List Spanned) (c : Spanned) (rest : List Spanned) → Known (separated (each (λ v. phrase (a_value v)) vs)) ts (c ∷ rest)
    → Is c (token.Symbol mark.RightBrace) → assigns ts ≡ false
no-assignments [] ts c rest (all end) is = brace-assigns c rest is
no-assignments (v ∷ []) ts c rest (last_one (by s claim)) is =
    (value-quiet ts (c ∷ rest) (starts-value s) (follows-at 3 c rest _ is (omega arith))).no_assignment
no-assignments (v ∷ u ∷ vs) ts c rest (and_more {c = comma} {middle = middle} (by s claim) is_comma more) is =
    (value-quiet ts (comma ∷ middle) (starts-value s) (follows-at 3 comma middle _ is_comma (omega arith))).no_assignment

listed-reads : (p : Parser Value) (vs : List Value) (k : Spanned) (ts rest : List Spanned) → Is k (token.Symbol mark.LeftBrace) → assigns ts ≡ false
    → read.separated_until mark.RightBrace p ts ≡ Some (vs, rest) → read_values.braced_value p (k ∷ ts) ≡ Some (value.Listed vs, rest)
unfolding read_values.braced_value
listed-reads p vs k ts rest is none h = rw (expect-here mark.LeftBrace k ts is) (rw none (rw h refl))

assigned-reads : (p : Parser Value) (fs : List FieldValue) (k c : Spanned) (ts rest : List Spanned) → Is k (token.Symbol mark.LeftBrace) → assigns ts ≡ true
    → read.separated (read_values.field_value_by p) ts ≡ Some (fs, c ∷ rest) → Is c (token.Symbol mark.RightBrace) → read_values.braced_value p (k ∷ ts) ≡ Some (value.Assigned fs, rest)
unfolding read_values.braced_value
assigned-reads p fs k c ts rest is some h close =
    rw (expect-here mark.LeftBrace k ts is) (rw some (rw h (rw (expect-here mark.RightBrace c rest close) refl)))

field-read : (p : Parser Value) (bytes : List ℕ) (v : Value) (k a : Spanned) (ts rest : List Spanned) → Is k (token.Id bytes) → Is a (token.Symbol mark.Assign)
    → p ts ≡ Some (v, rest) → read_values.field_value_by p (k ∷ a ∷ ts) ≡ Some (field_value bytes v, rest)
unfolding read_values.field_value_by
field-read p bytes v k a ts rest is assign h = rw (name-here bytes k (a ∷ ts) is) (rw (expect-here mark.Assign a ts assign) (rw h refl))

pub field-value-reads : {f : FieldValue} {ps : Parts} {ts rest : List Spanned} → Production (a_field_value f) ps → KnownInTurn ps ts rest → Claim (a_field_value f) ts rest
field-value-reads (spelled.value_of_field name v) (then (this {k = k} is) (then (this {k = a} assign) (then (by {ts = ts} {rest = rest} s claim) end))) = λ d w f.
    field-read (value_in d) name v k a ts rest is assign (claim d (omega (arith, w)) f)

no-field-value : (d : ℕ) → read_values.field_value_by (value_in d) [] ≡ None
unfolding read_values.field_value_by read.name
no-field-value d = refl

one-field : (d : ℕ) (v : FieldValue) (ts rest : List Spanned) → Known (phrase (a_field_value v)) ts rest → length ts ≤ d → Follows 24 rest
    → read_values.field_value_by (value_in d) ts ≡ Some (v, rest)
one-field d v ts rest (by s claim) w f = claim d w (loosen 20 24 rest (omega arith) f)

each-field : (d : ℕ) → Each (read_values.field_value_by (value_in d)) (λ v. phrase (a_field_value v)) d
each-field d = record { nothing = no-field-value d; reads = λ v ts rest s w f. one-field d v ts rest s w f }

-- a name and ':='
assigns-here : (k a : Spanned) (bytes : List ℕ) (ts : List Spanned) → Is k (token.Id bytes) → Is a (token.Symbol mark.Assign) → assigns (k ∷ a ∷ ts) ≡ true
unfolding assigns same_symbol
assigns-here k a bytes ts is assign = rw is (rw assign refl)

field-assigns : (f : FieldValue) (ts rest : List Spanned) → Spells (phrase (a_field_value f)) ts rest → assigns ts ≡ true
field-assigns f ts rest (spelled.by (spelled.value_of_field name v) (spelled.then (spelled.this {k = k} is) (spelled.then (spelled.this {k = a} {rest = us} assign) more))) =
    assigns-here k a name us is assign

fields-assign : (fs : List FieldValue) (ts rest : List Spanned) → Known (commas (each (λ f. phrase (a_field_value f)) fs)) ts rest → assigns ts ≡ true
fields-assign [] ts rest s = elim s [ ]
fields-assign (f ∷ []) ts rest (last_one (by s claim)) = field-assigns f ts rest s
fields-assign (f ∷ g ∷ fs) ts rest (and_more (by s claim) is more) = field-assigns f ts _ s

pub value-reads : {v : Value} {ps : Parts} {ts rest : List Spanned} → Production (a_value v) ps → KnownInTurn ps ts rest → Claim (a_value v) ts rest
unfolding same_symbol
value-reads (spelled.value_expr e) (then (by {ts = ts} {rest = rest} s claim) end) = λ d w f.
    value-plain d ts rest (starts-operand s) ∙ value-expression-reads ts rest e (expression-reads ts rest e claim f)
value-reads spelled.value_omit (then (this {k = k} {rest = ts} is) end) = λ d w f. omit-at d k ts is
value-reads (spelled.value_listed vs) (then (this {k = k} {rest = ts} is) (then s (then (this {k = c} {rest = rest} close) end))) = λ d w f.
    by-turns (λ d. value_in d (k ∷ ts) ≡ Some (value.Listed vs, rest)) d (omega (arith, w)) (λ m count.
    braced-at m k ts is ∙ listed-reads (value_in m) vs k ts rest is (no-assignments vs ts c rest s close)
    (until-read mark.RightBrace (value_in m) (λ v. phrase (a_value v)) m (each-value m) (λ v ts rest s. value-closes mark.RightBrace v ts rest refl refl s)
    vs ts c rest s close (follows-at 25 c rest _ close (omega arith)) (omega (arith, w, count))))
value-reads (spelled.value_assigned fs) (then (this {k = k} {rest = ts} is) (then s (then (this {k = c} {rest = rest} close) end))) = λ d w f.
    by-turns (λ d. value_in d (k ∷ ts) ≡ Some (value.Assigned fs, rest)) d (omega (arith, w)) (λ m count.
    braced-at m k ts is ∙ assigned-reads (value_in m) fs k c ts rest is (fields-assign fs ts (c ∷ rest) s)
    (commas-are-read (read_values.field_value_by (value_in m)) (λ f. phrase (a_field_value f)) m (each-field m) fs ts (c ∷ rest) s
    (omega (arith, w, count)) (follows-at 25 c rest _ close (omega arith))) close)

-- ---- calls, and what may be set

no-a-value : read_values.a_value [] ≡ None
unfolding read_values.a_value
no-a-value = no-value 0

one-a-value : (v : Value) (ts rest : List Spanned) → Known (phrase (a_value v)) ts rest → Follows 20 rest → read_values.a_value ts ≡ Some (v, rest)
unfolding read_values.a_value
one-a-value v ts rest (by s claim) f = claim (length ts) (omega arith) f

each-a-value : (d : ℕ) → Each read_values.a_value (λ v. phrase (a_value v)) d
each-a-value d = record { nothing = no-a-value; reads = λ v ts rest s w f. one-a-value v ts rest s (loosen 20 24 rest (omega arith) f) }

pub a-value-reads : {v : Value} {ts rest : List Spanned} → Known (phrase (a_value v)) ts rest → Follows 20 rest → read_values.a_value ts ≡ Some (v, rest)
a-value-reads s f = one-a-value _ _ _ s f

call-by : (bytes : List ℕ) (vs : List Value) (k o : Spanned) (ts rest : List Spanned) → Is k (token.Id bytes) → Is o (token.Symbol mark.LeftParen)
    → read.separated_until mark.RightParen read_values.a_value ts ≡ Some (vs, rest) → read_values.call (k ∷ o ∷ ts) ≡ Some (record { name = bytes; arguments = vs }, rest)
unfolding read_values.call
call-by bytes vs k o ts rest is opening h = rw (name-here bytes k (o ∷ ts) is) (rw (expect-here mark.LeftParen o ts opening) (rw h refl))

pub call-reads : {c : Call} {ps : Parts} {ts rest : List Spanned} → Production (a_call c) ps → KnownInTurn ps ts rest → Claim (a_call c) ts rest
unfolding same_symbol
call-reads (spelled.with_arguments name vs) (then (this {k = k} is) (then (this {k = o} {rest = ts} opening) (then s (then (this {k = c} {rest = rest} close) end)))) =
    call-by name vs k o ts rest is opening
    (until-read mark.RightParen read_values.a_value (λ v. phrase (a_value v)) (length ts) (each-a-value (length ts)) (λ v ts rest s. value-closes mark.RightParen v ts rest refl refl s)
    vs ts c rest s close (follows-at 25 c rest _ close (omega arith)) (omega arith))

calls-here : (k o : Spanned) (bytes : List ℕ) (ts : List Spanned) → Is k (token.Id bytes) → Is o (token.Symbol mark.LeftParen) → calls (k ∷ o ∷ ts) ≡ true
unfolding calls same_symbol
calls-here k o bytes ts is opening = rw is (rw opening refl)

pub call-calls : {c : Call} {ts rest : List Spanned} → Spells (phrase (a_call c)) ts rest → calls ts ≡ true
call-calls (spelled.by (spelled.with_arguments name vs) (spelled.then (spelled.this {k = k} is) (spelled.then (spelled.this {k = o} {rest = ts} opening) more))) =
    calls-here k o name ts is opening

activation-by : (c : Call) (k o e : Spanned) (ts rest : List Spanned) → Is k (token.Word word.Activate) → Is o (token.Symbol mark.LeftParen)
    → read_values.call ts ≡ Some (c, e ∷ rest) → Is e (token.Symbol mark.RightParen) → read_values.activation (k ∷ o ∷ ts) ≡ Some (c, rest)
unfolding read_values.activation
activation-by c k o e ts rest is opening h close =
    rw (expect-word-here word.Activate k (o ∷ ts) is) (rw (expect-here mark.LeftParen o ts opening) (rw h (rw (expect-here mark.RightParen e rest close) refl)))

pub activation-reads : {c : Call} {e : Spanned} {ts rest : List Spanned} (k o : Spanned) → Is k (token.Word word.Activate) → Is o (token.Symbol mark.LeftParen)
    → Known (phrase (a_call c)) ts (e ∷ rest) → Is e (token.Symbol mark.RightParen) → read_values.activation (k ∷ o ∷ ts) ≡ Some (c, rest)
activation-reads {c = c} {e = e} {rest = rest} k o is opening (by {ts = ts} s claim) close = activation-by c k o e ts rest is opening claim close

rhs_value : (v : Value) (ts rest : List Spanned) → Quiet ts → sees_word word.Activate ts ≡ false → read_values.a_value ts ≡ Some (v, rest)
    → read_values.a_rhs ts ≡ Some (rhs.Value v, rest)
unfolding read_values.a_rhs
rhs_value v ts rest q none h = rw q.no_call (rw q.no_create (rw none (rw h refl)))

rhs_call : (c : Call) (ts rest : List Spanned) → calls ts ≡ true → read_values.call ts ≡ Some (c, rest) → read_values.a_rhs ts ≡ Some (rhs.Call c, rest)
unfolding read_values.a_rhs
rhs_call c ts rest some h = rw some (rw h refl)

creates-here : (k d c : Spanned) (bytes : List ℕ) (ts : List Spanned) → Is k (token.Id bytes) → Is d (token.Symbol mark.Dot) → Is c (token.Word word.Create)
    → (calls (k ∷ d ∷ c ∷ ts) ≡ false) × (creates (k ∷ d ∷ c ∷ ts) ≡ true)
unfolding calls creates same_symbol same_word
creates-here k d c bytes ts is dot create = (rw is (rw dot refl), rw is (rw dot (rw create refl)))

rhs_create : (k d c : Spanned) (bytes : List ℕ) (ts : List Spanned) → Is k (token.Id bytes) → Is d (token.Symbol mark.Dot) → Is c (token.Word word.Create)
    → read_values.a_rhs (k ∷ d ∷ c ∷ ts) ≡ Some (rhs.Create bytes, ts)
unfolding read_values.a_rhs
rhs_create k d c bytes ts is dot create =
    let seen = creates-here k d c bytes ts is dot create in
    rw seen.0 (rw seen.1 (rw (name-here bytes k (d ∷ c ∷ ts) is) (rw (expect-here mark.Dot d (c ∷ ts) dot) (rw (expect-word-here word.Create c ts create) refl))))

activates : (k : Spanned) (ts : List Spanned) → Is k (token.Word word.Activate) → (calls (k ∷ ts) ≡ false) × (creates (k ∷ ts) ≡ false)
unfolding calls creates
activates k ts is = (rw is refl, rw is refl)

rhs_activate : (call : Call) (k : Spanned) (ts rest : List Spanned) → Is k (token.Word word.Activate) → read_values.activation (k ∷ ts) ≡ Some (call, rest)
    → read_values.a_rhs (k ∷ ts) ≡ Some (rhs.Activate call, rest)
unfolding read_values.a_rhs
rhs_activate call k ts rest is h =
    let seen = activates k ts is in rw seen.0 (rw seen.1 (rw (sees-word-here word.Activate k ts is) (rw h refl)))

pub rhs-reads : {r : Rhs} {ps : Parts} {ts rest : List Spanned} → Production (a_rhs r) ps → KnownInTurn ps ts rest → Claim (a_rhs r) ts rest
unfolding same_word
rhs-reads (spelled.rhs_value v) (then (by {ts = ts} {rest = rest} s claim) end) = λ f.
    let begin = starts-value s in
    rhs_value v ts rest (value-quiet ts rest begin (loosen 3 20 rest (omega arith) f)) (not-value-word word.Activate ts rest begin refl refl)
    (a-value-reads (by s claim) f)
rhs-reads (spelled.rhs_create name) (then (this {k = k} is) (then (this {k = d} dot) (then (this {k = c} {rest = ts} create) end))) = λ f.
    rhs_create k d c name ts is dot create
rhs-reads (spelled.rhs_call c) (then (by {ts = ts} {rest = rest} s claim) end) = λ f. rhs_call c ts rest (call-calls s) claim
rhs-reads (spelled.rhs_activate c) (then (this {k = k} is) (then (this {k = o} {rest = ts} opening) (then s (then (this {k = e} {rest = rest} close) end)))) = λ f.
    rhs_activate c k (o ∷ ts) rest is (activation-reads k o is opening s close)

-- ---- how a template begins

-- the tokens that begin one that is no expression and no call
pub data PatternFirst : Token → Type 0 where
  a_question : PatternFirst (token.Symbol mark.Question)
  a_star : PatternFirst (token.Symbol mark.Star)
  an_omit : PatternFirst (token.Word word.Omit)
  a_complement : PatternFirst (token.Word word.Complement)
  a_brace : PatternFirst (token.Symbol mark.LeftBrace)
  a_paren : PatternFirst (token.Symbol mark.LeftParen)

pub record TemplateStarts (ts rest : List Spanned) : Type 0 where
  pub no_close : sees mark.RightBrace ts ≡ false
  pub no_colon : sees mark.Colon ts ≡ false
  pub no_assignment : Follows 3 rest → assigns ts ≡ false
  pub infinity : infinite ts ≡ false
  pub uncolored : sees mark.Colon rest ≡ false → is_symbol mark.Colon (second ts) ≡ false

from-expression : (ts rest : List Spanned) → Starts ts rest → TemplateStarts ts rest
from-expression ts rest s = record {
  no_close = not-first-symbol mark.RightBrace ts rest s refl;
  no_colon = not-first-symbol mark.Colon ts rest s refl;
  no_assignment = λ f. (starts-quiet ts rest s f).no_assignment;
  infinity = starts-finite ts rest s;
  uncolored = starts-uncolored ts rest s;
}

first-quiet : (k : Spanned) (t : Token) (ts : List Spanned) → Is k t → PatternFirst t
    → (sees mark.RightBrace (k ∷ ts) ≡ false) × (sees mark.Colon (k ∷ ts) ≡ false) × (assigns (k ∷ ts) ≡ false) × (infinite (k ∷ ts) ≡ false)
unfolding assigns infinite sees sees_word same_symbol same_word
first-quiet k t ts is a_question = (rw is refl, rw is refl, rw is refl, rw is refl)
first-quiet k t ts is a_star = (rw is refl, rw is refl, rw is refl, rw is refl)
first-quiet k t ts is an_omit = (rw is refl, rw is refl, rw is refl, rw is refl)
first-quiet k t ts is a_complement = (rw is refl, rw is refl, rw is refl, rw is refl)
first-quiet k t ts is a_brace = (rw is refl, rw is refl, rw is refl, rw is refl)
first-quiet k t ts is a_paren = (rw is refl, rw is refl, rw is refl, rw is refl)

second-sees : (s : Symbol) (k : Spanned) (ts : List Spanned) → sees s ts ≡ false → is_symbol s (second (k ∷ ts)) ≡ false
unfolding sees
second-sees s k ts h = h

from-pattern : (k : Spanned) (t : Token) (ts rest : List Spanned) → Is k t → PatternFirst t → (sees mark.Colon rest ≡ false → sees mark.Colon ts ≡ false)
    → TemplateStarts (k ∷ ts) rest
from-pattern k t ts rest is f next =
    let quiet = first-quiet k t ts is f in record {
      no_close = quiet.0;
      no_colon = quiet.1;
      no_assignment = λ g. quiet.2;
      infinity = quiet.3;
      uncolored = λ h. second-sees mark.Colon k ts (next h);
    }

call-quiet : (k o : Spanned) (bytes : List ℕ) (ts rest : List Spanned) → Is k (token.Id bytes) → Is o (token.Symbol mark.LeftParen) → TemplateStarts (k ∷ o ∷ ts) rest
unfolding assigns infinite sees sees_word same_symbol
call-quiet k o bytes ts rest is opening = record {
  no_close = rw is refl;
  no_colon = rw is refl;
  no_assignment = λ g. rw is (rw opening refl);
  infinity = rw is refl;
  uncolored = λ h. rw opening refl;
}

colon-by : (k : Spanned) (ts : List Spanned) (t : Token) → Is k t → is_symbol mark.Colon (Some t) ≡ false → sees mark.Colon (k ∷ ts) ≡ false
colon-by k ts t is h = sees-by mark.Colon k ts t is ∙ h

ifpresent-starts : (ts : List Spanned) (k : Spanned) (rest : List Spanned) → Is k (token.Word word.Ifpresent) → TemplateStarts ts (k ∷ rest) → TemplateStarts ts rest
ifpresent-starts ts k rest is s = record {
  no_close = s.no_close;
  no_colon = s.no_colon;
  no_assignment = λ f. s.no_assignment (follows-at 3 k rest _ is (omega arith));
  infinity = s.infinity;
  uncolored = λ h. s.uncolored (sees-by mark.Colon k rest _ is);
}

mutual
  unfolding same_symbol

  pub starts-template : {t : Template} {ts rest : List Spanned} → Spells (phrase (a_template t)) ts rest → TemplateStarts ts rest
  starts-template (spelled.by (spelled.template_plain b) (spelled.then s spelled.end)) = starts-body s
  starts-template (spelled.by (spelled.template_ifpresent b) (spelled.then {ts = ts} s (spelled.then (spelled.this {k = k} {rest = rest} is) spelled.end))) =
      ifpresent-starts ts k rest is (starts-body s)

  pub starts-body : {b : TemplateBody} {ts rest : List Spanned} → Spells (phrase (a_body b)) ts rest → TemplateStarts ts rest
  starts-body (spelled.by {ts = ts} {rest = rest} (spelled.body_expr e) (spelled.then s spelled.end)) = from-expression ts rest (starts-operand s)
  starts-body (spelled.by (spelled.body_pattern b) (spelled.then s spelled.end)) = starts-pattern s

  pub starts-pattern : {b : TemplateBody} {ts rest : List Spanned} → Spells (phrase (a_pattern b)) ts rest → TemplateStarts ts rest
  starts-pattern (spelled.by spelled.any (spelled.then (spelled.this {k = k} {rest = ts} is) spelled.end)) = from-pattern k _ ts ts is a_question (λ h. h)
  starts-pattern (spelled.by spelled.any_or_omit (spelled.then (spelled.this {k = k} {rest = ts} is) spelled.end)) = from-pattern k _ ts ts is a_star (λ h. h)
  starts-pattern (spelled.by spelled.omit (spelled.then (spelled.this {k = k} {rest = ts} is) spelled.end)) = from-pattern k _ ts ts is an_omit (λ h. h)
  starts-pattern (spelled.by {rest = rest} (spelled.complement us) (spelled.then (spelled.this {k = k} is) (spelled.then (spelled.this {k = o} {rest = ts} opening) more))) =
      from-pattern k _ (o ∷ ts) rest is a_complement (λ h. colon-by o ts _ opening refl)
  starts-pattern (spelled.by {rest = rest} (spelled.template_call c) (spelled.then (spelled.by (spelled.with_arguments name vs) (spelled.then (spelled.this {k = k} is) (spelled.then (spelled.this {k = o} {rest = ts} opening) more))) spelled.end)) =
      call-quiet k o name ts rest is opening
  starts-pattern (spelled.by {rest = rest} (spelled.template_listed []) (spelled.then (spelled.this {k = k} is) (spelled.then (spelled.all spelled.end) (spelled.then (spelled.this {k = c} {rest = ts} close) spelled.end)))) =
      from-pattern k _ (c ∷ ts) rest is a_brace (λ h. colon-by c ts _ close refl)
  starts-pattern (spelled.by {rest = rest} (spelled.template_listed (t ∷ [])) (spelled.then (spelled.this {k = k} {rest = ts} is) (spelled.then (spelled.last_one s) more))) =
      from-pattern k _ ts rest is a_brace (λ h. (starts-template s).no_colon)
  starts-pattern (spelled.by {rest = rest} (spelled.template_listed (t ∷ u ∷ us)) (spelled.then (spelled.this {k = k} {rest = ts} is) (spelled.then (spelled.and_more s comma others) more))) =
      from-pattern k _ ts rest is a_brace (λ h. (starts-template s).no_colon)
  starts-pattern (spelled.by (spelled.template_assigned []) (spelled.then is (spelled.then s more))) = elim s [ ]
  starts-pattern (spelled.by {rest = rest} (spelled.template_assigned (f ∷ [])) (spelled.then (spelled.this {k = k} is) (spelled.then (spelled.last_one (spelled.by (spelled.template_of_field name t) (spelled.then (spelled.this {k = n} {rest = ts} is_name) others))) more))) =
      from-pattern k _ (n ∷ ts) rest is a_brace (λ h. colon-by n ts _ is_name refl)
  starts-pattern (spelled.by {rest = rest} (spelled.template_assigned (f ∷ g ∷ fs)) (spelled.then (spelled.this {k = k} is) (spelled.then (spelled.and_more (spelled.by (spelled.template_of_field name t) (spelled.then (spelled.this {k = n} {rest = ts} is_name) others)) comma last) more))) =
      from-pattern k _ (n ∷ ts) rest is a_brace (λ h. colon-by n ts _ is_name refl)
  starts-pattern (spelled.by {rest = rest} (spelled.list t u us) (spelled.then (spelled.this {k = k} {rest = ts} is) (spelled.then (spelled.and_more s comma others) more))) =
      from-pattern k _ ts rest is a_paren (λ h. (starts-template s).no_colon)
  starts-pattern (spelled.by {rest = rest} (spelled.list_of_pattern b) (spelled.then (spelled.this {k = k} {rest = ts} is) (spelled.then s more))) =
      from-pattern k _ ts rest is a_paren (λ h. (starts-pattern s).no_colon)
  starts-pattern (spelled.by {rest = rest} (spelled.list_of_ifpresent b) (spelled.then (spelled.this {k = k} {rest = ts} is) (spelled.then s more))) =
      from-pattern k _ ts rest is a_paren (λ h. (starts-body s).no_colon)
  starts-pattern (spelled.by {rest = rest} (spelled.range low high) (spelled.then (spelled.this {k = k} {rest = ts} is) (spelled.then s more))) =
      from-pattern k _ ts rest is a_paren (λ h. starts-bound s)

  starts-bound : {b : Bound} {ts rest : List Spanned} → Spells (phrase (a_bound b)) ts rest → sees mark.Colon ts ≡ false
  starts-bound (spelled.by {ts = ts} {rest = rest} (spelled.bound_expr e) (spelled.then s spelled.end)) = not-first-symbol mark.Colon ts rest (starts-operand s) refl
  starts-bound (spelled.by spelled.infinity (spelled.then (spelled.this {k = k} {rest = ts} is) spelled.end)) = colon-by k ts _ is refl
  starts-bound (spelled.by spelled.minus_infinity (spelled.then (spelled.this {k = k} {rest = ts} is) more)) = colon-by k ts _ is refl

-- ---- templates

shape-token : (d : ℕ) (k : Spanned) (ts : List Spanned) (t : Token) (q : Parser Shape) → Is k t → ((p : Parser Shape) → shape_by p (Some t) ≡ q)
    → shape_in d (k ∷ ts) ≡ q (k ∷ ts)
unfolding shape_in
shape-token zero k ts t q is h = rw is (rw (h read.refuse) refl)
shape-token (suc d) k ts t q is h = rw is (rw (h (shape_in d)) refl)

shape-deeper : (d : ℕ) (k : Spanned) (ts : List Spanned) (t : Token) → Is k t → shape_in (suc d) (k ∷ ts) ≡ shape_by (shape_in d) (Some t) (k ∷ ts)
unfolding shape_in
shape-deeper d k ts t is = rw is refl

no-shape : (d : ℕ) → shape_in d [] ≡ None
unfolding shape_in shape_expression calls
no-shape zero = rw no-expression refl
no-shape (suc d) = rw no-expression refl

no-template-by : (d : ℕ) → read_templates.template_by (shape_in d) [] ≡ None
unfolding read_templates.template_by
no-template-by d = rw (no-shape d) refl

one-template : (d : ℕ) (t : Template) (ts rest : List Spanned) → Known (phrase (a_template t)) ts rest → length ts ≤ d → Follows 24 rest
    → read_templates.template_by (shape_in d) ts ≡ Some (t, rest)
one-template d t ts rest (by s claim) w f = claim d w (loosen 22 24 rest (omega arith) f)

each-template : (d : ℕ) → Each (read_templates.template_by (shape_in d)) (λ t. phrase (a_template t)) d
each-template d = record { nothing = no-template-by d; reads = λ t ts rest s w f. one-template d t ts rest s w f }

template-closes : (t : Template) (ts rest : List Spanned) → Known (phrase (a_template t)) ts rest → sees mark.RightBrace ts ≡ false
template-closes t ts rest (by s claim) = (starts-template s).no_close

plain-by : (p : Parser Shape) (s : Shape) (ts rest : List Spanned) → p ts ≡ Some (s, rest) → sees_word word.Ifpresent rest ≡ false
    → read_templates.template_by p ts ≡ Some (template_of (read_templates.body_of s) false, rest)
unfolding read_templates.template_by
plain-by p s ts rest h none = rw h (rw none refl)

present-by : (p : Parser Shape) (s : Shape) (ts : List Spanned) (k : Spanned) (rest : List Spanned) → p ts ≡ Some (s, k ∷ rest) → Is k (token.Word word.Ifpresent)
    → read_templates.template_by p ts ≡ Some (template_of (read_templates.body_of s) true, rest)
unfolding read_templates.template_by
present-by p s ts k rest h is = rw h (rw (sees-word-here word.Ifpresent k rest is) refl)

pub template-reads : {t : Template} {ps : Parts} {ts rest : List Spanned} → Production (a_template t) ps → KnownInTurn ps ts rest → Claim (a_template t) ts rest
template-reads (spelled.template_plain b) (then (by {ts = ts} {rest = rest} s claim) end) = λ d w f.
    let c = claim d w (loosen 20 22 rest (omega arith) f) in
    plain-by (shape_in d) c.found ts rest c.reads (no-word word.Ifpresent 22 rest f (omega arith)) ∙ ap (λ b. Some (template_of b false, rest)) c.is
template-reads (spelled.template_ifpresent b) (then (by {ts = ts} s claim) (then (this {k = k} {rest = rest} is) end)) = λ d w f.
    let c = claim d w (follows-at 20 k rest _ is (omega arith)) in
    present-by (shape_in d) c.found ts k rest c.reads is ∙ ap (λ b. Some (template_of b true, rest)) c.is

field-template-read : (p : Parser Template) (bytes : List ℕ) (t : Template) (k a : Spanned) (ts rest : List Spanned) → Is k (token.Id bytes) → Is a (token.Symbol mark.Assign)
    → p ts ≡ Some (t, rest) → read_templates.field_template_by p (k ∷ a ∷ ts) ≡ Some (field_template bytes t, rest)
unfolding read_templates.field_template_by
field-template-read p bytes t k a ts rest is assign h = rw (name-here bytes k (a ∷ ts) is) (rw (expect-here mark.Assign a ts assign) (rw h refl))

pub field-template-reads : {f : FieldTemplate} {ps : Parts} {ts rest : List Spanned} → Production (a_field_template f) ps → KnownInTurn ps ts rest → Claim (a_field_template f) ts rest
field-template-reads (spelled.template_of_field name t) (then (this {k = k} is) (then (this {k = a} assign) (then (by {ts = ts} {rest = rest} s claim) end))) = λ d w f.
    field-template-read (read_templates.template_by (shape_in d)) name t k a ts rest is assign (claim d (omega (arith, w)) f)

no-field-template : (d : ℕ) → read_templates.field_template_by (read_templates.template_by (shape_in d)) [] ≡ None
unfolding read_templates.field_template_by read.name
no-field-template d = refl

one-field-template : (d : ℕ) (f : FieldTemplate) (ts rest : List Spanned) → Known (phrase (a_field_template f)) ts rest → length ts ≤ d → Follows 24 rest
    → read_templates.field_template_by (read_templates.template_by (shape_in d)) ts ≡ Some (f, rest)
one-field-template d t ts rest (by s claim) w f = claim d w (loosen 22 24 rest (omega arith) f)

each-field-template : (d : ℕ) → Each (read_templates.field_template_by (read_templates.template_by (shape_in d))) (λ f. phrase (a_field_template f)) d
each-field-template d = record { nothing = no-field-template d; reads = λ t ts rest s w f. one-field-template d t ts rest s w f }

template-field-assigns : (f : FieldTemplate) (ts rest : List Spanned) → Spells (phrase (a_field_template f)) ts rest → assigns ts ≡ true
template-field-assigns f ts rest (spelled.by (spelled.template_of_field name v) (spelled.then (spelled.this {k = k} is) (spelled.then (spelled.this {k = a} {rest = us} assign) more))) =
    assigns-here k a name us is assign

template-fields-assign : (fs : List FieldTemplate) (ts rest : List Spanned) → Known (commas (each (λ f. phrase (a_field_template f)) fs)) ts rest → assigns ts ≡ true
template-fields-assign [] ts rest s = elim s [ ]
template-fields-assign (f ∷ []) ts rest (last_one (by s claim)) = template-field-assigns f ts rest s
template-fields-assign (f ∷ g ∷ fs) ts rest (and_more (by s claim) is more) = template-field-assigns f ts _ s

pub body-reads : {b : TemplateBody} {ps : Parts} {ts rest : List Spanned} → Production (a_body b) ps → KnownInTurn ps ts rest → Claim (a_body b) ts rest
body-reads (spelled.body_expr e) (then (by {ts = ts} {rest = rest} s claim) end) = λ d w f. record {
  found = shape.Expr e;
  is = refl;
  reads = expression-shape e ts rest (starts-operand s) claim d w f;
}
body-reads (spelled.body_pattern b) (then (by {ts = ts} {rest = rest} s claim) end) = λ d w f. record {
  found = shape.Pattern b;
  is = refl;
  reads = claim d w;
}

-- ---- templates in brackets

complement-by : (p : Parser Shape) (us : List Template) (k o c : Spanned) (ts rest : List Spanned) → Is k (token.Word word.Complement) → Is o (token.Symbol mark.LeftParen)
    → read.separated (read_templates.template_by p) ts ≡ Some (us, c ∷ rest) → Is c (token.Symbol mark.RightParen)
    → read_templates.complement p (k ∷ o ∷ ts) ≡ Some (shape.Pattern (body.Complement us), rest)
unfolding read_templates.complement
complement-by p us k o c ts rest is opening h close =
    rw (expect-word-here word.Complement k (o ∷ ts) is) (rw (expect-here mark.LeftParen o ts opening) (rw h (rw (expect-here mark.RightParen c rest close) refl)))

pattern-call : (c : Call) (ts rest : List Spanned) → calls ts ≡ true → read_values.call ts ≡ Some (c, rest) → shape_expression ts ≡ Some (shape.Pattern (body.Call c), rest)
unfolding shape_expression
pattern-call c ts rest some h = rw some (rw h refl)

no-template-assigned : (us : List Template) (ts : List Spanned) (c : Spanned) (rest : List Spanned) → Known (separated (each (λ t. phrase (a_template t)) us)) ts (c ∷ rest)
    → Is c (token.Symbol mark.RightBrace) → assigns ts ≡ false
no-template-assigned [] ts c rest (all end) is = brace-assigns c rest is
no-template-assigned (v ∷ []) ts c rest (last_one (by s claim)) is = (starts-template s).no_assignment (follows-at 3 c rest _ is (omega arith))
no-template-assigned (v ∷ u ∷ vs) ts c rest (and_more {c = comma} {middle = middle} (by s claim) is_comma more) is =
    (starts-template s).no_assignment (follows-at 3 comma middle _ is_comma (omega arith))

template-listed-reads : (p : Parser Shape) (us : List Template) (k : Spanned) (ts rest : List Spanned) → Is k (token.Symbol mark.LeftBrace) → assigns ts ≡ false
    → read.separated_until mark.RightBrace (read_templates.template_by p) ts ≡ Some (us, rest) → read_templates.braced_template p (k ∷ ts) ≡ Some (shape.Pattern (body.Listed us), rest)
unfolding read_templates.braced_template
template-listed-reads p us k ts rest is none h = rw (expect-here mark.LeftBrace k ts is) (rw none (rw h refl))

template-assigned-reads : (p : Parser Shape) (fs : List FieldTemplate) (k c : Spanned) (ts rest : List Spanned) → Is k (token.Symbol mark.LeftBrace) → assigns ts ≡ true
    → read.separated (read_templates.field_template_by (read_templates.template_by p)) ts ≡ Some (fs, c ∷ rest) → Is c (token.Symbol mark.RightBrace)
    → read_templates.braced_template p (k ∷ ts) ≡ Some (shape.Pattern (body.Assigned fs), rest)
unfolding read_templates.braced_template
template-assigned-reads p fs k c ts rest is some h close =
    rw (expect-here mark.LeftBrace k ts is) (rw some (rw h (rw (expect-here mark.RightBrace c rest close) refl)))

-- a list begins, unless one expression alone does
lists-by : (p : Parser Shape) (s : Shape) (present : Bool) (rest : List Spanned) → sees mark.DotDot rest ≡ false → sees mark.RightParen rest ≡ false
    → read_templates.in_parens_by p s present rest ≡ read_templates.list_from p (template_of (read_templates.body_of s) present) rest
unfolding read_templates.opened_by
lists-by p (shape.Expr e) false rest d c = rw d (rw c refl)
lists-by p (shape.Expr e) true rest d c = refl
lists-by p (shape.Pattern b) present rest d c = refl

present-lists : (p : Parser Shape) (s : Shape) (rest : List Spanned) → read_templates.in_parens_by p s true rest ≡ read_templates.list_from p (template_of (read_templates.body_of s) true) rest
present-lists p (shape.Expr e) rest = refl
present-lists p (shape.Pattern b) rest = refl

in-parens-reads : (p : Parser Shape) (s : Shape) (k : Spanned) (ts middle : List Spanned) → Is k (token.Symbol mark.LeftParen) → infinite ts ≡ false
    → p ts ≡ Some (s, middle) → read_templates.in_parens p (k ∷ ts) ≡ read.and_then (read.eat_word word.Ifpresent middle) (λ present. read_templates.in_parens_by p s present)
unfolding read_templates.in_parens
in-parens-reads p s k ts middle is i h = rw (expect-here mark.LeftParen k ts is) (rw i (rw h refl))

list-first : (p : Parser Shape) (t : Template) (k : Spanned) (ts rest : List Spanned) → Is k (token.Symbol mark.LeftParen) → infinite ts ≡ false
    → read_templates.template_by p ts ≡ Some (t, rest) → sees mark.DotDot rest ≡ false → sees mark.RightParen rest ≡ false
    → read_templates.in_parens p (k ∷ ts) ≡ read_templates.list_from p t rest
unfolding read_templates.template_by
list-first p t k ts rest is i h d c =
    let one = first-step (p ts) _ (t, rest) h in
    let parts = read-is one.2 in
    in-parens-reads p one.0.0 k ts one.0.1 is i one.1
    ∙ ap (λ us. read_templates.in_parens_by p one.0.0 (sees_word word.Ifpresent one.0.1) us) parts.1
    ∙ lists-by p one.0.0 (sees_word word.Ifpresent one.0.1) rest d c
    ∙ ap (λ u. read_templates.list_from p u rest) parts.0

list-more : (p : Parser Shape) (t : Template) (us : List Template) (c e : Spanned) (ts rest : List Spanned) → Is c (token.Symbol mark.Comma)
    → read.separated_onto (read_templates.template_by p) (t ∷ []) ts ≡ Some (us, e ∷ rest) → Is e (token.Symbol mark.RightParen)
    → read_templates.list_from p t (c ∷ ts) ≡ Some (shape.Pattern (body.List us), rest)
unfolding read_templates.list_from
list-more p t us c e ts rest is h close = rw (sees-here mark.Comma c ts is) (rw h (rw (expect-here mark.RightParen e rest close) refl))

list-of-one : (p : Parser Shape) (t : Template) (e : Spanned) (rest : List Spanned) → Is e (token.Symbol mark.RightParen)
    → read_templates.list_from p t (e ∷ rest) ≡ Some (shape.Pattern (body.List (t ∷ [])), rest)
unfolding read_templates.list_from same_symbol
list-of-one p t e rest close = rw (sees-by mark.Comma e rest _ close) (rw (expect-here mark.RightParen e rest close) refl)

pub bound-reads-so : {b : Bound} {ts rest : List Spanned} → BoundRead b ts rest → Follows 20 rest → read_templates.a_bound ts ≡ Some (b, rest)
bound-reads-so (without_end i h) f = h
bound-reads-so (with_end i h s) f = h f

range-by : (low high : Bound) (d e : Spanned) (ts rest : List Spanned) → Is d (token.Symbol mark.DotDot) → read_templates.a_bound ts ≡ Some (high, e ∷ rest)
    → Is e (token.Symbol mark.RightParen) → read_templates.range_from low (d ∷ ts) ≡ Some (shape.Pattern (body.Range low high), rest)
unfolding read_templates.range_from
range-by low high d e ts rest is h close = rw (expect-here mark.DotDot d ts is) (rw h (rw (expect-here mark.RightParen e rest close) refl))

range-without-end : (p : Parser Shape) (low : Bound) (x : Shape × List Spanned) (k : Spanned) (ts middle : List Spanned) → Is k (token.Symbol mark.LeftParen)
    → infinite ts ≡ true → read_templates.a_bound ts ≡ Some (low, middle) → read_templates.range_from low middle ≡ Some x → read_templates.in_parens p (k ∷ ts) ≡ Some x
unfolding read_templates.in_parens
range-without-end p low x k ts middle is i h more = rw (expect-here mark.LeftParen k ts is) (rw i (rw h more))

range-with-end : (p : Parser Shape) (e : Expr) (x : Shape × List Spanned) (k d : Spanned) (ts middle : List Spanned) → Is k (token.Symbol mark.LeftParen)
    → infinite ts ≡ false → p ts ≡ Some (shape.Expr e, d ∷ middle) → Is d (token.Symbol mark.DotDot) → read_templates.range_from (bound.Expr e) (d ∷ middle) ≡ Some x
    → read_templates.in_parens p (k ∷ ts) ≡ Some x
unfolding read_templates.in_parens read_templates.opened_by
range-with-end p e x k d ts middle is i h dots more =
    rw (expect-here mark.LeftParen k ts is) (rw i (rw h (rw (sees-word-by word.Ifpresent d middle _ dots) (rw (sees-here mark.DotDot d middle dots) more))))

range-reads : {low : Bound} {ts : List Spanned} {d : Spanned} {middle : List Spanned} (m : ℕ) (high : Bound) (k e : Spanned) (rest : List Spanned)
    → BoundRead low ts (d ∷ middle) → length ts ≤ m → Is k (token.Symbol mark.LeftParen) → Is d (token.Symbol mark.DotDot)
    → BoundRead high middle (e ∷ rest) → Is e (token.Symbol mark.RightParen) → read_templates.in_parens (shape_in m) (k ∷ ts) ≡ Some (shape.Pattern (body.Range low high), rest)
range-reads {ts = ts} {d = d} {middle = middle} m high k e rest (without_end i h) w is dots second close =
    range-without-end (shape_in m) bound.Infinity _ k ts (d ∷ middle) is i h
    (range-by bound.Infinity high d e middle rest dots (bound-reads-so second (follows-at 20 e rest _ close (omega arith))) close)
range-reads {ts = ts} {d = d} {middle = middle} m high k e rest (with_end {e = low} i h s) w is dots second close =
    range-with-end (shape_in m) low _ k d ts middle is i (s m w (follows-at 20 d middle _ dots (omega arith))) dots
    (range-by (bound.Expr low) high d e middle rest dots (bound-reads-so second (follows-at 20 e rest _ close (omega arith))) close)

follows-close : (n : ℕ) (c : Spanned) (rest : List Spanned) → n ≤ 30 → Is c (token.Symbol mark.RightParen) → Follows n (c ∷ rest)
follows-close n c rest less is = follows-at n c rest _ is less

list-reads : (m : ℕ) (t u : Template) (us : List Template) (k e : Spanned) (ts rest : List Spanned) → Is k (token.Symbol mark.LeftParen)
    → Known (commas (each (λ t. phrase (a_template t)) (t ∷ u ∷ us))) ts (e ∷ rest) → Is e (token.Symbol mark.RightParen) → length ts ≤ m
    → read_templates.in_parens (shape_in m) (k ∷ ts) ≡ Some (shape.Pattern (body.List (t ∷ u ∷ us)), rest)
unfolding same_symbol
list-reads m t u us k e ts rest is (and_more {c = c} {middle = middle} (by s claim) comma more) close w =
    let shorter = shrinks s in
    list-first (shape_in m) t k ts (c ∷ middle) is (starts-template s).infinity (claim m w (follows-at 22 c middle _ comma (omega arith)))
    (sees-by mark.DotDot c middle _ comma) (sees-by mark.RightParen c middle _ comma)
    ∙ list-more (shape_in m) t (t ∷ u ∷ us) c e middle rest comma
    (commas-read (read_templates.template_by (shape_in m)) (λ t. phrase (a_template t)) m (each-template m) u us middle (e ∷ rest) more (omega (arith, w, shorter))
    (follows-close 25 e rest (omega arith) close) (length middle) (omega arith) (t ∷ [])) close

pattern-list-reads : (p : Parser Shape) (b : TemplateBody) (k e : Spanned) (ts rest : List Spanned) → Is k (token.Symbol mark.LeftParen) → infinite ts ≡ false
    → p ts ≡ Some (shape.Pattern b, e ∷ rest) → Is e (token.Symbol mark.RightParen)
    → read_templates.in_parens p (k ∷ ts) ≡ Some (shape.Pattern (body.List (template_of b false ∷ [])), rest)
pattern-list-reads p b k e ts rest is i h close =
    in-parens-reads p (shape.Pattern b) k ts (e ∷ rest) is i h
    ∙ plain-list p b e rest close
  where
    plain-list : (p : Parser Shape) (b : TemplateBody) (e : Spanned) (rest : List Spanned) → Is e (token.Symbol mark.RightParen)
        → read.and_then (read.eat_word word.Ifpresent (e ∷ rest)) (λ present. read_templates.in_parens_by p (shape.Pattern b) present) ≡ Some (shape.Pattern (body.List (template_of b false ∷ [])), rest)
    plain-list p b e rest close = rw (sees-word-by word.Ifpresent e rest _ close) (list-of-one p (template_of b false) e rest close)

present-list-reads : (p : Parser Shape) (s : Shape) (b : TemplateBody) (k i e : Spanned) (ts rest : List Spanned) → Is k (token.Symbol mark.LeftParen) → infinite ts ≡ false
    → p ts ≡ Some (s, i ∷ e ∷ rest) → read_templates.body_of s ≡ b → Is i (token.Word word.Ifpresent) → Is e (token.Symbol mark.RightParen)
    → read_templates.in_parens p (k ∷ ts) ≡ Some (shape.Pattern (body.List (template_of b true ∷ [])), rest)
present-list-reads p s b k i e ts rest is none h same present close =
    in-parens-reads p s k ts (i ∷ e ∷ rest) is none h
    ∙ present-list p s i e rest present close
    ∙ ap (λ b. Some (shape.Pattern (body.List (template_of b true ∷ [])), rest)) same
  where
    present-list : (p : Parser Shape) (s : Shape) (i e : Spanned) (rest : List Spanned) → Is i (token.Word word.Ifpresent) → Is e (token.Symbol mark.RightParen)
        → read.and_then (read.eat_word word.Ifpresent (i ∷ e ∷ rest)) (λ present. read_templates.in_parens_by p s present) ≡ Some (shape.Pattern (body.List (template_of (read_templates.body_of s) true ∷ [])), rest)
    present-list p s i e rest present close =
        rw (sees-word-here word.Ifpresent i (e ∷ rest) present) (present-lists p s (e ∷ rest) ∙ list-of-one p (template_of (read_templates.body_of s) true) e rest close)

shape-named : (d : ℕ) (ts rest : List Spanned) (c : Call) → Spells (phrase (a_call c)) ts rest → shape_in d ts ≡ shape_expression ts
shape-named d ts rest c (spelled.by (spelled.with_arguments name vs) (spelled.then (spelled.this {k = k} {rest = us} is) more)) =
    shape-token d k us _ shape_expression is (λ p. refl)

pub pattern-reads : {b : TemplateBody} {ps : Parts} {ts rest : List Spanned} → Production (a_pattern b) ps → KnownInTurn ps ts rest → Claim (a_pattern b) ts rest
unfolding same_symbol
pattern-reads spelled.any (then (this {k = k} {rest = ts} is) end) = λ d w. shape-token d k ts _ (λ ts. Some (shape.Pattern body.Any, behind ts)) is (λ p. refl)
pattern-reads spelled.any_or_omit (then (this {k = k} {rest = ts} is) end) = λ d w. shape-token d k ts _ (λ ts. Some (shape.Pattern body.AnyOrOmit, behind ts)) is (λ p. refl)
pattern-reads spelled.omit (then (this {k = k} {rest = ts} is) end) = λ d w. shape-token d k ts _ (λ ts. Some (shape.Pattern body.Omit, behind ts)) is (λ p. refl)
pattern-reads (spelled.complement us) (then (this {k = k} is) (then (this {k = o} {rest = ts} opening) (then s (then (this {k = c} {rest = rest} close) end)))) = λ d w.
    by-turns (λ d. shape_in d (k ∷ o ∷ ts) ≡ Some (shape.Pattern (body.Complement us), rest)) d (omega (arith, w)) (λ m count.
    shape-deeper m k (o ∷ ts) _ is
    ∙ complement-by (shape_in m) us k o c ts rest is opening
    (commas-are-read (read_templates.template_by (shape_in m)) (λ t. phrase (a_template t)) m (each-template m) us ts (c ∷ rest) s (omega (arith, w, count))
    (follows-close 25 c rest (omega arith) close)) close)
pattern-reads (spelled.template_call c) (then (by {ts = ts} {rest = rest} s claim) end) = λ d w.
    shape-named d ts rest c s ∙ pattern-call c ts rest (call-calls s) claim
pattern-reads (spelled.template_listed us) (then (this {k = k} {rest = ts} is) (then s (then (this {k = c} {rest = rest} close) end))) = λ d w.
    by-turns (λ d. shape_in d (k ∷ ts) ≡ Some (shape.Pattern (body.Listed us), rest)) d (omega (arith, w)) (λ m count.
    shape-deeper m k ts _ is ∙ template-listed-reads (shape_in m) us k ts rest is (no-template-assigned us ts c rest s close)
    (until-read mark.RightBrace (read_templates.template_by (shape_in m)) (λ t. phrase (a_template t)) m (each-template m) (λ t ts rest s. template-closes t ts rest s)
    us ts c rest s close (follows-at 25 c rest _ close (omega arith)) (omega (arith, w, count))))
pattern-reads (spelled.template_assigned fs) (then (this {k = k} {rest = ts} is) (then s (then (this {k = c} {rest = rest} close) end))) = λ d w.
    by-turns (λ d. shape_in d (k ∷ ts) ≡ Some (shape.Pattern (body.Assigned fs), rest)) d (omega (arith, w)) (λ m count.
    shape-deeper m k ts _ is ∙ template-assigned-reads (shape_in m) fs k c ts rest is (template-fields-assign fs ts (c ∷ rest) s)
    (commas-are-read (read_templates.field_template_by (read_templates.template_by (shape_in m))) (λ f. phrase (a_field_template f)) m (each-field-template m) fs ts (c ∷ rest) s
    (omega (arith, w, count)) (follows-at 25 c rest _ close (omega arith))) close)
pattern-reads (spelled.list t u us) (then (this {k = k} {rest = ts} is) (then s (then (this {k = c} {rest = rest} close) end))) = λ d w.
    by-turns (λ d. shape_in d (k ∷ ts) ≡ Some (shape.Pattern (body.List (t ∷ u ∷ us)), rest)) d (omega (arith, w)) (λ m count.
    shape-deeper m k ts _ is ∙ list-reads m t u us k c ts rest is s close (omega (arith, w, count)))
pattern-reads (spelled.list_of_pattern b) (then (this {k = k} is) (then (by {ts = ts} s claim) (then (this {k = c} {rest = rest} close) end))) = λ d w.
    by-turns (λ d. shape_in d (k ∷ ts) ≡ Some (shape.Pattern (body.List (template_of b false ∷ [])), rest)) d (omega (arith, w)) (λ m count.
    shape-deeper m k ts _ is ∙ pattern-list-reads (shape_in m) b k c ts rest is (starts-pattern s).infinity (claim m (omega (arith, w, count))) close)
pattern-reads (spelled.list_of_ifpresent b) (then (this {k = k} is) (then (by {ts = ts} s claim) (then (this {k = i} present) (then (this {k = c} {rest = rest} close) end)))) = λ d w.
    by-turns (λ d. shape_in d (k ∷ ts) ≡ Some (shape.Pattern (body.List (template_of b true ∷ [])), rest)) d (omega (arith, w)) (λ m count.
    shape-deeper m k ts _ is ∙ present-list-reads (shape_in m) (claim m (omega (arith, w, count)) (follows-at 20 i (c ∷ rest) _ present (omega arith))).found b k i c ts rest is
    (starts-body s).infinity (claim m (omega (arith, w, count)) (follows-at 20 i (c ∷ rest) _ present (omega arith))).reads
    (claim m (omega (arith, w, count)) (follows-at 20 i (c ∷ rest) _ present (omega arith))).is present close)
pattern-reads (spelled.range low high) (then (this {k = k} is) (then (by {ts = ts} s claim) (then (this {k = d} dots) (then (by {ts = us} t other) (then (this {k = c} {rest = rest} close) end))))) = λ depth w.
    by-turns (λ depth. shape_in depth (k ∷ ts) ≡ Some (shape.Pattern (body.Range low high), rest)) depth (omega (arith, w)) (λ m count.
    shape-deeper m k ts _ is ∙ range-reads m high k c rest claim (omega (arith, w, count)) is dots other close)

bound-of : (e : Expr) (ts rest : List Spanned) → infinite ts ≡ false → expression ts ≡ Some (e, rest) → read_templates.a_bound ts ≡ Some (bound.Expr e, rest)
unfolding read_templates.a_bound
bound-of e ts rest none h = rw none (rw h refl)

infinite-here : (k : Spanned) (ts : List Spanned) → Is k (token.Word word.Infinity) → (infinite (k ∷ ts) ≡ true) × (read_templates.a_bound (k ∷ ts) ≡ Some (bound.Infinity, ts))
unfolding infinite read_templates.a_bound
infinite-here k ts is = (
  rw (sees-word-here word.Infinity k ts is) refl,
  rw (sees-word-here word.Infinity k ts is) (rw (sees-by mark.Minus k ts _ is) (rw (expect-word-here word.Infinity k ts is) refl)),
)

minus-infinite : (k i : Spanned) (ts : List Spanned) → Is k (token.Symbol mark.Minus) → Is i (token.Word word.Infinity)
    → (infinite (k ∷ i ∷ ts) ≡ true) × (read_templates.a_bound (k ∷ i ∷ ts) ≡ Some (bound.Infinity, ts))
unfolding infinite read_templates.a_bound same_word
minus-infinite k i ts is end_ = (
  rw (sees-word-by word.Infinity k (i ∷ ts) _ is) (rw (sees-here mark.Minus k (i ∷ ts) is) (rw end_ refl)),
  rw (sees-word-by word.Infinity k (i ∷ ts) _ is) (rw (sees-here mark.Minus k (i ∷ ts) is) (rw (is-word-here i end_) (rw (expect-word-here word.Infinity i ts end_) refl))),
)
  where
    is-word-here : (i : Spanned) → Is i (token.Word word.Infinity) → is_word word.Infinity (Some i.token) ≡ true
    is-word-here i is = rw is refl

pub bound-reads : {b : Bound} {ps : Parts} {ts rest : List Spanned} → Production (a_bound b) ps → KnownInTurn ps ts rest → Claim (a_bound b) ts rest
bound-reads (spelled.bound_expr e) (then (by {ts = ts} {rest = rest} s claim) end) =
    let begin = starts-operand s in
    let finite = starts-finite ts rest begin in
    with_end finite (λ f. bound-of e ts rest finite (expression-reads ts rest e claim f)) (λ d w f. expression-shape e ts rest begin claim d w f)
bound-reads spelled.infinity (then (this {k = k} {rest = ts} is) end) = let both = infinite-here k ts is in without_end both.0 both.1
bound-reads spelled.minus_infinity (then (this {k = k} is) (then (this {k = i} {rest = ts} last) end)) = let both = minus-infinite k i ts is last in without_end both.0 both.1

-- ---- messages

a-template-by : (t : Template) (ts rest : List Spanned) → read_templates.template_by (shape_in (length ts)) ts ≡ Some (t, rest) → read_templates.a_template ts ≡ Some (t, rest)
unfolding read_templates.a_template
a-template-by t ts rest h = h

pub a-template-reads : {t : Template} (ts rest : List Spanned) → Known (phrase (a_template t)) ts rest → Follows 22 rest → read_templates.a_template ts ≡ Some (t, rest)
a-template-reads {t = t} ts rest (by s claim) f = a-template-by t ts rest (claim (length ts) (omega arith) f)

untyped : (t : Template) (ts rest : List Spanned) → is_symbol mark.Colon (second ts) ≡ false → read_templates.a_template ts ≡ Some (t, rest)
    → read_templates.message ts ≡ Some (record { type_name = None; template = t }, rest)
unfolding read_templates.message
untyped t ts rest none h = rw none (rw h refl)

typed : (n : TypeName) (t : Template) (c : Spanned) (ts us rest : List Spanned) → is_symbol mark.Colon (second ts) ≡ true → read_values.a_type ts ≡ Some (n, c ∷ us)
    → Is c (token.Symbol mark.Colon) → read_templates.a_template us ≡ Some (t, rest) → read_templates.message ts ≡ Some (record { type_name = Some n; template = t }, rest)
unfolding read_templates.message
typed n t c ts us rest some h is more = rw some (rw h (rw (expect-here mark.Colon c us is) (rw more refl)))

-- a type is one token
colon-second : (n : TypeName) (c : Spanned) (ts us : List Spanned) → Spells (phrase (a_type n)) ts (c ∷ us) → Is c (token.Symbol mark.Colon) → is_symbol mark.Colon (second ts) ≡ true
unfolding same_symbol
colon-second n c ts us (spelled.by spelled.integer (spelled.then (spelled.this is) spelled.end)) colon = rw colon refl
colon-second n c ts us (spelled.by spelled.boolean (spelled.then (spelled.this is) spelled.end)) colon = rw colon refl
colon-second n c ts us (spelled.by spelled.default (spelled.then (spelled.this is) spelled.end)) colon = rw colon refl
colon-second n c ts us (spelled.by (spelled.type_by_name name) (spelled.then (spelled.this is) spelled.end)) colon = rw colon refl

pub message-reads : {m : MessageTemplate} {ps : Parts} {ts rest : List Spanned} → Production (a_message m) ps → KnownInTurn ps ts rest → Claim (a_message m) ts rest
message-reads (spelled.message t) (then (by {ts = ts} {rest = rest} s claim) end) = λ f.
    untyped t ts rest ((starts-template s).uncolored (no_symbol mark.Colon 22 rest f (omega arith))) (a-template-reads ts rest (by s claim) f)
message-reads (spelled.typed_message n t) (then (by {ts = ts} s claim) (then (this {k = c} {rest = us} is) (then {middle = rest} more end))) = λ f.
    typed n t c ts us rest (colon-second n c ts us s is) claim is (a-template-reads us rest more f)
