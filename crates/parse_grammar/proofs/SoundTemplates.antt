-- What the parser reads is spelled: values and templates.
use Rattle.std.proofs.Common.{◌≡◌, ℕ, zero, suc, Bool, true, false, List, [], ◌∷◌, length, refl, ap, inl, inr}
use Rattle.std.specs.Prelude.{if◌then◌else◌, Some}
use Rattle.ttcn_syntax.specs.declared.operator.Level.TheVariants as level
use Rattle.ttcn_syntax.specs.declared.token.Symbol.{Symbol}
use Rattle.ttcn_syntax.specs.declared.token.Symbol.TheVariants as mark
use Rattle.ttcn_syntax.specs.declared.token.Token.{Token}
use Rattle.ttcn_syntax.specs.declared.token.Token.TheVariants as token
use Rattle.ttcn_syntax.specs.declared.token.Spanned.{Spanned}
use Rattle.ttcn_syntax.specs.declared.token.Word.TheVariants as word
use Rattle.ttcn_syntax.specs.declared.tree.expression.Expr.{Expr}
use Rattle.ttcn_syntax.specs.declared.tree.value.Call.{Call}
use Rattle.ttcn_syntax.specs.declared.tree.value.FieldValue.{FieldValue}
use Rattle.ttcn_syntax.specs.declared.tree.value.TypeName.{TypeName}
use Rattle.ttcn_syntax.specs.declared.tree.value.TypeName.TheVariants as type_name
use Rattle.ttcn_syntax.specs.declared.tree.value.Value.{Value}
use Rattle.ttcn_syntax.specs.declared.tree.template.Bound.{Bound}
use Rattle.ttcn_syntax.specs.declared.tree.template.Bound.TheVariants as bound
use Rattle.ttcn_syntax.specs.declared.tree.template.FieldTemplate.{FieldTemplate}
use Rattle.ttcn_syntax.specs.declared.tree.template.Template.{Template}
use Rattle.ttcn_syntax.specs.declared.tree.template.TemplateBody.{TemplateBody}
use Rattle.ttcn_syntax.specs.declared.tree.template.TemplateBody.TheVariants as body
use Rattle.parse_limits.specs.Groups.{Is}
use Rattle.parse_grammar.specs.Grammar.{Part, Parts, Spells, a_body, a_bound, a_call, a_field_template, a_field_value, a_message, a_pattern, a_rhs, a_template, a_type, a_value, by, end, key, nil, phrase, this, turn, ◌▸◌}
use Rattle.parse_reader.specs.Trees.{template_of}
use Rattle.parse_grammar.specs.Grammar as spelled
use Rattle.parse_reader.specs.internal.Reading.{Parser, behind, head_token, is_symbol, second, sees, sees_word}
use Rattle.parse_reader.specs.internal.Values.{activation, assigns, braced_value, call, calls, creates, field_value_by, type_by, value_by, value_expression, value_in}
use Rattle.parse_reader.specs.internal.Templates.{body_of, braced_template, closed_expression, complement, field_template_by, in_parens, in_parens_by, infinite, list_from, message, opened_by, range_from, shape_by, shape_expression, shape_in, template_by}
use Rattle.parse_reader.specs.internal.Reading as read
use Rattle.parse_reader.specs.internal.Values as read_values
use Rattle.parse_reader.specs.internal.Templates as read_templates
use Rattle.parse_reader.specs.declared.shape.Shape.{Shape}
use Rattle.parse_reader.specs.declared.shape.Shape.TheVariants as shape
use Rattle.parse_grammar.proofs.Tokens.{sees-here}
use Rattle.parse_grammar.proofs.Sound.{Added, Holds, Sound, after, chosen, comma-between, decided, done, eaten, either, implied, operand_part, parts_of, refused, some-is, sound-expect, sound-expect-word, sound-expression, sound-expression-from, sound-name, sound-separated, sound-separated-from, sound-token, sound-until, symbol-at, word-at}

-- ---- types

abbrev type_token : TypeName → Token
type_token type_name.Integer = token.Word word.Integer
type_token type_name.Boolean = token.Word word.Boolean
type_token type_name.Default = token.Word word.Default
type_token (type_name.Named bytes) = token.Id bytes

type-written : (t : Token) (n : TypeName) → type_by (Some t) ≡ Some n → t ≡ type_token n
type-written (token.Word word.Integer) n h = ap type_token (some-is h)
type-written (token.Word word.Boolean) n h = ap type_token (some-is h)
type-written (token.Word word.Default) n h = ap type_token (some-is h)
type-written (token.Id bytes) n h = ap type_token (some-is h)
type-written _ n h = cc

type-spelled : (n : TypeName) {ts rest : List Spanned} → Spells (spelled.one (type_token n)) ts rest → Spells (phrase (a_type n)) ts rest
type-spelled type_name.Integer s = by spelled.integer (spelled.then s end)
type-spelled type_name.Boolean s = by spelled.boolean (spelled.then s end)
type-spelled type_name.Default s = by spelled.default (spelled.then s end)
type-spelled (type_name.Named bytes) s = by (spelled.type_by_name bytes) (spelled.then s end)

pub sound-type : Sound (λ n. phrase (a_type n)) read_values.a_type
unfolding read_values.a_type
sound-type ts = implied (sound-token type_token type_by refl type-written ts) (λ n rest s. type-spelled n s)

-- ---- values

abbrev pub value_part : Value → Part
value_part v = phrase (a_value v)

abbrev field_value_part : FieldValue → Part
field_value_part f = phrase (a_field_value f)

sound-value-expression : Sound value_part value_expression
unfolding value_expression
sound-value-expression ts = after (sound-expression ts) (λ e rest s. done (by (spelled.value_expr e) (spelled.then s end)))

module _ (p : Parser Value) (sound : Sound value_part p) where
  sound-field-value : Sound field_value_part (field_value_by p)
  unfolding field_value_by
  sound-field-value ts =
      after (sound-name ts) (λ bytes a s1. after (sound-expect mark.Assign a) (λ _ b s2. after (sound b) (λ v c s3.
      done (by (spelled.value_of_field bytes v) (spelled.then s1 (spelled.then s2 (spelled.then s3 end)))))))

  sound-braced-value : Sound value_part (braced_value p)
  unfolding braced_value
  sound-braced-value ts =
      after (sound-expect mark.LeftBrace ts) (λ _ a s1. chosen (assigns a)
      (λ _. after (sound-separated field_value_part (field_value_by p) sound-field-value a) (λ fs b s2. after (sound-expect mark.RightBrace b) (λ _ c s3.
      done (by (spelled.value_assigned fs) (spelled.then s1 (spelled.then s2 (spelled.then s3 end)))))))
      (after (sound-until value_part mark.RightBrace p sound a) (λ vs b u.
      done (by (spelled.value_listed vs) (spelled.then s1 (spelled.then u.body (spelled.then u.closed end)))))))

  value_step : (k : Spanned) (ts : List Spanned) (t : Token) → Is k t
      → Holds (λ v rest. Spells (value_part v) (k ∷ ts) rest) (value_by p (Some t) (k ∷ ts))
  value_step k ts (token.Word word.Omit) is = done (by spelled.value_omit (spelled.then (this is) end))
  value_step k ts (token.Symbol mark.LeftBrace) is = sound-braced-value (k ∷ ts)
  value_step k ts _ is = sound-value-expression (k ∷ ts)

  sound-value-by : (ts : List Spanned) → Holds (λ v rest. Spells (value_part v) ts rest) (value_by p (head_token ts) ts)
  sound-value-by [] = sound-value-expression []
  sound-value-by (k ∷ ts) = value_step k ts k.token refl

sound-value-in : (depth : ℕ) → Sound value_part (value_in depth)
unfolding value_in
sound-value-in zero ts = sound-value-by read.refuse (λ ts. refused) ts
sound-value-in (suc depth) ts = sound-value-by (value_in depth) (sound-value-in depth) ts

pub sound-value : Sound value_part read_values.a_value
unfolding read_values.a_value
sound-value ts = sound-value-in (length ts) ts

-- ---- calls, and what a variable is set to

pub sound-call : Sound (λ c. phrase (a_call c)) call
unfolding call
sound-call ts =
    after (sound-name ts) (λ bytes a s1. after (sound-expect mark.LeftParen a) (λ _ b s2.
    after (sound-until value_part mark.RightParen read_values.a_value sound-value b) (λ vs c u.
    done (by (spelled.with_arguments bytes vs) (spelled.then s1 (spelled.then s2 (spelled.then u.body (spelled.then u.closed end))))))))

abbrev pub activated : Call → Parts
activated c = key word.Activate ▸ spelled.sym mark.LeftParen ▸ phrase (a_call c) ▸ spelled.sym mark.RightParen ▸ nil

pub sound-activation : Sound (λ c. turn (activated c)) activation
unfolding activation
sound-activation ts =
    after (sound-expect-word word.Activate ts) (λ _ a s1. after (sound-expect mark.LeftParen a) (λ _ b s2.
    after (sound-call b) (λ c d s3. after (sound-expect mark.RightParen d) (λ _ e s4.
    done (spelled.all (spelled.then s1 (spelled.then s2 (spelled.then s3 (spelled.then s4 end)))))))))

pub sound-rhs : Sound (λ r. phrase (a_rhs r)) read_values.a_rhs
unfolding read_values.a_rhs
sound-rhs ts =
    chosen (calls ts) (λ _. after (sound-call ts) (λ c a s. done (by (spelled.rhs_call c) (spelled.then s end))))
    (chosen (creates ts)
    (λ _. after (sound-name ts) (λ bytes a s1. after (sound-expect mark.Dot a) (λ _ b s2. after (sound-expect-word word.Create b) (λ _ c s3.
    done (by (spelled.rhs_create bytes) (spelled.then s1 (spelled.then s2 (spelled.then s3 end))))))))
    (chosen (sees_word word.Activate ts)
    (λ _. after (sound-activation ts) (λ c a s. done (by (spelled.rhs_activate c) (parts_of s))))
    (after (sound-value ts) (λ v a s. done (by (spelled.rhs_value v) (spelled.then s end))))))

-- ---- bounds

pub sound-bound : Sound (λ b. phrase (a_bound b)) read_templates.a_bound
unfolding read_templates.a_bound
sound-bound ts =
    chosen (infinite ts)
    (λ _. elim (either (sees mark.Minus ts)) [
      | inl e ↦ rw e (after (sound-expect-word word.Infinity (behind ts)) (λ _ a s. done (by spelled.minus_infinity (spelled.then (symbol-at mark.Minus ts e) (spelled.then s end)))))
      | inr e ↦ rw e (after (sound-expect-word word.Infinity ts) (λ _ a s. done (by spelled.infinity (spelled.then s end))))
    ])
    (after (sound-expression ts) (λ e a s. done (by (spelled.bound_expr e) (spelled.then s end))))

-- ---- templates

-- a shape is an expression or a pattern
abbrev pub shape_part : Shape → Part
shape_part (shape.Expr e) = operand_part level.Or e
shape_part (shape.Pattern b) = phrase (a_pattern b)

abbrev pub template_part : Template → Part
template_part t = phrase (a_template t)

abbrev field_template_part : FieldTemplate → Part
field_template_part f = phrase (a_field_template f)

abbrev pattern_part : TemplateBody → Part
pattern_part b = phrase (a_pattern b)

body-spelled : (s : Shape) {ts rest : List Spanned} → Spells (shape_part s) ts rest → Spells (phrase (a_body (body_of s))) ts rest
body-spelled (shape.Expr e) s = by (spelled.body_expr e) (spelled.then s end)
body-spelled (shape.Pattern b) s = by (spelled.body_pattern b) (spelled.then s end)

template-spelled : (b : TemplateBody) (ts gap : List Spanned) → Spells (phrase (a_body b)) ts gap
    → Spells (template_part (template_of b (sees_word word.Ifpresent gap))) ts (if sees_word word.Ifpresent gap then behind gap else gap)
template-spelled b ts gap s =
    elim (either (sees_word word.Ifpresent gap)) [
      | inl e ↦ rw e (by (spelled.template_ifpresent b) (spelled.then s (spelled.then (word-at word.Ifpresent gap e) end)))
      | inr e ↦ rw e (by (spelled.template_plain b) (spelled.then s end))
    ]

seen-symbol : {s : Symbol} {ts rest : List Spanned} → Spells (spelled.sym s) ts rest → sees s ts ≡ true
seen-symbol {s = s} (this {k = k} {rest = rest} is) = sees-here s k rest is

sound-shape-expression : Sound shape_part shape_expression
unfolding shape_expression
sound-shape-expression ts =
    chosen (calls ts) (λ _. after (sound-call ts) (λ c a s. done (by (spelled.template_call c) (spelled.then s end))))
    (after (sound-expression ts) (λ e a s. done s))

-- a range behind its lower bound
sound-range-from : (low : Bound) (start within ts : List Spanned) → Spells (spelled.sym mark.LeftParen) start within → Spells (phrase (a_bound low)) within ts
    → Holds (λ s rest. Spells (shape_part s) start rest) (range_from low ts)
unfolding range_from
sound-range-from low start within ts s1 s2 =
    after (sound-expect mark.DotDot ts) (λ _ a s3. after (sound-bound a) (λ high b s4. after (sound-expect mark.RightParen b) (λ _ c s5.
    done (by (spelled.range low high) (spelled.then s1 (spelled.then s2 (spelled.then s3 (spelled.then s4 (spelled.then s5 end)))))))))

-- an expression that begins with one in brackets
sound-closed-expression : (e : Expr) (start within ts : List Spanned) → Spells (spelled.sym mark.LeftParen) start within → Spells (operand_part level.Or e) within ts
    → Holds (λ s rest. Spells (shape_part s) start rest) (closed_expression e ts)
unfolding closed_expression
sound-closed-expression e start within ts s1 s2 =
    after (sound-expect mark.RightParen ts) (λ _ a s3.
    after (sound-expression-from e start a (by (spelled.bracketed e) (spelled.then s1 (spelled.then s2 (spelled.then s3 end))))) (λ all b s. done s))

module _ (p : Parser Shape) (sound : Sound shape_part p) where
  pub sound-template-by : Sound template_part (template_by p)
  unfolding template_by
  sound-template-by ts = after (sound ts) (λ s gap t. done (template-spelled (body_of s) ts gap (body-spelled s t)))

  sound-field-template : Sound field_template_part (field_template_by (template_by p))
  unfolding field_template_by
  sound-field-template ts =
      after (sound-name ts) (λ bytes a s1. after (sound-expect mark.Assign a) (λ _ b s2. after (sound-template-by b) (λ t c s3.
      done (by (spelled.template_of_field bytes t) (spelled.then s1 (spelled.then s2 (spelled.then s3 end)))))))

  sound-complement : Sound shape_part (complement p)
  unfolding complement
  sound-complement ts =
      after (sound-expect-word word.Complement ts) (λ _ a s1. after (sound-expect mark.LeftParen a) (λ _ b s2.
      after (sound-separated template_part (template_by p) sound-template-by b) (λ all c s3. after (sound-expect mark.RightParen c) (λ _ d s4.
      done (by (spelled.complement all) (spelled.then s1 (spelled.then s2 (spelled.then s3 (spelled.then s4 end)))))))))

  sound-braced-template : Sound shape_part (braced_template p)
  unfolding braced_template
  sound-braced-template ts =
      after (sound-expect mark.LeftBrace ts) (λ _ a s1. chosen (assigns a)
      (λ _. after (sound-separated field_template_part (field_template_by (template_by p)) sound-field-template a) (λ fs b s2.
      after (sound-expect mark.RightBrace b) (λ _ c s3. done (by (spelled.template_assigned fs) (spelled.then s1 (spelled.then s2 (spelled.then s3 end)))))))
      (after (sound-until template_part mark.RightBrace (template_by p) sound-template-by a) (λ all b u.
      done (by (spelled.template_listed all) (spelled.then s1 (spelled.then u.body (spelled.then u.closed end)))))))

  -- the list that begins with this template
  list-spelled : (first : Template) {start within ts gap last rest : List Spanned} (all : List Template) → Spells (spelled.sym mark.LeftParen) start within
      → Spells (template_part first) within ts → Spells (spelled.sym mark.Comma) ts gap → Added template_part (first ∷ []) gap all last
      → Spells (spelled.sym mark.RightParen) last rest → Spells (pattern_part (body.List all)) start rest
  list-spelled first all s1 s2 comma more s3 =
      rw more.all (by (spelled.list first more.head more.others) (spelled.then s1 (spelled.then (comma-between s2 comma more.spelling) (spelled.then s3 end))))

  sound-list-from : (first : Template) (start within ts : List Spanned) → Spells (spelled.sym mark.LeftParen) start within → Spells (template_part first) within ts
      → ((rest : List Spanned) → Spells (spelled.sym mark.RightParen) ts rest → Spells (pattern_part (body.List (first ∷ []))) start rest)
      → Holds (λ s rest. Spells (shape_part s) start rest) (list_from p first ts)
  unfolding list_from
  sound-list-from first start within ts s1 s2 alone =
      eaten _ _ mark.Comma ts
      (λ comma. after (sound-separated-from template_part (template_by p) sound-template-by (length (behind ts)) (first ∷ []) (behind ts)) (λ all last more.
      after (sound-expect mark.RightParen last) (λ _ rest s3. done (list-spelled first all s1 s2 comma more s3))))
      (after (sound-expect mark.RightParen ts) (λ _ rest s3. done (alone rest s3)))

  sound-opened-by : (e : Expr) (start within ts : List Spanned) → Spells (spelled.sym mark.LeftParen) start within → Spells (operand_part level.Or e) within ts
      → Holds (λ s rest. Spells (shape_part s) start rest) (opened_by p e ts)
  unfolding opened_by
  sound-opened-by e start within ts s1 s2 =
      chosen (sees mark.DotDot ts) (λ _. sound-range-from (bound.Expr e) start within ts s1 (by (spelled.bound_expr e) (spelled.then s2 end)))
      (decided (sees mark.RightParen ts) (λ _. sound-closed-expression e start within ts s1 s2)
      (λ missing. sound-list-from (template_of (body.Expr e) false) start within ts s1
      (by (spelled.template_plain (body.Expr e)) (spelled.then (by (spelled.body_expr e) (spelled.then s2 end)) end))
      (λ rest s3. (let there = seen-symbol s3 in cc))))

  in-parens-step : (s : Shape) (present : Bool) (start within gap : List Spanned) → sees_word word.Ifpresent gap ≡ present
      → Spells (spelled.sym mark.LeftParen) start within → Spells (shape_part s) within gap
      → Holds (λ s rest. Spells (shape_part s) start rest) (in_parens_by p s present (if present then behind gap else gap))
  in-parens-step (shape.Expr e) false start within gap h s1 s2 = sound-opened-by e start within gap s1 s2
  in-parens-step (shape.Expr e) true start within gap h s1 s2 =
      let s3 = word-at word.Ifpresent gap h in
      let whole = body-spelled (shape.Expr e) s2 in
      sound-list-from (template_of (body.Expr e) true) start within (behind gap) s1 (by (spelled.template_ifpresent (body.Expr e)) (spelled.then whole (spelled.then s3 end)))
      (λ rest s4. by (spelled.list_of_ifpresent (body.Expr e)) (spelled.then s1 (spelled.then whole (spelled.then s3 (spelled.then s4 end)))))
  in-parens-step (shape.Pattern b) true start within gap h s1 s2 =
      let s3 = word-at word.Ifpresent gap h in
      let whole = body-spelled (shape.Pattern b) s2 in
      sound-list-from (template_of b true) start within (behind gap) s1 (by (spelled.template_ifpresent b) (spelled.then whole (spelled.then s3 end)))
      (λ rest s4. by (spelled.list_of_ifpresent b) (spelled.then s1 (spelled.then whole (spelled.then s3 (spelled.then s4 end)))))
  in-parens-step (shape.Pattern b) false start within gap h s1 s2 =
      sound-list-from (template_of b false) start within gap s1 (by (spelled.template_plain b) (spelled.then (body-spelled (shape.Pattern b) s2) end))
      (λ rest s3. by (spelled.list_of_pattern b) (spelled.then s1 (spelled.then s2 (spelled.then s3 end))))

  sound-in-parens : Sound shape_part (in_parens p)
  unfolding in_parens
  sound-in-parens ts =
      after (sound-expect mark.LeftParen ts) (λ _ a s1. chosen (infinite a)
      (λ _. after (sound-bound a) (λ low b s2. sound-range-from low ts a b s1 s2))
      (after (sound a) (λ s gap s2. in-parens-step s (sees_word word.Ifpresent gap) ts a gap refl s1 s2)))

  shape-step : (k : Spanned) (ts : List Spanned) (t : Token) → Is k t
      → Holds (λ s rest. Spells (shape_part s) (k ∷ ts) rest) (shape_by p (Some t) (k ∷ ts))
  shape-step k ts (token.Symbol mark.Question) is = done (by spelled.any (spelled.then (this is) end))
  shape-step k ts (token.Symbol mark.Star) is = done (by spelled.any_or_omit (spelled.then (this is) end))
  shape-step k ts (token.Word word.Omit) is = done (by spelled.omit (spelled.then (this is) end))
  shape-step k ts (token.Word word.Complement) is = sound-complement (k ∷ ts)
  shape-step k ts (token.Symbol mark.LeftBrace) is = sound-braced-template (k ∷ ts)
  shape-step k ts (token.Symbol mark.LeftParen) is = sound-in-parens (k ∷ ts)
  shape-step k ts _ is = sound-shape-expression (k ∷ ts)

  sound-shape-by : (ts : List Spanned) → Holds (λ s rest. Spells (shape_part s) ts rest) (shape_by p (head_token ts) ts)
  sound-shape-by [] = sound-shape-expression []
  sound-shape-by (k ∷ ts) = shape-step k ts k.token refl

sound-shape-in : (depth : ℕ) → Sound shape_part (shape_in depth)
unfolding shape_in
sound-shape-in zero ts = sound-shape-by read.refuse (λ ts. refused) ts
sound-shape-in (suc depth) ts = sound-shape-by (shape_in depth) (sound-shape-in depth) ts

pub sound-template : Sound template_part read_templates.a_template
unfolding read_templates.a_template
sound-template ts = sound-template-by (shape_in (length ts)) (sound-shape-in (length ts)) ts

-- the second token is ':', or there is no type
pub sound-message : Sound (λ m. phrase (a_message m)) message
unfolding message
sound-message ts =
    chosen (is_symbol mark.Colon (second ts))
    (λ _. after (sound-type ts) (λ n a s1. after (sound-expect mark.Colon a) (λ _ b s2. after (sound-template b) (λ t c s3.
    done (by (spelled.typed_message n t) (spelled.then s1 (spelled.then s2 (spelled.then s3 end))))))))
    (after (sound-template ts) (λ t a s. done (by (spelled.message t) (spelled.then s end))))
