-- What is spelled is what the parser reads: definitions and modules.
use Rattle.std.proofs.Common.{◌≡◌, ℕ, ◌≤◌, Bool, true, false, List, [], ◌∷◌, length, refl, sym, ap, ◌∙◌, arith}
use Rattle.std.specs.Prelude.{Option, Some, None, ◌||◌}
use Rattle.ttcn_syntax.specs.declared.token.Symbol.{Symbol}
use Rattle.ttcn_syntax.specs.declared.token.Symbol.TheVariants as mark
use Rattle.ttcn_syntax.specs.declared.token.Token.{Token}
use Rattle.ttcn_syntax.specs.declared.token.Token.TheVariants as token
use Rattle.ttcn_syntax.specs.declared.token.Spanned.{Spanned}
use Rattle.ttcn_syntax.specs.declared.token.Word.{Word}
use Rattle.ttcn_syntax.specs.declared.token.Word.TheVariants as word
use Rattle.ttcn_syntax.specs.declared.tree.value.TypeName.{TypeName}
use Rattle.ttcn_syntax.specs.declared.tree.value.Value.{Value}
use Rattle.ttcn_syntax.specs.declared.tree.template.Template.{Template}
use Rattle.ttcn_syntax.specs.declared.tree.statement.Branch.{Branch}
use Rattle.ttcn_syntax.specs.declared.tree.statement.Constants.{Constants}
use Rattle.ttcn_syntax.specs.declared.tree.statement.Statement.{Statement}
use Rattle.ttcn_syntax.specs.declared.tree.statement.Timer.{Timer}
use Rattle.ttcn_syntax.specs.declared.tree.definition.Definition.{Definition}
use Rattle.ttcn_syntax.specs.declared.tree.definition.DefinitionKind.{DefinitionKind}
use Rattle.ttcn_syntax.specs.declared.tree.definition.DefinitionKind.TheVariants as kind
use Rattle.ttcn_syntax.specs.declared.tree.definition.Direction.{Direction}
use Rattle.ttcn_syntax.specs.declared.tree.definition.Direction.TheVariants as direction
use Rattle.ttcn_syntax.specs.declared.tree.definition.EnumNumber.{EnumNumber}
use Rattle.ttcn_syntax.specs.declared.tree.definition.Enumerator.{Enumerator}
use Rattle.ttcn_syntax.specs.declared.tree.definition.Field.{Field}
use Rattle.ttcn_syntax.specs.declared.tree.definition.Member.{Member}
use Rattle.ttcn_syntax.specs.declared.tree.definition.Member.TheVariants as member
use Rattle.ttcn_syntax.specs.declared.tree.definition.MemberVariable.{MemberVariable}
use Rattle.ttcn_syntax.specs.declared.tree.definition.Module.{Module}
use Rattle.ttcn_syntax.specs.declared.tree.definition.Parameter.{Parameter}
use Rattle.ttcn_syntax.specs.declared.tree.definition.PortMessages.{PortMessages}
use Rattle.parse_limits.specs.Groups.{Balanced, Group, Is, braces, closes, nothing, opens, pair, partner, plain}
use Rattle.parse_grammar.specs.Grammar.{Parts, Production, Spells, a_block, a_control, a_definition, a_field, a_kind, a_member, a_member_variable, a_module, a_number, a_parameter, a_template, a_type, a_value, a_with, an_enumerator, branches, direction_word, id, items, key, nil, one, optional, phrase, runs_on, separated, the_constants, the_language, the_messages, the_parameters, the_timers, turn, ◌▸◌}
use Rattle.parse_grammar.specs.Grammar as spelled
use Rattle.parse_reader.specs.internal.Reading.{after_semicolons, at_brace, behind, same_symbol, same_word, sees, sees_word}
use Rattle.parse_reader.specs.internal.Statements.{block_in}
use Rattle.parse_reader.specs.Modules.{at_last, balanced_from, over_token}
use Rattle.parse_reader.specs.internal.Reading as read
use Rattle.parse_reader.specs.internal.Values as read_values
use Rattle.parse_reader.specs.internal.Templates as read_templates
use Rattle.parse_reader.specs.internal.Declarations as read_declarations
use Rattle.parse_reader.specs.internal.Statements as read_statements
use Rattle.parse_reader.specs.internal.Definitions as read_definitions
use Rattle.parse_reader.specs.Modules as read_modules
use Rattle.parse_grammar.proofs.Spellings.{shrinks, turn-shrinks}
use Rattle.parse_grammar.proofs.Tokens.{expect-here, expect-word-here, name-here, same-symbol-refl, sees-by, sees-here, sees-is, sees-word-by, sees-word-here}
use Rattle.parse_grammar.proofs.Follow.{Follows, follows-at, follows-end, loosen, no_symbol, no-word, word_rank}
use Rattle.parse_grammar.proofs.Claims.{Claim, Known, KnownInTurn, all, by, end, then, this}
use Rattle.parse_grammar.proofs.Claims as known
use Rattle.parse_grammar.proofs.CompleteLists.{Each, EachItem, Leads, Stops, commas-are-read, items-begin, items-read, none-is-some, semicolons-follow, semicolons-read, some-is, until-read}
use Rattle.parse_grammar.proofs.CompleteTemplates.{a-template-reads, a-value-reads}
use Rattle.parse_grammar.proofs.CompleteStatements.{branches-read, constants-lead, initial-reads, leads-word, stops-brace, timers-lead}

-- ---- parts of types

type-read : (n : TypeName) (ts rest : List Spanned) → Known (phrase (a_type n)) ts rest → read_values.a_type ts ≡ Some (n, rest)
type-read n ts rest (by s claim) = claim

no-type : read_values.a_type [] ≡ None
unfolding read_values.a_type
no-type = refl

each-type : (d : ℕ) → Each read_values.a_type (λ n. phrase (a_type n)) d
each-type d = record { nothing = no-type; reads = λ n ts rest s w f. type-read n ts rest s }

-- a type is a word or a name, and no bracket
type-closes : (s : Symbol) (n : TypeName) (ts rest : List Spanned) → Spells (phrase (a_type n)) ts rest → sees s ts ≡ false
type-closes s n ts rest (spelled.by spelled.integer (spelled.then (spelled.this {k = k} {rest = us} is) spelled.end)) = sees-by s k us _ is
type-closes s n ts rest (spelled.by spelled.boolean (spelled.then (spelled.this {k = k} {rest = us} is) spelled.end)) = sees-by s k us _ is
type-closes s n ts rest (spelled.by spelled.default (spelled.then (spelled.this {k = k} {rest = us} is) spelled.end)) = sees-by s k us _ is
type-closes s n ts rest (spelled.by (spelled.type_by_name name) (spelled.then (spelled.this {k = k} {rest = us} is) spelled.end)) = sees-by s k us _ is

type-is-no-in : (n : TypeName) (ts rest : List Spanned) → Spells (phrase (a_type n)) ts rest → sees_word word.In ts ≡ false
unfolding same_word
type-is-no-in n ts rest (spelled.by spelled.integer (spelled.then (spelled.this {k = k} {rest = us} is) spelled.end)) = sees-word-by word.In k us _ is
type-is-no-in n ts rest (spelled.by spelled.boolean (spelled.then (spelled.this {k = k} {rest = us} is) spelled.end)) = sees-word-by word.In k us _ is
type-is-no-in n ts rest (spelled.by spelled.default (spelled.then (spelled.this {k = k} {rest = us} is) spelled.end)) = sees-word-by word.In k us _ is
type-is-no-in n ts rest (spelled.by (spelled.type_by_name name) (spelled.then (spelled.this {k = k} {rest = us} is) spelled.end)) = sees-word-by word.In k us _ is

field-plain : (n : TypeName) (bytes : List ℕ) (k : Spanned) (ts rest : List Spanned) → read_values.a_type ts ≡ Some (n, k ∷ rest) → Is k (token.Id bytes)
    → sees_word word.Optional rest ≡ false → read_definitions.field ts ≡ Some (record { type_name = n; name = bytes; optional = false }, rest)
unfolding read_definitions.field
field-plain n bytes k ts rest h is none = rw h (rw (name-here bytes k rest is) (rw none refl))

field_optional : (n : TypeName) (bytes : List ℕ) (k o : Spanned) (ts rest : List Spanned) → read_values.a_type ts ≡ Some (n, k ∷ o ∷ rest) → Is k (token.Id bytes)
    → Is o (token.Word word.Optional) → read_definitions.field ts ≡ Some (record { type_name = n; name = bytes; optional = true }, rest)
unfolding read_definitions.field
field_optional n bytes k o ts rest h is may = rw h (rw (name-here bytes k (o ∷ rest) is) (rw (sees-word-here word.Optional o rest may) refl))

pub field-reads : {f : Field} {ps : Parts} {ts rest : List Spanned} → Production (a_field f) ps → KnownInTurn ps ts rest → Claim (a_field f) ts rest
field-reads (spelled.field n name) (then (by {ts = ts} s claim) (then (this {k = k} {rest = rest} is) end)) = λ f.
    field-plain n name k ts rest claim is (no-word word.Optional 24 rest f (omega arith))
field-reads (spelled.field_optional n name) (then (by {ts = ts} s claim) (then (this {k = k} is) (then (this {k = o} {rest = rest} may) end))) = λ f.
    field_optional n name k o ts rest claim is may

no-field : read_definitions.field [] ≡ None
unfolding read_definitions.field read_values.a_type
no-field = refl

one-field : (f : Field) (ts rest : List Spanned) → Known (phrase (a_field f)) ts rest → Follows 24 rest → read_definitions.field ts ≡ Some (f, rest)
one-field v ts rest (by s claim) f = claim f

field-closes : (f : Field) (ts rest : List Spanned) → Known (phrase (a_field f)) ts rest → sees mark.RightBrace ts ≡ false
field-closes f ts rest (by (spelled.by (spelled.field n name) (spelled.then s more)) claim) = type-closes mark.RightBrace n ts _ s
field-closes f ts rest (by (spelled.by (spelled.field_optional n name) (spelled.then s more)) claim) = type-closes mark.RightBrace n ts _ s

int-here : (n : ℕ) (k : Spanned) (ts : List Spanned) → Is k (token.Int n) → read_definitions.int (k ∷ ts) ≡ Some (n, ts)
unfolding read_definitions.int
int-here n k ts is = rw is refl

positive-reads : (n : ℕ) (k : Spanned) (ts : List Spanned) → Is k (token.Int n) → read_definitions.a_number (k ∷ ts) ≡ Some (record { minus = false; magnitude = n }, ts)
unfolding read_definitions.a_number
positive-reads n k ts is = rw (sees-by mark.Minus k ts _ is) (rw (int-here n k ts is) refl)

negative-reads : (n : ℕ) (m k : Spanned) (ts : List Spanned) → Is m (token.Symbol mark.Minus) → Is k (token.Int n)
    → read_definitions.a_number (m ∷ k ∷ ts) ≡ Some (record { minus = true; magnitude = n }, ts)
unfolding read_definitions.a_number
negative-reads n m k ts minus is = rw (sees-here mark.Minus m (k ∷ ts) minus) (rw (int-here n k ts is) refl)

pub number-reads : {n : EnumNumber} {ps : Parts} {ts rest : List Spanned} → Production (a_number n) ps → KnownInTurn ps ts rest → Claim (a_number n) ts rest
number-reads (spelled.positive n) (then (this {k = k} {rest = ts} is) end) = positive-reads n k ts is
number-reads (spelled.negative n) (then (this {k = m} minus) (then (this {k = k} {rest = ts} is) end)) = negative-reads n m k ts minus is

enumerator-plain : (bytes : List ℕ) (k : Spanned) (ts : List Spanned) → Is k (token.Id bytes) → sees mark.LeftParen ts ≡ false
    → read_definitions.enumerator (k ∷ ts) ≡ Some (record { name = bytes; number = None }, ts)
unfolding read_definitions.enumerator
enumerator-plain bytes k ts is none = rw (name-here bytes k ts is) (rw none refl)

enumerator-with : (bytes : List ℕ) (n : EnumNumber) (k o c : Spanned) (ts rest : List Spanned) → Is k (token.Id bytes) → Is o (token.Symbol mark.LeftParen)
    → read_definitions.a_number ts ≡ Some (n, c ∷ rest) → Is c (token.Symbol mark.RightParen) → read_definitions.enumerator (k ∷ o ∷ ts) ≡ Some (record { name = bytes; number = Some n }, rest)
unfolding read_definitions.enumerator
enumerator-with bytes n k o c ts rest is opening h close =
    rw (name-here bytes k (o ∷ ts) is) (rw (sees-here mark.LeftParen o ts opening) (rw h (rw (expect-here mark.RightParen c rest close) refl)))

pub enumerator-reads : {e : Enumerator} {ps : Parts} {ts rest : List Spanned} → Production (an_enumerator e) ps → KnownInTurn ps ts rest → Claim (an_enumerator e) ts rest
enumerator-reads (spelled.enumerator name None) (then (this {k = k} {rest = ts} is) (then (all end) end)) = λ f.
    enumerator-plain name k ts is (no_symbol mark.LeftParen 20 ts f (omega arith))
enumerator-reads (spelled.enumerator name (Some n)) (then (this {k = k} is) (then (all (then (this {k = o} {rest = ts} opening) (then (by s claim) (then (this {k = c} {rest = rest} close) end)))) end)) = λ f.
    enumerator-with name n k o c ts rest is opening claim close

no-enumerator : read_definitions.enumerator [] ≡ None
unfolding read_definitions.enumerator read.name
no-enumerator = refl

one-enumerator : (e : Enumerator) (ts rest : List Spanned) → Known (phrase (an_enumerator e)) ts rest → Follows 24 rest → read_definitions.enumerator ts ≡ Some (e, rest)
one-enumerator e ts rest (by s claim) f = claim (loosen 20 24 rest (omega arith) f)

direction-here : (k : Spanned) (ts : List Spanned) (d : Direction) → Is k (token.Word (direction_word d)) → read_definitions.a_direction (k ∷ ts) ≡ Some (d, ts)
unfolding read_definitions.a_direction
direction-here k ts direction.In is = rw is refl
direction-here k ts direction.Out is = rw is refl
direction-here k ts direction.Inout is = rw is refl

messages-by : (d : Direction) (ns : List TypeName) (k : Spanned) (ts rest : List Spanned) → Is k (token.Word (direction_word d)) → read.separated read_values.a_type ts ≡ Some (ns, rest)
    → read_definitions.messages (k ∷ ts) ≡ Some (record { direction = d; types = ns }, rest)
unfolding read_definitions.messages
messages-by d ns k ts rest is h = rw (direction-here k ts d is) (rw h refl)

pub messages-reads : {m : PortMessages} {ps : Parts} {ts rest : List Spanned} → Production (the_messages m) ps → KnownInTurn ps ts rest → Claim (the_messages m) ts rest
messages-reads {rest = rest} (spelled.messages d ns) (then (this {k = k} {rest = ts} is) (then s end)) = λ f.
    messages-by d ns k ts rest is (commas-are-read read_values.a_type (λ n. phrase (a_type n)) (length ts) (each-type (length ts)) ns ts rest s (omega arith) f)

messages-lead : {m : PortMessages} {ts rest : List Spanned} → Spells (phrase (the_messages m)) ts rest → Leads at_brace ts rest
messages-lead {rest = rest} (spelled.by (spelled.messages direction.In ns) (spelled.then (spelled.this {k = k} {rest = ts} is) more)) = leads-word _ k ts rest is (omega arith) (turn-shrinks more)
messages-lead {rest = rest} (spelled.by (spelled.messages direction.Out ns) (spelled.then (spelled.this {k = k} {rest = ts} is) more)) = leads-word _ k ts rest is (omega arith) (turn-shrinks more)
messages-lead {rest = rest} (spelled.by (spelled.messages direction.Inout ns) (spelled.then (spelled.this {k = k} {rest = ts} is) more)) = leads-word _ k ts rest is (omega arith) (turn-shrinks more)

lead-messages : (m : PortMessages) (ts rest : List Spanned) → Known (phrase (the_messages m)) ts rest → Leads at_brace ts rest
lead-messages m ts rest (by s claim) = messages-lead s

one-messages : (m : PortMessages) (ts rest : List Spanned) → Known (phrase (the_messages m)) ts rest → Follows 30 rest → read_definitions.messages ts ≡ Some (m, rest)
one-messages m ts rest (by s claim) f = claim (loosen 25 30 rest (omega arith) f)

each-messages : (d : ℕ) → EachItem at_brace read_definitions.messages (λ m. phrase (the_messages m)) d
each-messages d = record { leads = λ m ts rest s. lead-messages m ts rest s; reads = λ m ts rest s w f. one-messages m ts rest s f }

-- ---- members

member-variable-by : (bytes : List ℕ) (v : Option Value) (k : Spanned) (ts rest : List Spanned) → Is k (token.Id bytes) → read_declarations.initial read_values.a_value ts ≡ Some (v, rest)
    → read_definitions.member_variable (k ∷ ts) ≡ Some (record { name = bytes; value = v }, rest)
unfolding read_definitions.member_variable
member-variable-by bytes v k ts rest is h = rw (name-here bytes k ts is) (rw h refl)

pub member-variable-reads : {v : MemberVariable} {ps : Parts} {ts rest : List Spanned} → Production (a_member_variable v) ps → KnownInTurn ps ts rest → Claim (a_member_variable v) ts rest
member-variable-reads (spelled.member_variable name v) (then (this {k = k} {rest = ts} is) (then {middle = rest} s end)) = λ f.
    member-variable-by name v k ts rest is (initial-reads read_values.a_value a_value v ts rest s f (λ r us t. a-value-reads t f))

no-member-variable : read_definitions.member_variable [] ≡ None
unfolding read_definitions.member_variable read.name
no-member-variable = refl

one-member-variable : (v : MemberVariable) (ts rest : List Spanned) → Known (phrase (a_member_variable v)) ts rest → Follows 24 rest → read_definitions.member_variable ts ≡ Some (v, rest)
one-member-variable v ts rest (by s claim) f = claim (loosen 20 24 rest (omega arith) f)

no-name : read.name [] ≡ None
unfolding read.name
no-name = refl

one-name : (bytes : List ℕ) (ts rest : List Spanned) → Known (id bytes) ts rest → read.name ts ≡ Some (bytes, rest)
one-name bytes ts rest (this {k = k} is) = name-here bytes k rest is

member_at : (k : Spanned) (ts : List Spanned) (t : Token) → Is k t → read_definitions.a_member (k ∷ ts) ≡ read_definitions.member_by (Some t) (k ∷ ts)
unfolding read_definitions.a_member
member_at k ts t is = rw is refl

ports-by : (bytes : List ℕ) (names : List (List ℕ)) (k n : Spanned) (ts rest : List Spanned) → Is k (token.Word word.Port) → Is n (token.Id bytes)
    → read.separated read.name ts ≡ Some (names, rest) → read_definitions.member_ports (k ∷ n ∷ ts) ≡ Some (member.Ports bytes names, rest)
unfolding read_definitions.member_ports
ports-by bytes names k n ts rest is name h = rw (expect-word-here word.Port k (n ∷ ts) is) (rw (name-here bytes n ts name) (rw h refl))

member-variables-by : (n : TypeName) (vs : List MemberVariable) (k : Spanned) (ts us rest : List Spanned) → Is k (token.Word word.Var) → read_values.a_type ts ≡ Some (n, us)
    → read.separated read_definitions.member_variable us ≡ Some (vs, rest) → read_definitions.member_variables (k ∷ ts) ≡ Some (member.Variables n vs, rest)
unfolding read_definitions.member_variables
member-variables-by n vs k ts us rest is h more = rw (expect-word-here word.Var k ts is) (rw h (rw more refl))

member-constants-by : {cs : Constants} {ts rest : List Spanned} → Spells (phrase (the_constants cs)) ts rest → read_declarations.constants ts ≡ Some (cs, rest)
    → read_definitions.a_member ts ≡ Some (member.Constants cs, rest)
member-constants-by (spelled.by (spelled.constants n cs) (spelled.then (spelled.this {k = k} {rest = ts} is) more)) h =
    member_at k ts _ is ∙ ap (λ o. read.and_then o (λ cs. read.pure (member.Constants cs))) h

member-timers-by : {found : List Timer} {ts rest : List Spanned} → Spells (phrase (the_timers found)) ts rest → read_declarations.timers ts ≡ Some (found, rest)
    → read_definitions.a_member ts ≡ Some (member.Timers found, rest)
member-timers-by (spelled.by (spelled.timers found) (spelled.then (spelled.this {k = k} {rest = ts} is) more)) h =
    member_at k ts _ is ∙ ap (λ o. read.and_then o (λ all. read.pure (member.Timers all))) h

pub member-reads : {m : Member} {ps : Parts} {ts rest : List Spanned} → Production (a_member m) ps → KnownInTurn ps ts rest → Claim (a_member m) ts rest
member-reads {rest = rest} (spelled.member_ports bytes names) (then (this {k = k} is) (then (this {k = n} {rest = ts} name) (then s end))) = λ f.
    member_at k (n ∷ ts) _ is ∙ ports-by bytes names k n ts rest is name
    (commas-are-read read.name id (length ts) (record { nothing = no-name; reads = λ n ts rest s w f. one-name n ts rest s }) names ts rest s (omega arith) f)
member-reads (spelled.member_constants cs) (then (by s claim) end) = λ f. member-constants-by s (claim f)
member-reads {rest = rest} (spelled.member_variables n vs) (then (this {k = k} {rest = ts} is) (then (by {rest = us} s claim) (then t end))) = λ f.
    member_at k ts _ is ∙ member-variables-by n vs k ts us rest is claim
    (commas-are-read read_definitions.member_variable (λ v. phrase (a_member_variable v)) (length us)
    (record { nothing = no-member-variable; reads = λ v ts rest s w f. one-member-variable v ts rest s f }) vs us rest t (omega arith) f)
member-reads (spelled.member_timers found) (then (by s claim) end) = λ f. member-timers-by s (claim f)

member-leads : {m : Member} {ts rest : List Spanned} → Spells (phrase (a_member m)) ts rest → Leads at_brace ts rest
member-leads {rest = rest} (spelled.by (spelled.member_ports n names) (spelled.then (spelled.this {k = k} {rest = ts} is) more)) = leads-word _ k ts rest is (omega arith) (turn-shrinks more)
member-leads (spelled.by (spelled.member_constants cs) (spelled.then s spelled.end)) = constants-lead s
member-leads {rest = rest} (spelled.by (spelled.member_variables n vs) (spelled.then (spelled.this {k = k} {rest = ts} is) more)) = leads-word _ k ts rest is (omega arith) (turn-shrinks more)
member-leads (spelled.by (spelled.member_timers found) (spelled.then s spelled.end)) = timers-lead s

lead-member : (m : Member) (ts rest : List Spanned) → Known (phrase (a_member m)) ts rest → Leads at_brace ts rest
lead-member m ts rest (by s claim) = member-leads s

one-member : (m : Member) (ts rest : List Spanned) → Known (phrase (a_member m)) ts rest → Follows 30 rest → read_definitions.a_member ts ≡ Some (m, rest)
one-member m ts rest (by s claim) f = claim (loosen 25 30 rest (omega arith) f)

each-member : (d : ℕ) → EachItem at_brace read_definitions.a_member (λ m. phrase (a_member m)) d
each-member d = record { leads = λ m ts rest s. lead-member m ts rest s; reads = λ m ts rest s w f. one-member m ts rest s f }

-- ---- parameters

parameter-by : (n : TypeName) (bytes : List ℕ) (k : Spanned) (ts rest : List Spanned) → sees_word word.In ts ≡ false → read_values.a_type ts ≡ Some (n, k ∷ rest) → Is k (token.Id bytes)
    → read_definitions.parameter ts ≡ Some (record { type_name = n; name = bytes }, rest)
unfolding read_definitions.parameter
parameter-by n bytes k ts rest none h is = rw none (rw h (rw (name-here bytes k rest is) refl))

parameter-in-by : (n : TypeName) (bytes : List ℕ) (i k : Spanned) (ts rest : List Spanned) → Is i (token.Word word.In) → read_values.a_type ts ≡ Some (n, k ∷ rest) → Is k (token.Id bytes)
    → read_definitions.parameter (i ∷ ts) ≡ Some (record { type_name = n; name = bytes }, rest)
unfolding read_definitions.parameter
parameter-in-by n bytes i k ts rest inward h is = rw (sees-word-here word.In i ts inward) (rw h (rw (name-here bytes k rest is) refl))

pub parameter-reads : {p : Parameter} {ps : Parts} {ts rest : List Spanned} → Production (a_parameter p) ps → KnownInTurn ps ts rest → Claim (a_parameter p) ts rest
parameter-reads (spelled.parameter n name) (then (by {ts = ts} s claim) (then (this {k = k} {rest = rest} is) end)) =
    parameter-by n name k ts rest (type-is-no-in n ts (k ∷ rest) s) claim is
parameter-reads (spelled.parameter_in n name) (then (this {k = i} inward) (then (by {ts = ts} s claim) (then (this {k = k} {rest = rest} is) end))) =
    parameter-in-by n name i k ts rest inward claim is

no-parameter : read_definitions.parameter [] ≡ None
unfolding read_definitions.parameter read_values.a_type sees_word
no-parameter = refl

one-parameter : (p : Parameter) (ts rest : List Spanned) → Known (phrase (a_parameter p)) ts rest → read_definitions.parameter ts ≡ Some (p, rest)
one-parameter p ts rest (by s claim) = claim

parameter-closes : (p : Parameter) (ts rest : List Spanned) → Known (phrase (a_parameter p)) ts rest → sees mark.RightParen ts ≡ false
parameter-closes p ts rest (by (spelled.by (spelled.parameter n name) (spelled.then s more)) claim) = type-closes mark.RightParen n ts _ s
parameter-closes p ts rest (by (spelled.by (spelled.parameter_in n name) (spelled.then (spelled.this {k = k} {rest = us} is) more)) claim) = sees-by mark.RightParen k us _ is

parameters-by : (ps : List Parameter) (o : Spanned) (ts rest : List Spanned) → Is o (token.Symbol mark.LeftParen)
    → read.separated_until mark.RightParen read_definitions.parameter ts ≡ Some (ps, rest) → read_definitions.parameters (o ∷ ts) ≡ Some (ps, rest)
unfolding read_definitions.parameters
parameters-by ps o ts rest is h = rw (expect-here mark.LeftParen o ts is) h

pub parameters-reads : {all : List Parameter} {ps : Parts} {ts rest : List Spanned} → Production (the_parameters all) ps → KnownInTurn ps ts rest → Claim (the_parameters all) ts rest
parameters-reads (spelled.parameters found) (then (this {k = o} {rest = ts} is) (then s (then (this {k = c} {rest = rest} close) end))) =
    parameters-by found o ts rest is (until-read mark.RightParen read_definitions.parameter (λ p. phrase (a_parameter p)) (length ts)
    (record { nothing = no-parameter; reads = λ p ts rest s w f. one-parameter p ts rest s }) (λ p ts rest s. parameter-closes p ts rest s)
    found ts c rest s close (follows-at 25 c rest _ close (omega arith)) (omega arith))

-- ---- kinds of definitions

kind_at : (k : Spanned) (ts : List Spanned) (t : Token) → Is k t → read_definitions.a_kind (k ∷ ts) ≡ read_definitions.kind_by (Some t) (k ∷ ts)
unfolding read_definitions.a_kind
kind_at k ts t is = rw is refl

type-kind-at : (k w : Spanned) (ts : List Spanned) (t : Token) → Is k (token.Word word.Type) → Is w t → read_definitions.type_kind (k ∷ w ∷ ts) ≡ read_definitions.type_kind_by (Some t) (w ∷ ts)
unfolding read_definitions.type_kind
type-kind-at k w ts t is same = rw (expect-word-here word.Type k (w ∷ ts) is) (ap (λ t. read_definitions.type_kind_by (Some t) (w ∷ ts)) same)

record-by : (bytes : List ℕ) (fs : List Field) (w n o : Spanned) (ts rest : List Spanned) → Is w (token.Word word.Record) → Is n (token.Id bytes) → Is o (token.Symbol mark.LeftBrace)
    → read.separated_until mark.RightBrace read_definitions.field ts ≡ Some (fs, rest) → read_definitions.record_type (w ∷ n ∷ o ∷ ts) ≡ Some (kind.Record (record { name = bytes; fields = fs }), rest)
unfolding read_definitions.record_type
record-by bytes fs w n o ts rest is name opening h =
    rw (expect-word-here word.Record w (n ∷ o ∷ ts) is) (rw (name-here bytes n (o ∷ ts) name) (rw (expect-here mark.LeftBrace o ts opening) (rw h refl)))

enumerated-by : (bytes : List ℕ) (es : List Enumerator) (w n o c : Spanned) (ts rest : List Spanned) → Is w (token.Word word.Enumerated) → Is n (token.Id bytes)
    → Is o (token.Symbol mark.LeftBrace) → read.separated read_definitions.enumerator ts ≡ Some (es, c ∷ rest) → Is c (token.Symbol mark.RightBrace)
    → read_definitions.enumerated_type (w ∷ n ∷ o ∷ ts) ≡ Some (kind.Enumerated (record { name = bytes; enumerators = es }), rest)
unfolding read_definitions.enumerated_type
enumerated-by bytes es w n o c ts rest is name opening h close =
    rw (expect-word-here word.Enumerated w (n ∷ o ∷ ts) is) (rw (name-here bytes n (o ∷ ts) name) (rw (expect-here mark.LeftBrace o ts opening)
    (rw h (rw (expect-here mark.RightBrace c rest close) refl))))

port-by : (bytes : List ℕ) (ms : List PortMessages) (w n m o c : Spanned) (ts rest : List Spanned) → Is w (token.Word word.Port) → Is n (token.Id bytes)
    → Is m (token.Word word.Message) → Is o (token.Symbol mark.LeftBrace) → read.items at_brace read_definitions.messages ts ≡ Some (ms, c ∷ rest) → Is c (token.Symbol mark.RightBrace)
    → read_definitions.port_type (w ∷ n ∷ m ∷ o ∷ ts) ≡ Some (kind.Port (record { name = bytes; messages = ms }), rest)
unfolding read_definitions.port_type
port-by bytes ms w n m o c ts rest is name message opening h close =
    rw (expect-word-here word.Port w (n ∷ m ∷ o ∷ ts) is) (rw (name-here bytes n (m ∷ o ∷ ts) name) (rw (expect-word-here word.Message m (o ∷ ts) message)
    (rw (expect-here mark.LeftBrace o ts opening) (rw h (rw (expect-here mark.RightBrace c rest close) refl)))))

component_by : (bytes : List ℕ) (ms : List Member) (w n o c : Spanned) (ts rest : List Spanned) → Is w (token.Word word.Component) → Is n (token.Id bytes)
    → Is o (token.Symbol mark.LeftBrace) → read.items at_brace read_definitions.a_member ts ≡ Some (ms, c ∷ rest) → Is c (token.Symbol mark.RightBrace)
    → read_definitions.component_type (w ∷ n ∷ o ∷ ts) ≡ Some (kind.Component (record { name = bytes; members = ms }), rest)
unfolding read_definitions.component_type
component_by bytes ms w n o c ts rest is name opening h close =
    rw (expect-word-here word.Component w (n ∷ o ∷ ts) is) (rw (name-here bytes n (o ∷ ts) name) (rw (expect-here mark.LeftBrace o ts opening)
    (rw h (rw (expect-here mark.RightBrace c rest close) refl))))

kind-constants : {cs : Constants} {ts rest : List Spanned} → Spells (phrase (the_constants cs)) ts rest → read_declarations.constants ts ≡ Some (cs, rest)
    → read_definitions.a_kind ts ≡ Some (kind.Constants cs, rest)
kind-constants (spelled.by (spelled.constants n cs) (spelled.then (spelled.this {k = k} {rest = ts} is) more)) h =
    kind_at k ts _ is ∙ ap (λ o. read.and_then o (λ cs. read.pure (kind.Constants cs))) h

no-parameters : (k : Spanned) (ts : List Spanned) → Is k (token.Symbol mark.Assign) → read_definitions.parameters_if_any (k ∷ ts) ≡ Some ([], k ∷ ts)
unfolding read_definitions.parameters_if_any same_symbol
no-parameters k ts is = rw (sees-by mark.LeftParen k ts _ is) refl

some-parameters : (ps : List Parameter) (ts rest : List Spanned) → sees mark.LeftParen ts ≡ true → read_definitions.parameters ts ≡ Some (ps, rest) → read_definitions.parameters_if_any ts ≡ Some (ps, rest)
unfolding read_definitions.parameters_if_any
some-parameters ps ts rest some h = rw some h

parameters-begin : {found : List Parameter} {ts rest : List Spanned} → Spells (phrase (the_parameters found)) ts rest → sees mark.LeftParen ts ≡ true
parameters-begin (spelled.by (spelled.parameters found) (spelled.then (spelled.this {k = k} {rest = ts} is) more)) = sees-here mark.LeftParen k ts is

template_by : (n : TypeName) (bytes : List ℕ) (ps : List Parameter) (t : Template) (k b a : Spanned) (ts us vs rest : List Spanned) → Is k (token.Word word.Template)
    → read_values.a_type ts ≡ Some (n, b ∷ us) → Is b (token.Id bytes) → read_definitions.parameters_if_any us ≡ Some (ps, a ∷ vs) → Is a (token.Symbol mark.Assign)
    → read_templates.a_template vs ≡ Some (t, rest)
    → read_definitions.def_template (k ∷ ts) ≡ Some (kind.Template (record { type_name = n; name = bytes; parameters = ps; template = t }), rest)
unfolding read_definitions.def_template
template_by n bytes ps t k b a ts us vs rest is h name more assign last =
    rw (expect-word-here word.Template k ts is) (rw h (rw (name-here bytes b us name) (rw more (rw (expect-here mark.Assign a vs assign) (rw last refl)))))

runs-on-by : (component : List ℕ) (r o n : Spanned) (rest : List Spanned) → Is r (token.Word word.Runs) → Is o (token.Word word.On) → Is n (token.Id component)
    → read_definitions.runs_on (r ∷ o ∷ n ∷ rest) ≡ Some (component, rest)
unfolding read_definitions.runs_on
runs-on-by component r o n rest runs on name =
    rw (expect-word-here word.Runs r (o ∷ n ∷ rest) runs) (rw (expect-word-here word.On o (n ∷ rest) on) (name-here component n rest name))

runs-on-some : (component : List ℕ) (ts rest : List Spanned) → sees_word word.Runs ts ≡ true → read_definitions.runs_on ts ≡ Some (component, rest)
    → read_definitions.runs_on_if_any ts ≡ Some (Some component, rest)
unfolding read_definitions.runs_on_if_any
runs-on-some component ts rest some h = rw some (rw h refl)

runs-on-none : (ts : List Spanned) → sees_word word.Runs ts ≡ false → read_definitions.runs_on_if_any ts ≡ Some (None, ts)
unfolding read_definitions.runs_on_if_any
runs-on-none ts none = rw none refl

runs-on-reads : (component : Option (List ℕ)) (ts rest : List Spanned) → Known (optional runs_on component) ts rest → sees_word word.Runs rest ≡ false
    → read_definitions.runs_on_if_any ts ≡ Some (component, rest)
runs-on-reads None ts rest (all end) none = runs-on-none ts none
runs-on-reads (Some c) ts rest (all (then (this {k = r} runs) (then (this {k = o} on) (then (this {k = n} name) end)))) none =
    runs-on-some c (r ∷ o ∷ n ∷ rest) rest (sees-word-here word.Runs r (o ∷ n ∷ rest) runs) (runs-on-by c r o n rest runs on name)

result-some : (n : TypeName) (k : Spanned) (ts rest : List Spanned) → Is k (token.Word word.Return) → read_values.a_type ts ≡ Some (n, rest) → read_definitions.result_type (k ∷ ts) ≡ Some (Some n, rest)
unfolding read_definitions.result_type
result-some n k ts rest is h = rw (sees-word-here word.Return k ts is) (rw h refl)

result-none : (ts : List Spanned) → sees_word word.Return ts ≡ false → read_definitions.result_type ts ≡ Some (None, ts)
unfolding read_definitions.result_type
result-none ts none = rw none refl

result-reads : (n : Option TypeName) (ts rest : List Spanned) → Known (optional (λ n. key word.Return ▸ phrase (a_type n) ▸ nil) n) ts rest → sees_word word.Return rest ≡ false
    → read_definitions.result_type ts ≡ Some (n, rest)
result-reads None ts rest (all end) none = result-none ts none
result-reads (Some n) ts rest (all (then (this {k = k} {rest = us} is) (then (by s claim) end))) none = result-some n k us rest is claim

result-is-no-runs : (n : Option TypeName) (ts rest : List Spanned) → Known (optional (λ n. key word.Return ▸ phrase (a_type n) ▸ nil) n) ts rest → sees_word word.Runs rest ≡ false
    → sees_word word.Runs ts ≡ false
unfolding same_word
result-is-no-runs None ts rest (all end) none = none
result-is-no-runs (Some n) ts rest (all (then (this {k = k} {rest = us} is) more)) none = sees-word-by word.Runs k us _ is

system-some : (component : List ℕ) (k n : Spanned) (rest : List Spanned) → Is k (token.Word word.System) → Is n (token.Id component)
    → read_definitions.system_type (k ∷ n ∷ rest) ≡ Some (Some component, rest)
unfolding read_definitions.system_type
system-some component k n rest is name = rw (sees-word-here word.System k (n ∷ rest) is) (rw (name-here component n rest name) refl)

system-none : (ts : List Spanned) → sees_word word.System ts ≡ false → read_definitions.system_type ts ≡ Some (None, ts)
unfolding read_definitions.system_type
system-none ts none = rw none refl

system-reads : (c : Option (List ℕ)) (ts rest : List Spanned) → Known (optional (λ c. key word.System ▸ id c ▸ nil) c) ts rest → sees_word word.System rest ≡ false
    → read_definitions.system_type ts ≡ Some (c, rest)
system-reads None ts rest (all end) none = system-none ts none
system-reads (Some c) ts rest (all (then (this {k = k} is) (then (this {k = n} name) end))) none = system-some c k n rest is name

-- a block, and branches, begin with a brace
block-is-no-word : {ss : List Statement} (w : Word) (ts rest : List Spanned) → Spells (phrase (a_block ss)) ts rest → sees_word w ts ≡ false
block-is-no-word w ts rest (spelled.by (spelled.block ss) (spelled.then (spelled.this {k = k} {rest = us} is) more)) = sees-word-by w k us _ is

branches-are-no-word : (bs : List Branch) (w : Word) (ts rest : List Spanned) → Known (branches bs) ts rest → sees_word w ts ≡ false
branches-are-no-word bs w ts rest (all (then (this {k = k} {rest = us} is) more)) = sees-word-by w k us _ is

a-block-by : (ss : List Statement) (ts rest : List Spanned) → block_in (length ts) ts ≡ Some (ss, rest) → read_statements.a_block ts ≡ Some (ss, rest)
unfolding read_statements.a_block
a-block-by ss ts rest h = h

the-branches-by : (bs : List Branch) (ts rest : List Spanned) → read_statements.branches_by (block_in (length ts)) ts ≡ Some (bs, rest) → read_statements.the_branches ts ≡ Some (bs, rest)
unfolding read_statements.the_branches
the-branches-by bs ts rest h = h

function-by : (bytes : List ℕ) (ps : List Parameter) (component : Option (List ℕ)) (result : Option TypeName) (ss : List Statement) (k n : Spanned)
    (ts us vs ws rest : List Spanned) → Is k (token.Word word.Function) → Is n (token.Id bytes) → read_definitions.parameters ts ≡ Some (ps, us) → read_definitions.runs_on_if_any us ≡ Some (component, vs)
    → read_definitions.result_type vs ≡ Some (result, ws) → read_statements.a_block ws ≡ Some (ss, rest)
    → read_definitions.def_function (k ∷ n ∷ ts) ≡ Some (kind.Function (record { name = bytes; parameters = ps; runs_on = component; returns = result; body = ss }), rest)
unfolding read_definitions.def_function
function-by bytes ps component result ss k n ts us vs ws rest is name a b c d =
    rw (expect-word-here word.Function k (n ∷ ts) is) (rw (name-here bytes n ts name) (rw a (rw b (rw c (rw d refl)))))

altstep-by : (bytes : List ℕ) (ps : List Parameter) (component : Option (List ℕ)) (bs : List Branch) (k n : Spanned) (ts us vs rest : List Spanned)
    → Is k (token.Word word.Altstep) → Is n (token.Id bytes) → read_definitions.parameters ts ≡ Some (ps, us) → read_definitions.runs_on_if_any us ≡ Some (component, vs)
    → read_statements.the_branches vs ≡ Some (bs, rest)
    → read_definitions.def_altstep (k ∷ n ∷ ts) ≡ Some (kind.Altstep (record { name = bytes; parameters = ps; runs_on = component; branches = bs }), rest)
unfolding read_definitions.def_altstep
altstep-by bytes ps component bs k n ts us vs rest is name a b c =
    rw (expect-word-here word.Altstep k (n ∷ ts) is) (rw (name-here bytes n ts name) (rw a (rw b (rw c refl))))

testcase-by : (bytes component : List ℕ) (system : Option (List ℕ)) (ss : List Statement) (k n o c : Spanned) (ts us vs rest : List Spanned)
    → Is k (token.Word word.Testcase) → Is n (token.Id bytes) → Is o (token.Symbol mark.LeftParen) → Is c (token.Symbol mark.RightParen)
    → read_definitions.runs_on ts ≡ Some (component, us) → read_definitions.system_type us ≡ Some (system, vs) → read_statements.a_block vs ≡ Some (ss, rest)
    → read_definitions.def_testcase (k ∷ n ∷ o ∷ c ∷ ts) ≡ Some (kind.Testcase (record { name = bytes; runs_on = component; system = system; body = ss }), rest)
unfolding read_definitions.def_testcase
testcase-by bytes component system ss k n o c ts us vs rest is name opening close a b d =
    rw (expect-word-here word.Testcase k (n ∷ o ∷ c ∷ ts) is) (rw (name-here bytes n (o ∷ c ∷ ts) name) (rw (expect-here mark.LeftParen o (c ∷ ts) opening)
    (rw (expect-here mark.RightParen c ts close) (rw a (rw b (rw d refl))))))

pub kind-reads : {k : DefinitionKind} {ps : Parts} {ts rest : List Spanned} → Production (a_kind k) ps → KnownInTurn ps ts rest → Claim (a_kind k) ts rest
kind-reads (spelled.record_type name fs) (then (this {k = k} is) (then (this {k = w} next) (then (this {k = n} called) (then (this {k = o} {rest = ts} opening) (then s (then (this {k = c} {rest = rest} close) end)))))) = λ f.
    kind_at k (w ∷ n ∷ o ∷ ts) _ is ∙ type-kind-at k w (n ∷ o ∷ ts) _ is next
    ∙ record-by name fs w n o ts rest next called opening (until-read mark.RightBrace read_definitions.field (λ f. phrase (a_field f)) (length ts)
    (record { nothing = no-field; reads = λ v ts rest s w f. one-field v ts rest s f }) (λ v ts rest s. field-closes v ts rest s)
    fs ts c rest s close (follows-at 25 c rest _ close (omega arith)) (omega arith))
kind-reads (spelled.enumerated_type name es) (then (this {k = k} is) (then (this {k = w} next) (then (this {k = n} called) (then (this {k = o} {rest = ts} opening) (then s (then (this {k = c} {rest = rest} close) end)))))) = λ f.
    kind_at k (w ∷ n ∷ o ∷ ts) _ is ∙ type-kind-at k w (n ∷ o ∷ ts) _ is next
    ∙ enumerated-by name es w n o c ts rest next called opening (commas-are-read read_definitions.enumerator (λ e. phrase (an_enumerator e)) (length ts)
    (record { nothing = no-enumerator; reads = λ e ts rest s w f. one-enumerator e ts rest s f }) es ts (c ∷ rest) s (omega arith) (follows-at 25 c rest _ close (omega arith))) close
kind-reads (spelled.port_type name ms) (then (this {k = k} is) (then (this {k = w} next) (then (this {k = n} called) (then (this {k = m} message) (then (this {k = o} {rest = ts} opening) (then s (then (this {k = c} {rest = rest} close) end))))))) = λ f.
    kind_at k (w ∷ n ∷ m ∷ o ∷ ts) _ is ∙ type-kind-at k w (n ∷ m ∷ o ∷ ts) _ is next
    ∙ port-by name ms w n m o c ts rest next called message opening
    (items-read at_brace read_definitions.messages (λ m. phrase (the_messages m)) (length ts) (each-messages (length ts)) ms ts (c ∷ rest) s (stops-brace c rest close)
    (omega arith) (length ts) (omega arith) []) close
kind-reads (spelled.component_type name ms) (then (this {k = k} is) (then (this {k = w} next) (then (this {k = n} called) (then (this {k = o} {rest = ts} opening) (then s (then (this {k = c} {rest = rest} close) end)))))) = λ f.
    kind_at k (w ∷ n ∷ o ∷ ts) _ is ∙ type-kind-at k w (n ∷ o ∷ ts) _ is next
    ∙ component_by name ms w n o c ts rest next called opening
    (items-read at_brace read_definitions.a_member (λ m. phrase (a_member m)) (length ts) (each-member (length ts)) ms ts (c ∷ rest) s (stops-brace c rest close)
    (omega arith) (length ts) (omega arith) []) close
kind-reads (spelled.def_constants cs) (then (by s claim) end) = λ f. kind-constants s (claim f)
kind-reads {rest = rest} (spelled.def_template n name t) (then (this {k = k} {rest = ts} is) (then (by s claim) (then (this {k = b} called) (then (this {k = a} {rest = us} assign) (then u end))))) = λ f.
    kind_at k ts _ is ∙ template_by n name [] t k b a ts (a ∷ us) us rest is claim called (no-parameters a us assign) assign
    (a-template-reads us rest u (loosen 22 25 rest (omega arith) f))
kind-reads {rest = rest} (spelled.def_template_with n name ps t) (then (this {k = k} {rest = ts} is) (then (by s claim) (then (this {k = b} {rest = us} called) (then (by p parameters) (then (this {k = a} {rest = vs} assign) (then u end)))))) = λ f.
    kind_at k ts _ is ∙ template_by n name ps t k b a ts us vs rest is claim called (some-parameters ps us (a ∷ vs) (parameters-begin p) parameters) assign
    (a-template-reads vs rest u (loosen 22 25 rest (omega arith) f))
kind-reads {rest = rest} (spelled.def_function name ps component result ss) (then (this {k = k} is) (then (this {k = n} {rest = ts} called) (then (by {rest = us} p parameters) (then {middle = vs} r (then {middle = ws} t (then (by s claim) end)))))) = λ f.
    kind_at k (n ∷ ts) _ is ∙ function-by name ps component result ss k n ts us vs ws rest is called parameters
    (runs-on-reads component us vs r (result-is-no-runs result vs ws t (block-is-no-word word.Runs ws rest s)))
    (result-reads result vs ws t (block-is-no-word word.Return ws rest s)) (a-block-by ss ws rest (claim (length ws) (omega arith)))
kind-reads {rest = rest} (spelled.def_altstep name ps component bs) (then (this {k = k} is) (then (this {k = n} {rest = ts} called) (then (by {rest = us} p parameters) (then {middle = vs} r (then s end))))) = λ f.
    kind_at k (n ∷ ts) _ is ∙ altstep-by name ps component bs k n ts us vs rest is called parameters
    (runs-on-reads component us vs r (branches-are-no-word bs word.Runs vs rest s)) (the-branches-by bs vs rest (branches-read (length vs) bs vs rest s (omega arith)))
kind-reads {rest = rest} (spelled.def_testcase name component system ss) (then (this {k = k} is) (then (this {k = n} called) (then (this {k = o} opening) (then (this {k = c} close) (then (all (then (this {k = r} runs) (then (this {k = l} on) (then (this {k = m} {rest = us} subject) end)))) (then {middle = vs} y (then (by s claim) end))))))) = λ f.
    kind_at k (n ∷ o ∷ c ∷ r ∷ l ∷ m ∷ us) _ is
    ∙ testcase-by name component system ss k n o c (r ∷ l ∷ m ∷ us) us vs rest is called opening close (runs-on-by component r l m us runs on subject)
    (system-reads system us vs y (block-is-no-word word.System vs rest s)) (a-block-by ss vs rest (claim (length vs) (omega arith)))

definition-by : (k : DefinitionKind) (h : Spanned) (ts rest : List Spanned) → read_definitions.a_kind (h ∷ ts) ≡ Some (k, rest)
    → read_definitions.definition (h ∷ ts) ≡ Some (record { place = h.place; kind = k }, rest)
unfolding read_definitions.definition read.here
definition-by k h ts rest e = rw e refl

pub definition-reads : {d : Definition} {ps : Parts} {ts rest : List Spanned} → Production (a_definition d) ps → KnownInTurn ps ts rest → Claim (a_definition d) ts rest
definition-reads {rest = rest} (spelled.definition place k) (then (known.here {k = h} {rest = ts}) (then (by s claim) end)) = λ f. definition-by k h ts rest (claim f)

-- ---- groups

over-plain : (expected : List Symbol) (t : Token) → opens t ≡ false → closes t ≡ false → over_token expected t ≡ Some expected
over-plain expected (token.Symbol mark.LeftBrace) o c = cc
over-plain expected (token.Symbol mark.LeftParen) o c = cc
over-plain expected (token.Symbol mark.LeftBracket) o c = cc
over-plain expected (token.Symbol mark.RightBrace) o c = cc
over-plain expected (token.Symbol mark.RightParen) o c = cc
over-plain expected (token.Symbol mark.RightBracket) o c = cc
over-plain expected _ o c = refl

over-open : (expected : List Symbol) (t : Token) (opening closing : Symbol) → t ≡ token.Symbol opening → partner opening ≡ Some closing → over_token expected t ≡ Some (closing ∷ expected)
over-open expected t opening closing is p = rw is (rw p refl)

partner-closes : (opening closing : Symbol) → partner opening ≡ Some closing → (partner closing ≡ None) × (closes (token.Symbol closing) ≡ true)
partner-closes mark.LeftBrace closing h = rw (sym (some-is h)) (refl, refl)
partner-closes mark.LeftParen closing h = rw (sym (some-is h)) (refl, refl)
partner-closes mark.LeftBracket closing h = rw (sym (some-is h)) (refl, refl)
partner-closes _ closing h = none-is-some h

over-close : (expected : List Symbol) (t : Token) (closing : Symbol) → t ≡ token.Symbol closing → partner closing ≡ None → closes (token.Symbol closing) ≡ true
    → over_token (closing ∷ expected) t ≡ Some expected
over-close expected t closing is p c = rw is (rw p (rw c (rw (same-symbol-refl closing) refl)))

go-by : (expected : List Symbol) (others : Option (List Symbol)) (k : Spanned) (ts : List Spanned) → over_token expected k.token ≡ others
    → balanced_from expected (k ∷ ts) ≡ read_modules.go_on (λ cs. balanced_from cs ts) others ts
unfolding balanced_from
go-by expected others k ts h = rw h refl

-- over what is balanced the brackets that are expected stay the same
balanced-reads : {ts rest : List Spanned} → Balanced ts rest → (c : Symbol) (cs : List Symbol) → balanced_from (c ∷ cs) ts ≡ balanced_from (c ∷ cs) rest
balanced-reads nothing c cs = refl
balanced-reads (plain {k = k} {ts = ts} o e more) c cs = go-by (c ∷ cs) _ k ts (over-plain (c ∷ cs) k.token o e) ∙ balanced-reads more c cs
balanced-reads (pair {k = k} {c = l} {opening = opening} {closing = closing} {ts = ts} {middle = middle} is p inside close more) c cs =
    let ends = partner-closes opening closing p in
    go-by (c ∷ cs) _ k ts (over-open (c ∷ cs) k.token opening closing is p)
    ∙ balanced-reads inside closing (c ∷ cs)
    ∙ go-by (closing ∷ c ∷ cs) _ l middle (over-close (c ∷ cs) l.token closing close ends.0 ends.1)
    ∙ balanced-reads more c cs

group-by : (k : Spanned) (ts : List Spanned) (x : Unit {0} × List Spanned) → Is k (token.Symbol mark.LeftBrace) → balanced_from (mark.RightBrace ∷ []) ts ≡ Some x → read_modules.group (k ∷ ts) ≡ Some x
unfolding read_modules.group
group-by k ts x is h = rw (expect-here mark.LeftBrace k ts is) h

group-reads : {ts rest : List Spanned} → Group ts rest → read_modules.group ts ≡ Some (tt, rest)
group-reads (braces {k = k} {c = c} {ts = ts} {rest = rest} is inside close) =
    group-by k ts (tt, rest) is (balanced-reads inside mark.RightBrace [] ∙ go-by (mark.RightBrace ∷ []) _ c rest (over-close [] c.token mark.RightBrace close refl refl))

-- ---- what leaves no trace

with-some : (k : Spanned) (ts : List Spanned) (x : Unit {0} × List Spanned) → Is k (token.Word word.With) → read_modules.group ts ≡ Some x → read_modules.with_ (k ∷ ts) ≡ Some x
unfolding read_modules.with_
with-some k ts x is h = rw (sees-word-here word.With k ts is) h

with-none : (ts : List Spanned) → sees_word word.With ts ≡ false → read_modules.with_ ts ≡ Some (tt, ts)
unfolding read_modules.with_
with-none ts none = rw none refl

pub with-reads : {ps : Parts} {ts rest : List Spanned} → Production a_with ps → KnownInTurn ps ts rest → Claim a_with ts rest
with-reads spelled.no_with (end {ts = ts}) = λ f. with-none ts (no-word word.With 30 ts f (omega arith))
with-reads {rest = rest} spelled.with_group (then (this {k = k} {rest = ts} is) (then (known.balanced g) end)) = λ f. with-some k ts (tt, rest) is (group-reads g)

text-here : (k : Spanned) (ts : List Spanned) → Is k token.Text → read_modules.text (k ∷ ts) ≡ Some (tt, ts)
unfolding read_modules.text
text-here k ts is = rw is refl

no-text : read_modules.text [] ≡ None
unfolding read_modules.text
no-text = refl

one_text : (u : Unit {0}) (ts rest : List Spanned) → Known (one token.Text) ts rest → read_modules.text ts ≡ Some (u, rest)
one_text u ts rest (this {k = k} is) = text-here k rest is

language-some : (texts : List (Unit {0})) (k : Spanned) (ts rest : List Spanned) → Is k (token.Word word.Language) → read.separated read_modules.text ts ≡ Some (texts, rest)
    → read_modules.language (k ∷ ts) ≡ Some (tt, rest)
unfolding read_modules.language
language-some texts k ts rest is h = rw (sees-word-here word.Language k ts is) (rw h refl)

language-none : (ts : List Spanned) → sees_word word.Language ts ≡ false → read_modules.language ts ≡ Some (tt, ts)
unfolding read_modules.language
language-none ts none = rw none refl

pub language-reads : {ps : Parts} {ts rest : List Spanned} → Production the_language ps → KnownInTurn ps ts rest → Claim the_language ts rest
language-reads spelled.no_language (end {ts = ts}) = λ f. language-none ts (no-word word.Language 25 ts f (omega arith))
language-reads {rest = rest} (spelled.languages texts) (then (this {k = k} {rest = ts} is) (then s end)) = λ f.
    language-some texts k ts rest is (commas-are-read read_modules.text (λ u. one token.Text) (length ts)
    (record { nothing = no-text; reads = λ u ts rest s w f. one_text u ts rest s }) texts ts rest s (omega arith) f)

control-some : (k : Spanned) (ts us vs rest : List Spanned) → Is k (token.Word word.Control) → read_modules.group ts ≡ Some (tt, us) → read_modules.with_ us ≡ Some (tt, vs)
    → after_semicolons vs ≡ rest → read_modules.control (k ∷ ts) ≡ Some (tt, rest)
unfolding read_modules.control
control-some k ts us vs rest is h more gap = rw (sees-word-here word.Control k ts is) (rw h (rw more (rw gap refl)))

control-none : (ts : List Spanned) → sees_word word.Control ts ≡ false → read_modules.control ts ≡ Some (tt, ts)
unfolding read_modules.control
control-none ts none = rw none refl

-- where a brace comes next
brace-next : (ts : List Spanned) → sees mark.RightBrace ts ≡ true → (Follows 30 ts) × (sees mark.Semicolon ts ≡ false) × (sees_word word.Control ts ≡ false)
unfolding same_symbol
brace-next ts h = let begins = sees-is mark.RightBrace ts h in rw begins.all (
  follows-at 30 begins.first (behind ts) _ begins.is (omega arith),
  sees-by mark.Semicolon begins.first (behind ts) _ begins.is,
  sees-word-by word.Control begins.first (behind ts) _ begins.is,
)

pub control-reads : {ps : Parts} {ts rest : List Spanned} → Production a_control ps → KnownInTurn ps ts rest → Claim a_control ts rest
control-reads spelled.no_control (end {ts = ts}) = λ h. control-none ts (brace-next ts h).2
control-reads {rest = rest} spelled.control_group (then (this {k = k} {rest = ts} is) (then (known.balanced {rest = us} g) (then (by {rest = vs} s claim) (then gap end)))) = λ h.
    let next = brace-next rest h in
    control-some k ts us vs rest is (group-reads g) (claim (semicolons-follow gap next.0)) (semicolons-read gap next.1)

-- ---- modules

or-true : (a b : Bool) → b ≡ true → (a || b) ≡ true
or-true true b h = refl
or-true false b h = h

stops-control : (k : Spanned) (ts : List Spanned) → Is k (token.Word word.Control) → Stops at_last (k ∷ ts)
stops-control k ts is = record {
  stopped = or-true (sees mark.RightBrace (k ∷ ts)) _ (sees-word-here word.Control k ts is);
  no_gap = sees-by mark.Semicolon k ts _ is;
  follows = follows-at 30 k ts _ is (omega arith);
}

stops_last : (ts : List Spanned) → sees mark.RightBrace ts ≡ true → Stops at_last ts
stops_last ts h = let next = brace-next ts h in record { stopped = rw h refl; no_gap = next.1; follows = next.0 }

control-stops : {ts rest : List Spanned} → Spells (phrase a_control) ts rest → sees mark.RightBrace rest ≡ true → Stops at_last ts
control-stops (spelled.by spelled.no_control (spelled.end {ts = ts})) h = stops_last ts h
control-stops (spelled.by spelled.control_group (spelled.then (spelled.this {k = k} {rest = ts} is) more)) h = stops-control k ts is

lead-word : (w : Word) (k : Spanned) (ts rest : List Spanned) → Is k (token.Word w) → same_word w word.Control ≡ false → 30 ≤ word_rank w → length rest ≤ length ts
    → Leads at_last (k ∷ ts) rest
lead-word w k ts rest is other high less = record {
  goes_on = rw (sees-by mark.RightBrace k ts _ is) (sees-word-by word.Control k ts _ is ∙ other);
  no_gap = sees-by mark.Semicolon k ts _ is;
  follows = follows-at 30 k ts _ is high;
  shorter = omega (arith, less);
}

kind-leads : {d : DefinitionKind} {ts rest : List Spanned} → Spells (phrase (a_kind d)) ts rest → Leads at_last ts rest
unfolding same_word
kind-leads {rest = rest} (spelled.by (spelled.record_type name fs) (spelled.then (spelled.this {k = k} {rest = ts} is) more)) = lead-word _ k ts rest is refl (omega arith) (turn-shrinks more)
kind-leads {rest = rest} (spelled.by (spelled.enumerated_type name es) (spelled.then (spelled.this {k = k} {rest = ts} is) more)) = lead-word _ k ts rest is refl (omega arith) (turn-shrinks more)
kind-leads {rest = rest} (spelled.by (spelled.port_type name ms) (spelled.then (spelled.this {k = k} {rest = ts} is) more)) = lead-word _ k ts rest is refl (omega arith) (turn-shrinks more)
kind-leads {rest = rest} (spelled.by (spelled.component_type name ms) (spelled.then (spelled.this {k = k} {rest = ts} is) more)) = lead-word _ k ts rest is refl (omega arith) (turn-shrinks more)
kind-leads {rest = rest} (spelled.by (spelled.def_constants cs) (spelled.then (spelled.by (spelled.constants n ds) (spelled.then (spelled.this {k = k} {rest = ts} is) more)) spelled.end)) = lead-word _ k ts rest is refl (omega arith) (turn-shrinks more)
kind-leads {rest = rest} (spelled.by (spelled.def_template n name t) (spelled.then (spelled.this {k = k} {rest = ts} is) more)) = lead-word _ k ts rest is refl (omega arith) (turn-shrinks more)
kind-leads {rest = rest} (spelled.by (spelled.def_template_with n name ps t) (spelled.then (spelled.this {k = k} {rest = ts} is) more)) = lead-word _ k ts rest is refl (omega arith) (turn-shrinks more)
kind-leads {rest = rest} (spelled.by (spelled.def_function name ps c r ss) (spelled.then (spelled.this {k = k} {rest = ts} is) more)) = lead-word _ k ts rest is refl (omega arith) (turn-shrinks more)
kind-leads {rest = rest} (spelled.by (spelled.def_altstep name ps c bs) (spelled.then (spelled.this {k = k} {rest = ts} is) more)) = lead-word _ k ts rest is refl (omega arith) (turn-shrinks more)
kind-leads {rest = rest} (spelled.by (spelled.def_testcase name c s ss) (spelled.then (spelled.this {k = k} {rest = ts} is) more)) = lead-word _ k ts rest is refl (omega arith) (turn-shrinks more)

definition-leads : {d : Definition} {ts rest : List Spanned} → Spells (phrase (a_definition d)) ts rest → Leads at_last ts rest
definition-leads (spelled.by (spelled.definition place k) (spelled.then spelled.here (spelled.then s spelled.end))) = kind-leads s

with-follows : {ts rest : List Spanned} → Spells (phrase a_with) ts rest → Follows 30 rest → Follows 25 ts
with-follows (spelled.by spelled.no_with (spelled.end {ts = ts})) f = loosen 25 30 ts (omega arith) f
with-follows (spelled.by spelled.with_group (spelled.then (spelled.this {k = k} {rest = ts} is) more)) f = follows-at 25 k ts _ is (omega arith)

definition-with-by : (d : Definition) (ts us rest : List Spanned) → read_definitions.definition ts ≡ Some (d, us) → read_modules.with_ us ≡ Some (tt, rest) → read_modules.definition_with ts ≡ Some (d, rest)
unfolding read_modules.definition_with
definition-with-by d ts us rest h more = rw h (rw more refl)

one-definition : (d : Definition) (ts rest : List Spanned) → Known (turn (phrase (a_definition d) ▸ phrase a_with ▸ nil)) ts rest → Follows 30 rest → read_modules.definition_with ts ≡ Some (d, rest)
one-definition d ts rest (all (then (by {rest = us} s claim) (then (by t others) end))) f =
    definition-with-by d ts us rest (claim (with-follows t f)) (others f)

lead-definition : (d : Definition) (ts rest : List Spanned) → Known (turn (phrase (a_definition d) ▸ phrase a_with ▸ nil)) ts rest → Leads at_last ts rest
lead-definition d ts rest (all (then (by {rest = us} s claim) (then (by t others) end))) =
    let l = definition-leads s in
    let more = l.shorter in
    let less = shrinks t in
    record { goes_on = l.goes_on; no_gap = l.no_gap; follows = l.follows; shorter = omega (arith, less, more) }

each-definition : (d : ℕ) → EachItem at_last read_modules.definition_with (λ d. turn (phrase (a_definition d) ▸ phrase a_with ▸ nil)) d
each-definition d = record { leads = λ m ts rest s. lead-definition m ts rest s; reads = λ m ts rest s w f. one-definition m ts rest s f }

module-by : (bytes : List ℕ) (ds : List Definition) (k n o c : Spanned) (ts us vs ws xs ys : List Spanned) → Is k (token.Word word.Module) → Is n (token.Id bytes)
    → read_modules.language ts ≡ Some (tt, o ∷ us) → Is o (token.Symbol mark.LeftBrace) → after_semicolons us ≡ vs → read.items at_last read_modules.definition_with vs ≡ Some (ds, ws)
    → read_modules.control ws ≡ Some (tt, c ∷ xs) → Is c (token.Symbol mark.RightBrace) → read_modules.with_ xs ≡ Some (tt, ys) → after_semicolons ys ≡ []
    → read_modules.whole (k ∷ n ∷ ts) ≡ Some (record { name = bytes; definitions = ds }, [])
unfolding read_modules.whole read_modules.at_end
module-by bytes ds k n o c ts us vs ws xs ys is name language opening gap inside control close with_ last =
    rw (expect-word-here word.Module k (n ∷ ts) is) (rw (name-here bytes n ts name) (rw language (rw (expect-here mark.LeftBrace o us opening) (rw gap
    (rw inside (rw control (rw (expect-here mark.RightBrace c xs close) (rw with_ (rw last refl)))))))))

ends-there : (rest : List Spanned) → rest ≡ [] → sees mark.Semicolon rest ≡ false
unfolding sees
ends-there rest is = rw is refl

pub module-reads : {m : Module} {ps : Parts} {ts rest : List Spanned} → Production (a_module m) ps → KnownInTurn ps ts rest → Claim (a_module m) ts rest
module-reads {rest = rest} (spelled.whole name ds) (then (this {k = k} is) (then (this {k = n} {rest = ts} called) (then (by l language) (then (this {k = o} {rest = us} opening) (then {middle = vs} gap (then {middle = ws} s (then (by t control) (then (this {k = c} {rest = xs} close) (then (by {rest = ys} w others) (then last end)))))))))) = λ done.
    let stops = control-stops t (sees-here mark.RightBrace c xs close) in
    module-by name ds k n o c ts us vs ws xs ys is called (language (follows-at 25 o us _ opening (omega arith))) opening
    (semicolons-read gap (items-begin at_last read_modules.definition_with (λ d. turn (phrase (a_definition d) ▸ phrase a_with ▸ nil)) (length vs) (each-definition (length vs)) ds vs ws s stops))
    (items-read at_last read_modules.definition_with (λ d. turn (phrase (a_definition d) ▸ phrase a_with ▸ nil)) (length vs) (each-definition (length vs)) ds vs ws s stops
    (omega arith) (length vs) (omega arith) [])
    (control (sees-here mark.RightBrace c xs close)) close (others (semicolons-follow last (follows-end rest done))) (semicolons-read last (ends-there rest done) ∙ done)
    ∙ ap (λ r. Some (record { name = name; definitions = ds }, r)) (sym done)
