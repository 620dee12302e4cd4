-- What the parser reads is spelled: definitions and modules.
use Rattle.std.proofs.Common.{◌≡◌, ℕ, Bool, true, false, List, [], ◌∷◌, refl, ap, ◌∙◌, inl, inr}
use Rattle.std.specs.Prelude.{◌⊎◌, if◌then◌else◌, Option, Some, None}
use Rattle.ttcn_syntax.specs.declared.token.Symbol.{Symbol}
use Rattle.ttcn_syntax.specs.declared.token.Symbol.TheVariants as mark
use Rattle.ttcn_syntax.specs.declared.token.Token.{Token}
use Rattle.ttcn_syntax.specs.declared.token.Token.TheVariants as token
use Rattle.ttcn_syntax.specs.declared.token.Spanned.{Spanned}
use Rattle.ttcn_syntax.specs.declared.token.Word.TheVariants as word
use Rattle.ttcn_syntax.specs.declared.tree.value.TypeName.{TypeName}
use Rattle.ttcn_syntax.specs.declared.tree.template.Template.{Template}
use Rattle.ttcn_syntax.specs.declared.tree.definition.Definition.{Definition}
use Rattle.ttcn_syntax.specs.declared.tree.definition.DefinitionKind.{DefinitionKind}
use Rattle.ttcn_syntax.specs.declared.tree.definition.DefinitionKind.TheVariants as kind
use Rattle.ttcn_syntax.specs.declared.tree.definition.Direction.{Direction}
use Rattle.ttcn_syntax.specs.declared.tree.definition.Enumerator.{Enumerator}
use Rattle.ttcn_syntax.specs.declared.tree.definition.Field.{Field}
use Rattle.ttcn_syntax.specs.declared.tree.definition.Member.{Member}
use Rattle.ttcn_syntax.specs.declared.tree.definition.Module.{Module}
use Rattle.ttcn_syntax.specs.declared.tree.definition.Parameter.{Parameter}
use Rattle.parse_limits.specs.Groups.{Balanced, Is, closes, nothing, opens, pair, partner, plain}
use Rattle.parse_limits.specs.Groups as groups
use Rattle.parse_grammar.specs.Grammar.{InTurn, IsModule, Part, Spells, a_definition, a_field, a_kind, a_member, a_member_variable, a_module, a_number, a_template, a_type, a_value, a_with, a_control, an_enumerator, by, direction_word, each, end, id, key, nil, one, optional, phrase, set_to, the_language, the_messages, the_parameters, this, turn, ◌▸◌}
use Rattle.parse_grammar.specs.Grammar as spelled
use Rattle.parse_reader.specs.internal.Reading.{Parser, after_semicolons, at_brace, behind, head_token, name, same_symbol, sees, sees_word}
use Rattle.parse_reader.specs.internal.Definitions.{a_direction, component_type, def_altstep, def_function, def_template, def_testcase, definition, direction_of, enumerated_type, enumerator, field, int, int_of, kind_by, member_by, member_ports, member_variable, member_variables, messages, parameter, parameters, parameters_if_any, port_type, record_type, result_type, runs_on, runs_on_if_any, system_type, type_kind, type_kind_by}
use Rattle.parse_reader.specs.Modules.{at_end, at_last, balanced_from, closes_one, control, definition_with, go_on, group, language, over_bracket, over_token, text, text_of, whole, with_}
use Rattle.parse_reader.specs.internal.Values as read_values
use Rattle.parse_reader.specs.internal.Definitions as read_definitions
use Rattle.parse_grammar.proofs.Tokens.{same-symbol-is}
use Rattle.parse_grammar.proofs.Sound.{Holds, Sound, after, chosen, done, eaten, either, implied, refused, some-is, sound-expect, sound-expect-word, sound-here, sound-items, sound-name, sound-semicolons, sound-separated, sound-token, sound-until, symbol-at, word-at, word-eaten}
use Rattle.parse_grammar.proofs.SoundTemplates.{sound-template, sound-type, sound-value}
use Rattle.parse_grammar.proofs.SoundStatements.{sound-block, sound-constants, sound-initial, sound-the-branches, sound-timers}

-- ---- fields, enumerators, messages

abbrev field_part : Field → Part
field_part f = phrase (a_field f)

field-spelled : (n : TypeName) (bytes : List ℕ) (ts gap last : List Spanned) → Spells (phrase (a_type n)) ts gap → Spells (id bytes) gap last
    → Spells (field_part (record { type_name = n; name = bytes; optional = sees_word word.Optional last })) ts
    (if sees_word word.Optional last then behind last else last)
field-spelled n bytes ts gap last s1 s2 =
    elim (either (sees_word word.Optional last)) [
      | inl e ↦ rw e (by (spelled.field_optional n bytes) (spelled.then s1 (spelled.then s2 (spelled.then (word-at word.Optional last e) end))))
      | inr e ↦ rw e (by (spelled.field n bytes) (spelled.then s1 (spelled.then s2 end)))
    ]

sound-field : Sound field_part field
unfolding field
sound-field ts = after (sound-type ts) (λ n a s1. after (sound-name a) (λ bytes b s2. done (field-spelled n bytes ts a b s1 s2)))

int-written : (t : Token) (n : ℕ) → int_of (Some t) ≡ Some n → t ≡ token.Int n
int-written (token.Int found) n h = ap token.Int (some-is h)
int-written _ n h = cc

sound-int : Sound (λ n. one (token.Int n)) int
unfolding int
sound-int ts = sound-token token.Int int_of refl int-written ts

sound-number : Sound (λ n. phrase (a_number n)) read_definitions.a_number
unfolding read_definitions.a_number
sound-number ts =
    elim (either (sees mark.Minus ts)) [
      | inl e ↦ rw e (after (sound-int (behind ts)) (λ n a s. done (by (spelled.negative n) (spelled.then (symbol-at mark.Minus ts e) (spelled.then s end)))))
      | inr e ↦ rw e (after (sound-int ts) (λ n a s. done (by (spelled.positive n) (spelled.then s end))))
    ]

abbrev enumerator_part : Enumerator → Part
enumerator_part e = phrase (an_enumerator e)

sound-enumerator : Sound enumerator_part enumerator
unfolding enumerator
sound-enumerator ts =
    after (sound-name ts) (λ bytes a s1. eaten _ _ mark.LeftParen a
    (λ s2. after (sound-number (behind a)) (λ n b s3. after (sound-expect mark.RightParen b) (λ _ c s4.
    done (by (spelled.enumerator bytes (Some n)) (spelled.then s1 (spelled.then (spelled.all (spelled.then s2 (spelled.then s3 (spelled.then s4 end)))) end))))))
    (done (by (spelled.enumerator bytes None) (spelled.then s1 (spelled.then (spelled.all end) end)))))

direction-written : (t : Token) (d : Direction) → direction_of (Some t) ≡ Some d → t ≡ token.Word (direction_word d)
direction-written (token.Word word.In) d h = ap (λ d. token.Word (direction_word d)) (some-is h)
direction-written (token.Word word.Out) d h = ap (λ d. token.Word (direction_word d)) (some-is h)
direction-written (token.Word word.Inout) d h = ap (λ d. token.Word (direction_word d)) (some-is h)
direction-written _ d h = cc

sound-direction : Sound (λ d. key (direction_word d)) a_direction
unfolding a_direction
sound-direction ts = sound-token (λ d. token.Word (direction_word d)) direction_of refl direction-written ts

sound-messages : Sound (λ m. phrase (the_messages m)) messages
unfolding messages
sound-messages ts =
    after (sound-direction ts) (λ d a s1. after (sound-separated (λ n. phrase (a_type n)) read_values.a_type sound-type a) (λ ns b s2.
    done (by (spelled.messages d ns) (spelled.then s1 (spelled.then s2 end)))))

-- ---- members

abbrev member_part : Member → Part
member_part m = phrase (a_member m)

sound-member-variable : Sound (λ v. phrase (a_member_variable v)) member_variable
unfolding member_variable
sound-member-variable ts =
    after (sound-name ts) (λ bytes a s1. after (sound-initial a_value read_values.a_value sound-value a) (λ v b s2.
    done (by (spelled.member_variable bytes v) (spelled.then s1 (spelled.then s2 end)))))

sound-member-ports : Sound member_part member_ports
unfolding member_ports
sound-member-ports ts =
    after (sound-expect-word word.Port ts) (λ _ a s1. after (sound-name a) (λ n b s2. after (sound-separated id name sound-name b) (λ names c s3.
    done (by (spelled.member_ports n names) (spelled.then s1 (spelled.then s2 (spelled.then s3 end)))))))

sound-member-variables : Sound member_part member_variables
unfolding member_variables
sound-member-variables ts =
    after (sound-expect-word word.Var ts) (λ _ a s1. after (sound-type a) (λ n b s2.
    after (sound-separated (λ v. phrase (a_member_variable v)) member_variable sound-member-variable b) (λ vs c s3.
    done (by (spelled.member_variables n vs) (spelled.then s1 (spelled.then s2 (spelled.then s3 end)))))))

member-step : (ts : List Spanned) (t : Option Token) → Holds (λ m rest. Spells (member_part m) ts rest) (member_by t ts)
member-step ts (Some (token.Word word.Port)) = sound-member-ports ts
member-step ts (Some (token.Word word.Const)) = after (sound-constants ts) (λ cs a s. done (by (spelled.member_constants cs) (spelled.then s end)))
member-step ts (Some (token.Word word.Var)) = sound-member-variables ts
member-step ts (Some (token.Word word.Timer)) = after (sound-timers ts) (λ all a s. done (by (spelled.member_timers all) (spelled.then s end)))
member-step ts _ = refused

sound-member : Sound member_part read_definitions.a_member
unfolding read_definitions.a_member
sound-member ts = member-step ts (head_token ts)

-- ---- parameters

abbrev parameter_part : Parameter → Part
parameter_part p = phrase (spelled.a_parameter p)

sound-parameter : Sound parameter_part parameter
unfolding parameter
sound-parameter ts =
    elim (either (sees_word word.In ts)) [
      | inl e ↦
          rw e (after (sound-type (behind ts)) (λ n a s1. after (sound-name a) (λ bytes b s2.
          done (by (spelled.parameter_in n bytes) (spelled.then (word-at word.In ts e) (spelled.then s1 (spelled.then s2 end)))))))
      | inr e ↦
          rw e (after (sound-type ts) (λ n a s1. after (sound-name a) (λ bytes b s2.
          done (by (spelled.parameter n bytes) (spelled.then s1 (spelled.then s2 end))))))
    ]

sound-parameters : Sound (λ ps. phrase (the_parameters ps)) parameters
unfolding parameters
sound-parameters ts =
    after (sound-expect mark.LeftParen ts) (λ _ a s1. implied (sound-until parameter_part mark.RightParen parameter sound-parameter a)
    (λ ps b u. by (spelled.parameters ps) (spelled.then s1 (spelled.then u.body (spelled.then u.closed end)))))

-- parameters in brackets, or none and no brackets
abbrev Given : List Parameter → List Spanned → List Spanned → Type 0
Given ps ts rest = Spells (phrase (the_parameters ps)) ts rest ⊎ ((ps ≡ []) × (ts ≡ rest))

sound-parameters-if-any : (ts : List Spanned) → Holds (λ ps rest. Given ps ts rest) (parameters_if_any ts)
unfolding parameters_if_any
sound-parameters-if-any ts =
    chosen (sees mark.LeftParen ts) (λ _. implied (sound-parameters ts) (λ ps a s. inl s)) (done (inr (refl, refl)))

-- ---- types

abbrev kind_part : DefinitionKind → Part
kind_part k = phrase (a_kind k)

-- what is read behind 'type'
abbrev SoundType : Parser DefinitionKind → Type 0
SoundType p = (first ts : List Spanned) → Spells (key word.Type) first ts → Holds (λ k rest. Spells (kind_part k) first rest) (p ts)

sound-record-type : SoundType record_type
unfolding record_type
sound-record-type first ts s0 =
    after (sound-expect-word word.Record ts) (λ _ a s1. after (sound-name a) (λ bytes b s2. after (sound-expect mark.LeftBrace b) (λ _ c s3.
    after (sound-until field_part mark.RightBrace field sound-field c) (λ fs d u.
    done (by (spelled.record_type bytes fs)
    (spelled.then s0 (spelled.then s1 (spelled.then s2 (spelled.then s3 (spelled.then u.body (spelled.then u.closed end)))))))))))

sound-enumerated-type : SoundType enumerated_type
unfolding enumerated_type
sound-enumerated-type first ts s0 =
    after (sound-expect-word word.Enumerated ts) (λ _ a s1. after (sound-name a) (λ bytes b s2. after (sound-expect mark.LeftBrace b) (λ _ c s3.
    after (sound-separated enumerator_part enumerator sound-enumerator c) (λ es d s4. after (sound-expect mark.RightBrace d) (λ _ e s5.
    done (by (spelled.enumerated_type bytes es)
    (spelled.then s0 (spelled.then s1 (spelled.then s2 (spelled.then s3 (spelled.then s4 (spelled.then s5 end))))))))))))

sound-port-type : SoundType port_type
unfolding port_type
sound-port-type first ts s0 =
    after (sound-expect-word word.Port ts) (λ _ a s1. after (sound-name a) (λ bytes b s2. after (sound-expect-word word.Message b) (λ _ c s3.
    after (sound-expect mark.LeftBrace c) (λ _ d s4.
    after (sound-items (λ m. phrase (the_messages m)) at_brace messages sound-messages d) (λ ms e s5. after (sound-expect mark.RightBrace e) (λ _ f s6.
    done (by (spelled.port_type bytes ms)
    (spelled.then s0 (spelled.then s1 (spelled.then s2 (spelled.then s3 (spelled.then s4 (spelled.then s5 (spelled.then s6 end))))))))))))))

sound-component-type : SoundType component_type
unfolding component_type
sound-component-type first ts s0 =
    after (sound-expect-word word.Component ts) (λ _ a s1. after (sound-name a) (λ bytes b s2. after (sound-expect mark.LeftBrace b) (λ _ c s3.
    after (sound-items member_part at_brace read_definitions.a_member sound-member c) (λ ms d s4. after (sound-expect mark.RightBrace d) (λ _ e s5.
    done (by (spelled.component_type bytes ms)
    (spelled.then s0 (spelled.then s1 (spelled.then s2 (spelled.then s3 (spelled.then s4 (spelled.then s5 end))))))))))))

type-step : (t : Option Token) → SoundType (type_kind_by t)
type-step (Some (token.Word word.Record)) first ts s = sound-record-type first ts s
type-step (Some (token.Word word.Enumerated)) first ts s = sound-enumerated-type first ts s
type-step (Some (token.Word word.Port)) first ts s = sound-port-type first ts s
type-step (Some (token.Word word.Component)) first ts s = sound-component-type first ts s
type-step _ first ts s = refused

sound-type-kind : Sound kind_part type_kind
unfolding type_kind
sound-type-kind ts = after (sound-expect-word word.Type ts) (λ _ a s. type-step (head_token a) ts a s)

-- ---- definitions

template-with : (n : TypeName) (bytes : List ℕ) (ps : List Parameter) (t : Template) {ts a b c d rest : List Spanned} → Spells (key word.Template) ts a
    → Spells (phrase (a_type n)) a b → Spells (id bytes) b c → Given ps c d → InTurn (set_to a_template t) d rest
    → Spells (kind_part (kind.Template (record { type_name = n; name = bytes; parameters = ps; template = t }))) ts rest
template-with n bytes ps t s1 s2 s3 (inl s4) body =
    by (spelled.def_template_with n bytes ps t) (spelled.then s1 (spelled.then s2 (spelled.then s3 (spelled.then s4 body))))
template-with n bytes ps t s1 s2 s3 (inr missing) body =
    let last = rw missing.1 at s3 in
    rw missing.0 (by (spelled.def_template n bytes t) (spelled.then s1 (spelled.then s2 (spelled.then last body))))

sound-def-template : Sound kind_part def_template
unfolding def_template
sound-def-template ts =
    after (sound-expect-word word.Template ts) (λ _ a s1. after (sound-type a) (λ n b s2. after (sound-name b) (λ bytes c s3.
    after (sound-parameters-if-any c) (λ ps d given. after (sound-expect mark.Assign d) (λ _ e s5. after (sound-template e) (λ t f s6.
    done (template-with n bytes ps t s1 s2 s3 given (spelled.then s5 (spelled.then s6 end)))))))))

sound-runs-on : Sound (λ c. turn (spelled.runs_on c)) runs_on
unfolding runs_on
sound-runs-on ts =
    after (sound-expect-word word.Runs ts) (λ _ a s1. after (sound-expect-word word.On a) (λ _ b s2.
    implied (sound-name b) (λ c d s3. spelled.all (spelled.then s1 (spelled.then s2 (spelled.then s3 end))))))

sound-runs-on-if-any : Sound (λ o. optional spelled.runs_on o) runs_on_if_any
unfolding runs_on_if_any
sound-runs-on-if-any ts =
    chosen (sees_word word.Runs ts) (λ _. after (sound-runs-on ts) (λ c a s. done s)) (done (spelled.all end))

sound-result-type : Sound (λ o. optional (λ n. key word.Return ▸ phrase (a_type n) ▸ nil) o) result_type
unfolding result_type
sound-result-type ts =
    word-eaten _ _ word.Return ts
    (λ s1. after (sound-type (behind ts)) (λ n a s2. done (spelled.all (spelled.then s1 (spelled.then s2 end)))))
    (done (spelled.all end))

sound-system-type : Sound (λ o. optional (λ c. key word.System ▸ id c ▸ nil) o) system_type
unfolding system_type
sound-system-type ts =
    word-eaten _ _ word.System ts
    (λ s1. after (sound-name (behind ts)) (λ c a s2. done (spelled.all (spelled.then s1 (spelled.then s2 end)))))
    (done (spelled.all end))

sound-def-function : Sound kind_part def_function
unfolding def_function
sound-def-function ts =
    after (sound-expect-word word.Function ts) (λ _ a s1. after (sound-name a) (λ bytes b s2. after (sound-parameters b) (λ ps c s3.
    after (sound-runs-on-if-any c) (λ component d s4. after (sound-result-type d) (λ result e s5. after (sound-block e) (λ ss f s6.
    done (by (spelled.def_function bytes ps component result ss)
    (spelled.then s1 (spelled.then s2 (spelled.then s3 (spelled.then s4 (spelled.then s5 (spelled.then s6 end)))))))))))))

sound-def-altstep : Sound kind_part def_altstep
unfolding def_altstep
sound-def-altstep ts =
    after (sound-expect-word word.Altstep ts) (λ _ a s1. after (sound-name a) (λ bytes b s2. after (sound-parameters b) (λ ps c s3.
    after (sound-runs-on-if-any c) (λ component d s4. after (sound-the-branches d) (λ bs e s5.
    done (by (spelled.def_altstep bytes ps component bs)
    (spelled.then s1 (spelled.then s2 (spelled.then s3 (spelled.then s4 (spelled.then s5 end)))))))))))

sound-def-testcase : Sound kind_part def_testcase
unfolding def_testcase
sound-def-testcase ts =
    after (sound-expect-word word.Testcase ts) (λ _ a s1. after (sound-name a) (λ bytes b s2. after (sound-expect mark.LeftParen b) (λ _ c s3.
    after (sound-expect mark.RightParen c) (λ _ d s4. after (sound-runs-on d) (λ component e s5. after (sound-system-type e) (λ system f s6.
    after (sound-block f) (λ ss g s7.
    done (by (spelled.def_testcase bytes component system ss)
    (spelled.then s1 (spelled.then s2 (spelled.then s3 (spelled.then s4 (spelled.then s5 (spelled.then s6 (spelled.then s7 end)))))))))))))))

kind-step : (ts : List Spanned) (t : Option Token) → Holds (λ k rest. Spells (kind_part k) ts rest) (kind_by t ts)
kind-step ts (Some (token.Word word.Type)) = sound-type-kind ts
kind-step ts (Some (token.Word word.Const)) = after (sound-constants ts) (λ cs a s. done (by (spelled.def_constants cs) (spelled.then s end)))
kind-step ts (Some (token.Word word.Template)) = sound-def-template ts
kind-step ts (Some (token.Word word.Function)) = sound-def-function ts
kind-step ts (Some (token.Word word.Altstep)) = sound-def-altstep ts
kind-step ts (Some (token.Word word.Testcase)) = sound-def-testcase ts
kind-step ts _ = refused

sound-kind : Sound kind_part read_definitions.a_kind
unfolding read_definitions.a_kind
sound-kind ts = kind-step ts (head_token ts)

sound-definition : Sound (λ d. phrase (a_definition d)) definition
unfolding definition
sound-definition ts =
    after (sound-here ts) (λ place a s1. after (sound-kind a) (λ k b s2. done (by (spelled.definition place k) (spelled.then s1 (spelled.then s2 end)))))

-- ---- groups

-- tokens up to the brackets that are expected, innermost first, with balanced brackets before each
data Closed : List Symbol → List Spanned → List Spanned → Type 0 where
  all_closed : {ts : List Spanned} → Closed [] ts ts
  next_closed : {c : Spanned} {s : Symbol} {others : List Symbol} {ts middle rest : List Spanned} → Balanced ts (c ∷ middle) → Is c (token.Symbol s)
      → Closed others middle rest → Closed (s ∷ others) ts rest

plain-closed : {k : Spanned} {s : Symbol} {others : List Symbol} {ts rest : List Spanned} → opens k.token ≡ false → closes k.token ≡ false
    → Closed (s ∷ others) ts rest → Closed (s ∷ others) (k ∷ ts) rest
plain-closed o c (next_closed inside is more) = next_closed (plain o c inside) is more

pair-closed : {k : Spanned} {opening closing s : Symbol} {others : List Symbol} {ts rest : List Spanned} → Is k (token.Symbol opening)
    → partner opening ≡ Some closing → Closed (closing ∷ s ∷ others) ts rest → Closed (s ∷ others) (k ∷ ts) rest
pair-closed o p (next_closed inside c (next_closed behind_it is more)) = next_closed (pair o p inside c behind_it) is more

no-partner : (s : Symbol) → partner s ≡ None → opens (token.Symbol s) ≡ false
no-partner mark.LeftBrace h = cc
no-partner mark.LeftParen h = cc
no-partner mark.LeftBracket h = cc
no-partner _ h = refl

-- what is proved of the tokens behind the next one
abbrev Closing : List Spanned → Type 0
Closing ts = (s : Symbol) (others : List Symbol) → Holds (λ _ rest. Closed (s ∷ others) ts rest) (balanced_from (s ∷ others) ts)

last-closed : (k : Spanned) (ts : List Spanned) (s : Symbol) (others : List Symbol) → Is k (token.Symbol s) → Closing ts
    → Holds (λ _ rest. Closed (s ∷ others) (k ∷ ts) rest) (go_on (λ cs. balanced_from cs ts) (Some others) ts)
last-closed k ts s [] is behind_it = done (next_closed nothing is all_closed)
last-closed k ts s (c ∷ cs) is behind_it = implied (behind_it c cs) (λ _ rest more. next_closed nothing is more)

closing-step : (k : Spanned) (ts : List Spanned) (s : Symbol) (others : List Symbol) (found : Symbol) → Is k (token.Symbol found) → Closing ts → (b : Bool)
    → same_symbol found s ≡ b
    → Holds (λ _ rest. Closed (s ∷ others) (k ∷ ts) rest) (go_on (λ cs. balanced_from cs ts) (if b then Some others else None) ts)
closing-step k ts s others found is behind_it true h = last-closed k ts s others (is ∙ ap token.Symbol (same-symbol-is found s h)) behind_it
closing-step k ts s others found is behind_it false h = refused

not-opening-step : (k : Spanned) (ts : List Spanned) (s : Symbol) (others : List Symbol) (found : Symbol) → Is k (token.Symbol found) → Closing ts
    → opens k.token ≡ false → (b : Bool) → closes k.token ≡ b
    → Holds (λ _ rest. Closed (s ∷ others) (k ∷ ts) rest)
    (go_on (λ cs. balanced_from cs ts) (if b then closes_one (s ∷ others) found else Some (s ∷ others)) ts)
not-opening-step k ts s others found is behind_it o true c = closing-step k ts s others found is behind_it (same_symbol found s) refl
not-opening-step k ts s others found is behind_it o false c = implied (behind_it s others) (λ _ rest more. plain-closed o c more)

bracket-step : (k : Spanned) (ts : List Spanned) (s : Symbol) (others : List Symbol) (found : Symbol) → Is k (token.Symbol found) → Closing ts
    → (p : Option Symbol) → partner found ≡ p
    → Holds (λ _ rest. Closed (s ∷ others) (k ∷ ts) rest) (go_on (λ cs. balanced_from cs ts) (over_bracket (s ∷ others) p found) ts)
bracket-step k ts s others found is behind_it (Some closing) h =
    implied (behind_it closing (s ∷ others)) (λ _ rest more. pair-closed is h more)
bracket-step k ts s others found is behind_it None h =
    not-opening-step k ts s others found is behind_it (ap opens is ∙ no-partner found h) (closes (token.Symbol found)) (ap closes is)

token-step : (k : Spanned) (ts : List Spanned) (s : Symbol) (others : List Symbol) (t : Token) → Is k t → Closing ts
    → Holds (λ _ rest. Closed (s ∷ others) (k ∷ ts) rest) (go_on (λ cs. balanced_from cs ts) (over_token (s ∷ others) t) ts)
token-step k ts s others (token.Symbol found) is behind_it = bracket-step k ts s others found is behind_it (partner found) refl
token-step k ts s others _ is behind_it = implied (behind_it s others) (λ _ rest more. plain-closed (ap opens is) (ap closes is) more)

sound-balanced-from : (ts : List Spanned) → Closing ts
unfolding balanced_from
sound-balanced-from [] s others = refused
sound-balanced-from (k ∷ ts) s others = token-step k ts s others k.token refl (sound-balanced-from ts)

grouped : {ts middle rest : List Spanned} → Spells (spelled.sym mark.LeftBrace) ts middle → Closed (mark.RightBrace ∷ []) middle rest → Spells spelled.group ts rest
grouped (this o) (next_closed inside c all_closed) = spelled.balanced (groups.braces o inside c)

sound-group : Sound (λ _. spelled.group) group
unfolding group
sound-group ts =
    after (sound-expect mark.LeftBrace ts) (λ _ a s. implied (sound-balanced-from a mark.RightBrace []) (λ _ rest more. grouped s more))

-- ---- what leaves no trace in the tree

sound-with : Sound (λ _. phrase a_with) with_
unfolding with_
sound-with ts =
    word-eaten _ _ word.With ts
    (λ s1. implied (sound-group (behind ts)) (λ _ a s2. by spelled.with_group (spelled.then s1 (spelled.then s2 end))))
    (done (by spelled.no_with end))

a-text : (t : Token) (x : Unit {0}) → text_of (Some t) ≡ Some x → t ≡ token.Text
a-text token.Text x h = refl
a-text _ x h = cc

sound-text : Sound (λ _. one token.Text) text
unfolding text
sound-text ts = sound-token (λ _. token.Text) text_of refl a-text ts

sound-language : Sound (λ _. phrase the_language) language
unfolding language
sound-language ts =
    word-eaten _ _ word.Language ts
    (λ s1. after (sound-separated (λ _. one token.Text) text sound-text (behind ts)) (λ texts a s2.
    done (by (spelled.languages texts) (spelled.then s1 (spelled.then s2 end)))))
    (done (by spelled.no_language end))

sound-control : Sound (λ _. phrase a_control) control
unfolding control
sound-control ts =
    word-eaten _ _ word.Control ts
    (λ s1. after (sound-group (behind ts)) (λ _ a s2. after (sound-with a) (λ _ b s3.
    done (by spelled.control_group (spelled.then s1 (spelled.then s2 (spelled.then s3 (spelled.then (sound-semicolons b) end))))))))
    (done (by spelled.no_control end))

-- ---- modules

abbrev definition_part : Definition → Part
definition_part d = turn (phrase (a_definition d) ▸ phrase a_with ▸ nil)

sound-definition-with : Sound definition_part definition_with
unfolding definition_with
sound-definition-with ts =
    after (sound-definition ts) (λ d a s1. after (sound-with a) (λ _ b s2. done (spelled.all (spelled.then s1 (spelled.then s2 end)))))

-- nothing is left, before and behind
the-end : (ts : List Spanned) → Holds (λ _ rest. (ts ≡ rest) × (rest ≡ [])) (at_end ts)
unfolding at_end
the-end [] = done (refl, refl)
the-end (k ∷ ts) = refused

module-at-end : (ts : List Spanned) → Holds (λ tree rest. Spells (phrase (a_module tree)) ts rest × (rest ≡ [])) (whole ts)
unfolding whole
module-at-end ts =
    after (sound-expect-word word.Module ts) (λ _ a s1. after (sound-name a) (λ bytes b s2. after (sound-language b) (λ _ c s3.
    after (sound-expect mark.LeftBrace c) (λ _ d s4.
    after (sound-items definition_part at_last definition_with sound-definition-with (after_semicolons d)) (λ ds e s6.
    after (sound-control e) (λ _ f s7. after (sound-expect mark.RightBrace f) (λ _ g s8. after (sound-with g) (λ _ i s9.
    after (the-end (after_semicolons i)) (λ _ rest ended.
    done (
      rw ended.0 at (by (spelled.whole bytes ds)
          (spelled.then s1 (spelled.then s2 (spelled.then s3 (spelled.then s4 (spelled.then (sound-semicolons d) (spelled.then s6 (spelled.then s7
          (spelled.then s8 (spelled.then s9 (spelled.then (sound-semicolons i) end))))))))))),
      ended.1,
    ))))))))))

-- what the parser reads as a module is one
pub reads_module : (ts : List Spanned) (tree : Module) (rest : List Spanned) → whole ts ≡ Some (tree, rest) → IsModule ts tree
reads_module ts tree rest h =
    let read = (module-at-end ts).held (tree, rest) h in
    rw read.1 at read.0
