-- What is sent: a message has a type by itself, since no port lets components, defaults or `null` pass.
use Rattle.std.proofs.Common.{◌≡◌, ℕ, Bool, true, false, ◌&&◌, ◌||◌, List, [], ◌∷◌, ◌++◌, map, Option, Some, None, IfSome, is_some, refl, sym, ap, subst, ◌∙◌, if◌then◌else◌}
use Rattle.std.specs.List.{All, flat_map, list_all, list_any}
use Rattle.std.proofs.lemmas.List.Elements.{All-append, All-cons, All-head, All-nil, All-tail}
use Rattle.ttcn_syntax.specs.declared.tree.definition.Definition.{Definition}
use Rattle.ttcn_syntax.specs.declared.tree.definition.DefinitionKind.{DefinitionKind}
use Rattle.ttcn_syntax.specs.declared.tree.definition.DefinitionKind.TheVariants as kind
use Rattle.ttcn_syntax.specs.declared.tree.definition.PortMessages.{PortMessages}
use Rattle.ttcn_syntax.specs.declared.tree.expression.ComponentRef.{ComponentRef}
use Rattle.ttcn_syntax.specs.declared.tree.statement.Send.{Send}
use Rattle.ttcn_syntax.specs.declared.tree.template.Template.{Template}
use Rattle.ttcn_syntax.specs.declared.tree.value.TypeName.{TypeName}
use Rattle.ttcn_syntax.specs.declared.tree.value.TypeName.TheVariants as type_name
use Rattle.check_rules.specs.Expressions.{Judgement}
use Rattle.check_rules.specs.Templates.{template, typing_of_template}
use Rattle.check_scope.specs.Names.{Names, Scope, kind_at, module_names, resolved, type_meant}
use Rattle.check_scope.specs.PortTypes.{agrees, only_type, passes, types_of_port, types_passing}
use Rattle.check_scope.specs.Typings.{is_component, is_default, same_type, target_of, type_known, typed}
use Rattle.check_scope.specs.declared.names.Meaning.{Meaning}
use Rattle.check_scope.specs.declared.names.Meaning.TheVariants as meaning
use Rattle.check_scope.specs.declared.rule.Rule.TheVariants as rule
use Rattle.check_scope.specs.declared.types.DataType.{DataType}
use Rattle.check_scope.specs.declared.types.DataType.TheVariants as type
use Rattle.check_scope.specs.declared.types.Typing.{Typing}
use Rattle.check_scope.specs.declared.types.Typing.TheVariants as typing
use Rattle.check_rules.specs.Definitions.{as_part, check_messages, check_part}
use Rattle.check_rules.specs.Messages.{by_template, by_type_name, check_message, check_send, check_sent, check_to, check_type_name, of_only, passage_at, port_meant, type_by_itself, type_by_port, type_of_message}
use Rattle.laws_checker.proofs.Nothing.{kept, nothing-first, nothing-rest}
use Rattle.laws_checker.proofs.Whole.{definition_is_fine}
use Rattle.laws_checker.specs.Laws.{IsKnown}
use Rattle.laws_evaluation.proofs.Sending.{message_sent}
use Rattle.laws_evaluation.proofs.TypedLiterals.{same-type}
use Rattle.laws_evaluation.proofs.TypedValues.{goes-out, level_goes}
use Rattle.laws_evaluation.specs.Uses.{GivesOnly, IsSpecific}
use Rattle.laws_statements.proofs.MessageTypes.{passing_typed}
use Rattle.laws_statements.proofs.Within.{message_stays, message_type_stays, wanted_stays}
use Rattle.laws_statements.specs.Messages.{HasType}
use Rattle.semantics.specs.Events.{type_in}
use Rattle.semantics.specs.Sites.{Site, scope_at}
use Rattle.semantics.specs.Statements.{Requests, Sends, Stand, act_send, acting, component_meant_at, done, sent_at, sent_to, sent_value}
use Rattle.check_rules.specs.Rules.{AreWellTyped}
use Rattle.value_types.specs.Matching.{specific_value}
use Rattle.value_types.specs.Outcomes.{outcome_and_then}
use Rattle.value_types.specs.Templates.{template_wanted}
use Rattle.value_types.specs.declared.value.ComponentId.{ComponentId}
use Rattle.value_types.specs.declared.value.Value.{Value, out-Value}
use Rattle.value_types.specs.declared.value.Value.TheOpen.{Value-F}
use Rattle.laws_types.proofs.Forms.{wanted-component}
use Rattle.laws_types.proofs.Stands.{Asks, NestHere, StandsAt, acting-fits, differ, fine-site, fit, goes-on, has, kind-of, known, only-mapped, reading, whole, wide, within}
use Rattle.laws_types.proofs.Visible.{site-definitions}
use Rattle.laws_types.specs.internal.Asked.{IsMeant}
use Rattle.laws_types.specs.Typed.{FitsMessage}

-- ---- the types of messages

-- no component type, and not `default`
abbrev pub IsPlain : DataType → Type 0
IsPlain t = (is_component t || is_default t) ≡ false

abbrev pub IsPlainType : Option DataType → Type 0
IsPlainType None = ⊥
IsPlainType (Some t) = IsPlain t

part-plain : (m : Option Meaning) → as_part m ≡ [] → IsPlainType (type_meant m)
part-plain (Some (meaning.Record at)) nothing = refl
part-plain (Some (meaning.Enumerated at)) nothing = refl
part-plain (Some (meaning.Component at)) nothing = absurd (let e = nothing in cc)
part-plain (Some (meaning.PortType at)) nothing = absurd (let e = nothing in cc)
part-plain _ nothing = absurd (let e = nothing in cc)

pub type-plain : (names : Names) (t : TypeName) → check_part names t ≡ [] → IsPlainType (resolved names t)
type-plain names type_name.Integer nothing = refl
type-plain names type_name.Boolean nothing = refl
type-plain names type_name.Default nothing = absurd (let e = nothing in cc)
type-plain names (type_name.Named name) nothing = part-plain (names name) nothing

types-plain : (names : Names) (types : List TypeName) → flat_map (check_part names) types ≡ [] → All IsPlainType (map (resolved names) types)
types-plain names [] nothing = All-nil IsPlainType
types-plain names (t ∷ types) nothing =
    All-cons IsPlainType (resolved names t) (map (resolved names) types) (type-plain names t (nothing-first (check_part names t) (flat_map (check_part names) types) nothing))
    (types-plain names types (nothing-rest (check_part names t) (flat_map (check_part names) types) nothing))

passing-if : (b : Bool) (names : Names) (types : List TypeName) → flat_map (check_part names) types ≡ [] → All IsPlainType (if b then map (resolved names) types else [])
passing-if true names types nothing = types-plain names types nothing
passing-if false names types nothing = All-nil IsPlainType

passing-plain : (names : Names) (incoming : Bool) (messages : List PortMessages) → flat_map (check_messages names) messages ≡ [] → All IsPlainType (flat_map (types_passing names incoming) messages)
passing-plain names incoming [] nothing = All-nil IsPlainType
passing-plain names incoming (m ∷ messages) nothing =
    All-append IsPlainType (types_passing names incoming m) (flat_map (types_passing names incoming) messages)
    (passing-if (passes incoming m.direction) names m.types (nothing-first (check_messages names m) (flat_map (check_messages names) messages) nothing))
    (passing-plain names incoming messages (nothing-rest (check_messages names m) (flat_map (check_messages names) messages) nothing))

pub port-plain : (definitions : List Definition) → AreWellTyped definitions → (at : ℕ) (incoming : Bool) (k : Option DefinitionKind) → kind_at definitions at ≡ k → All IsPlainType (types_of_port (module_names definitions) incoming k)
port-plain definitions well at incoming (Some (kind.Port p)) is = passing-plain (module_names definitions) incoming p.messages (definition_is_fine definitions well at (kind.Port p) is)
port-plain definitions well at incoming (Some (kind.Record r)) is = All-nil IsPlainType
port-plain definitions well at incoming (Some (kind.Enumerated e)) is = All-nil IsPlainType
port-plain definitions well at incoming (Some (kind.Component c)) is = All-nil IsPlainType
port-plain definitions well at incoming (Some (kind.Constants cs)) is = All-nil IsPlainType
port-plain definitions well at incoming (Some (kind.Template t)) is = All-nil IsPlainType
port-plain definitions well at incoming (Some (kind.Function f)) is = All-nil IsPlainType
port-plain definitions well at incoming (Some (kind.Altstep a)) is = All-nil IsPlainType
port-plain definitions well at incoming (Some (kind.Testcase t)) is = All-nil IsPlainType
port-plain definitions well at incoming None is = All-nil IsPlainType

agrees-plain : (of : DataType) (t : Option DataType) → IsPlainType t → agrees of t ≡ true → IsPlain of
agrees-plain of None plain is = absurd plain
agrees-plain of (Some t) plain is = subst IsPlain (sym (same-type of t is)) plain

any-plain : (of : DataType) (types : List (Option DataType)) → All IsPlainType types → list_any (agrees of) types ≡ true → IsPlain of
any-plain of [] all is = absurd (let e = is in cc)
any-plain of (t ∷ types) all is = by (agrees of t) (agrees-plain of t (All-head IsPlainType t types all)) (any-plain of types (All-tail IsPlainType t types all)) is
  where
    by : (b : Bool) → (b ≡ true → IsPlain of) → (list_any (agrees of) types ≡ true → IsPlain of) → (b || list_any (agrees of) types) ≡ true → IsPlain of
    by true first more is = first refl
    by false first more is = more is

same-known : (t u : DataType) → typing.Known t ≡ typing.Known u → t ≡ u
same-known t u e = cc

itself-plain : (types : List (Option DataType)) → All IsPlainType types → (t : Typing) (of : DataType) → (type_by_itself (Some types) t).broken ≡ [] → (type_by_itself (Some types) t).typing ≡ typing.Known of → IsPlain of
itself-plain types all (typing.Known u) of nothing is =
    subst IsPlain (same-known u of is) (any-plain u types all (kept (list_any (agrees u) types) rule.PortType nothing))
itself-plain types all typing.Null of nothing is = absurd (let e = is in cc)
itself-plain types all typing.AnyComponent of nothing is = absurd (let e = is in cc)
itself-plain types all typing.NoValue of nothing is = absurd (let e = is in cc)
itself-plain types all typing.Unknown of nothing is = absurd (let e = is in cc)

only-if : (b : Bool) (t of : DataType) → IsPlain t → (of_only (if b then Some t else None)).typing ≡ typing.Known of → IsPlain of
only-if true t of plain is = subst IsPlain (same-known t of is) plain
only-if false t of plain is = absurd (let e = is in cc)

only-plain : (types : List (Option DataType)) → All IsPlainType types → (of : DataType) → (of_only (only_type types)).typing ≡ typing.Known of → IsPlain of
only-plain [] all of is = absurd (let e = is in cc)
only-plain (None ∷ types) all of is = absurd (let e = is in cc)
only-plain (Some t ∷ types) all of is = only-if (list_all (agrees t) types) t of (All-head IsPlainType (Some t) types all) is

template-plain : (types : List (Option DataType)) → All IsPlainType types → (t : Option Typing) (of : DataType) → (by_template (Some types) (type_by_port (Some types)) t).broken ≡ []
    → (by_template (Some types) (type_by_port (Some types)) t).typing ≡ typing.Known of → IsPlain of
template-plain types all None of nothing is = only-plain types all of is
template-plain types all (Some t) of nothing is = itself-plain types all t of nothing is

message-plain : (scope : Scope) (types : List (Option DataType)) → All IsPlainType types → (t : Template) (name : Option TypeName) (of : DataType) → (by_type_name scope (Some types) (type_by_port (Some types)) t name).broken ≡ []
    → (by_type_name scope (Some types) (type_by_port (Some types)) t name).typing ≡ typing.Known of → IsPlain of
message-plain scope types all t None of nothing is = template-plain types all (typing_of_template scope t) of nothing is
message-plain scope types all t (Some name) of nothing is = itself-plain types all (typed (resolved scope.names name)) of nothing is

first-true : (a b : Bool) → (a && b) ≡ true → a ≡ true
first-true true b is = refl
first-true false b is = is

level-type : (definitions : List Definition) (of : DataType) → IsPlain of → (x : Value-F Value) → level_goes definitions x (target_of (Some of)) ≡ true → type_in x ≡ Some of
level-type definitions of plain (Value-F.Integer n) goes = ap Some (sym (same-type of type.Integer goes))
level-type definitions of plain (Value-F.Boolean n) goes = ap Some (sym (same-type of type.Boolean goes))
level-type definitions of plain (Value-F.Enumerated at n) goes = ap Some (sym (same-type of (type.Enumerated at) (first-true (same_type of (type.Enumerated at)) _ goes)))
level-type definitions of plain (Value-F.Record at fields) goes = ap Some (sym (same-type of (type.Record at) (first-true (same_type of (type.Record at)) _ goes)))
level-type definitions of plain (Value-F.Component c) goes = ap Some (sym (same-type of (type.Component c.component_type) goes))
level-type definitions of plain (Value-F.Default n) goes = ap Some (sym (same-type of type.Default goes))
level-type definitions of plain Value-F.Null goes = absurd (let no : false ≡ true = sym plain ∙ goes in cc)
level-type definitions of plain Value-F.Omit goes = absurd (let e = goes in cc)

-- a specific value of such a type is a message
message-fits : (definitions : List Definition) (of : DataType) → IsPlain of → (v : Value) → IsSpecific definitions (target_of (Some of)) v → (sender : Option ComponentId) → FitsMessage definitions (record { value = v; sender = sender })
message-fits definitions of plain v is sender = record {
  data_type = of;
  is_typed = level-type definitions of plain (out-Value v) (sym (goes-out definitions v (target_of (Some of))) ∙ is.goes);
  goes = is.goes;
  is_whole = is.is_whole;
}

-- ---- sends

module _ (stand : Stand) (well : AreWellTyped stand.test.definitions) (site : Site) (is : StandsAt stand site) (nest : NestHere stand well site is site.declared stand.rest) where
  abbrev ds : List Definition
  ds = stand.test.definitions

  abbrev here : Scope
  here = scope_at ds site

  abbrev scope : Scope
  scope = wide stand well site is

  abbrev ct : ℕ
  ct = kind-of stand well site is

  to-met : (to : Option ComponentRef) → check_to here to ≡ [] → GivesOnly (sent_to stand site to) (λ path. Unit {0})
  to-met None nothing = tt
  to-met (Some c) nothing =
      only-mapped (λ id. Unit {0}) (λ path. Unit {0}) (λ (c : ComponentId). Some c.path) (component_meant_at stand site c)
      (wanted-component stand well site is nest c (subst (λ (j : Judgement). j.broken ≡ []) (sym (wanted_stays c here scope (within stand well site is) nothing)) nothing)) (λ id any. tt)

  sent-at : (port : ℕ) (send : Send) → check_message here (passage_at here.definitions false (Some port)).0 (passage_at here.definitions false (Some port)).1 send.message ≡ [] → check_to here send.to ≡ []
      → Asks stand well site is (acting (λ v. acting (λ to. Requests (Sends send.port to v) (done stand)) (sent_to stand site send.to)) (sent_value stand site send (sent_at here (Some (Some port)) send)))
  sent-at port send nothing to-fine =
      let passing = (passage_at here.definitions false (Some port)).0 in
      let otherwise = (passage_at here.definitions false (Some port)).1 in
      let known-type : HasType here (passage_at here.definitions false (Some port)) send.message = passing_typed here (fine-site stand well site is).whole false port send.message nothing in
      let of : DataType = known-type.data_type in
      let judged = type_of_message here passing otherwise send.message in
      let broken : judged.broken ≡ [] = nothing-rest (check_type_name here send.message.type_name) judged.broken
      (nothing-first (check_type_name here send.message.type_name ++ judged.broken) (template send.message.template here (target_of (type_known judged.typing))) nothing) in
      let well-here : AreWellTyped here.definitions = subst AreWellTyped (sym (site-definitions ds site)) well in
      let plain : IsPlain of = message-plain here (types_of_port (module_names here.definitions) false (kind_at here.definitions port)) (port-plain here.definitions well-here port false (kind_at here.definitions port) refl)
      send.message.template send.message.type_name of broken known-type.is in
      let wider = message_stays passing otherwise send.message here scope (within stand well site is) nothing in
      let same-typing : (type_of_message scope passing otherwise send.message).typing ≡ typing.Known of =
      ap (λ (j : Judgement). j.typing) (message_type_stays here scope (within stand well site is) passing otherwise send.message nothing) ∙ known-type.is in
      subst (λ t. Asks stand well site is (acting (λ v. acting (λ to. Requests (Sends send.port to v) (done stand)) (sent_to stand site send.to)) (sent_value stand site send (type_known t)))) (sym known-type.is)
      (acting-fits stand.test ct stand.snapshot.itself.path (IsMeant stand.test stand.snapshot stand.own stand.frame) (IsSpecific ds (target_of (Some of))) (λ v. acting (λ to. Requests (Sends send.port to v) (done stand)) (sent_to stand site send.to))
      (outcome_and_then specific_value (template_wanted send.message.template (reading stand well site is) (Some of)))
      (message_sent scope (reading stand well site is) (whole stand well site is) (differ stand well site is) (known stand well site is) (fit stand well site is) (has stand well site is) passing otherwise send.message wider of same-typing)
      (λ v specific. acting-fits stand.test ct stand.snapshot.itself.path (IsMeant stand.test stand.snapshot stand.own stand.frame) (λ to. Unit {0}) (λ to. Requests (Sends send.port to v) (done stand)) (sent_to stand site send.to) (to-met send.to to-fine)
      (λ to any. (message-fits ds of plain v specific, goes-on stand well site is stand.rest nest))))

  sent-port : (port : Option ℕ) (send : Send) → is_some port ≡ true → check_sent here (Some port) send.message ++ check_to here send.to ≡ []
      → Asks stand well site is (acting (λ v. acting (λ to. Requests (Sends send.port to v) (done stand)) (sent_to stand site send.to)) (sent_value stand site send (sent_at here (Some port) send)))
  sent-port (Some port) send there nothing =
      sent-at port send (nothing-first (check_sent here (Some (Some port)) send.message) (check_to here send.to) nothing) (nothing-rest (check_sent here (Some (Some port)) send.message) (check_to here send.to) nothing)
  sent-port None send there nothing = absurd (let e = there in cc)

  sent-meaning : (m : Option Meaning) (send : Send) → IfSome m (IsKnown here.definitions) → check_sent here (port_meant m) send.message ++ check_to here send.to ≡ []
      → Asks stand well site is (acting (λ v. acting (λ to. Requests (Sends send.port to v) (done stand)) (sent_to stand site send.to)) (sent_value stand site send (sent_at here (port_meant m) send)))
  sent-meaning (Some (meaning.Port of)) send known-port nothing = sent-port of send known-port nothing
  sent-meaning _ send known-port nothing = absurd (let e = nothing in cc)

  pub send-asks : (send : Send) → check_send here send ≡ [] → Asks stand well site is (act_send stand site send)
  send-asks send nothing = sent-meaning (here.names send.port) send ((fine-site stand well site is).whole.names send.port) nothing
