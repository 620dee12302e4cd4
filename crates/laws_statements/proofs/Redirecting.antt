-- Redirects that break no rule.
use Rattle.std.proofs.Common.{◌≡◌, ℕ, true, false, List, [], ◌++◌, Option, Some, None, is_some, IfSome, refl, sym, subst}
use Rattle.ttcn_syntax.specs.declared.tree.expression.Reference.{Reference}
use Rattle.ttcn_syntax.specs.declared.tree.statement.PortSelector.{PortSelector}
use Rattle.ttcn_syntax.specs.declared.tree.statement.PortSelector.TheVariants as selector
use Rattle.ttcn_syntax.specs.declared.tree.statement.Receive.{Receive}
use Rattle.ttcn_syntax.specs.declared.tree.template.MessageTemplate.{MessageTemplate}
use Rattle.check_rules.specs.Targets.{check_target}
use Rattle.check_scope.specs.Names.{Scope}
use Rattle.check_scope.specs.Typings.{is_component, type_known, unless}
use Rattle.check_scope.specs.declared.names.Meaning.{Meaning}
use Rattle.check_scope.specs.declared.names.Meaning.TheVariants as meaning
use Rattle.check_scope.specs.declared.rule.Rule.{Rule}
use Rattle.check_scope.specs.declared.rule.Rule.TheVariants as rule
use Rattle.check_scope.specs.declared.types.DataType.{DataType}
use Rattle.check_scope.specs.declared.types.DataType.TheVariants as type
use Rattle.check_scope.specs.declared.types.Typing.{Typing}
use Rattle.check_scope.specs.declared.types.Typing.TheVariants as typing
use Rattle.check_rules.specs.Messages.{check_message, check_receive, check_received, check_selector, check_sender_redirect, check_to, check_value_redirect, incoming, incoming_at, port_meant, received_type, stores, stores_sender, type_of_message}
use Rattle.laws_checker.proofs.Nothing.{kept, nothing-first, nothing-rest}
use Rattle.laws_checker.specs.Laws.{IsKnown, IsWhole}
use Rattle.laws_statements.proofs.Assigning.{reference-typed, reference-variable}
use Rattle.laws_statements.proofs.MessageTypes.{anywhere_typed, passing_typed}
use Rattle.laws_statements.proofs.Typing.{same-types}
use Rattle.laws_statements.specs.Messages.{HasType}
use Rattle.laws_statements.specs.Redirects.{HasRedirects, StoresMessage, StoresSender}

module _ (scope : Scope) (whole : IsWhole scope) where
  -- ---- the type of what is received

  named-typed : (m : Option Meaning) → IfSome m (IsKnown scope.definitions) → is_some (port_meant m) ≡ true → (message : MessageTemplate)
      → check_message scope (incoming_at scope.definitions (port_meant m)).0 (incoming_at scope.definitions (port_meant m)).1 message ≡ []
      → HasType scope (incoming_at scope.definitions (port_meant m)) message
  named-typed (Some (meaning.Port (Some at))) known is message nothing = passing_typed scope whole true at message nothing
  named-typed (Some (meaning.Port None)) known is message nothing = absurd (let e = known in cc)
  named-typed _ known is message nothing = absurd (let e = is in cc)

  received-typed : (port : PortSelector) (message : MessageTemplate) → check_selector scope port ≡ []
      → check_message scope (incoming scope port).0 (incoming scope port).1 message ≡ [] → HasType scope (incoming scope port) message
  received-typed selector.Any message port_fine nothing = anywhere_typed scope whole message nothing
  received-typed (selector.Named name) message port_fine nothing =
      named-typed (scope.names name) (whole.names name) (kept (is_some (port_meant (scope.names name))) rule.UnknownName port_fine) message nothing

  -- ---- targets

  stored : (of : DataType) (t : DataType) (found : Typing) → found ≡ typing.Known t → stores (Some of) found ≡ true → found ≡ typing.Known of
  stored of t found is stores_it =
      let same : of ≡ t = same-types of t (subst (λ f. stores (Some of) f ≡ true) is stores_it) in
      subst (λ u. found ≡ typing.Known u) (sym same) is

  value-stored : (receive : Receive) (reference : Reference) (given : Option MessageTemplate) → receive.message ≡ given → check_selector scope receive.port ≡ []
      → check_received scope (incoming scope receive.port) given ≡ []
      → check_value_redirect scope (is_some given) (received_type scope (incoming scope receive.port) given) (Some reference) ≡ [] → StoresMessage scope receive reference
  value-stored receive reference None is port_fine message_fine nothing =
      let target = check_target scope reference in
      let last : List Rule = unless (stores None target.typing) rule.Redirect in
      absurd (let e = nothing-rest target.broken (unless false rule.Redirect) (nothing-first (target.broken ++ unless false rule.Redirect) last nothing) in cc)
  value-stored receive reference (Some message) is port_fine message_fine nothing =
      let target = check_target scope reference in
      let has = received-typed receive.port message port_fine message_fine in
      let found : Typing = (type_of_message scope (incoming scope receive.port).0 (incoming scope receive.port).1 message).typing in
      let may : List Rule = unless (stores (type_known found) target.typing) rule.Redirect in
      let fine : target.broken ≡ [] = nothing-first target.broken [] (nothing-first (target.broken ++ []) may nothing) in
      let typed = reference-typed scope whole reference fine in
      let goes : stores (type_known found) target.typing ≡ true = kept (stores (type_known found) target.typing) rule.Redirect (nothing-rest (target.broken ++ []) may nothing) in
      record {
        message = message;
        stands = is;
        data_type = has.data_type;
        is = has.is;
        variable = reference-variable scope whole reference has.data_type
            (stored has.data_type typed.0 target.typing typed.1 (subst (λ f. stores (type_known f) target.typing ≡ true) has.is goes)) fine;
      }

  of-component : (t : DataType) → is_component t ≡ true → (at : ℕ) × (t ≡ type.Component at)
  of-component (type.Component at) is = (at, refl)
  of-component _ is = absurd (let e = is in cc)

  sender-stored : (reference : Reference) → check_sender_redirect scope (Some reference) ≡ [] → StoresSender scope reference
  sender-stored reference nothing =
      let target = check_target scope reference in
      let may : List Rule = unless (stores_sender target.typing) rule.Redirect in
      let fine : target.broken ≡ [] = nothing-first target.broken may nothing in
      let typed = reference-typed scope whole reference fine in
      let goes : stores_sender target.typing ≡ true = kept (stores_sender target.typing) rule.Redirect (nothing-rest target.broken may nothing) in
      let component = of-component typed.0 (subst (λ f. stores_sender f ≡ true) typed.1 goes) in
      record {
        at = component.0;
        variable = reference-variable scope whole reference (type.Component component.0) (subst (λ t. target.typing ≡ typing.Known t) component.1 typed.1) fine;
      }

  -- ---- redirects

  value-if : (receive : Receive) (reference : Option Reference) → check_selector scope receive.port ≡ [] → check_received scope (incoming scope receive.port) receive.message ≡ []
      → check_value_redirect scope (is_some receive.message) (received_type scope (incoming scope receive.port) receive.message) reference ≡ [] → IfSome reference (StoresMessage scope receive)
  value-if receive None port_fine message_fine nothing = tt
  value-if receive (Some reference) port_fine message_fine nothing = value-stored receive reference receive.message refl port_fine message_fine nothing

  sender-if : (reference : Option Reference) → check_sender_redirect scope reference ≡ [] → IfSome reference (StoresSender scope)
  sender-if None nothing = tt
  sender-if (Some reference) nothing = sender-stored reference nothing

  pub redirects_fit : (receive : Receive) → check_receive scope receive ≡ [] → HasRedirects scope receive
  redirects_fit receive nothing =
      let port : List Rule = check_selector scope receive.port in
      let message : List Rule = check_received scope (incoming scope receive.port) receive.message in
      let from : List Rule = check_to scope receive.from in
      let stored : List Rule = check_value_redirect scope (is_some receive.message) (received_type scope (incoming scope receive.port) receive.message) receive.value in
      let sent : List Rule = check_sender_redirect scope receive.sender in
      let front : ((port ++ message) ++ from) ++ stored ≡ [] = nothing-first (((port ++ message) ++ from) ++ stored) sent nothing in
      let received : port ++ message ≡ [] = nothing-first (port ++ message) from (nothing-first ((port ++ message) ++ from) stored front) in
      record {
        value = value-if receive receive.value (nothing-first port message received) (nothing-rest port message received) (nothing-rest ((port ++ message) ++ from) stored front);
        sender = sender-if receive.sender (nothing-rest (((port ++ message) ++ from) ++ stored) sent nothing);
      }
