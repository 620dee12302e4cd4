-- What is spelled is what the parser reads, so tokens spell one module at most.
use Rattle.std.proofs.Common.{◌≡◌, List, [], refl, sym, ◌∙◌}
use Rattle.std.specs.Prelude.{Some}
use Rattle.ttcn_syntax.specs.declared.token.Spanned.{Spanned}
use Rattle.ttcn_syntax.specs.declared.tree.definition.Module.{Module}
use Rattle.parse_grammar.specs.Grammar.{InTurn, IsModule, Part, Parts, Phrase, Production, Spells, a_block, a_body, a_bound, a_branch, a_call, a_component, a_conditional, a_constant, a_control, a_definition, a_field, a_field_template, a_field_value, a_for_start, a_kind, a_log_item, a_member, a_member_variable, a_message, a_module, a_number, a_parameter, a_pattern, a_port, a_port_ref, a_primary, a_reference, a_rhs, a_statement, a_template, a_timer, a_type, a_value, a_variable, a_with, an_action, an_alternative, an_assignment, an_enumerator, an_event, an_operand, the_constants, the_language, the_links, the_messages, the_parameters, the_timers, the_variables}
use Rattle.parse_grammar.specs.Grammar as spelled
use Rattle.parse_reader.specs.Modules.{whole}
use Rattle.parse_grammar.proofs.Tokens.{read-is}
use Rattle.parse_grammar.proofs.Claims.{Claim, Known, KnownInTurn, all, and_more, at_its_end, balanced, by, end, here, last_one, next_item, next_semicolon, no_item, no_semicolon, then, this}
use Rattle.parse_grammar.proofs.CompleteExpressions.{component-reads, links-reads, operand-reads, primary-reads, reference-reads, type-reads}
use Rattle.parse_grammar.proofs.CompleteTemplates.{body-reads, bound-reads, call-reads, field-template-reads, field-value-reads, message-reads, pattern-reads, rhs-reads, template-reads, value-reads}
use Rattle.parse_grammar.proofs.CompleteStatements.{action-reads, alternative-reads, assignment-reads, block-reads, branch-reads, conditional-reads, constant-reads, constants-reads, event-reads, for-start-reads, log-item-reads, port-ref-reads, statement-reads, timer-reads, timers-reads, variable-reads, variables-reads}
use Rattle.parse_grammar.proofs.CompleteDefinitions.{control-reads, definition-reads, enumerator-reads, field-reads, kind-reads, language-reads, member-reads, member-variable-reads, messages-reads, module-reads, number-reads, parameter-reads, parameters-reads, with-reads}

-- what a production makes of its parts is read
phrase-reads : (p : Phrase) {ps : Parts} {ts rest : List Spanned} → Production p ps → KnownInTurn ps ts rest → Claim p ts rest
phrase-reads (a_reference r) made parts = reference-reads made parts
phrase-reads (a_component c) made parts = component-reads made parts
phrase-reads (a_primary e) made parts = primary-reads made parts
phrase-reads (an_operand l e) made parts = operand-reads made parts
phrase-reads (the_links l ls) made parts = links-reads made parts
phrase-reads (a_type n) made parts = type-reads made parts
phrase-reads (a_value v) made parts = value-reads made parts
phrase-reads (a_field_value f) made parts = field-value-reads made parts
phrase-reads (a_call c) made parts = call-reads made parts
phrase-reads (a_rhs r) made parts = rhs-reads made parts
phrase-reads (a_template t) made parts = template-reads made parts
phrase-reads (a_field_template f) made parts = field-template-reads made parts
phrase-reads (a_body b) made parts = body-reads made parts
phrase-reads (a_pattern b) made parts = pattern-reads made parts
phrase-reads (a_bound b) made parts = bound-reads made parts
phrase-reads (a_message m) made parts = message-reads made parts
phrase-reads (a_variable v) made parts = variable-reads made parts
phrase-reads (the_variables vs) made parts = variables-reads made parts
phrase-reads (a_constant c) made parts = constant-reads made parts
phrase-reads (the_constants cs) made parts = constants-reads made parts
phrase-reads (a_timer t) made parts = timer-reads made parts
phrase-reads (the_timers found) made parts = timers-reads made parts
phrase-reads (an_assignment a) made parts = assignment-reads made parts
phrase-reads (a_port p) made parts = tt
phrase-reads (an_event e) made parts = event-reads made parts
phrase-reads (a_log_item i) made parts = log-item-reads made parts
phrase-reads (a_port_ref r) made parts = port-ref-reads made parts
phrase-reads (a_for_start s) made parts = for-start-reads made parts
phrase-reads (a_conditional c) made parts = conditional-reads made parts
phrase-reads (an_action a) made parts = action-reads made parts
phrase-reads (a_statement s) made parts = statement-reads made parts
phrase-reads (an_alternative a) made parts = alternative-reads made parts
phrase-reads (a_branch b) made parts = branch-reads made parts
phrase-reads (a_block ss) made parts = block-reads made parts
phrase-reads (a_field f) made parts = field-reads made parts
phrase-reads (a_number n) made parts = number-reads made parts
phrase-reads (an_enumerator e) made parts = enumerator-reads made parts
phrase-reads (the_messages m) made parts = messages-reads made parts
phrase-reads (a_member_variable v) made parts = member-variable-reads made parts
phrase-reads (a_member m) made parts = member-reads made parts
phrase-reads (a_parameter p) made parts = parameter-reads made parts
phrase-reads (the_parameters found) made parts = parameters-reads made parts
phrase-reads (a_kind k) made parts = kind-reads made parts
phrase-reads (a_definition d) made parts = definition-reads made parts
phrase-reads the_language made parts = language-reads made parts
phrase-reads a_with made parts = with-reads made parts
phrase-reads a_control made parts = control-reads made parts
phrase-reads (a_module m) made parts = module-reads made parts

-- what is spelled is read
mutual
  pub complete : {p : Part} {ts rest : List Spanned} → Spells p ts rest → Known p ts rest
  complete (spelled.this is) = this is
  complete spelled.here = here
  complete (spelled.by {p = p} made parts) = by (spelled.by made parts) (phrase-reads p made (complete-parts parts))
  complete (spelled.all parts) = all (complete-parts parts)
  complete (spelled.last_one s) = last_one (complete s)
  complete (spelled.and_more s is more) = and_more (complete s) is (complete more)
  complete spelled.no_item = no_item
  complete (spelled.next_item s gap more) = next_item (complete s) (complete gap) (complete more)
  complete (spelled.at_its_end s ends) = at_its_end (complete s) ends
  complete spelled.no_semicolon = no_semicolon
  complete (spelled.next_semicolon is s) = next_semicolon is (complete s)
  complete (spelled.balanced g) = balanced g

  pub complete-parts : {ps : Parts} {ts rest : List Spanned} → InTurn ps ts rest → KnownInTurn ps ts rest
  complete-parts spelled.end = end
  complete-parts (spelled.then s more) = then (complete s) (complete-parts more)

claim-of : {p : Phrase} {ts rest : List Spanned} → Known (spelled.phrase p) ts rest → Claim p ts rest
claim-of (by s claim) = claim

-- a module is read
pub reads_whole : {tree : Module} {ts : List Spanned} → IsModule ts tree → whole ts ≡ Some (tree, [])
reads_whole s = claim-of (complete s) refl

-- tokens spell one module at most
pub one_tree : (ts : List Spanned) (tree other : Module) → IsModule ts tree → IsModule ts other → tree ≡ other
one_tree ts tree other first second = (read-is (sym (reads_whole first) ∙ reads_whole second)).0
