-- Statements, branches and what they hold that `==` finds equal are one.
use Rattle.std.proofs.Common.{◌≡◌, Bool, true, true≢false, ◌&&◌, List, map, Option, Some, None, refl, sym, ap, subst, ◌∙◌}
use Rattle.std.proofs.lemmas.Bool.{and_parts}
use Rattle.std.specs.Cmp.Lexicographic.{pointwise}
use Rattle.std.specs.Option.{option_eq}
use Rattle.syntax_equality.specs.Equality.{IsOne, Known, OneAt, known_list_one, last, list_one, more, name_one, none, option_one, variant_one}
use Rattle.syntax_equality.specs.Expressions.{component_one, expression_one, place_one, reference_one}
use Rattle.syntax_equality.specs.Parts.{assignment_one, constants_one, event_one, item_one, mapping_one, port_one, send_one, start_one, timer_one, variables_one, verdict_one}
use Rattle.syntax_equality.specs.Values.{call_one, value_one}
use Rattle.ttcn_syntax.specs.contracts.name.NamePartialEq.TheImpl as names
use Rattle.ttcn_syntax.specs.contracts.tree.expression.ComponentRefPartialEq.TheImpl as components
use Rattle.ttcn_syntax.specs.contracts.tree.expression.ExprPartialEq.TheImpl as expressions
use Rattle.ttcn_syntax.specs.contracts.tree.expression.ReferencePartialEq.TheImpl as references
use Rattle.ttcn_syntax.specs.contracts.tree.statement.Action.{enum as action_enum}
use Rattle.ttcn_syntax.specs.contracts.tree.statement.ActionPartialEq.TheImpl as actions
use Rattle.ttcn_syntax.specs.contracts.tree.statement.ActionPartialEq.TheImpl.Laws as of_actions
use Rattle.ttcn_syntax.specs.contracts.tree.statement.Alternative.{enum as alternative_enum}
use Rattle.ttcn_syntax.specs.contracts.tree.statement.AlternativePartialEq.TheImpl as alternatives
use Rattle.ttcn_syntax.specs.contracts.tree.statement.AlternativePartialEq.TheImpl.Laws as of_alternatives
use Rattle.ttcn_syntax.specs.contracts.tree.statement.AssignmentPartialEq.TheImpl as assignments
use Rattle.ttcn_syntax.specs.contracts.tree.statement.BranchPartialEq.TheImpl as branches
use Rattle.ttcn_syntax.specs.contracts.tree.statement.BranchPartialEq.TheImpl.Laws as of_branches
use Rattle.ttcn_syntax.specs.contracts.tree.statement.ConditionalPartialEq.TheImpl as conditionals
use Rattle.ttcn_syntax.specs.contracts.tree.statement.ConditionalPartialEq.TheImpl.Laws as of_conditionals
use Rattle.ttcn_syntax.specs.contracts.tree.statement.ConstantsPartialEq.TheImpl as constant_lists
use Rattle.ttcn_syntax.specs.contracts.tree.statement.EventPartialEq.TheImpl as events
use Rattle.ttcn_syntax.specs.contracts.tree.statement.ForStartPartialEq.TheImpl as starts
use Rattle.ttcn_syntax.specs.contracts.tree.statement.LogItemPartialEq.TheImpl as items
use Rattle.ttcn_syntax.specs.contracts.tree.statement.MappingPartialEq.TheImpl as mappings
use Rattle.ttcn_syntax.specs.contracts.tree.statement.PortRefPartialEq.TheImpl as ports
use Rattle.ttcn_syntax.specs.contracts.tree.statement.SendPartialEq.TheImpl as sends
use Rattle.ttcn_syntax.specs.contracts.tree.statement.StatementPartialEq.TheImpl as statements
use Rattle.ttcn_syntax.specs.contracts.tree.statement.StatementPartialEq.TheImpl.Laws as of_statements
use Rattle.ttcn_syntax.specs.contracts.tree.statement.TimerPartialEq.TheImpl as timers
use Rattle.ttcn_syntax.specs.contracts.tree.statement.VariablesPartialEq.TheImpl as variable_lists
use Rattle.ttcn_syntax.specs.contracts.tree.statement.VerdictPartialEq.TheImpl as verdicts
use Rattle.ttcn_syntax.specs.contracts.tree.value.CallPartialEq.TheImpl as calls
use Rattle.ttcn_syntax.specs.contracts.tree.value.ValuePartialEq.TheImpl as values
use Rattle.ttcn_syntax.specs.declared.tree.statement.Action.{Action, out-roll-Action, roll-Action}
use Rattle.ttcn_syntax.specs.declared.tree.statement.Action.TheBlock.{split-Action, split-Alternative, the_carrier, the_members, the_sigs}
use Rattle.ttcn_syntax.specs.declared.tree.statement.Action.TheFolds.{ind-Action, ind-Alternative, ind-Branch, ind-Conditional, ind-Statement, map-Action, map-Alternative, map-Branch, map-Conditional, map-Statement}
use Rattle.ttcn_syntax.specs.declared.tree.statement.Action.TheOpen.{Action-F, Alternative-F, Branch-F, Conditional-F, Statement-F}
use Rattle.ttcn_syntax.specs.declared.tree.statement.Alternative.{Alternative, out-roll-Alternative, roll-Alternative}
use Rattle.ttcn_syntax.specs.declared.tree.statement.Branch.{Branch, out-Branch, roll-Branch, roll-out-Branch}
use Rattle.ttcn_syntax.specs.declared.tree.statement.Conditional.{Conditional, out-Conditional, out-roll-Conditional, roll-Conditional, roll-out-Conditional}
use Rattle.ttcn_syntax.specs.declared.tree.statement.Statement.{Statement, out-Statement, roll-Statement, roll-out-Statement}
use Rattle.ttcn_syntax.specs.declared.tree.statement.Action.TheShapes.{former-Action-If-1}
use denote.Enum.Compared.{Each}
use denote.Enum.Declared.{Choice}
use denote.Hole.Carrier.{Values}

-- `==` of actions
abbrev same : Action → Action → Bool
same = (actions.ghosts).eq

-- `==` of alternatives
abbrev same_alternative : Alternative → Alternative → Bool
same_alternative = (alternatives.ghosts).eq

-- `==` of branches
abbrev same_branch : Branch → Branch → Bool
same_branch = (branches.ghosts).eq

-- `==` of conditionals, each a condition of an `if` with its block
abbrev same_conditional : Conditional → Conditional → Bool
same_conditional = (conditionals.ghosts).eq

-- `==` of statements
abbrev same_statement : Statement → Statement → Bool
same_statement = (statements.ghosts).eq

-- `==` of blocks, statement by statement
abbrev same_block : List Statement → List Statement → Bool
same_block = pointwise same_statement

-- the tests of each variant of an action
abbrev each : Each Bool action_enum.parts
each = (
  λ a b. (variable_lists.ghosts).eq a.0 b.0,
  (
    λ a b. (constant_lists.ghosts).eq a.0 b.0,
    (
      λ a b. pointwise (timers.ghosts).eq a.0 b.0,
      (
        λ a b. (assignments.ghosts).eq a.0 b.0,
        (
          λ a b. (calls.ghosts).eq a.0 b.0,
          (
            λ a b. (events.ghosts).eq a.0 b.0,
            (
              λ a b. pointwise same_branch a.0 b.0,
              (
                λ a b. true,
                (
                  λ a b. pointwise same_conditional a.0 b.0 && option_eq same_block a.1.0 b.1.0,
                  (
                    λ a b. (expressions.ghosts).eq a.0 b.0 && same_block a.1.0 b.1.0,
                    (
                      λ a b. same_block a.0 b.0 && (expressions.ghosts).eq a.1.0 b.1.0,
                      (
                        λ a b. (starts.ghosts).eq a.0 b.0 && ((expressions.ghosts).eq a.1.0 b.1.0 && ((assignments.ghosts).eq a.1.1.0 b.1.1.0 && same_block a.1.1.1.0 b.1.1.1.0)),
                        (
                          λ a b. option_eq (values.ghosts).eq a.0 b.0,
                          (
                            λ a b. true,
                            (
                              λ a b. pointwise (items.ghosts).eq a.0 b.0,
                              (
                                λ a b. (verdicts.ghosts).eq a.0 b.0 && pointwise (items.ghosts).eq a.1.0 b.1.0,
                                (
                                  λ a b. (ports.ghosts).eq a.0 b.0 && (ports.ghosts).eq a.1.0 b.1.0,
                                  (
                                    λ a b. (mappings.ghosts).eq a.0 b.0,
                                    (
                                      λ a b. (sends.ghosts).eq a.0 b.0,
                                      (
                                        λ a b. (components.ghosts).eq a.0 b.0 && (calls.ghosts).eq a.1.0 b.1.0,
                                        (
                                          λ a b. (names.ghosts).eq a.0 b.0,
                                          (
                                            λ a b. (components.ghosts).eq a.0 b.0,
                                            (
                                              λ a b. (calls.ghosts).eq a.0 b.0,
                                              (
                                                λ a b. option_eq (references.ghosts).eq a.0 b.0,
                                                tt,
                                              ),
                                            ),
                                          ),
                                        ),
                                      ),
                                    ),
                                  ),
                                ),
                              ),
                            ),
                          ),
                        ),
                      ),
                    ),
                  ),
                ),
              ),
            ),
          ),
        ),
      ),
    ),
  ),
)

-- the tests of each variant of an alternative
abbrev each_alternative : Each Bool alternative_enum.parts
each_alternative = (
  λ a b. option_eq (expressions.ghosts).eq a.0 b.0 && ((events.ghosts).eq a.1.0 b.1.0 && option_eq same_block a.1.1.0 b.1.1.0),
  (
    λ a b. option_eq (expressions.ghosts).eq a.0 b.0 && ((calls.ghosts).eq a.1.0 b.1.0 && option_eq same_block a.1.1.0 b.1.1.0),
    (
      λ a b. same_block a.0 b.0,
      tt,
    ),
  ),
)

-- ---- one level, over those that are known to equal themselves alone

-- what a form of the cycle is over the values of the cycle
abbrev Whole : (Type 0 → Type 0 → Type 0 → Type 0 → Type 0 → Type 0) → Type 0
Whole F = F Action Alternative Branch Conditional Statement

-- a form of the cycle over values of it that are known to equal themselves alone
abbrev Level : (Type 0 → Type 0 → Type 0 → Type 0 → Type 0 → Type 0) → Type 0
Level F = F (Known same) (Known same_alternative) (Known same_branch) (Known same_conditional) (Known same_statement)

-- one level of an action, without what is known of its parts
abbrev bare : Level Action-F → Whole Action-F
bare = map-Action (Known same) (Known same_alternative) (Known same_branch) (Known same_conditional) (Known same_statement) Action Alternative Branch Conditional Statement (λ k. k.0) (λ k. k.0) (λ k. k.0) (λ k. k.0) (λ k. k.0)

-- one level of an alternative, without what is known of its parts
abbrev bare_alternative : Level Alternative-F → Whole Alternative-F
bare_alternative = map-Alternative (Known same) (Known same_alternative) (Known same_branch) (Known same_conditional) (Known same_statement) Action Alternative Branch Conditional Statement (λ k. k.0) (λ k. k.0) (λ k. k.0) (λ k. k.0) (λ k. k.0)

-- one level of a branch, without what is known of its parts
abbrev bare_branch : Level Branch-F → Whole Branch-F
bare_branch = map-Branch (Known same) (Known same_alternative) (Known same_branch) (Known same_conditional) (Known same_statement) Action Alternative Branch Conditional Statement (λ k. k.0) (λ k. k.0) (λ k. k.0) (λ k. k.0) (λ k. k.0)

-- one level of a conditional, without what is known of its parts
abbrev bare_conditional : Level Conditional-F → Whole Conditional-F
bare_conditional = map-Conditional (Known same) (Known same_alternative) (Known same_branch) (Known same_conditional) (Known same_statement) Action Alternative Branch Conditional Statement (λ k. k.0) (λ k. k.0) (λ k. k.0) (λ k. k.0) (λ k. k.0)

-- one level of a statement, without what is known of its parts
abbrev bare_statement : Level Statement-F → Whole Statement-F
bare_statement = map-Statement (Known same) (Known same_alternative) (Known same_branch) (Known same_conditional) (Known same_statement) Action Alternative Branch Conditional Statement (λ k. k.0) (λ k. k.0) (λ k. k.0) (λ k. k.0) (λ k. k.0)

block_one : (block : List (Known same_statement)) → IsOne (List Statement) same_block (map (λ k. k.0) block)
block_one = known_list_one same_statement

known_option_one : (block : Option (List (Known same_statement))) → IsOne (Option (List Statement)) (option_eq same_block) (former-Action-If-1.map (Known same_statement) Statement (λ k. k.0) block)
known_option_one None None h = refl
known_option_one (Some x) (Some y) h = ap Some (block_one x y h)
known_option_one None (Some y) h = absurd (true≢false (sym h))
known_option_one (Some x) None h = absurd (true≢false (sym h))

-- one level of an action as its variant, with the values of the variant's fields
abbrev action_values : Whole Action-F → Choice action_enum.parts
action_values = split-Action (Values the_members the_sigs the_carrier)

-- one level of an alternative as its variant, with the values of the variant's fields
abbrev alternative_values : Whole Alternative-F → Choice alternative_enum.parts
alternative_values = split-Alternative (Values the_members the_sigs the_carrier)

action_level : (y : Level Action-F) → OneAt action_enum.parts each (action_values (bare y))
action_level (Action-F.Variables variables) = last (variables_one variables)
action_level (Action-F.Constants constants) = last (constants_one constants)
action_level (Action-F.Timers timers) = last (list_one _ timer_one timers)
action_level (Action-F.Assign assignment) = last (assignment_one assignment)
action_level (Action-F.«Action::Call» call) = last (call_one call)
action_level (Action-F.«Action::Event» event) = last (event_one event)
action_level (Action-F.Alt branches) = last (known_list_one same_branch branches)
action_level Action-F.Repeat = none
action_level (Action-F.If conditionals block) = more (known_list_one same_conditional conditionals) (last (known_option_one block))
action_level (Action-F.While condition block) = more (expression_one condition) (last (block_one block))
action_level (Action-F.DoWhile block condition) = more (block_one block) (last (expression_one condition))
action_level (Action-F.For start condition assignment block) = more (start_one start) (more (expression_one condition) (more (assignment_one assignment) (last (block_one block))))
action_level (Action-F.Return value) = last (option_one _ value_one value)
action_level Action-F.Stop = none
action_level (Action-F.Log items) = last (list_one _ item_one items)
action_level (Action-F.Setverdict verdict items) = more (verdict_one verdict) (last (list_one _ item_one items))
action_level (Action-F.Connect first second) = more (port_one first) (last (port_one second))
action_level (Action-F.Map mapping) = last (mapping_one mapping)
action_level (Action-F.Send send) = last (send_one send)
action_level (Action-F.StartComponent component call) = more (component_one component) (last (call_one call))
action_level (Action-F.StartTimer name) = last (name_one name)
action_level (Action-F.StopOf component) = last (component_one component)
action_level (Action-F.Activate call) = last (call_one call)
action_level (Action-F.Deactivate reference) = last (option_one _ reference_one reference)

alternative_level : (y : Level Alternative-F) → OneAt alternative_enum.parts each_alternative (alternative_values (bare_alternative y))
alternative_level (Alternative-F.«Alternative::Event» guard event block) = more (option_one _ expression_one guard) (more (event_one event) (last (known_option_one block)))
alternative_level (Alternative-F.«Alternative::Call» guard call block) = more (option_one _ expression_one guard) (more (call_one call) (last (known_option_one block)))
alternative_level (Alternative-F.Else block) = last (block_one block)

action_step : (x : Whole Action-F) (y : Level Action-F) → bare y ≡ x → IsOne Action same (roll-Action x)
action_step x y is-bare b h =
    let at = subst (λ v. OneAt action_enum.parts each (action_values v)) (is-bare ∙ sym (out-roll-Action x)) (action_level y) in
    variant_one action_enum each (roll-Action x) at b (sym (of_actions.is (roll-Action x) b) ∙ h)

alternative_step : (x : Whole Alternative-F) (y : Level Alternative-F) → bare_alternative y ≡ x → IsOne Alternative same_alternative (roll-Alternative x)
alternative_step x y is-bare b h =
    let at = subst (λ v. OneAt alternative_enum.parts each_alternative (alternative_values v)) (is-bare ∙ sym (out-roll-Alternative x)) (alternative_level y) in
    variant_one alternative_enum each_alternative (roll-Alternative x) at b (sym (of_alternatives.is (roll-Alternative x) b) ∙ h)

branch_step : (x : Whole Branch-F) (y : Level Branch-F) → bare_branch y ≡ x → IsOne Branch same_branch (roll-Branch x)
branch_step x y is-bare = subst (λ v. IsOne Branch same_branch (roll-Branch v)) is-bare (λ b h.
    let p = and_parts _ _ (sym (of_branches.is (roll-Branch (bare_branch y)) b) ∙ h) in
    let place_is = place_one y.place (out-Branch b).place p.0 in
    let alternative_is = y.alternative.1 (out-Branch b).alternative p.1 in
    ap roll-Branch (λ i. record { place = place_is i; alternative = alternative_is i }) ∙ roll-out-Branch b)

conditional_step : (x : Whole Conditional-F) (y : Level Conditional-F) → bare_conditional y ≡ x → IsOne Conditional same_conditional (roll-Conditional x)
conditional_step x y is-bare = subst (λ v. IsOne Conditional same_conditional (roll-Conditional v)) is-bare (λ b h.
    let e = sym (of_conditionals.is (roll-Conditional (bare_conditional y)) b) ∙ h in
    let p = and_parts _ _ (subst (λ v. ((expressions.ghosts).eq v.condition (out-Conditional b).condition && same_block v.block (out-Conditional b).block) ≡ true) (out-roll-Conditional (bare_conditional y)) e) in
    let condition_is = expression_one y.condition (out-Conditional b).condition p.0 in
    let block_is = block_one y.block (out-Conditional b).block p.1 in
    ap roll-Conditional (λ i. record { condition = condition_is i; block = block_is i }) ∙ roll-out-Conditional b)

statement_step : (x : Whole Statement-F) (y : Level Statement-F) → bare_statement y ≡ x → IsOne Statement same_statement (roll-Statement x)
statement_step x y is-bare = subst (λ v. IsOne Statement same_statement (roll-Statement v)) is-bare (λ b h.
    let p = and_parts _ _ (sym (of_statements.is (roll-Statement (bare_statement y)) b) ∙ h) in
    let place_is = place_one y.place (out-Statement b).place p.0 in
    let action_is = y.action.1 (out-Statement b).action p.1 in
    ap roll-Statement (λ i. record { place = place_is i; action = action_is i }) ∙ roll-out-Statement b)

pub action_one : (a : Action) → IsOne Action same a
action_one = ind-Action (IsOne Action same) (IsOne Alternative same_alternative) (IsOne Branch same_branch) (IsOne Conditional same_conditional) (IsOne Statement same_statement) action_step alternative_step branch_step conditional_step statement_step

pub alternative_one : (a : Alternative) → IsOne Alternative same_alternative a
alternative_one = ind-Alternative (IsOne Action same) (IsOne Alternative same_alternative) (IsOne Branch same_branch) (IsOne Conditional same_conditional) (IsOne Statement same_statement) action_step alternative_step branch_step conditional_step statement_step

pub branch_one : (a : Branch) → IsOne Branch same_branch a
branch_one = ind-Branch (IsOne Action same) (IsOne Alternative same_alternative) (IsOne Branch same_branch) (IsOne Conditional same_conditional) (IsOne Statement same_statement) action_step alternative_step branch_step conditional_step statement_step

pub conditional_one : (a : Conditional) → IsOne Conditional same_conditional a
conditional_one = ind-Conditional (IsOne Action same) (IsOne Alternative same_alternative) (IsOne Branch same_branch) (IsOne Conditional same_conditional) (IsOne Statement same_statement) action_step alternative_step branch_step conditional_step statement_step

pub statement_one : (a : Statement) → IsOne Statement same_statement a
statement_one = ind-Statement (IsOne Action same) (IsOne Alternative same_alternative) (IsOne Branch same_branch) (IsOne Conditional same_conditional) (IsOne Statement same_statement) action_step alternative_step branch_step conditional_step statement_step
