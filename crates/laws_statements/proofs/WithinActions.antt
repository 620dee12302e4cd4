-- Every form of statement, and blocks, where further names are visible.
use Rattle.std.proofs.Common.{◌≡◌, ℕ, List, [], ◌∷◌, ◌++◌, map, Option, Some, None, is_none, refl, sym, ap, subst}
use Rattle.std.specs.List.{flat_map}
use Rattle.ttcn_syntax.specs.declared.tree.expression.Expr.{Expr}
use Rattle.ttcn_syntax.specs.declared.tree.statement.Action.{Action, fold-Action, roll-Action}
use Rattle.ttcn_syntax.specs.declared.tree.statement.Action.TheFolds.{fold-roll-Action, fold-roll-Alternative, fold-roll-Branch, fold-roll-Conditional, fold-roll-Statement, ind-Branch, ind-Statement, map-Action, map-Alternative, map-Branch, map-Conditional, map-Statement}
use Rattle.ttcn_syntax.specs.declared.tree.statement.Action.TheOpen.{Action-F, Alternative-F, Branch-F, Conditional-F, Statement-F}
use Rattle.ttcn_syntax.specs.declared.tree.statement.Alternative.{Alternative, fold-Alternative, roll-Alternative}
use Rattle.ttcn_syntax.specs.declared.tree.statement.Branch.{Branch, roll-Branch}
use Rattle.ttcn_syntax.specs.declared.tree.statement.Conditional.{Conditional, fold-Conditional, roll-Conditional}
use Rattle.ttcn_syntax.specs.declared.tree.statement.Constants.{Constants}
use Rattle.ttcn_syntax.specs.declared.tree.statement.ForStart.{ForStart}
use Rattle.ttcn_syntax.specs.declared.tree.statement.ForStart.TheVariants as for_start
use Rattle.ttcn_syntax.specs.declared.tree.statement.Statement.{Statement, roll-Statement}
use Rattle.ttcn_syntax.specs.declared.tree.statement.Timer.{Timer}
use Rattle.ttcn_syntax.specs.declared.tree.statement.Variables.{Variables}
use Rattle.check_rules.specs.Calls.{check_activation, check_call, is_altstep, stands_alone}
use Rattle.check_rules.specs.Targets.{check_assignment, check_constants, check_new_name, check_timers, check_variables}
use Rattle.check_scope.specs.Names.{Names, Scope}
use Rattle.check_scope.specs.Typings.{unless}
use Rattle.check_scope.specs.declared.names.Meaning.{Meaning}
use Rattle.check_scope.specs.declared.names.Meaning.TheVariants as meaning
use Rattle.check_scope.specs.declared.rule.Rule.{Rule}
use Rattle.check_scope.specs.declared.rule.Rule.TheVariants as rule
use Rattle.check_rules.specs.Messages.{check_event, check_send, check_timer}
use Rattle.check_rules.specs.Statements.{Check, Place, StatementRules, action, action_step, alternative, alternative_step, behind_for_start, branch, branch_step, check_block, check_condition, check_deactivate, check_ends, check_for_start, check_guard, check_log, check_mapping, check_return, check_setverdict, check_start, check_stop, conditional, conditional_step, inside_branch, leaf_rules, statement, statement_step, statements, with_scope}
use Rattle.laws_checker.proofs.Nothing.{nothing-first, nothing-rest}
use Rattle.laws_statements.proofs.Within.{activation_stays, assignment_stays, call_stays, condition_stays, deactivate_stays, ends_stays, event_stays, guard_stays, log-stays, mapping_stays, send_stays, setverdict-stays, start_stays, stop_stays, timer_stays}
use Rattle.laws_statements.proofs.WithinExpressions.{none-append, part-by-part}
use Rattle.laws_statements.proofs.WithinStatements.{Stays, StaysInside, behind-further, behind-within, block-fine, constants-fine, constants-further, constants-within, each-fine, further-first, further-rest, leaf-stays, plain, timers-fine, variables-fine, variables-further, variables-within}
use Rattle.laws_statements.specs.Declares as declares
use Rattle.laws_statements.specs.Declares.{Declared, NoneIsFurther, names_of_all, names_of_branch, names_of_constants, names_of_start, names_of_statement, names_of_statements, names_of_timers, names_of_variables}
use Rattle.laws_statements.specs.Within.{IsWithin, StaysFine}

abbrev names_of_action : Action → Declared
names_of_action = fold-Action Declared Declared Declared Declared Declared declares.action_step declares.alternative_step declares.branch_step declares.conditional_step declares.statement_step

abbrev names_of_alternative : Alternative → Declared
names_of_alternative = fold-Alternative Declared Declared Declared Declared Declared declares.action_step declares.alternative_step declares.branch_step declares.conditional_step declares.statement_step

abbrev names_of_conditional : Conditional → Declared
names_of_conditional = fold-Conditional Declared Declared Declared Declared Declared declares.action_step declares.alternative_step declares.branch_step declares.conditional_step declares.statement_step

abbrev HeldAction : Type 0
HeldAction = (a : Action) × Stays (action a) (names_of_action a)

abbrev HeldAlternative : Type 0
HeldAlternative = (a : Alternative) × StaysInside (alternative a) (names_of_alternative a)

abbrev HeldBranch : Type 0
HeldBranch = (b : Branch) × StaysInside (branch b) (names_of_branch b)

abbrev HeldConditional : Type 0
HeldConditional = (c : Conditional) × StaysInside (conditional c) (names_of_conditional c)

abbrev HeldStatement : Type 0
HeldStatement = (s : Statement) × Stays (statement s) (names_of_statement s)

-- ---- parts

abbrev said_of : List HeldStatement → List StatementRules
said_of block = map statement (map (λ (s : HeldStatement). s.0) block)

abbrev declared-in : List HeldStatement → Declared
declared-in block = names_of_all (map names_of_statement (map (λ (s : HeldStatement). s.0) block))

held-block : (block : List HeldStatement) → StaysInside (check_block (said_of block)) (declared-in block)
held-block block = block-fine statement names_of_statement block

start-fine : (s g : Scope) → IsWithin s g → (start : ForStart) → NoneIsFurther s g (names_of_start start) → check_for_start s start ≡ [] → check_for_start g start ≡ []
start-fine s g within (for_start.Variables vs) none nothing = variables-fine s g within vs nothing none
start-fine s g within (for_start.Assign assignment) none nothing = assignment_stays assignment s g within nothing

start-within : (s g : Scope) → IsWithin s g → (start : ForStart) → check_for_start s start ≡ [] → IsWithin (behind_for_start s start) (behind_for_start g start)
start-within s g within (for_start.Variables vs) nothing = variables-within s g within vs nothing
start-within s g within (for_start.Assign assignment) nothing = within

start-further : (s g : Scope) → IsWithin s g → (start : ForStart) → check_for_start s start ≡ [] → (others : Declared) → NoneIsFurther s g others
    → NoneIsFurther (behind_for_start s start) (behind_for_start g start) others
start-further s g within (for_start.Variables vs) nothing others none = variables-further s g within vs nothing others none
start-further s g within (for_start.Assign assignment) nothing others none = none

-- a condition with a block behind it
guarded-block : (condition : Expr) (block : List HeldStatement) → StaysInside (λ place. check_condition place.scope condition ++ check_block (said_of block) place) (declared-in block)
guarded-block condition block place g may within none nothing =
    part-by-part (check_condition place.scope condition) (check_block (said_of block) place) (check_condition g condition) (check_block (said_of block) (with_scope place g))
    (condition_stays condition place.scope g within) (held-block block place g may within none) nothing

-- ---- actions

abbrev LevelAction : Action-F Action Alternative Branch Conditional Statement → Type 0
LevelAction x = Stays (action_step (map-Action Action Alternative Branch Conditional Statement StatementRules Check Check Check StatementRules action alternative branch conditional statement x))
    (declares.action_step (map-Action Action Alternative Branch Conditional Statement Declared Declared Declared Declared Declared names_of_action names_of_alternative names_of_branch names_of_conditional names_of_statement x))

action-held : (y : Action-F HeldAction HeldAlternative HeldBranch HeldConditional HeldStatement) → LevelAction (map-Action HeldAction HeldAlternative HeldBranch HeldConditional HeldStatement Action Alternative Branch Conditional Statement (λ a. a.0) (λ a. a.0) (λ b. b.0) (λ c. c.0) (λ s. s.0) y)
action-held (Action-F.Variables vs) = record {
  fine = λ place g may within none nothing. variables-fine place.scope g within vs nothing none;
  behind = λ place g within nothing. variables-within place.scope g within vs nothing;
  further = λ place g within nothing others none. variables-further place.scope g within vs nothing others none;
}
action-held (Action-F.Constants cs) = record {
  fine = λ place g may within none nothing. constants-fine place.scope g within cs nothing none;
  behind = λ place g within nothing. constants-within place.scope g within cs nothing;
  further = λ place g within nothing others none. constants-further place.scope g within cs nothing others none;
}
action-held (Action-F.Timers timers) = record {
  fine = λ place g may within none nothing. timers-fine place.scope g within timers none nothing;
  behind = λ place g within nothing. behind-within (λ (t : Timer). t.name) meaning.Timer place.scope g within timers;
  further = λ place g within nothing others none. behind-further (λ (t : Timer). t.name) meaning.Timer place.scope g others none timers;
}
action-held (Action-F.Alt branches) =
    plain (λ place. flat_map (λ part. part place) (map branch (map (λ (b : HeldBranch). b.0) branches))) (names_of_all (map names_of_branch (map (λ (b : HeldBranch). b.0) branches)))
    (each-fine branch names_of_branch branches)
action-held (Action-F.If conditionals None) =
    let all = λ (place : Place). flat_map (λ (part : Check). part place) (map conditional (map (λ (c : HeldConditional). c.0) conditionals)) in
    let names : Declared = names_of_all (map names_of_conditional (map (λ (c : HeldConditional). c.0) conditionals)) in
    plain (λ place. all place ++ []) (names ++ []) (λ place g may within none nothing.
    part-by-part (all place) [] (all (with_scope place g)) [] (each-fine conditional names_of_conditional conditionals place g may within (further-first place.scope g names [] none)) (λ empty. empty) nothing)
action-held (Action-F.If conditionals (Some last)) =
    let all = λ (place : Place). flat_map (λ (part : Check). part place) (map conditional (map (λ (c : HeldConditional). c.0) conditionals)) in
    let names : Declared = names_of_all (map names_of_conditional (map (λ (c : HeldConditional). c.0) conditionals)) in
    plain (λ place. all place ++ check_block (said_of last) place) (names ++ declared-in last) (λ place g may within none nothing.
    part-by-part (all place) (check_block (said_of last) place) (all (with_scope place g)) (check_block (said_of last) (with_scope place g))
    (each-fine conditional names_of_conditional conditionals place g may within (further-first place.scope g names (declared-in last) none))
    (held-block last place g may within (further-rest place.scope g names (declared-in last) none)) nothing)
action-held (Action-F.While condition block) =
    plain (λ place. check_condition place.scope condition ++ check_block (said_of block) place) (declared-in block) (guarded-block condition block)
action-held (Action-F.DoWhile block condition) =
    plain (λ place. check_block (said_of block) place ++ check_condition place.scope condition) (declared-in block) (λ place g may within none nothing.
    part-by-part (check_block (said_of block) place) (check_condition place.scope condition) (check_block (said_of block) (with_scope place g)) (check_condition g condition)
    (held-block block place g may within none) (condition_stays condition place.scope g within) nothing)
action-held (Action-F.For start condition step block) =
    let behind = λ (s : Scope). behind_for_start s start in
    let head = λ (s : Scope). check_for_start s start ++ check_condition (behind s) condition ++ check_assignment (behind s) step in
    let inside = λ (place : Place). check_block (said_of block) (with_scope place (behind place.scope)) in
    plain (λ place. head place.scope ++ inside place) (names_of_start start ++ declared-in block) (λ place g may within none nothing.
    let h : Scope = place.scope in
    let front : head h ≡ [] = nothing-first (head h) (inside place) nothing in
    let begins : check_for_start h start ≡ [] =
    nothing-first (check_for_start h start) (check_condition (behind h) condition)
    (nothing-first (check_for_start h start ++ check_condition (behind h) condition) (check_assignment (behind h) step) front) in
    let next : IsWithin (behind h) (behind g) = start-within h g within start begins in
    part-by-part (head h) (inside place) (head g) (inside (with_scope place g))
    (λ fine. part-by-part (check_for_start h start ++ check_condition (behind h) condition) (check_assignment (behind h) step)
    (check_for_start g start ++ check_condition (behind g) condition) (check_assignment (behind g) step)
    (λ fine. part-by-part (check_for_start h start) (check_condition (behind h) condition) (check_for_start g start) (check_condition (behind g) condition)
    (start-fine h g within start (further-first h g (names_of_start start) (declared-in block) none)) (condition_stays condition (behind h) (behind g) next) fine)
    (assignment_stays step (behind h) (behind g) next) fine)
    (held-block block (with_scope place (behind h)) (behind g) may next
    (start-further h g within start begins (declared-in block) (further-rest h g (names_of_start start) (declared-in block) none))) nothing)
action-held Action-F.Repeat = plain (leaf_rules {A = Action} {B = Alternative} {C = Branch} {D = Conditional} {E = Statement} Action-F.Repeat) [] (λ place g may within none nothing. nothing)
action-held (Action-F.Return given) = plain (λ place. check_return place.scope place.returns given) [] (λ place g may within none nothing. may given place.scope g within nothing)
action-held Action-F.Stop = plain (λ place. []) [] (λ place g may within none nothing. nothing)
action-held (Action-F.Assign assignment) = leaf-stays (λ s. check_assignment s assignment) (assignment_stays assignment)
action-held (Action-F.«Action::Call» call) = leaf-stays (λ s. check_call s stands_alone call) (call_stays stands_alone call)
action-held (Action-F.«Action::Event» event) = leaf-stays (λ s. check_event s event) (event_stays event)
action-held (Action-F.Log items) = leaf-stays (λ s. check_log s items) (log-stays items)
action-held (Action-F.Setverdict verdict reasons) = leaf-stays (λ s. check_setverdict s verdict reasons) (setverdict-stays verdict reasons)
action-held (Action-F.Connect one other) = leaf-stays (λ s. check_ends s one.component other.component) (ends_stays one.component other.component)
action-held (Action-F.Map mapping) = leaf-stays (λ s. check_mapping s mapping) (mapping_stays mapping)
action-held (Action-F.Send send) = leaf-stays (λ s. check_send s send) (send_stays send)
action-held (Action-F.StartComponent reference call) = leaf-stays (λ s. check_start s reference call) (start_stays reference call)
action-held (Action-F.StartTimer timer) = leaf-stays (λ s. check_timer s timer) (timer_stays timer)
action-held (Action-F.StopOf reference) = leaf-stays (λ s. check_stop s reference) (stop_stays reference)
action-held (Action-F.Activate call) = leaf-stays (λ s. check_activation s call) (activation_stays call)
action-held (Action-F.Deactivate reference) = leaf-stays (λ s. check_deactivate s reference) (deactivate_stays reference)

-- ---- branches, conditions with their blocks, and statements

abbrev LevelAlternative : Alternative-F Action Alternative Branch Conditional Statement → Type 0
LevelAlternative x = StaysInside (alternative_step (map-Alternative Action Alternative Branch Conditional Statement StatementRules Check Check Check StatementRules action alternative branch conditional statement x))
    (declares.alternative_step (map-Alternative Action Alternative Branch Conditional Statement Declared Declared Declared Declared Declared names_of_action names_of_alternative names_of_branch names_of_conditional names_of_statement x))

guarded : (guard : Option Expr) (what : Scope → List Rule) → StaysFine what → StaysFine (λ s. check_guard s guard ++ what s)
guarded guard what stays h g within nothing =
    part-by-part (check_guard h guard) (what h) (check_guard g guard) (what g) (guard_stays guard h g within) (stays h g within) nothing

alternative-held : (y : Alternative-F HeldAction HeldAlternative HeldBranch HeldConditional HeldStatement) → LevelAlternative (map-Alternative HeldAction HeldAlternative HeldBranch HeldConditional HeldStatement Action Alternative Branch Conditional Statement (λ a. a.0) (λ a. a.0) (λ b. b.0) (λ c. c.0) (λ s. s.0) y)
alternative-held (Alternative-F.«Alternative::Event» guard event None) = λ place g may within none nothing.
    let head = λ (s : Scope). check_guard s guard ++ check_event s event in
    part-by-part (head place.scope) [] (head g) [] (guarded guard (λ s. check_event s event) (event_stays event) place.scope g within) (λ empty. empty) nothing
alternative-held (Alternative-F.«Alternative::Event» guard event (Some block)) = λ place g may within none nothing.
    let head = λ (s : Scope). check_guard s guard ++ check_event s event in
    part-by-part (head place.scope) (check_block (said_of block) (inside_branch place)) (head g) (check_block (said_of block) (inside_branch (with_scope place g)))
    (guarded guard (λ s. check_event s event) (event_stays event) place.scope g within) (held-block block (inside_branch place) g may within none) nothing
alternative-held (Alternative-F.«Alternative::Call» guard call None) = λ place g may within none nothing.
    let head = λ (s : Scope). check_guard s guard ++ check_call s is_altstep call in
    part-by-part (head place.scope) [] (head g) [] (guarded guard (λ s. check_call s is_altstep call) (call_stays is_altstep call) place.scope g within) (λ empty. empty) nothing
alternative-held (Alternative-F.«Alternative::Call» guard call (Some block)) = λ place g may within none nothing.
    let head = λ (s : Scope). check_guard s guard ++ check_call s is_altstep call in
    part-by-part (head place.scope) (check_block (said_of block) (inside_branch place)) (head g) (check_block (said_of block) (inside_branch (with_scope place g)))
    (guarded guard (λ s. check_call s is_altstep call) (call_stays is_altstep call) place.scope g within) (held-block block (inside_branch place) g may within none) nothing
alternative-held (Alternative-F.Else block) = λ place g may within none nothing. held-block block (inside_branch place) g may within none nothing

abbrev LevelBranch : Branch-F Action Alternative Branch Conditional Statement → Type 0
LevelBranch x = StaysInside (branch_step (map-Branch Action Alternative Branch Conditional Statement StatementRules Check Check Check StatementRules action alternative branch conditional statement x))
    (declares.branch_step (map-Branch Action Alternative Branch Conditional Statement Declared Declared Declared Declared Declared names_of_action names_of_alternative names_of_branch names_of_conditional names_of_statement x))

branch-held : (y : Branch-F HeldAction HeldAlternative HeldBranch HeldConditional HeldStatement) → LevelBranch (map-Branch HeldAction HeldAlternative HeldBranch HeldConditional HeldStatement Action Alternative Branch Conditional Statement (λ a. a.0) (λ a. a.0) (λ b. b.0) (λ c. c.0) (λ s. s.0) y)
branch-held y = y.alternative.1

abbrev LevelConditional : Conditional-F Action Alternative Branch Conditional Statement → Type 0
LevelConditional x = StaysInside (conditional_step (map-Conditional Action Alternative Branch Conditional Statement StatementRules Check Check Check StatementRules action alternative branch conditional statement x))
    (declares.conditional_step (map-Conditional Action Alternative Branch Conditional Statement Declared Declared Declared Declared Declared names_of_action names_of_alternative names_of_branch names_of_conditional names_of_statement x))

conditional-held : (y : Conditional-F HeldAction HeldAlternative HeldBranch HeldConditional HeldStatement) → LevelConditional (map-Conditional HeldAction HeldAlternative HeldBranch HeldConditional HeldStatement Action Alternative Branch Conditional Statement (λ a. a.0) (λ a. a.0) (λ b. b.0) (λ c. c.0) (λ s. s.0) y)
conditional-held y = guarded-block y.condition y.block

abbrev LevelStatement : Statement-F Action Alternative Branch Conditional Statement → Type 0
LevelStatement x = Stays (statement_step (map-Statement Action Alternative Branch Conditional Statement StatementRules Check Check Check StatementRules action alternative branch conditional statement x))
    (declares.statement_step (map-Statement Action Alternative Branch Conditional Statement Declared Declared Declared Declared Declared names_of_action names_of_alternative names_of_branch names_of_conditional names_of_statement x))

statement-held : (y : Statement-F HeldAction HeldAlternative HeldBranch HeldConditional HeldStatement) → LevelStatement (map-Statement HeldAction HeldAlternative HeldBranch HeldConditional HeldStatement Action Alternative Branch Conditional Statement (λ a. a.0) (λ a. a.0) (λ b. b.0) (λ c. c.0) (λ s. s.0) y)
statement-held y = y.action.1

pub statement-stays : (s : Statement) → Stays (statement s) (names_of_statement s)
statement-stays = ind-Statement (λ a. Stays (action a) (names_of_action a)) (λ a. StaysInside (alternative a) (names_of_alternative a)) (λ b. StaysInside (branch b) (names_of_branch b)) (λ c. StaysInside (conditional c) (names_of_conditional c)) (λ s. Stays (statement s) (names_of_statement s)) (λ x y is.
    subst (λ said. Stays said (names_of_action (roll-Action x))) (sym (fold-roll-Action StatementRules Check Check Check StatementRules action_step alternative_step branch_step conditional_step statement_step x))
    (subst (λ names. Stays (action_step (map-Action Action Alternative Branch Conditional Statement StatementRules Check Check Check StatementRules action alternative branch conditional statement x)) names) (sym (fold-roll-Action Declared Declared Declared Declared Declared declares.action_step declares.alternative_step declares.branch_step declares.conditional_step declares.statement_step x))
    (subst LevelAction is (action-held y)))) (λ x y is.
    subst (λ said. StaysInside said (names_of_alternative (roll-Alternative x))) (sym (fold-roll-Alternative StatementRules Check Check Check StatementRules action_step alternative_step branch_step conditional_step statement_step x))
    (subst (λ names. StaysInside (alternative_step (map-Alternative Action Alternative Branch Conditional Statement StatementRules Check Check Check StatementRules action alternative branch conditional statement x)) names) (sym (fold-roll-Alternative Declared Declared Declared Declared Declared declares.action_step declares.alternative_step declares.branch_step declares.conditional_step declares.statement_step x))
    (subst LevelAlternative is (alternative-held y)))) (λ x y is.
    subst (λ said. StaysInside said (names_of_branch (roll-Branch x))) (sym (fold-roll-Branch StatementRules Check Check Check StatementRules action_step alternative_step branch_step conditional_step statement_step x))
    (subst (λ names. StaysInside (branch_step (map-Branch Action Alternative Branch Conditional Statement StatementRules Check Check Check StatementRules action alternative branch conditional statement x)) names) (sym (fold-roll-Branch Declared Declared Declared Declared Declared declares.action_step declares.alternative_step declares.branch_step declares.conditional_step declares.statement_step x))
    (subst LevelBranch is (branch-held y)))) (λ x y is.
    subst (λ said. StaysInside said (names_of_conditional (roll-Conditional x))) (sym (fold-roll-Conditional StatementRules Check Check Check StatementRules action_step alternative_step branch_step conditional_step statement_step x))
    (subst (λ names. StaysInside (conditional_step (map-Conditional Action Alternative Branch Conditional Statement StatementRules Check Check Check StatementRules action alternative branch conditional statement x)) names) (sym (fold-roll-Conditional Declared Declared Declared Declared Declared declares.action_step declares.alternative_step declares.branch_step declares.conditional_step declares.statement_step x))
    (subst LevelConditional is (conditional-held y)))) (λ x y is.
    subst (λ said. Stays said (names_of_statement (roll-Statement x))) (sym (fold-roll-Statement StatementRules Check Check Check StatementRules action_step alternative_step branch_step conditional_step statement_step x))
    (subst (λ names. Stays (statement_step (map-Statement Action Alternative Branch Conditional Statement StatementRules Check Check Check StatementRules action alternative branch conditional statement x)) names) (sym (fold-roll-Statement Declared Declared Declared Declared Declared declares.action_step declares.alternative_step declares.branch_step declares.conditional_step declares.statement_step x))
    (subst LevelStatement is (statement-held y))))

pub branch_stays_fine : (b : Branch) → StaysInside (branch b) (names_of_branch b)
branch_stays_fine = ind-Branch (λ a. Stays (action a) (names_of_action a)) (λ a. StaysInside (alternative a) (names_of_alternative a)) (λ b. StaysInside (branch b) (names_of_branch b)) (λ c. StaysInside (conditional c) (names_of_conditional c)) (λ s. Stays (statement s) (names_of_statement s)) (λ x y is.
    subst (λ said. Stays said (names_of_action (roll-Action x))) (sym (fold-roll-Action StatementRules Check Check Check StatementRules action_step alternative_step branch_step conditional_step statement_step x))
    (subst (λ names. Stays (action_step (map-Action Action Alternative Branch Conditional Statement StatementRules Check Check Check StatementRules action alternative branch conditional statement x)) names) (sym (fold-roll-Action Declared Declared Declared Declared Declared declares.action_step declares.alternative_step declares.branch_step declares.conditional_step declares.statement_step x))
    (subst LevelAction is (action-held y)))) (λ x y is.
    subst (λ said. StaysInside said (names_of_alternative (roll-Alternative x))) (sym (fold-roll-Alternative StatementRules Check Check Check StatementRules action_step alternative_step branch_step conditional_step statement_step x))
    (subst (λ names. StaysInside (alternative_step (map-Alternative Action Alternative Branch Conditional Statement StatementRules Check Check Check StatementRules action alternative branch conditional statement x)) names) (sym (fold-roll-Alternative Declared Declared Declared Declared Declared declares.action_step declares.alternative_step declares.branch_step declares.conditional_step declares.statement_step x))
    (subst LevelAlternative is (alternative-held y)))) (λ x y is.
    subst (λ said. StaysInside said (names_of_branch (roll-Branch x))) (sym (fold-roll-Branch StatementRules Check Check Check StatementRules action_step alternative_step branch_step conditional_step statement_step x))
    (subst (λ names. StaysInside (branch_step (map-Branch Action Alternative Branch Conditional Statement StatementRules Check Check Check StatementRules action alternative branch conditional statement x)) names) (sym (fold-roll-Branch Declared Declared Declared Declared Declared declares.action_step declares.alternative_step declares.branch_step declares.conditional_step declares.statement_step x))
    (subst LevelBranch is (branch-held y)))) (λ x y is.
    subst (λ said. StaysInside said (names_of_conditional (roll-Conditional x))) (sym (fold-roll-Conditional StatementRules Check Check Check StatementRules action_step alternative_step branch_step conditional_step statement_step x))
    (subst (λ names. StaysInside (conditional_step (map-Conditional Action Alternative Branch Conditional Statement StatementRules Check Check Check StatementRules action alternative branch conditional statement x)) names) (sym (fold-roll-Conditional Declared Declared Declared Declared Declared declares.action_step declares.alternative_step declares.branch_step declares.conditional_step declares.statement_step x))
    (subst LevelConditional is (conditional-held y)))) (λ x y is.
    subst (λ said. Stays said (names_of_statement (roll-Statement x))) (sym (fold-roll-Statement StatementRules Check Check Check StatementRules action_step alternative_step branch_step conditional_step statement_step x))
    (subst (λ names. Stays (statement_step (map-Statement Action Alternative Branch Conditional Statement StatementRules Check Check Check StatementRules action alternative branch conditional statement x)) names) (sym (fold-roll-Statement Declared Declared Declared Declared Declared declares.action_step declares.alternative_step declares.branch_step declares.conditional_step declares.statement_step x))
    (subst LevelStatement is (statement-held y))))

pub statement_stays_fine : (s : Statement) → StaysInside (statement s).broken (names_of_statement s)
statement_stays_fine s = (statement-stays s).fine

pub statement_stays_within : (s : Statement) (place : Place) (g : Scope) → IsWithin place.scope g → (statement s).broken place ≡ []
    → IsWithin ((statement s).scope_behind place.scope) ((statement s).scope_behind g)
statement_stays_within s = (statement-stays s).behind

pub statement-stays-further : (s : Statement) (place : Place) (g : Scope) → IsWithin place.scope g → (statement s).broken place ≡ [] → (others : Declared) → NoneIsFurther place.scope g others
    → NoneIsFurther ((statement s).scope_behind place.scope) ((statement s).scope_behind g) others
statement-stays-further s = (statement-stays s).further

pub statements_stay : (body : List Statement) → StaysInside (statements body) (names_of_statements body)
statements_stay [] place g may within none nothing = refl
statements_stay (s ∷ others) place g may within none nothing =
    let h : Scope = place.scope in
    let it : StatementRules = statement s in
    let rest : Declared = names_of_statements others in
    let first : it.broken place ≡ [] = nothing-first (it.broken place) (statements others (with_scope place (it.scope_behind h))) nothing in
    none-append (it.broken (with_scope place g)) (statements others (with_scope place (it.scope_behind g)))
    (statement_stays_fine s place g may within (further-first h g (names_of_statement s) rest none) first)
    (statements_stay others (with_scope place (it.scope_behind h)) (it.scope_behind g) may (statement_stays_within s place g within first)
    (statement-stays-further s place g within first rest (further-rest h g (names_of_statement s) rest none))
    (nothing-rest (it.broken place) (statements others (with_scope place (it.scope_behind h))) nothing))

-- ---- declarations alone

pub variables_stay : (vs : Variables) (s g : Scope) → IsWithin s g → NoneIsFurther s g (names_of_variables vs) → check_variables s vs ≡ [] → check_variables g vs ≡ []
variables_stay vs s g within none nothing = variables-fine s g within vs nothing none

pub constants_stay : (cs : Constants) (s g : Scope) → IsWithin s g → NoneIsFurther s g (names_of_constants cs) → check_constants s cs ≡ [] → check_constants g cs ≡ []
constants_stay cs s g within none nothing = constants-fine s g within cs nothing none

pub timers_stay : (timers : List Timer) (s g : Scope) → IsWithin s g → NoneIsFurther s g (names_of_timers timers) → check_timers s timers ≡ [] → check_timers g timers ≡ []
timers_stay timers s g within none nothing = timers-fine s g within timers none nothing

-- why no name that is declared may be a further one
pub name_twice : (names : Names) (name : List ℕ) (m : Meaning) → names name ≡ Some m → check_new_name names name ≡ rule.DuplicateName ∷ []
name_twice names name m is = ap (λ o. unless (is_none o) rule.DuplicateName) is
