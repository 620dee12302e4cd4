-- A statement that breaks no rule has parts that break none.
use Rattle.std.proofs.Common.{◌≡◌, ◌≢◌, Bool, true, false, IsTrue, List, [], ◌∷◌, ◌++◌, map, Option, option_map, Some, None, refl, sym, ap, ◌∙◌}
use Rattle.std.specs.List.{All, flat_map}
use Rattle.std.proofs.lemmas.List.Elements.{All-cons, All-nil}
use Rattle.ttcn_syntax.specs.declared.tree.expression.Expr.{Expr}
use Rattle.ttcn_syntax.specs.declared.tree.statement.Action.{Action, fold_out-Action, out-Action}
use Rattle.ttcn_syntax.specs.declared.tree.statement.Action.TheFolds.{map-Action, map-Alternative}
use Rattle.ttcn_syntax.specs.declared.tree.statement.Action.TheOpen.{Action-F, Alternative-F}
use Rattle.ttcn_syntax.specs.declared.tree.statement.Alternative.{Alternative, fold_out-Alternative, out-Alternative}
use Rattle.ttcn_syntax.specs.declared.tree.statement.Branch.{Branch, out-Branch}
use Rattle.ttcn_syntax.specs.declared.tree.statement.Conditional.{Conditional, fold_out-Conditional, out-Conditional}
use Rattle.ttcn_syntax.specs.declared.tree.statement.ForStart.{ForStart}
use Rattle.ttcn_syntax.specs.declared.tree.statement.ForStart.TheVariants as for_start
use Rattle.ttcn_syntax.specs.declared.tree.statement.Statement.{Statement, out-Statement}
use Rattle.check_rules.specs.Calls.{check_call, is_altstep}
use Rattle.check_rules.specs.Expressions.{expression}
use Rattle.check_rules.specs.Targets.{check_assignment}
use Rattle.check_scope.specs.Names.{Scope}
use Rattle.check_scope.specs.Typings.{same_type, unless}
use Rattle.check_scope.specs.declared.rule.Rule.{Rule}
use Rattle.check_scope.specs.declared.rule.Rule.TheVariants as rule
use Rattle.check_scope.specs.declared.types.DataType.{DataType}
use Rattle.check_scope.specs.declared.types.DataType.TheVariants as type
use Rattle.check_scope.specs.declared.types.Typing.{Typing}
use Rattle.check_scope.specs.declared.types.Typing.TheVariants as typing
use Rattle.check_rules.proofs.StatementForms.{branch-out, statement-out}
use Rattle.check_rules.specs.Messages.{check_event}
use Rattle.check_rules.specs.Statements.{Check, Place, StatementRules, action, action_step, alternative, alternative_step, check_boolean, check_condition, check_for_start, check_guard, behind_for_start, branch, branch_step, conditional, conditional_step, check_block_if_any, inside_branch, statement, statement_step, statements, with_scope}
use Rattle.laws_checker.proofs.Nothing.{kept, nothing-first, nothing-rest}
use Rattle.laws_checker.proofs.Typed.{expression_typed}
use Rattle.laws_checker.proofs.Whole.{variables-whole}
use Rattle.laws_checker.specs.Laws.{IsWhole}
use Rattle.laws_statements.specs.Parts.{HasFineAlternative, HasFineParts, IsCondition, IsFineBranch, IsFineConditional, IsFineIfAny, IsGuard}

-- ---- conditions

is-boolean : (t : DataType) → same_type type.Boolean t ≡ true → t ≡ type.Boolean
is-boolean type.Boolean is = refl
is-boolean type.Integer is = absurd (let e = is in cc)
is-boolean type.Default is = absurd (let e = is in cc)
is-boolean (type.Record at) is = absurd (let e = is in cc)
is-boolean (type.Enumerated at) is = absurd (let e = is in cc)
is-boolean (type.Component at) is = absurd (let e = is in cc)

typed-boolean : (t : Typing) → t ≢ typing.Unknown → check_boolean t ≡ [] → t ≡ typing.Known type.Boolean
typed-boolean (typing.Known t) known nothing = ap typing.Known (is-boolean t (kept (same_type type.Boolean t) rule.Condition nothing))
typed-boolean typing.Null known nothing = absurd (let e = nothing in cc)
typed-boolean typing.AnyComponent known nothing = absurd (let e = nothing in cc)
typed-boolean typing.NoValue known nothing = absurd (let e = nothing in cc)
typed-boolean typing.Unknown known nothing = absurd (known refl)

pub condition_fine : (scope : Scope) → IsWhole scope → (e : Expr) → check_condition scope e ≡ [] → IsCondition scope e
condition_fine scope whole e nothing =
    let judged = expression e scope false in
    let fine : judged.broken ≡ [] = nothing-first judged.broken (check_boolean judged.typing) nothing in
    record {
      fine = fine;
      boolean = typed-boolean judged.typing (expression_typed e scope false whole fine) (nothing-rest judged.broken (check_boolean judged.typing) nothing);
    }

guard-fine : (scope : Scope) → IsWhole scope → (guard : Option Expr) → check_guard scope guard ≡ [] → IsGuard scope guard
guard-fine scope whole None nothing = tt
guard-fine scope whole (Some e) nothing = condition_fine scope whole e nothing

-- ---- blocks

block-fine : (place : Place) (block : Option (List Statement)) → check_block_if_any (option_map (map statement) block) place ≡ [] → IsFineIfAny place block
block-fine place None nothing = tt
block-fine place (Some block) nothing = nothing

-- of several, each
each-fine : {A : Type 0} (said : A → Check) (place : Place) (P : A → Type 0) → ((item : A) → said item place ≡ [] → P item) → (items : List A)
    → flat_map (λ broken. broken place) (map said items) ≡ [] → All P items
each-fine said place P fine [] nothing = All-nil P
each-fine said place P fine (item ∷ items) nothing =
    let others = flat_map (λ broken. broken place) (map said items) in
    All-cons P item items (fine item (nothing-first (said item place) others nothing))
    (each-fine said place P fine items (nothing-rest (said item place) others nothing))

conditional-fine : (place : Place) → IsWhole place.scope → (c : Conditional) → conditional c place ≡ [] → IsFineConditional place c
conditional-fine place whole c nothing =
    let it = out-Conditional c in
    let said : check_condition place.scope it.condition ++ statements it.block place ≡ [] =
    ap (λ (f : Check). f place) (sym (fold_out-Conditional StatementRules Check Check Check StatementRules action_step alternative_step branch_step conditional_step statement_step c)) ∙ nothing in
    record {
      condition = condition_fine place.scope whole it.condition (nothing-first (check_condition place.scope it.condition) (statements it.block place) said);
      block = nothing-rest (check_condition place.scope it.condition) (statements it.block place) said;
    }

-- ---- branches

guarded-fine : (place : Place) → IsWhole place.scope → (guard : Option Expr) (what : List Rule) (block : Option (List Statement))
    → (check_guard place.scope guard ++ what) ++ check_block_if_any (option_map (map statement) block) (inside_branch place) ≡ []
    → IsGuard place.scope guard × (what ≡ []) × IsFineIfAny (inside_branch place) block
guarded-fine place whole guard what block nothing =
    let inside = check_block_if_any (option_map (map statement) block) (inside_branch place) in
    let head = nothing-first (check_guard place.scope guard ++ what) inside nothing in (
      guard-fine place.scope whole guard (nothing-first (check_guard place.scope guard) what head),
      nothing-rest (check_guard place.scope guard) what head,
      block-fine (inside_branch place) block (nothing-rest (check_guard place.scope guard ++ what) inside nothing),
    )

form-fine : (place : Place) → IsWhole place.scope → (x : Alternative-F Action Alternative Branch Conditional Statement)
    → alternative_step (map-Alternative Action Alternative Branch Conditional Statement StatementRules Check Check Check StatementRules action alternative branch conditional statement x) place ≡ []
    → HasFineAlternative place x
form-fine place whole (Alternative-F.«Alternative::Event» guard event None) nothing = guarded-fine place whole guard (check_event place.scope event) None nothing
form-fine place whole (Alternative-F.«Alternative::Event» guard event (Some block)) nothing = guarded-fine place whole guard (check_event place.scope event) (Some block) nothing
form-fine place whole (Alternative-F.«Alternative::Call» guard call None) nothing = guarded-fine place whole guard (check_call place.scope is_altstep call) None nothing
form-fine place whole (Alternative-F.«Alternative::Call» guard call (Some block)) nothing = guarded-fine place whole guard (check_call place.scope is_altstep call) (Some block) nothing
form-fine place whole (Alternative-F.Else block) nothing = nothing

pub branch_fine : (b : Branch) (place : Place) → IsWhole place.scope → branch b place ≡ [] → IsFineBranch place b
branch_fine b place whole nothing =
    let it = (out-Branch b).alternative in
    form-fine place whole (out-Alternative it)
    (ap (λ (f : Check). f place) (sym (branch-out b ∙ fold_out-Alternative StatementRules Check Check Check StatementRules action_step alternative_step branch_step conditional_step statement_step it)) ∙ nothing)

-- ---- statements

start-whole : (scope : Scope) (start : ForStart) → check_for_start scope start ≡ [] → IsWhole scope → IsWhole (behind_for_start scope start)
start-whole scope (for_start.Variables vs) nothing whole = variables-whole scope vs nothing whole
start-whole scope (for_start.Assign assignment) nothing whole = whole

chain-fine : (place : Place) → IsWhole place.scope → (conditionals : List Conditional) (last : Option (List Statement))
    → flat_map (λ broken. broken place) (map conditional conditionals) ++ check_block_if_any (option_map (map statement) last) place ≡ []
    → All (IsFineConditional place) conditionals × IsFineIfAny place last
chain-fine place whole conditionals last nothing =
    let conditions = flat_map (λ broken. broken place) (map conditional conditionals) in
    let block = check_block_if_any (option_map (map statement) last) place in (
      each-fine conditional place (IsFineConditional place) (λ c fine. conditional-fine place whole c fine) conditionals (nothing-first conditions block nothing),
      block-fine place last (nothing-rest conditions block nothing),
    )

inside-fine : (inside : Bool) → unless inside rule.RepeatPlace ≡ [] → IsTrue inside
inside-fine true nothing = refl
inside-fine false nothing = cc

parts-fine : (place : Place) → IsWhole place.scope → (x : Action-F Action Alternative Branch Conditional Statement)
    → (action_step (map-Action Action Alternative Branch Conditional Statement StatementRules Check Check Check StatementRules action alternative branch conditional statement x)).broken place ≡ []
    → HasFineParts place x
parts-fine place whole (Action-F.Variables vs) nothing = nothing
parts-fine place whole (Action-F.Constants cs) nothing = nothing
parts-fine place whole (Action-F.Timers timers) nothing = nothing
parts-fine place whole (Action-F.Assign assignment) nothing = nothing
parts-fine place whole (Action-F.«Action::Call» call) nothing = nothing
parts-fine place whole (Action-F.«Action::Event» event) nothing = nothing
parts-fine place whole (Action-F.Alt branches) nothing = each-fine branch place (IsFineBranch place) (λ b fine. branch_fine b place whole fine) branches nothing
parts-fine place whole Action-F.Repeat nothing = inside-fine place.in_branch nothing
parts-fine place whole (Action-F.If conditionals None) nothing = chain-fine place whole conditionals None nothing
parts-fine place whole (Action-F.If conditionals (Some last)) nothing = chain-fine place whole conditionals (Some last) nothing
parts-fine place whole (Action-F.While condition block) nothing = (
  condition_fine place.scope whole condition (nothing-first (check_condition place.scope condition) (statements block place) nothing),
  nothing-rest (check_condition place.scope condition) (statements block place) nothing,
)
parts-fine place whole (Action-F.DoWhile block condition) nothing = (
  nothing-first (statements block place) (check_condition place.scope condition) nothing,
  condition_fine place.scope whole condition (nothing-rest (statements block place) (check_condition place.scope condition) nothing),
)
parts-fine place whole (Action-F.For start condition step block) nothing =
    let behind = behind_for_start place.scope start in
    let inside = with_scope place behind in
    let first = check_for_start place.scope start in
    let tests = check_condition behind condition in
    let steps = check_assignment behind step in
    let head = nothing-first (first ++ tests ++ steps) (statements block inside) nothing in
    let begins = nothing-first first tests (nothing-first (first ++ tests) steps head) in (
      begins,
      condition_fine behind (start-whole place.scope start begins whole) condition (nothing-rest first tests (nothing-first (first ++ tests) steps head)),
      nothing-rest (first ++ tests) steps head,
      nothing-rest (first ++ tests ++ steps) (statements block inside) nothing,
    )
parts-fine place whole (Action-F.Return v) nothing = nothing
parts-fine place whole Action-F.Stop nothing = tt
parts-fine place whole (Action-F.Log items) nothing = nothing
parts-fine place whole (Action-F.Setverdict verdict reasons) nothing = nothing
parts-fine place whole (Action-F.Connect one other) nothing = nothing
parts-fine place whole (Action-F.Map mapping) nothing = nothing
parts-fine place whole (Action-F.Send send) nothing = nothing
parts-fine place whole (Action-F.StartComponent reference call) nothing = nothing
parts-fine place whole (Action-F.StartTimer timer) nothing = nothing
parts-fine place whole (Action-F.StopOf reference) nothing = nothing
parts-fine place whole (Action-F.Activate call) nothing = nothing
parts-fine place whole (Action-F.Deactivate reference) nothing = nothing

pub statement_fine : (s : Statement) (place : Place) → IsWhole place.scope → (statement s).broken place ≡ [] → HasFineParts place (out-Action (out-Statement s).action)
statement_fine s place whole nothing =
    let it = (out-Statement s).action in
    parts-fine place whole (out-Action it)
    (ap (λ (f : StatementRules). f.broken place) (sym (statement-out s ∙ fold_out-Action StatementRules Check Check Check StatementRules action_step alternative_step branch_step conditional_step statement_step it)) ∙ nothing)
