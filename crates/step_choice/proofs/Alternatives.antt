-- Branches by what stands in them.
use Rattle.std.proofs.Common.{◌≡◌, ℕ, List, [], ◌∷◌, Option, Some, None, Result, sym, ap, subst, ◌∙◌}
use Rattle.ttcn_syntax.specs.declared.tree.expression.Expr.{Expr}
use Rattle.ttcn_syntax.specs.declared.tree.statement.Action.{Action}
use Rattle.ttcn_syntax.specs.declared.tree.statement.Action.TheOpen.{Alternative-F}
use Rattle.ttcn_syntax.specs.declared.tree.statement.Alternative.{Alternative, out-Alternative, out-roll-Alternative}
use Rattle.ttcn_syntax.specs.declared.tree.statement.Alternative.TheVariants as alternative_form
use Rattle.ttcn_syntax.specs.declared.tree.statement.Branch.{Branch, out-Branch}
use Rattle.ttcn_syntax.specs.declared.tree.statement.Conditional.{Conditional}
use Rattle.ttcn_syntax.specs.declared.tree.statement.Event.{Event}
use Rattle.ttcn_syntax.specs.declared.tree.statement.Statement.{Statement}
use Rattle.ttcn_syntax.specs.declared.tree.value.Call.{Call}
use Rattle.check_rules.specs.Calls.{altstep_meant}
use Rattle.check_scope.specs.Names.{module_names}
use Rattle.semantics.specs.Branches.{behind_guard, guard_holds, open_branch, written_alternative, written_call}
use Rattle.semantics.specs.Items.{items, items_if_any}
use Rattle.semantics.specs.Sites.{Site}
use Rattle.step_choice.proofs.Choosing.{first_of_branch}
use Rattle.step_choice.specs.Choices.{Finds}
use Rattle.step_choice.specs.declared.taken.Taken.{Taken}
use Rattle.step_choice.specs.internal.Judged.{Is, below, first_of, judge_of, reads, test_of}
use Rattle.step_snapshot.specs.Seen.{own_by, seen_by}
use Rattle.step_snapshot.specs.declared.snapshot.Snapshot.{Snapshot}
use Rattle.config_parts.specs.declared.frame.Cells.{Cells}
use Rattle.graph_sites.specs.Facts.{EventFacts, alternative_facts, branch_facts, event_facts}
use Rattle.ttcn_graph.specs.Ways.{items_of_alternative, items_of_branch}
use Rattle.value_types.specs.declared.fault.Fault.{Fault}

-- a branch has this alternative
abbrev pub Has : Branch → Alternative → Type 0
Has b alternative = (out-Branch b).alternative ≡ alternative

has-Event : (b : Branch) (guard : Option Expr) (event : Event) (block : Option (List Statement)) → Has b (alternative_form.Event guard event block) → out-Alternative (out-Branch b).alternative ≡ Alternative-F.«Alternative::Event» guard event block
has-Event b guard event block is = ap out-Alternative (is ∙ sym (alternative_form.rolls-Event guard event block)) ∙ out-roll-Alternative (Alternative-F.«Alternative::Event» guard event block)

has-Call : (b : Branch) (guard : Option Expr) (call : Call) (block : Option (List Statement)) → Has b (alternative_form.Call guard call block) → out-Alternative (out-Branch b).alternative ≡ Alternative-F.«Alternative::Call» guard call block
has-Call b guard call block is = ap out-Alternative (is ∙ sym (alternative_form.rolls-Call guard call block)) ∙ out-roll-Alternative (Alternative-F.«Alternative::Call» guard call block)

has-Else : (b : Branch) (block : List Statement) → Has b (alternative_form.Else block) → out-Alternative (out-Branch b).alternative ≡ Alternative-F.Else block
has-Else b block is = ap out-Alternative (is ∙ sym (alternative_form.rolls-Else block)) ∙ out-roll-Alternative (Alternative-F.Else block)

-- what is found of an alternative is found of its branch
of-alternative : (s : Snapshot) (levels way : ℕ) (site : Site) (inner : Cells) (b : Branch) (alternative : Alternative-F Action Alternative Branch Conditional Statement) (result : Result (Option Taken) Fault)
    → out-Alternative (out-Branch b).alternative ≡ alternative
    → Finds s (Is way (items_of_alternative (test_of s).definitions site alternative)) (first_of s (written_alternative (below levels s) (test_of s) (seen_by s) (own_by s) (judge_of s site inner) (out-Branch b).place alternative)) result
    → Finds s (Is way (items_of_branch (test_of s).definitions site b)) (first_of_branch s levels site inner b) result
of-alternative s levels way site inner b alternative result is found =
    let P : Alternative-F Action Alternative Branch Conditional Statement → Type 0 = λ a. Finds s (Is way (items_of_alternative (test_of s).definitions site a)) (first_of s (written_alternative (below levels s) (test_of s) (seen_by s) (own_by s) (judge_of s site inner) (out-Branch b).place a)) result in
    subst P (sym is) found

pub of-event : (s : Snapshot) (levels way : ℕ) (site : Site) (inner : Cells) (b : Branch) (guard : Option Expr) (event : Event) (block : Option (List Statement)) (result : Result (Option Taken) Fault)
    → Has b (alternative_form.Event guard event block)
    → Finds s (Is way (items_if_any (test_of s).definitions site block)) (first_of s (behind_guard (guard_holds (reads s site inner) guard) (open_branch (test_of s) (judge_of s site inner) (out-Branch b).place (Some event) (items_if_any (test_of s).definitions site block) ∷ []))) result
    → Finds s (Is way (items_of_branch (test_of s).definitions site b)) (first_of_branch s levels site inner b) result
of-event s levels way site inner b guard event block result is found =
    of-alternative s levels way site inner b (Alternative-F.«Alternative::Event» guard event block) result (has-Event b guard event block is) found

pub of-call : (s : Snapshot) (levels way : ℕ) (site : Site) (inner : Cells) (b : Branch) (guard : Option Expr) (call : Call) (block : Option (List Statement)) (result : Result (Option Taken) Fault)
    → Has b (alternative_form.Call guard call block)
    → Finds s (Is way (items_if_any (test_of s).definitions site block)) (first_of s (behind_guard (guard_holds (reads s site inner) guard) (written_call (below levels s) (test_of s) (seen_by s) (own_by s) (judge_of s site inner) call (items_if_any (test_of s).definitions site block) (altstep_meant (module_names (test_of s).definitions call.name))))) result
    → Finds s (Is way (items_of_branch (test_of s).definitions site b)) (first_of_branch s levels site inner b) result
of-call s levels way site inner b guard call block result is found =
    of-alternative s levels way site inner b (Alternative-F.«Alternative::Call» guard call block) result (has-Call b guard call block is) found

pub of-else : (s : Snapshot) (levels way : ℕ) (site : Site) (inner : Cells) (b : Branch) (block : List Statement) (result : Result (Option Taken) Fault)
    → Has b (alternative_form.Else block)
    → Finds s (Is way (items (test_of s).definitions site block)) (first_of s (open_branch (test_of s) (judge_of s site inner) (out-Branch b).place None (items (test_of s).definitions site block) ∷ [])) result
    → Finds s (Is way (items_of_branch (test_of s).definitions site b)) (first_of_branch s levels site inner b) result
of-else s levels way site inner b block result is found =
    of-alternative s levels way site inner b (Alternative-F.Else block) result (has-Else b block is) found

-- what is known of a branch is known of its event
pub facts-of-event : (s : Snapshot) (site : Site) (b : Branch) (guard : Option Expr) (event : Event) (block : Option (List Statement)) (facts : EventFacts)
    → Has b (alternative_form.Event guard event block) → facts ≡ branch_facts (test_of s).definitions site b → facts ≡ event_facts (test_of s).definitions site event
facts-of-event s site b guard event block facts is same = same ∙ ap (alternative_facts (test_of s).definitions site) (has-Event b guard event block is)
