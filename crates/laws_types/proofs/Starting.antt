-- Runs start so that all values are of their types.
use Rattle.std.proofs.Common.{◌≡◌, ℕ, true, List, [], ◌∷◌, Option, Some, None, IfSome, is_some, refl, subst}
use Rattle.std.specs.List.{zip}
use Rattle.std.proofs.lemmas.List.Elements.{All-cons, All-nil}
use Rattle.ttcn_syntax.specs.declared.tree.definition.Definition.{Definition}
use Rattle.ttcn_syntax.specs.declared.tree.definition.DefinitionKind.{DefinitionKind}
use Rattle.ttcn_syntax.specs.declared.tree.definition.DefinitionKind.TheVariants as kind
use Rattle.ttcn_syntax.specs.declared.tree.statement.Statement.{Statement}
use Rattle.ttcn_syntax.specs.declared.tree.statement.Verdict.TheVariants as verdict
use Rattle.check_rules.specs.Calls.{parameters_of}
use Rattle.check_scope.specs.Names.{kind_at}
use Rattle.check_rules.specs.Statements.{statements}
use Rattle.laws_evaluation.proofs.Only.{only-then}
use Rattle.laws_evaluation.specs.Types.{AreGiven}
use Rattle.laws_evaluation.specs.Uses.{GivesOnly}
use Rattle.laws_sites.proofs.Outside.{Begins, testcase-fine}
use Rattle.semantics.specs.Branches.{argument_values, with_arguments}
use Rattle.semantics.specs.Configurations.{Frame, Goes}
use Rattle.semantics.specs.Creating.{new_members}
use Rattle.semantics.specs.Items.{items}
use Rattle.semantics.specs.Runs.{body_frame, first_snapshot, mtc_with, started, testcase_body}
use Rattle.semantics.specs.Sites.{beginning, runs_on}
use Rattle.semantics.specs.Snapshots.{Test, mtc_of, type_said}
use Rattle.check_rules.specs.Rules.{AreWellTyped}
use Rattle.value_types.specs.Outcomes.{or_unmet, outcome_and_then}
use Rattle.laws_types.proofs.NewFrames.{body-nests, frame-begins}
use Rattle.laws_types.proofs.NewMembers.{new_members_fit}
use Rattle.laws_types.proofs.Rights.{component-fits}
use Rattle.laws_types.proofs.Stands.{only-mapped}
use Rattle.laws_types.specs.Fitting.{FitsMembers, FitsSite, RunsOn, view_of}
use Rattle.laws_types.specs.Typed.{FitsComponent, FitsFrame, FitsTypes}

module _ (test : Test) (well : AreWellTyped test.definitions) where
  abbrev ds : List Definition
  ds = test.definitions

  said : (of : Option ℕ) → IfSome of (λ at. type_said of ≡ at)
  said None = tt
  said (Some at) = refl

  runs : RunsOn ds test.testcase (mtc_of test).component_type
  runs = said (runs_on ds test.testcase)

  none-given : (k : Option DefinitionKind) → is_some (testcase_body k) ≡ true → AreGiven ds (parameters_of k) []
  none-given (Some (kind.Testcase t)) is = tt
  none-given _ is = absurd (let e = is in cc)

  mtc-fits : (body : List Statement) (members : Frame) → is_some (testcase_body (kind_at ds test.testcase)) ≡ true → Begins ds well test.testcase (statements body) → FitsMembers ds (mtc_of test).component_type (view_of members)
      → FitsComponent ds (mtc_with test body members)
  mtc-fits body members there fine fits =
      let new = component-fits test (mtc_of test) members fits in
      let frame : FitsFrame ds (mtc_of test).component_type test.testcase [] (body_frame test body) =
      let begun = frame-begins ds well (mtc_of test).component_type test.testcase [] (items ds (beginning test.testcase) body) runs (none-given (kind_at ds test.testcase) there) in
      record { on = begun.on; names = begun.names; seen = no-parameters (kind_at ds test.testcase) refl there begun.seen } in
      record {
        own = record { members = fits; calls = (test.testcase, [], frame, body-nests ds well test.testcase body fine, tt); defaults = new.own.defaults };
        running = λ is. tt;
        queues = new.queues;
      }
    where
      no-parameters : (k : Option DefinitionKind) → kind_at ds test.testcase ≡ k → is_some (testcase_body k) ≡ true
          → FitsSite ds (beginning test.testcase) (record { values = argument_values ds test.testcase []; timers = [] })
          → FitsSite ds (beginning test.testcase) (record { values = []; timers = [] })
      no-parameters (Some (kind.Testcase t)) e is seen =
          subst (λ k. FitsSite ds (beginning test.testcase)
          (record { values = with_arguments (zip (parameters_of k) []); timers = [] })) e seen
      no-parameters _ e is seen = absurd (let x = is in cc)

  started-fits : (body : List Statement) → is_some (testcase_body (kind_at ds test.testcase)) ≡ true → Begins ds well test.testcase (statements body) → GivesOnly (started test body) (FitsTypes test)
  started-fits body there fine =
      only-mapped (λ frame. FitsMembers ds (mtc_of test).component_type (view_of frame)) (FitsTypes test)
      (λ members. Goes (record { components = mtc_with test body members ∷ []; connections = []; mappings = []; delivered = []; forgotten = verdict.None })) (new_members test (mtc_of test) (first_snapshot test))
      (new_members_fit test (mtc_of test) (first_snapshot test) well)
      (λ members fits. All-cons (FitsComponent ds) (mtc_with test body members) [] (mtc-fits body members there fine fits) (All-nil (FitsComponent ds)))

  body-found : (o : Option (List Statement)) → is_some o ≡ true → IfSome o (λ block. Begins ds well test.testcase (statements block)) → GivesOnly (or_unmet o) (λ block. Begins ds well test.testcase (statements block))
  body-found (Some block) there fine = fine
  body-found None there fine = absurd (let e = there in cc)

pub start_fits : (test : Test) → AreWellTyped test.definitions → is_some (testcase_body (kind_at test.definitions test.testcase)) ≡ true
    → GivesOnly (outcome_and_then (started test) (or_unmet (testcase_body (kind_at test.definitions test.testcase)))) (FitsTypes test)
start_fits test well there =
    only-then (λ body. Begins test.definitions well test.testcase (statements body)) (FitsTypes test) (started test) (or_unmet (testcase_body (kind_at test.definitions test.testcase)))
    (body-found test well (testcase_body (kind_at test.definitions test.testcase)) there (testcase-fine test.definitions well test.testcase))
    (λ body fine. started-fits test well body there fine)
