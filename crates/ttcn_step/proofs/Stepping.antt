-- What single steps answer.
use Rattle.std.proofs.Common.{◌≡◌, Option, Some, None, Result, Ok, Err, IfOk, option_map, sym, ap, subst, ◌∙◌}
use Rattle.ttcn_syntax.specs.declared.tree.statement.Verdict.TheVariants as verdict
use Rattle.semantics.specs.Configurations as rules
use Rattle.semantics.specs.Snapshots.{Test}
use Rattle.semantics.specs.Steps.{Label, Statement, apply, settled, statement_step, step_in}
use Rattle.config_parts.specs.Acts.{Leads, act_by}
use Rattle.config_parts.specs.Legend.{Legend, component_by, config_by, going_by}
use Rattle.config_parts.specs.declared.act.Act.{Act as Kept}
use Rattle.config_parts.specs.declared.component.Component.{Component}
use Rattle.config_parts.specs.declared.config.Config.{Config}
use Rattle.config_parts.specs.declared.config.Going.{Going}
use Rattle.ttcn_step.proofs.Found.{Searched, found-step, missing-step}
use Rattle.ttcn_step.proofs.Steps.{behind-failure}
use Rattle.step_arrivals.specs.Behind.{IsBehind}
use Rattle.value_types.specs.Outcomes.{Outcome, Yields}
use Rattle.value_types.specs.declared.fault.Fault.{Fault}
use Rattle.value_types.specs.declared.fault.Fault.TheVariants.{Dynamic}
use Rattle.value_types.specs.declared.path.Path.{Path}
use Rattle.value_types.specs.declared.value.ComponentId.{ComponentId}

-- ---- results

pub ok-more : {A E : Type 0} (P Q : A → Type 0) (r : Result A E) → ((a : A) → P a → Q a) → IfOk r P → IfOk r Q
ok-more P Q (Ok a) more is = more a is
ok-more P Q (Err e) more is = tt

pub ok-both : {A E : Type 0} (P Q R : A → Type 0) (r : Result A E) → ((a : A) → P a → Q a → R a) → IfOk r P → IfOk r Q → IfOk r R
ok-both P Q R (Ok a) more is also = more a is also
ok-both P Q R (Err e) more is also = tt

-- ---- what is asked for is done, in a copy

module _ (legend : Legend) (test : Test) (copy going : Going) (same : copy ≡ going) where
  abbrev Done : Going → ComponentId → Kept → Option (Outcome rules.Configuration)
  Done g itself a = apply test (going_by legend g) itself (act_by legend a)

  pub copy-behind : (itself : ComponentId) (a : Kept) (after : Config) → Done copy itself a ≡ Some (Yields (config_by legend after)) → IsBehind legend (Done going itself a) (Some after)
  copy-behind itself a after leads = sym (ap (λ g. option_map settled (Done g itself a)) (sym same) ∙ ap (option_map settled) leads)

  pub copy-fails : (itself : ComponentId) (a : Kept) (fault : Fault) → fault ≡ Dynamic → Leads legend (Done copy itself a) (Err fault) → Some (rules.Ended verdict.Error) ≡ option_map settled (Done going itself a)
  copy-fails itself a fault is leads =
      sym (ap (λ g. option_map settled (Done g itself a)) (sym same) ∙ behind-failure legend (Done copy itself a) (subst (λ why. Leads legend (Done copy itself a) (Err why)) is leads))

-- ---- labels

module _ (legend : Legend) (test : Test) (going : Going) (label : Label) where
  abbrev pub Stepped : Option Config → Type 0
  Stepped after = IsBehind legend (step_in test (going_by legend going) label) after

  pub behind-missing : (path : Path) → label ≡ Statement path → Searched path.numbers going.components ≡ None → Stepped None
  behind-missing path is none = sym (ap (option_map settled) (ap (step_in test (going_by legend going)) is ∙ missing-step legend test going path none))

  pub behind-statement : (path : Path) (x : Component) → label ≡ Statement path → Searched path.numbers going.components ≡ Some x → (after : Option Config)
      → IsBehind legend (statement_step test (going_by legend going) (component_by legend x)) after → Stepped after
  behind-statement path x is found after behind =
      behind ∙ sym (ap (option_map settled) (ap (step_in test (going_by legend going)) is ∙ found-step legend test going path x found))

  pub behind-same : (other : Label) → label ≡ other → (after : Option Config) → IsBehind legend (step_in test (going_by legend going) other) after → Stepped after
  behind-same other is after behind = behind ∙ ap (λ k. option_map settled (step_in test (going_by legend going) k)) (sym is)
