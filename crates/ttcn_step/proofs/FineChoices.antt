-- What was asked for when a snapshot was taken is done, and the timers that expired since expire behind it.
use Rattle.std.proofs.Common.{◌≡◌, List, Option, Some, None, option_map, refl, sym, ap, ◌∙◌}
use Rattle.ttcn_syntax.specs.declared.tree.statement.Verdict.TheVariants as verdict
use Rattle.laws_fine.specs.Fates.{Faults, Lapses, Takes, fate_of}
use Rattle.laws_fine.specs.Holding.{act_of, act_then, follow}
use Rattle.step_forms.specs.Asks.{IsFault, uncovered_act}
use Rattle.semantics.specs.Configurations as rules
use Rattle.semantics.specs.Snapshots.{Test}
use Rattle.semantics.specs.Statements.{Act, Errs, Requests, Waits}
use Rattle.semantics.specs.Steps.{Label, apply, settled}
use Rattle.config_parts.specs.Acts.{act_by}
use Rattle.config_parts.specs.Legend.{Legend, component_by, config_by, going_by}
use Rattle.config_parts.specs.declared.act.Act.{Act as Kept}
use Rattle.config_parts.specs.declared.component.Component.{Component}
use Rattle.config_parts.specs.declared.config.Config.{Config}
use Rattle.ttcn_step.proofs.FineSteps.{follow-ended}
use Rattle.ttcn_step.proofs.Found.{Searched, said-found}
use Rattle.ttcn_step.proofs.Steps.{apply-uncovered}
use Rattle.ttcn_step.specs.declared.fine.Stored.{Stored}
use Rattle.ttcn_step.specs.internal.Fine.{held_by}
use Rattle.step_arrivals.specs.Behind.{IsBehind}
use Rattle.value_types.specs.declared.value.ComponentId.{ComponentId}

-- ---- fates

pub uncovered-fate : (a : Act) → fate_of (uncovered_act a) ≡ fate_of a
uncovered-fate Waits = refl
uncovered-fate (Errs why) = refl
uncovered-fate (Requests request own) = refl

kept-fate : (l : Legend) (a : Kept) → Takes ≡ fate_of (act_by l a)
kept-fate l a = refl

-- ---- what is answered

module _ (test : Test) (c : rules.Going) (itself : ComponentId) (since : List Label) (a : Act) where
  abbrev pub Chosen : Option rules.Configuration
  Chosen = option_map (follow test since) (option_map settled (apply test c itself a))

  pub waits-chosen : uncovered_act a ≡ Waits → None ≡ Chosen
  waits-chosen is = sym (ap (λ o. option_map (follow test since) (option_map settled o)) (sym (apply-uncovered test c itself a) ∙ ap (apply test c itself) is))

  pub waits-fate : uncovered_act a ≡ Waits → Lapses ≡ fate_of a
  waits-fate is = sym (sym (uncovered-fate a) ∙ ap fate_of is)

  pub takes-chosen : (l : Legend) (asked : Kept) (after end : Config) → uncovered_act a ≡ act_by l asked → IsBehind l (apply test c itself (act_by l asked)) (Some after)
      → config_by l end ≡ follow test since (config_by l after) → Some (config_by l end) ≡ Chosen
  takes-chosen l asked after end is behind follows =
      ap Some follows
      ∙ ap (option_map (follow test since)) (behind ∙ ap (λ b. option_map settled (apply test c itself b)) (sym is) ∙ ap (option_map settled) (apply-uncovered test c itself a))

  pub takes-fate : (l : Legend) (asked : Kept) → uncovered_act a ≡ act_by l asked → Takes ≡ fate_of a
  takes-fate l asked is = kept-fate l asked ∙ ap fate_of (sym is) ∙ uncovered-fate a

fault-ends : (test : Test) (c : rules.Going) (itself : ComponentId) (a : Act) → IsFault (uncovered_act a) → option_map settled (apply test c itself a) ≡ Some (rules.Ended verdict.Error)
fault-ends test c itself Waits is = absurd is
fault-ends test c itself (Errs why) is = refl
fault-ends test c itself (Requests request own) is = absurd is

pub fault-chosen : (test : Test) (c : rules.Going) (itself : ComponentId) (since : List Label) (a : Act) → IsFault (uncovered_act a) → Some (rules.Ended verdict.Error) ≡ Chosen test c itself since a
fault-chosen test c itself since a is = sym (ap (option_map (follow test since)) (fault-ends test c itself a is) ∙ ap Some (follow-ended test since verdict.Error))

pub fault-fate : (a : Act) → IsFault (uncovered_act a) → Faults ≡ fate_of a
fault-fate Waits is = absurd is
fault-fate (Errs why) is = refl
fault-fate (Requests request own) is = absurd is

-- ---- what was asked for

pub then-found : (l : Legend) (test : Test) (entry : Stored) (o : Option Component) → Searched entry.path.numbers entry.taken.components ≡ o
    → act_then test (held_by l entry) ≡ act_of test (going_by l entry.taken) (option_map (component_by l) o)
then-found l test entry o found = ap (act_of test (going_by l entry.taken)) (said-found l test entry.taken entry.path o found)
