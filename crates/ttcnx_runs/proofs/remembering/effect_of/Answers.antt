use Rattle.std.proofs.Common.{ℕ, refl, subst}
use Rattle.std.specs.Prelude.{IfSome}
use Rattle.config_parts.proofs.Naming.{make_legend}
use Rattle.config_parts.specs.declared.config.Config.TheVariants as config
use Rattle.semantics.specs.Configurations as rules
use Rattle.ttcn_step.specs.Machines.{Machine, said}
use Rattle.ttcnx_runs.proofs.Making.{IsEnded, fit-ended, made-alone, made-ended, made-sending, told-of}
use Rattle.ttcnx_runs.proofs.remembering.effect_of.Goals as goal
use Rattle.ttcnx_runs.specs.internal.Makes.{EndsThere, IsAlone, IsHere, IsSent, LeadsTo}
use Rattle.ttcnx_runs.specs.declared.outcome.Sending.{Sending}
use Rattle.semantics.specs.Steps.{Label}
use Rattle.config_parts.specs.declared.component.Component.{Component}
use Rattle.config_parts.specs.declared.config.Config.{Config}
use Rattle.config_parts.specs.declared.config.Going.{Going}
use Rattle.ttcnx_runs.specs.Schemes.{IsMachine}

-- what the step of a label sends, wherever it is of the component at a place
abbrev IsSentAt : ℕ → Machine → Config → Label → Sending → Type 0
IsSentAt at machine configuration label sending = (going : Going) (component : Component) → IsHere machine configuration going at component label → IsSent machine going component label sending

pub returns-in-Some-2-clause-made : goal.returns-in-Some-2-clause-made
returns-in-Some-2-clause-made g c going component here =
    let machine = g.K.Scheme.machine in
    let is : IsMachine machine = subst IsMachine c.requires.is (record { lists = c.lists_and_names_differ.ensures.lists; names = c.lists_and_names_differ.ensures.names }) in
    let configuration = c.args.config.now in
    let label = c.args.step.now.label in
    let removed = told-of (IsAlone machine (said machine configuration) label) c.in_ok-removed.field-0 c.in-Some.removed c.in-Some.is
    (subst (λ (m : Machine). IfSome c.in_ok-removed.field-0 (IsAlone m (said m configuration) label)) c.requires.is c.in_ok-removed.ensures) in
    let behind = told-of _ c.in_ok-own.field-0 c.in-Some-2.own c.in-Some-2.is c.in_ok-own.ensures in
    made-alone machine (make_legend machine.lists machine.names is.names) configuration going c.args.at component label here (config.Going behind.0) behind.0 behind.1 refl behind.3
    (subst (λ (e : rules.Configuration). LeadsTo machine configuration label e) behind.2 c.requires.leads) c.in-Some.removed removed c.in-Some-2.own behind.4

pub returns-in-Some-2-clause-within : goal.returns-in-Some-2-clause-within
returns-in-Some-2-clause-within g c going component here h i d living found key =
    let behind = told-of _ c.in_ok-own.field-0 c.in-Some-2.own c.in-Some-2.is c.in_ok-own.ensures in
    behind.5

pub returns-in-Some-4-clause-made : goal.returns-in-Some-4-clause-made
returns-in-Some-4-clause-made g c going component here =
    let machine = g.K.Scheme.machine in
    let is : IsMachine machine = subst IsMachine c.requires.is (record { lists = c.lists_and_names_differ.ensures.lists; names = c.lists_and_names_differ.ensures.names }) in
    let configuration = c.args.config.now in
    let label = c.args.step.now.label in
    let sends : IsSent machine going component label c.in-Some-3.sending = told-of (IsSentAt c.args.at machine configuration label) c.in_ok-sending.field-0 c.in-Some-3.sending c.in-Some-3.is
    (subst (λ (m : Machine). IfSome c.in_ok-sending.field-0 (IsSentAt c.args.at m configuration label)) c.requires.is c.in_ok-sending.ensures) going component here in
    let behind = told-of _ c.in_ok-own-2.field-0 c.in-Some-4.own c.in-Some-4.is c.in_ok-own-2.ensures in
    made-sending machine (make_legend machine.lists machine.names is.names) configuration going c.args.at component label here (config.Going behind.0) behind.0 behind.1 refl behind.3
    (subst (λ (e : rules.Configuration). LeadsTo machine configuration label e) behind.2 c.requires.leads) c.in-Some-3.sending sends c.in-Some-4.own behind.4

pub returns-in-Some-4-clause-within : goal.returns-in-Some-4-clause-within
returns-in-Some-4-clause-within g c going component here h i d living found key =
    let behind = told-of _ c.in_ok-own-2.field-0 c.in-Some-4.own c.in-Some-4.is c.in_ok-own-2.ensures in
    behind.5

pub returns-in-Some-5-clause-made : goal.returns-in-Some-5-clause-made
returns-in-Some-5-clause-made g c going component here =
    let machine = g.K.Scheme.machine in
    let configuration = c.args.config.now in
    let label = c.args.step.now.label in
    let behind = told-of _ c.in_ok-behind.field-0 c.in-Some-5.behind c.in-Some-5.is c.in_ok-behind.ensures in
    let ends : EndsThere machine (said machine configuration) label = subst (λ (m : Machine). EndsThere m (said m configuration) label) c.requires.is (c.in_ok-ends_at.ensures c.if-branch.true) in
    let ended : IsEnded machine configuration going c.args.at component label behind.0 = record { here = here; ends = ends; leads = subst (λ (e : rules.Configuration). LeadsTo machine configuration label e) behind.2 c.requires.leads } in
    made-ended machine configuration going c.args.at component label behind.0 ended c.in-Some-5.behind behind.1

pub returns-in-Some-5-clause-within : goal.returns-in-Some-5-clause-within
returns-in-Some-5-clause-within g c going component here =
    let machine = g.K.Scheme.machine in
    let configuration = c.args.config.now in
    let label = c.args.step.now.label in
    let behind = told-of _ c.in_ok-behind.field-0 c.in-Some-5.behind c.in-Some-5.is c.in_ok-behind.ensures in
    let ends : EndsThere machine (said machine configuration) label = subst (λ (m : Machine). EndsThere m (said m configuration) label) c.requires.is (c.in_ok-ends_at.ensures c.if-branch.true) in
    let ended : IsEnded machine configuration going c.args.at component label behind.0 = record { here = here; ends = ends; leads = subst (λ (e : rules.Configuration). LeadsTo machine configuration label e) behind.2 c.requires.leads } in
    fit-ended machine configuration going c.args.at component label behind.0 ended c.in-Some-5.behind behind.1 behind.3
