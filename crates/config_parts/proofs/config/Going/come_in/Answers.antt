use Rattle.std.proofs.Common.{◌≡◌, List, ap, subst, sym, ◌∙◌}
use Rattle.config_parts.proofs.Delivered.{came-by, unsent}
use Rattle.config_parts.proofs.Within.{delivered-within}
use Rattle.config_parts.specs.Legend.{going_by}
use Rattle.config_parts.specs.Views.{AreAllWithin, AreWithin}
use Rattle.config_parts.specs.declared.component.Component.{Component}
use Rattle.config_parts.specs.declared.connection.Links.{Links}
use Rattle.config_parts.specs.internal.Done.{deliver}
use Rattle.config_parts.specs.internal.Mappings.{with_delivery}
use Rattle.config_parts.proofs.config.Going.come_in.Goals as goal

pub returns-clause-comes : goal.returns-clause-comes
returns-clause-comes c legend is ascend =
    let self = c.args.self.now in
    let components : c.from_vec.result ≡ deliver self.components c.args.end (unsent c.args.value) =
    (c.from_vec.ensures ∙ c.in_ok-deliver.ensures ∙ ap (λ cs. deliver cs c.args.end (unsent c.args.value)) (c.into_vec-components.ensures ∙ c.replace.ensures.value)) in
    let links : c.in_ok-self.field-0 ≡ with_delivery c.args.system_port self.links =
    (c.in_ok-self.ensures ∙ ap (with_delivery c.args.system_port) c.get.ensures) in
    (λ i. going_by legend (record { components = components i; links = links i; forgotten = self.forgotten }))
    ∙ came-by legend is self ascend c.args.system_port c.args.end c.args.value

pub returns-clause-within : goal.returns-clause-within
returns-clause-within c size all =
    let self = c.args.self.now in
    let components : c.from_vec.result ≡ deliver self.components c.args.end (unsent c.args.value) =
    (c.from_vec.ensures ∙ c.in_ok-deliver.ensures ∙ ap (λ cs. deliver cs c.args.end (unsent c.args.value)) (c.into_vec-components.ensures ∙ c.replace.ensures.value)) in
    let links : c.in_ok-self.field-0 ≡ with_delivery c.args.system_port self.links =
    (c.in_ok-self.ensures ∙ ap (with_delivery c.args.system_port) c.get.ensures) in
    record {
      components = subst (λ (cs : List Component). AreAllWithin size cs) (sym components) (delivered-within size c.args.end (unsent c.args.value) self.components all.components);
      mappings = subst (λ (l : Links). AreWithin size.names l.mappings) (sym links) all.mappings;
    }
