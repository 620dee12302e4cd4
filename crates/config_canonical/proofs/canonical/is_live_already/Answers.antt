use Rattle.std.proofs.Common.{◌≡◌, Bool, true, false, true≢false, not, refl, ap, sym, ◌∙◌, List}
use Rattle.std.specs.List.{list_any}
use Rattle.config_canonical.proofs.Living.{going-bare}
use Rattle.config_canonical.specs.internal.Husks.{has_remains, is_dead}
use Rattle.config_parts.specs.declared.component.Component.{Component}
use Rattle.config_parts.specs.declared.connection.Connection.{Connection}
use Rattle.config_parts.specs.declared.connection.Links.{Links}
use Rattle.config_canonical.proofs.canonical.is_live_already.Goals as goal

is-false : (b : Bool) → not b ≡ true → b ≡ false
is-false true h = absurd (true≢false (sym h))
is-false false h = refl

pub returns : goal.returns
returns c = λ live.
    let going = c.args.going.now in
    let components = c.as_slice-components.result.now in
    let is = c.as_slice-components.ensures in
    let connections = c.as_slice.ensures ∙ ap (λ (links : Links). links.connections) c.deref.ensures in
    going-bare going
    (sym (ap (λ (xs : List Component). list_any has_remains xs) is) ∙ sym c.if-has_remains.ensures)
    (ap (λ (xs : List Component). list_any (is_dead xs) going.links.connections) (sym is)
    ∙ sym (ap (λ (ks : List Connection). list_any (is_dead components) ks) connections)
    ∙ sym c.has_dead.ensures ∙ is-false c.has_dead.result live)
