use Rattle.std.proofs.Common.{◌≡◌, ◌<◌, List, length, subst, sym}
use Rattle.std.specs.Prelude.{IfOk}
use Rattle.search_ordinals.specs.OrdinalLaws.{contains_from_nth, label_of, led_there, nth_below}
use Rattle.search_ordinals.specs.Told.{IsNth}
use Rattle.search_ordinals.proofs.system.OrdinalSystemSystem.next.Goals as goal

pub nth_of-label-requires : goal.nth_of-label-requires
nth_of-label-requires g c =
    let system = c.args.self.now.system.now in
    let enabled = (g.Y.System.graph system).enabled c.args.state.now in
    let found = label_of (g.Y.Located.branch system c.args.state.now) enabled c.args.ordinal.now c.requires.enabled in
    subst (λ (labels : List _). c.args.ordinal.now.nth < length labels) (sym c.in_ok-labels.ensures) (nth_below enabled c.args.ordinal.now.nth found.0 found.1)

pub next-requires-clause-enabled : goal.next-requires-clause-enabled
next-requires-clause-enabled g c =
    let enabled = (g.Y.System.graph c.args.self.now.system.now).enabled c.args.state.now in
    contains_from_nth enabled c.args.ordinal.now.nth c.nth_of-label.result
    (subst (λ (labels : List _). IsNth labels c.args.ordinal.now.nth c.nth_of-label.result) c.in_ok-labels.ensures c.nth_of-label.ensures)

pub returns : goal.returns
returns g c =
    let system = c.args.self.now.system.now in
    let enabled = (g.Y.System.graph system).enabled c.args.state.now in
    subst (λ (to : _). IfOk c.next.result (λ after. after ≡ to))
    (sym (led_there (g.Y.Located.branch system) (g.Y.System.graph system) c.args.state.now enabled c.args.ordinal.now.nth c.nth_of-label.result
    (subst (λ (labels : List _). IsNth labels c.args.ordinal.now.nth c.nth_of-label.result) c.in_ok-labels.ensures c.nth_of-label.ensures)))
    c.next.ensures
