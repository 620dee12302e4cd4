use Rattle.std.proofs.Common.{arith, sym, ◌≡◌, ◌+◌, ◌-◌, ◌∙◌}
use Rattle.check_scope.specs.Names.{module_names}
use Rattle.graph_sites.proofs.MembersBehind.{port-found, port-passed}
use Rattle.graph_sites.proofs.ports.port_behind.Goals as goal

pub returns-then-declares : goal.returns-then-declares
returns-then-declares c =
    let some = c.loop-at-test.true in
    let most = c.loop-at.auto.at in
    let at = c.loop-at.at - 1 in
    let one : c.loop-at.at ≡ at + 1 = omega (arith, some) in
    port-found (module_names c.args.definitions.now) c.args.members.now at c.loop-at.at c.index-members-at.result c.args.name.now c.port_declared.result one (omega (arith, some, most))
    c.index-members-at.is (sym c.declares.ensures ∙ c.if-declares.true) c.loop-at.invariant c.port_declared.ensures

pub loop-at-preserved : goal.loop-at-preserved
loop-at-preserved c =
    let some = c.loop-at-test.true in
    let most = c.loop-at.auto.at in
    let at = c.loop-at.at - 1 in
    let one : c.loop-at.at ≡ at + 1 = omega (arith, some) in
    port-passed (module_names c.args.definitions.now) c.args.members.now at c.loop-at.at c.index-members-at.result c.args.name.now one (omega (arith, some, most))
    c.index-members-at.is (sym c.declares.ensures ∙ c.if-declares.false) c.loop-at.invariant
