use Rattle.check_scope.proofs.scope.ports.traffic_of.Goals as goal

pub returns-in_ok-traffic-in-Port : goal.returns-in_ok-traffic-in-Port
returns-in_ok-traffic-in-Port c = rw c.in-Port.is (rw c.as_slice.ensures at c.in_ok-traffic-in-Port.ensures)
