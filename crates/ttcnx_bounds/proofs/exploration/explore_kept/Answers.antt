use Rattle.std.proofs.Common.{ap, subst, sym}
use Rattle.std.specs.Prelude.{Err, Ok}
use denote.Param.Send.{sendable}
use Rattle.std.proofs.Crossing.{crosses}
use Rattle.ttcnx_bounds.proofs.Assembly.{found-explored, refused-explored}
use Rattle.ttcnx_bounds.proofs.exploration.explore_kept.Goals as goal
use Rattle.ttcnx_bounds.specs.internal.BoundedExplored.{IsExploredBounded}
use Rattle.ttcnx_runs.proofs.crossing.States.{state-send, state-sync}
use Rattle.ttcnx_runs.proofs.crossing.Systems.{runs-row-sync}
use Rattle.ttcnx_runs.specs.declared.exploration.Extent.{Extent}

pub search_within-requires-send-Y-State : goal.search_within-requires-send-Y-State
search_within-requires-send-Y-State g c κs within = search (state-send, crosses, sendable) depth 60 fits 20000

pub search_within-requires-sync-Y-State : goal.search_within-requires-sync-Y-State
search_within-requires-sync-Y-State g c κs within = search (state-sync, crosses, sendable) depth 60 fits 20000

pub search_within-requires-sync-Y : goal.search_within-requires-sync-Y
search_within-requires-sync-Y g c κs within = search (runs-row-sync, crosses, sendable) depth 60 fits 20000

pub returns-in-Ok-extent_of : goal.returns-in-Ok-extent_of
returns-in-Ok-extent_of g c =
    let extent = c.in-Ok-extent_of.extent in
    let reached = c.in-Ok.reached in
    let same = c.in-Ok-extent_of.ensures in
    subst (λ (e : Extent). IsExploredBounded g.K.Scheme.machine.test c.args.bound c.args.plan.now c.args.stops.now (Ok e))
    (λ i. record { steps = sym same.steps i; found = extent.found; ending = sym same.ending i })
    (found-explored g.K.Scheme.machine.test c.args.bound extent.found reached.answer same.made c.args.plan.now c.args.stops.now reached.steps reached.ending c.in-Ok.ensures.planned
    c.in-Ok.ensures.steps c.in-Ok.ensures.ended c.in-Ok.ensures.count c.in-Ok.ensures.branches c.in-Ok.ensures.blocked c.in-Ok.ensures.complete c.in-Ok.ensures.best
    c.in-Ok.ensures.every_bound)

pub returns : goal.returns
returns g c = refused-explored g.K.Scheme.machine.test c.args.bound c.args.plan.now c.args.stops.now c.in-Err.refused
    (λ is. c.in-Err.ensures.bad_plan.0 (ap Err is)) (λ no. let same = c.in-Err.ensures.bad_plan.1 no in cc) (λ is. c.in-Err.ensures.too_many (ap Err is)) (λ is. c.in-Err.ensures.limited (ap Err is))
