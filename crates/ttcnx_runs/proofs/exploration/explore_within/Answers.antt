use Rattle.std.proofs.Common.{ap, subst, sym}
use Rattle.std.specs.Prelude.{Err}
use Rattle.ttcnx_runs.specs.Extents.{IsExtent}
use Rattle.ttcnx_runs.specs.declared.exploration.Extent.{Extent}
use denote.Param.Send.{sendable}
use Rattle.std.proofs.Crossing.{crosses}
use Rattle.ttcnx_runs.proofs.Assembly.{answer-explored, extent-found, refused-explored}
use Rattle.ttcnx_runs.proofs.crossing.States.{state-send, state-sync}
use Rattle.ttcnx_runs.proofs.crossing.Systems.{runs-row-sync}
use Rattle.ttcnx_runs.proofs.exploration.explore_within.Goals as goal

pub search-requires-send-Y-State : goal.search-requires-send-Y-State
search-requires-send-Y-State g c κs within = search (state-send, crosses, sendable) depth 60 fits 20000

pub search-requires-sync-Y-State : goal.search-requires-sync-Y-State
search-requires-sync-Y-State g c κs within = search (state-sync, crosses, sendable) depth 60 fits 20000

pub search-requires-sync-Y : goal.search-requires-sync-Y
search-requires-sync-Y g c κs within = search (runs-row-sync, crosses, sendable) depth 60 fits 20000

pub returns-in-Ok-extent_of : goal.returns-in-Ok-extent_of
returns-in-Ok-extent_of g c =
    let test = g.K.Scheme.machine.test in
    let extent = c.in-Ok-extent_of.extent in
    let reached = c.in-Ok.reached in
    let same = c.in-Ok-extent_of.ensures in
    answer-explored test c.args.plan.now c.args.stops.now (IsExtent test c.args.plan.now c.args.stops.now) extent c.in-Ok.ensures.planned
    (subst (λ (e : Extent). IsExtent test c.args.plan.now c.args.stops.now e)
    (λ i. record { steps = sym same.steps i; found = extent.found; ending = sym same.ending i })
    (extent-found test extent.found reached.answer same.made c.args.plan.now c.args.stops.now reached.steps reached.ending
    c.in-Ok.ensures.steps c.in-Ok.ensures.ended c.in-Ok.ensures.count c.in-Ok.ensures.branches c.in-Ok.ensures.blocked c.in-Ok.ensures.complete c.in-Ok.ensures.best
    c.in-Ok.ensures.every_bound))

pub returns : goal.returns
returns g c = refused-explored g.K.Scheme.machine.test c.args.plan.now c.args.stops.now (IsExtent g.K.Scheme.machine.test c.args.plan.now c.args.stops.now) c.in-Err.refused
    (λ is. c.in-Err.ensures.bad_plan.0 (ap Err is)) (λ no. let same = c.in-Err.ensures.bad_plan.1 no in cc) (λ is. c.in-Err.ensures.too_many (ap Err is)) (λ is. c.in-Err.ensures.limited (ap Err is))
