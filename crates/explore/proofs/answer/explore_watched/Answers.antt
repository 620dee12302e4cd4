use Rattle.std.proofs.Common.{sym, subst}
use Rattle.std.proofs.lemmas.Result.{err_from_is_err_and}
use Rattle.summary.specs.Sums.{IsSemilattice}
use Rattle.explore.proofs.Visits.{IsLawful}
use Rattle.explore.specs.Sightings.{AreSighted, shown_at_end, shown_by_step}
use Rattle.explore.proofs.Endings.{no-room-left}
use Rattle.explore.proofs.answer.explore_watched.Given.{Over}
use Rattle.explore.proofs.answer.explore_watched.Goals as goal

-- the laws of the bound
lawful : (g : Over) (system : _) → IsLawful (g.Y.System.graph system) g.Y.Label.Ord.cmp g.Y.State.PartialEq.eq (g.Y.System.fits system)
lawful g system =
    let laws = g.met.Y.System g.world.𝓛 g.world.𝓜 g.world.𝓡 ((λ s x. x), (λ x. x), (λ x. x), λ x. x) in
    record {
      total = (g.met.Y.Label.Ord g.world.𝓛 g.world.𝓜 g.world.𝓡 ((λ s x. x), (λ x. x), (λ x. x), λ x. x)).total;
      itself = (g.met.Y.State.Eq g.world.𝓛 g.world.𝓜 g.world.𝓡 ((λ s x. x), (λ x. x), (λ x. x), λ x. x)).laws.refl;
      same = laws.same system;
      ascending = laws.ascending system;
      first = laws.first_fits system;
      after = laws.after_fits system;
    }

-- the laws of a summary's join
semilattice : (g : Over) → IsSemilattice g.U.Summary.joins
semilattice g = (g.met.U.Summary g.world.𝓛 g.world.𝓜 g.world.𝓡 ((λ s x. x), (λ x. x), (λ x. x), λ x. x)).semilattice

pub returns-in_err-explored-clause-too_many : goal.returns-in_err-explored-clause-too_many
returns-in_err-explored-clause-too_many g c many =
    let system = c.args.system.now in
    let p = err_from_is_err_and c.from_residual.result c.from_residual.ensures.1 in
    no-room-left (g.Y.System.graph system) g.Y.Label.Ord.cmp g.Y.State.PartialEq.eq (g.Y.System.fits system) (lawful g system)
    g.U.Summary.joins (g.U.Summary.observation system) (semilattice g) c.args.plan.now c.args.stops.now
    (c.in_err-explored.ensures.too_many (cc (p.1, p.2, many))) (c.in_err-explored.ensures.limited (cc (p.1, p.2, many)))

pub returns-clause-planned : goal.returns-clause-planned
returns-clause-planned g c = c.is_within_limits.ensures.0 c.if-not-is_within_limits.false

pub returns-clause-events : goal.returns-clause-events
returns-clause-events g c =
    let graph = g.Y.System.graph c.args.system.now in
    subst (λ (n : _). AreSighted graph g.Y.Label.Ord.cmp n (shown_by_step graph (g.Y.Watched.event c.args.system.now)) c.in_ok-events.events.items) (sym c.in_ok-reached.ensures.steps) c.in_ok-events.ensures

pub returns-clause-stands : goal.returns-clause-stands
returns-clause-stands g c =
    let graph = g.Y.System.graph c.args.system.now in
    subst (λ (n : _). AreSighted graph g.Y.Label.Ord.cmp n (shown_at_end graph (g.Y.Watched.stand c.args.system.now)) c.in_ok-stands.stands.items) (sym c.in_ok-reached.ensures.steps) c.in_ok-stands.ensures
