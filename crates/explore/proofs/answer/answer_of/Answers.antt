use Rattle.std.proofs.Common.{◌≤◌, sym, subst}
use Rattle.summary.specs.Exploration.{Counts}
use Rattle.summary.specs.Sums.{IsSemilattice}
use Rattle.explore.proofs.Endings.{ends}
use Rattle.explore.proofs.Visits.{IsLawful}
use Rattle.explore.proofs.Outcome.{go-back, as_many, count-is, complete-is, summary_is, every_bound, best-is}
use Rattle.explore.proofs.answer.answer_of.Given.{Over}
use Rattle.explore.proofs.answer.answer_of.Goals as goal

-- the laws of the bound
lawful : (g : Over) (system : _) → IsLawful (g.Y.System.graph system) g.Y.Label.Ord.cmp g.Y.State.PartialEq.eq (g.Y.System.fits system)
lawful g system =
    let laws = g.met.Y.System g.world.𝓛 g.world.𝓜 g.world.𝓡 ((λ s x. x), (λ x. x), (λ x. x), λ x. x) in
    record {
      total = (g.met.Y.Label.Ord g.world.𝓛 g.world.𝓜 g.world.𝓡 ((λ s x. x), (λ x. x), (λ x. x), λ x. x)).total;
      itself = (g.met.Y.State.Eq g.world.𝓛 g.world.𝓜 g.world.𝓡 ((λ s x. x), (λ x. x), (λ x. x), λ x. x)).laws.refl;
      same = laws.same system;
      ascending = laws.ascending system;
      first = laws.first_fits system;
      after = laws.after_fits system;
    }

-- the laws of a summary's join
semilattice : (g : Over) → IsSemilattice g.U.Summary.joins
semilattice g = (g.met.U.Summary g.world.𝓛 g.world.𝓜 g.world.𝓡 ((λ s x. x), (λ x. x), (λ x. x), λ x. x)).semilattice

pub best_runs-requires-clause-as_many : goal.best_runs-requires-clause-as_many
best_runs-requires-clause-as_many g c κs within =
    let system = c.args.system.now in
    let found = c.args.explored in
    as_many (g.Y.System.graph system) g.Y.Label.Ord.cmp g.Y.State.PartialEq.eq (g.Y.System.fits system) (lawful g system)
    g.U.Summary.joins (g.U.Summary.observation system) (semilattice g) c.args.explored.steps
    found.visited.states.keys found.visited.steps found.from found.summary c.requires.found

pub best_runs-requires-clause-back : goal.best_runs-requires-clause-back
best_runs-requires-clause-back g c κs within =
    let system = c.args.system.now in
    let found = c.args.explored in
    go-back (g.Y.System.graph system) g.Y.Label.Ord.cmp g.Y.State.PartialEq.eq (g.Y.System.fits system) (lawful g system)
    g.U.Summary.joins (g.U.Summary.observation system) (semilattice g) c.args.explored.steps
    found.visited.states.keys found.visited.steps found.from found.summary c.requires.found

pub returns-clause-count : goal.returns-clause-count
returns-clause-count g c =
    let system = c.args.system.now in
    let graph = g.Y.System.graph system in
    let steps = c.args.explored.steps in
    let limit = c.args.plan.now.limit in
    let found = c.args.explored in
    let counted = count-is graph g.Y.Label.Ord.cmp g.Y.State.PartialEq.eq (g.Y.System.fits system) (lawful g system)
    g.U.Summary.joins (g.U.Summary.observation system) (semilattice g) steps
    found.visited.states.keys found.visited.steps found.from found.summary c.requires.found in
    subst (λ n. Counts graph steps n × (n ≤ limit)) (sym c.len-count.ensures.len) (counted, c.requires.within)

pub returns-clause-summary : goal.returns-clause-summary
returns-clause-summary g c =
    let system = c.args.system.now in
    let found = c.args.explored in
    summary_is (g.Y.System.graph system) g.Y.Label.Ord.cmp g.Y.State.PartialEq.eq (g.Y.System.fits system) (lawful g system)
    g.U.Summary.joins (g.U.Summary.observation system) (semilattice g) c.args.explored.steps
    found.visited.states.keys found.visited.steps found.from found.summary c.requires.found

pub returns-clause-complete : goal.returns-clause-complete
returns-clause-complete g c =
    let system = c.args.system.now in
    let graph = g.Y.System.graph system in
    let found = c.args.explored in
    let quiet = c.in_ok-complete.ensures in
    let exact = complete-is graph g.Y.Label.Ord.cmp g.Y.State.PartialEq.eq (g.Y.System.fits system) (lawful g system)
    g.U.Summary.joins (g.U.Summary.observation system) (semilattice g) c.args.explored.steps
    found.visited.states.keys found.visited.steps found.from found.summary c.requires.found in (
      λ is. exact.0 (quiet.0 is),
      λ all. quiet.1 (exact.1 all),
    )

pub returns-clause-best : goal.returns-clause-best
returns-clause-best g c =
    let system = c.args.system.now in
    let found = c.args.explored in
    record {
      eight = c.in_ok-best.ensures.eight;
      each = λ mark below. best-is (g.Y.System.graph system) g.Y.Label.Ord.cmp g.Y.State.PartialEq.eq (g.Y.System.fits system) (lawful g system)
          g.U.Summary.joins (g.U.Summary.observation system) (semilattice g) c.args.explored.steps
          found.visited.states.keys found.visited.steps found.from found.summary c.requires.found
          mark _ (c.in_ok-best.ensures.each mark below);
    }

pub returns-clause-every_bound : goal.returns-clause-every_bound
returns-clause-every_bound g c complete bound le =
    let system = c.args.system.now in
    let graph = g.Y.System.graph system in
    let found = c.args.explored in
    let more = every_bound graph g.Y.Label.Ord.cmp g.Y.State.PartialEq.eq (g.Y.System.fits system) (lawful g system)
    g.U.Summary.joins (g.U.Summary.observation system) (semilattice g) c.args.explored.steps
    found.visited.states.keys found.visited.steps found.from found.summary c.requires.found
    (c.in_ok-complete.ensures.0 complete) bound le in
    (more.0, subst (Counts graph bound) (sym c.len-count.ensures.len) more.1)

pub returns-clause-ended : goal.returns-clause-ended
returns-clause-ended g c =
    let system = c.args.system.now in
    ends (g.Y.System.graph system) g.Y.Label.Ord.cmp g.Y.State.PartialEq.eq (g.Y.System.fits system) (lawful g system)
    g.U.Summary.joins (g.U.Summary.observation system) (semilattice g) c.args.plan.now c.args.stops.now c.args.explored c.requires
    c.in_ok-complete.complete c.in_ok-complete.ensures c.reason-ending.result c.reason-ending.ensures
