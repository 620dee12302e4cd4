use Rattle.summary.specs.Sums.{IsSemilattice}
use Rattle.explore.proofs.Outcome.{go-back}
use Rattle.explore.proofs.Noting.{if-ok}
use Rattle.explore.proofs.Sights.{stands-sighted, stands-within}
use Rattle.explore.proofs.Visits.{IsLawful}
use Rattle.explore.proofs.answer.sighted_stands.Given.{Over}
use Rattle.explore.proofs.answer.sighted_stands.Goals as goal

-- the laws of the bound
lawful : (g : Over) (system : _) → IsLawful (g.Y.System.graph system) g.Y.Label.Ord.cmp g.Y.State.PartialEq.eq (g.Y.System.fits system)
lawful g system =
    let laws = g.met.Y.System g.world.𝓛 g.world.𝓜 g.world.𝓡 ((λ s x. x), (λ x. x), (λ x. x), λ x. x) in
    record {
      total = (g.met.Y.Label.Ord g.world.𝓛 g.world.𝓜 g.world.𝓡 ((λ s x. x), (λ x. x), (λ x. x), λ x. x)).total;
      itself = (g.met.Y.State.Eq g.world.𝓛 g.world.𝓜 g.world.𝓡 ((λ s x. x), (λ x. x), (λ x. x), λ x. x)).laws.refl;
      same = laws.same system;
      ascending = laws.ascending system;
      first = laws.first_fits system;
      after = laws.after_fits system;
    }

-- the laws of a summary's join
semilattice : (g : Over) → IsSemilattice g.U.Summary.joins
semilattice g = (g.met.U.Summary g.world.𝓛 g.world.𝓜 g.world.𝓡 ((λ s x. x), (λ x. x), (λ x. x), λ x. x)).semilattice

pub runs_to-requires-clause-within : goal.runs_to-requires-clause-within
runs_to-requires-clause-within g c κs within =
    let system = c.args.system.now in
    let found = c.args.explored.now in
    stands-within (g.Y.System.graph system) g.Y.Label.Ord.cmp g.Y.State.PartialEq.eq (g.Y.System.fits system) (lawful g system)
    g.U.Summary.joins (g.U.Summary.observation system) (semilattice g) found.steps
    found.visited.states.keys found.visited.steps found.from found.summary c.requires.found
    g.Y.Stand.PartialEq.eq (g.met.Y.Watched g.world.𝓛 g.world.𝓜 g.world.𝓡 ((λ s x. x), (λ x. x), (λ x. x), λ x. x)).one_stand (g.met.Y.Watched g.world.𝓛 g.world.𝓜 g.world.𝓡 ((λ s x. x), (λ x. x), (λ x. x), λ x. x)).same_stand
    (g.Y.Watched.stand system) c.in_ok-noted.noted.items c.in_ok-noted.ensures

pub runs_to-requires-clause-back : goal.runs_to-requires-clause-back
runs_to-requires-clause-back g c κs within =
    let system = c.args.system.now in
    let found = c.args.explored.now in
    go-back (g.Y.System.graph system) g.Y.Label.Ord.cmp g.Y.State.PartialEq.eq (g.Y.System.fits system) (lawful g system)
    g.U.Summary.joins (g.U.Summary.observation system) (semilattice g) found.steps
    found.visited.states.keys found.visited.steps found.from found.summary c.requires.found

pub returns : goal.returns
returns g c =
    let system = c.args.system.now in
    let found = c.args.explored.now in
    if-ok c.runs_to.result _ _ c.runs_to.ensures (λ sightings made.
    stands-sighted (g.Y.System.graph system) g.Y.Label.Ord.cmp g.Y.State.PartialEq.eq (g.Y.System.fits system) (lawful g system)
    g.U.Summary.joins (g.U.Summary.observation system) (semilattice g) found.steps
    found.visited.states.keys found.visited.steps found.from found.summary c.requires.found
    g.Y.Stand.PartialEq.eq (g.met.Y.Watched g.world.𝓛 g.world.𝓜 g.world.𝓡 ((λ s x. x), (λ x. x), (λ x. x), λ x. x)).one_stand (g.met.Y.Watched g.world.𝓛 g.world.𝓜 g.world.𝓡 ((λ s x. x), (λ x. x), (λ x. x), λ x. x)).same_stand
    (g.Y.Watched.stand system) c.in_ok-noted.noted.items c.in_ok-noted.ensures
    sightings.items (λ runs last. made runs last))
