use Rattle.std.proofs.Common.{◌≡◌, ℕ, ◌<◌, List, Less, ap, length, subst, sym, ◌∙◌}
use Rattle.std.specs.Prelude.{AllPairs, IfSome, None, slice_index_or}
use Rattle.search_ordinals.proofs.Answered.{all-best, all-telling}
use Rattle.search_ordinals.proofs.Explored.{run-fits}
use Rattle.search_ordinals.proofs.exploration.answer_with_labels.Given.{Over}
use Rattle.search_ordinals.proofs.exploration.answer_with_labels.Goals as goal
use Rattle.search_ordinals.specs.Told.{AreToldWhereTold, IsTelling}
use Rattle.summary.specs.Run.{IsRun, Run, end_of}

-- labels that are enabled where a run ends ascend
ascends : (g : Over) (system : _) (run : Run _) → IsRun (g.Y.System.graph system) run → AllPairs (λ l m. g.Y.Label.Ord.cmp l m ≡ Less) ((g.Y.System.graph system).enabled (end_of (g.Y.System.graph system) run))
ascends g system run is =
    let laws = g.met.Y.System g.world.𝓛 g.world.𝓜 g.world.𝓡 ((λ s x. x), (λ x. x), (λ x. x), λ x. x) in
    laws.ascending system (end_of (g.Y.System.graph system) run) (run-fits (g.Y.System.graph system) (g.Y.System.fits system) (laws.first_fits system) (laws.after_fits system) run is)

pub labels_of_runs-requires-clause-told : goal.labels_of_runs-requires-clause-told
labels_of_runs-requires-clause-told g c κs within =
    let system = c.args.system.now in
    subst (λ (runs : List _). (k : ℕ) → k < length runs → IfSome (slice_index_or runs k None) (λ ordinals. IsTelling (g.Y.Located.branch system) (g.Y.System.graph system) ordinals.items))
    (sym c.as_slice.ensures.value)
    (all-telling (g.Y.Located.branch system) (g.Y.System.graph system) g.Y.Label.Ord.cmp c.requires.best.0 c.args.told.best.items c.requires.best.1)

pub returns-clause-best : goal.returns-clause-best
returns-clause-best g c n are =
    let system = c.args.system.now in
    let told = c.args.told.best.items in
    all-best (g.Y.Located.branch system) (g.Y.System.graph system) g.Y.Label.Ord.cmp n
    (g.met.Y.Label.Ord g.world.𝓛 g.world.𝓜 g.world.𝓡 ((λ s x. x), (λ x. x), (λ x. x), λ x. x)).total (ascends g system) told c.in_ok-best.best.items are
    (c.in_ok-best.ensures.as_many ∙ ap length c.as_slice.ensures.value)
    (subst (λ (runs : List _). (k : ℕ) → k < length runs → AreToldWhereTold (g.Y.Located.branch system) (g.Y.System.graph system) (slice_index_or runs k None) (slice_index_or c.in_ok-best.best.items k None))
    c.as_slice.ensures.value c.in_ok-best.ensures.each)
