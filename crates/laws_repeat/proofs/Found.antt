-- In runs a component that stands at a `repeat` finds its `alt`.
use Rattle.std.proofs.Common.{◌≡◌, List, Some, Ok, is_some, true}
use Rattle.laws_repeat.proofs.Repeats.{repeat-found, replay_marked}
use Rattle.laws_repeat.specs.Following.{lists_of}
use Rattle.laws_repeat.specs.Marks.{AllAreMarked, StandsAtRepeat}
use Rattle.laws_steps.proofs.Found.{found-each, some-of}
use Rattle.semantics.specs.Configurations.{Component, Goes, Going, component_at, path_of, same_path}
use Rattle.semantics.specs.Runs.{replay}
use Rattle.semantics.specs.Snapshots.{Test}
use Rattle.semantics.specs.Steps.{Label}
use Rattle.semantics.specs.Taking.{repeated}
use Rattle.check_rules.specs.Rules.{AreWellTyped}
use Rattle.value_types.specs.declared.path.Path.{Path}

pub repeats-found : (test : Test) (run : List Label) (c : Going) (p : Path) (x : Component) → AreWellTyped test.definitions → replay test run ≡ Ok (Goes c) → component_at c p ≡ Some x → StandsAtRepeat x.own.calls
    → is_some (repeated x.own.calls) ≡ true
repeats-found test run c p x well e found is =
    repeat-found x.own.calls is
    (some-of (λ (component : Component). AllAreMarked (lists_of component.own.calls)) (component_at c p) x found
    (found-each (λ (component : Component). AllAreMarked (lists_of component.own.calls)) (λ component. same_path (path_of component) p) c.components (replay_marked test well run (Goes c) e)))
