-- Where a test case starts, as code makes it.
use Rattle.std.specs.Prelude.{ℕ, [], ◌∷◌}
use Rattle.ttcn_syntax.specs.declared.tree.statement.Verdict.TheVariants as verdict
use Rattle.semantics.specs.Configurations as rules
use Rattle.semantics.specs.Creating.{new_component}
use Rattle.semantics.specs.Snapshots.{mtc_of}
use Rattle.semantics.specs.Steps.{begin}
use Rattle.step_snapshot.specs.Tests.{legend_by, test_by}
use Rattle.step_snapshot.specs.declared.test_case.TestCase.{TestCase}
use Rattle.config_parts.specs.Legend.{frame_with}
use Rattle.config_parts.specs.declared.component.Component.{Component}
use Rattle.config_parts.specs.declared.config.Config.{Config}
use Rattle.config_parts.specs.declared.config.Config.TheVariants as config
use Rattle.config_parts.specs.declared.frame.Cells.{Cells}

-- the MTC, with the list at a position as frame 1, and these names in frame 0
abbrev pub mtc_at : TestCase → ℕ → Cells → rules.Component
mtc_at t position members =
    begin (record { remaining = (legend_by t).lists position; values = []; timers = [] })
    (new_component (test_by t) (mtc_of (test_by t)) (frame_with (legend_by t) [] members))

-- a test case with one component
abbrev pub going_alone : Component → Config
going_alone mtc = config.Going (record { components = mtc ∷ []; links = record { connections = []; mappings = []; delivered = [] }; forgotten = verdict.None })
