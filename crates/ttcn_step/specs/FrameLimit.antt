-- How many frames a component may have: a limit of this tool.
use Rattle.std.specs.Prelude.{◌<◌, length}
use Rattle.std.specs.List.{All}
use Rattle.semantics.specs.Configurations.{Configuration, Data, Ended, Goes}
use Rattle.semantics.specs.Statements.{most}

-- a component has no more frames than the limit, frame 0 among them
abbrev pub KeepsFrameLimit : Data → Type 0
KeepsFrameLimit own = length own.calls < most

-- each component of a configuration has no more frames than the limit; a test case that ended has no components
abbrev pub AllKeepFrameLimit : Configuration → Type 0
AllKeepFrameLimit (Ended v) = Unit {0}
AllKeepFrameLimit (Goes c) = All (λ component. KeepsFrameLimit component.own) c.components
