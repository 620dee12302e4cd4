use Rattle.std.proofs.Common.{◌≡◌, drop}
use Rattle.step_choice.proofs.Defaulted.{first_of_defaults}
use Rattle.step_choice.proofs.choose.choose_default.Given as goal
use Rattle.check_rules.specs.Limits.{longest_chain}

-- the choice among the branches of all defaults is that among those of the defaults to come
abbrev pub invariant-loop-default : goal.invariant-loop-default
invariant-loop-default l =
    first_of_defaults l.snapshot longest_chain l.snapshot.component.now.own.defaults ≡ first_of_defaults l.snapshot longest_chain (drop l.default-index l.default-items)
