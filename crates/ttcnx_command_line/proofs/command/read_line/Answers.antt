use Rattle.std.proofs.Common.{◌∙◌, ap, sym}
use Rattle.std.proofs.lemmas.Result.{IfErr-weaker, IfOk-weaker}
use Rattle.clap.specs.Walk.{texts}
use Rattle.clap.specs.Words.{kind_of}
use Rattle.ttcnx_command_line.specs.Command.{run_fault}
use Rattle.ttcnx_command_line.proofs.Lines.{bound-explained, bound-memory, explained, has-fault, kind-first, matches-given, no-fault, no-faults, only-memory, same-bound-error, same-matches, same-name, same-values, takes-here}
use Rattle.ttcnx_command_line.proofs.command.read_line.Goals as goal

pub bounded_line_of-requires : goal.bounded_line_of-requires
bounded_line_of-requires c =
    let free = no-fault _ (texts c.args.words.now) c.in_ok-command.ensures c.in-Ok.ensures.kinds in
    matches-given _ (texts c.args.words.now) c.in-Ok.matches c.in_ok-command.ensures c.in-Ok.ensures.matches free

pub returns-in-Ok-clause-subcommand : goal.returns-in-Ok-clause-subcommand
returns-in-Ok-clause-subcommand c =
    let same = same-matches _ (texts c.args.words.now) c.in-Ok.matches c.in_ok-command.ensures c.in-Ok.ensures.matches in
    IfOk-weaker c.bounded_line_of.result _ _ (λ line h. same-name _ _ _ same h) c.bounded_line_of.ensures.subcommand

pub returns-in-Ok-clause-values : goal.returns-in-Ok-clause-values
returns-in-Ok-clause-values c =
    let same = same-matches _ (texts c.args.words.now) c.in-Ok.matches c.in_ok-command.ensures c.in-Ok.ensures.matches in
    IfOk-weaker c.bounded_line_of.result _ _ (λ line h. same-values _ _ line same h) c.bounded_line_of.ensures.values

pub returns-in-Ok-clause-accepted : goal.returns-in-Ok-clause-accepted
returns-in-Ok-clause-accepted c =
    let same = same-matches _ (texts c.args.words.now) c.in-Ok.matches c.in_ok-command.ensures c.in-Ok.ensures.matches in
    let free = no-fault _ (texts c.args.words.now) c.in_ok-command.ensures c.in-Ok.ensures.kinds in
    IfOk-weaker c.bounded_line_of.result _ _ (λ line h. no-faults _ _ free (ap run_fault (sym same) ∙ h)) c.bounded_line_of.ensures.bounded

pub returns-in-Ok-clause-refused : goal.returns-in-Ok-clause-refused
returns-in-Ok-clause-refused c =
    let same = same-matches _ (texts c.args.words.now) c.in-Ok.matches c.in_ok-command.ensures c.in-Ok.ensures.matches in
    let free = no-fault _ (texts c.args.words.now) c.in_ok-command.ensures c.in-Ok.ensures.kinds in
    IfErr-weaker c.bounded_line_of.result _ _ (λ error h. bound-explained _ _ error free (same-bound-error _ _ error same h)) c.bounded_line_of.ensures.refused

pub returns-in-Ok-clause-taken : goal.returns-in-Ok-clause-taken
returns-in-Ok-clause-taken c = λ taken bounded.
    let same = same-matches _ (texts c.args.words.now) c.in-Ok.matches c.in_ok-command.ensures c.in-Ok.ensures.matches in
    IfErr-weaker c.bounded_line_of.result _ _ (λ error h. bound-memory _ error bounded (same-bound-error _ _ error same h)) c.bounded_line_of.ensures.refused

pub returns-in_ok-refusal-in-Err-clause-refused : goal.returns-in_ok-refusal-in-Err-clause-refused
returns-in_ok-refusal-in-Err-clause-refused c =
    let has = has-fault _ (texts c.args.words.now) c.in-Err.error c.in_ok-command.ensures c.in-Err.ensures.kinds in
    explained _ (kind_of c.in-Err.error) c.in_ok-refusal-in-Err.field-0 (kind-first _ _ _ has) c.in_ok-refusal-in-Err.ensures

pub returns-in_ok-refusal-in-Err-clause-taken : goal.returns-in_ok-refusal-in-Err-clause-taken
returns-in_ok-refusal-in-Err-clause-taken c = λ taken bounded.
    only-memory (kind_of c.in-Err.error) c.in_ok-refusal-in-Err.field-0
    (takes-here _ (texts c.args.words.now) (kind_of c.in-Err.error) c.in_ok-command.ensures c.in-Err.ensures.passes taken) c.in_ok-refusal-in-Err.ensures
