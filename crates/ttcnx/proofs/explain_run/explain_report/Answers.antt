use Rattle.std.proofs.Common.{rules, ◌≡◌, ◌++◌, string_bytes, ◌∙◌}
use Rattle.ttcnx.proofs.explain_run.explain_report.Goals as goal
use Rattle.ttcnx.specs.Streamed.{told_as}

pub returns : goal.returns
returns c =
    let more = string_bytes c.in_ok-more.more in
    let told : c.extend_from_slice.new.self.items ≡ told_as c.args.json c.args.sighted.now.until.report ++ more = search rules in
    (more, told)
