use Rattle.std.proofs.Common.{◌≡◌, ◌++◌, ◌∙◌, drop, length, arith, string_bytes}
use Rattle.std.proofs.lemmas.Grind.{common_steps}
use Rattle.report_bounds.proofs.Pieces.{spliced, text-parts}
use Rattle.report_bounds.proofs.bounded_text.Goals as goal
use Rattle.report_bounds.specs.BoundedTexts.{bound_lines, head_text, rest_text}

pub returns : goal.returns
returns c =
    let report = c.args.report.now in
    let h = string_bytes c.in_ok-head.head in
    let l = string_bytes c.in_ok-lines.lines in
    let w = string_bytes c.in_ok-whole.whole in
    let head : h ≡ head_text report = grind (arith, common_steps) in
    let all : c.extend_from_slice-2.new.self.items ≡ (h ++ l) ++ drop (length h) w = grind (arith, common_steps) in
    spliced h l w (head_text report) (bound_lines c.args.bound) (rest_text report) c.extend_from_slice-2.new.self.items head c.in_ok-lines.ensures (c.in_ok-whole.ensures ∙ text-parts report) all
