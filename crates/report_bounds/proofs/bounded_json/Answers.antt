use Rattle.std.proofs.Common.{◌≡◌, ◌-◌, ◌++◌, ◌∷◌, [], take, length, arith, string_bytes}
use Rattle.std.specs.Prelude.{codes}
use Rattle.std.proofs.lemmas.Grind.{common_steps}
use Rattle.report_bounds.proofs.Objects.{bound-written, json-spliced}
use Rattle.report_bounds.proofs.bounded_json.Goals as goal
use Rattle.serde_json.specs.View.{view}

pub returns : goal.returns
returns c =
    let whole = string_bytes c.in_ok-to_json.field-0 in
    let within = string_bytes c.in_ok-within.within in
    let all : c.extend_from_slice-3.new.self.items ≡ ((take (length whole - 2) whole ++ codes ",\"within\":") ++ within) ++ 125 ∷ 10 ∷ [] = grind (arith, common_steps) in
    json-spliced c.args.bound c.args.report.now whole within c.extend_from_slice-3.new.self.items c.in_ok-to_json.ensures
    (bound-written c.args.bound (view c.in_ok-bound_value.field-0) within c.in_ok-bound_value.ensures c.in_ok-within.ensures.text) all
