use Rattle.std.proofs.Common.{◌≡◌, ◌<◌, Some, length, reverse, rules, arith}
use Rattle.std.proofs.lemmas.Grind.{common_steps}
use Rattle.parse_reader.specs.internal.Reading.{behind, head_token}
use Rattle.parse_reader.specs.Modules.{balanced_from}
use Rattle.ttcn_parse.proofs.Readers.{balanced-step, go-on-left}
use Rattle.ttcn_parse.proofs.module.balanced.Goals as goal

pub returns-in_err-over : goal.returns-in_err-over
returns-in_err-over c =
    let next : head_token c.loop-token.parser ≡ Some c.in-Some.token.now = first_of (search rules, grind (arith, common_steps)) in
    let e = balanced-step (reverse c.loop-token.expected.items) c.loop-token.parser c.in-Some.token.now next in
    first_of (search rules, grind (arith, common_steps))

pub returns-then-is_empty : goal.returns-then-is_empty
returns-then-is_empty c =
    let next : head_token c.loop-token.parser ≡ Some c.in-Some.token.now = first_of (search rules, grind (arith, common_steps)) in
    let e = balanced-step (reverse c.loop-token.expected.items) c.loop-token.parser c.in-Some.token.now next in
    first_of (search rules, grind (arith, common_steps))

pub loop-token-preserved : goal.loop-token-preserved
loop-token-preserved c =
    let next : head_token c.loop-token.parser ≡ Some c.in-Some.token.now = first_of (search rules, grind (arith, common_steps)) in
    let e = balanced-step (reverse c.loop-token.expected.items) c.loop-token.parser c.in-Some.token.now next in
    let left : 0 < length c.over.new.expected.items = first_of (search rules, grind (arith, common_steps)) in
    let f = go-on-left (λ cs. balanced_from cs (behind c.loop-token.parser)) c.over.new.expected.items (behind c.loop-token.parser) left in
    first_of (search rules, grind (arith, common_steps))
