use Rattle.std.proofs.Common.{◌∙◌}
use Rattle.config_packed.proofs.Changing.{joined-parts, joined-spelled}
use Rattle.config_packed.specs.Pieces.{joined_going}
use Rattle.config_parts.specs.declared.config.Config.TheVariants.{Going}
use Rattle.config_packed.proofs.interned.InternedConfig.joined_with.Goals as goal

pub of-requires : goal.of-requires
of-requires c =
    let going = c.requires.0 in
    let other = c.requires.1 in
    let new = joined_going going c.args.at other in
    let halves = c.in_ok-front.ensures going new c.requires.2 c.requires.3
    (joined-parts going c.args.at other c.requires.5 c.args.other.now c.parts_at.result.0.now c.parts_at.result.1.now c.requires.4 c.parts_at.ensures) in (
      Going new,
      joined-spelled going c.args.at other c.requires.5 c.in_ok-head.head.now c.in_ok-front.front.now c.in_ok-front.back.now (c.in_ok-head.ensures ∙ c.requires.4.head) halves.0 halves.1,
    )

pub returns : goal.returns
returns c going other whole cut other-cut are =
    let new = joined_going going c.args.at other in
    let halves = c.in_ok-front.ensures going new whole cut
    (joined-parts going c.args.at other are c.args.other.now c.parts_at.result.0.now c.parts_at.result.1.now other-cut c.parts_at.ensures) in
    c.of.ensures (Going new)
    (joined-spelled going c.args.at other are c.in_ok-head.head.now c.in_ok-front.front.now c.in_ok-front.back.now (c.in_ok-head.ensures ∙ other-cut.head) halves.0 halves.1)
