use Rattle.std.proofs.Common.{map, ap, ◌∙◌}
use Rattle.config_packed.proofs.Changing.{changed-spelled, parts-changed}
use Rattle.config_packed.specs.internal.Cuts.{changed_from}
use Rattle.config_packed.specs.Pieces.{changed_going, spelled_parts}
use Rattle.config_packed.specs.Shares.{head_of}
use Rattle.config_parts.specs.declared.config.Config.TheVariants.{Going}
use Rattle.config_packed.proofs.interned.InternedConfig.changed.Goals as goal

pub of-requires : goal.of-requires
of-requires c =
    let going = c.requires.0.0 in
    let whole = c.requires.0.1 in
    let v = c.requires.1.0 in
    let own = c.requires.1.1.0 in
    let qs = c.requires.2.0 in
    let new = changed_going going c.args.at v own c.args.behind qs in
    let halves = c.in_ok-front.ensures going new whole c.requires.0.2
    ((λ i. changed_from c.args.at (c.requires.1.1.1 i) c.args.behind (c.requires.2.1 i) 0 (map spelled_parts going.components)) ∙ parts-changed going c.args.at v own c.args.behind qs) in (
      Going new,
      changed-spelled going c.args.at v own c.args.behind qs c.self.inside.head.now c.in_ok-front.front.now c.in_ok-front.back.now (c.self.invariant.head ∙ ap head_of (c.self.view_is ∙ whole)) halves.0 halves.1,
    )

pub returns : goal.returns
returns c going v own qs whole cut own-is queues-is =
    let new = changed_going going c.args.at v own c.args.behind qs in
    let halves = c.in_ok-front.ensures going new whole cut
    ((λ i. changed_from c.args.at (own-is i) c.args.behind (queues-is i) 0 (map spelled_parts going.components)) ∙ parts-changed going c.args.at v own c.args.behind qs) in
    c.of.ensures (Going new)
    (changed-spelled going c.args.at v own c.args.behind qs c.self.inside.head.now c.in_ok-front.front.now c.in_ok-front.back.now (c.self.invariant.head ∙ ap head_of (c.self.view_is ∙ whole)) halves.0 halves.1)
