use Rattle.std.proofs.Common.{ℕ, map, sym, ap, ◌∙◌}
use Rattle.std.specs.List.{flat_map}
use Rattle.config_packed.specs.Shares.{back_of, front_of, half}
use Rattle.config_packed.specs.internal.Cuts.{changed_contents, joined, some_of}
use Rattle.config_packed.specs.Pieces.{bytes_of}
use Rattle.config_packed.proofs.Changing.{back-changed, back-there, front-changed, front-there}
use Rattle.config_packed.proofs.interned.InternedConfig.changed_halves.Goals as goal

pub returns : goal.returns
returns c going new whole cut changes =
    let change = c.args.change.now in
    let parts = c.args.parts.now in
    let all = map bytes_of parts.components.items in
    let first = c.half-first.result in
    let counts = c.len-count.ensures ∙ parts.components.ok.0 in
    let halved = c.half-first.ensures.half ∙ ap half counts in (
      c.in_ok-front.ensures (front-there going parts cut first halved c.self.inside.front.now (c.self.invariant.front ∙ ap front_of (c.self.view_is ∙ whole)))
          ∙ front-changed going parts cut first halved change.at change.own.now change.behind change.queues.now new changes,
      c.in_ok-back.ensures
          (back-there going parts cut first halved c.self.inside.back.now (c.self.invariant.back ∙ ap back_of (c.self.view_is ∙ whole))
          ∙ ap (λ (n : ℕ). flat_map joined (some_of first n all)) (sym counts))
          ∙ ap (λ (n : ℕ). changed_contents change.at change.own.now change.behind change.queues.now first (some_of first n all)) counts
          ∙ back-changed going parts cut first halved change.at change.own.now change.behind change.queues.now new changes,
    )
