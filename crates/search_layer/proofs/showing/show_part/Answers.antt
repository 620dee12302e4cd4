use Rattle.std.proofs.Common.{◌≡◌, ◌≤◌, ◌+◌, ◌*◌, ◌-◌, length, map, ap, subst, refl, ◌∙◌, arith}
use Rattle.std.specs.Prelude.{IfOk, min}
use Rattle.summary.specs.Sums.{join_all}
use Rattle.search_layer.proofs.StatesShown.{part-between}
use Rattle.search_layer.proofs.showing.show_part.Goals as goal

pub returns : goal.returns
returns g c =
    let states = c.args.states.now.keys in
    let start = c.args.from + c.args.part * c.args.size in
    let low : start ≤ length states = (let part = c.requires.part in omega arith) in
    let end : c.min.result ≡ min c.args.size (length states - start) = c.min.ensures ∙ ap (λ n. min c.args.size (n - start)) c.len-count.ensures.len in
    subst (λ xs. IfOk c.show_between.result (λ s. s ≡ join_all g.U.Summary.joins (map (g.U.Summary.observation c.args.system.now).at xs)))
    (part-between states c.args.from c.args.size c.args.part start (start + c.min.result) refl low (ap (λ k. start + k) end))
    c.show_between.ensures
