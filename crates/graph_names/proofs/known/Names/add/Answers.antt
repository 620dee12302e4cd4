use Rattle.std.proofs.Common.{[], ap, bytes_eq, map, sym, ◌++◌, ◌∙◌, ◌∷◌}
use Rattle.std.proofs.lemmas.List.{map-append}
use Rattle.std.specs.HashSet.{contains_by}
use Rattle.graph_names.proofs.Learned.{met-more}
use Rattle.graph_names.proofs.known.Names.add.Goals as goal

pub invariant_of-self-in-Ok : goal.invariant_of-self-in-Ok
invariant_of-self-in-Ok c =
    let all = c.self.inside.all.items in
    let more = ap (map (λ n. n.now)) c.in_ok-push.ensures.items ∙ map-append (λ n. n.now) all (c.args.name ∷ []) ∙ ap (λ n. map (λ n. n.now) all ++ n ∷ []) (sym c.as_bytes-2.ensures) in
    met-more c.as_bytes-2.result.now (λ q. contains_by (λ key. bytes_eq q key.now) c.self.inside.met) (λ q. contains_by (λ key. bytes_eq q key.now) c.insert.new.self)
    (map (λ n. n.now) all) (map (λ n. n.now) c.push.new.self.items) (λ q. c.in-Ok.ensures.updates.0 (record c.as_bytes-2.result { now = q })) c.self.invariant more
