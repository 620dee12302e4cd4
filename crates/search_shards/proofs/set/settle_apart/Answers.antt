use Rattle.std.proofs.Common.{◌≡◌, map, Ok, arith}
use Rattle.std.proofs.lemmas.Result.{IfOk-weaker}
use Rattle.search_shards.proofs.Shards.{same-from-answers}
use Rattle.search_shards.proofs.set.settle_apart.Goals as goal

pub returns : goal.returns
returns g c =
    let answers = c.in_ok-answers.answers in
    IfOk-weaker c.shards_of.result (λ shards. answers.items ≡ map Ok shards.items) (λ shards. shards.items ≡ c.args.shards.items)
    (λ shards all. same-from-answers c.args.shards.items shards.items answers.items all
    (let long = c.in_ok-answers.ensures.len in let ok = answers.ok in let before = c.args.shards.ok in omega arith)
    (λ i d low. let gives = (c.in_ok-answers.ensures.each i d low).1 in (gives.job, gives.job_is, gives.call.met)))
    c.shards_of.ensures
