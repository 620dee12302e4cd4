use Rattle.std.proofs.Common.{◌≡◌, ◌≢◌, ◌+◌, ◌^◌, ◌%◌, ◌<◌, ◌++◌, ◌∷◌, [], length, get_or, map, take, slice_get, Some, ap, refl, sym, subst, ◌∙◌, length-append, take_all, arith}
use Rattle.std.specs.Prelude.{List}
use Rattle.std.specs.List.{list_any}
use Rattle.std.proofs.lemmas.Iterator.Adapters.{YieldsList-from_vec}
use Rattle.std.proofs.lemmas.Iterator.Consumers.{YieldsList-end, YieldsList-turn}
use Rattle.std.proofs.lemmas.List.Elements.{AllZip-get_or}
use Rattle.std.proofs.lemmas.Option.{slice_get_read, slice_get_within}
use Rattle.shared.specs.Totals.{Stands}
use Rattle.search_shards.specs.Sharded.{shard_of}
use Rattle.search_layer.specs.declared.visited.Candidate.{Candidate}
use Rattle.search_layer.specs.internal.Search.{newly, state_of, step_of}
use Rattle.search_layer.specs.internal.Shards.{IsShardAt}
use Rattle.search_layer.specs.internal.Thinned.{AreThinned}
use Rattle.search_layer.proofs.Drawing.{stands-at}
use Rattle.search_layer.proofs.NotFirst.{IsUpTo, first-is-new, kept-known, kept-new, not-there, other-is-known, up-first, up-other}
use Rattle.search_layer.proofs.Thinned.{all-at, has-state, same-length, the-same}
use Rattle.search_layer.proofs.entering.enter_first.Given.{Over}
use Rattle.search_layer.proofs.entering.enter_first.Goals as goal
use Rattle.search_layer.proofs.entering.enter_first.Goals.{After-drop-candidate-iterator-2, In-Some, then-next-firsts+then-firsts-next+in_ok-add, else-next-firsts, else-next-firsts-via-then-next-firsts+else-firsts-next, else-next-firsts-via-else-next-firsts}

-- the candidate stands at the position that is counted
taken : (g : Over) (c : In-Some g) → slice_get c.args.candidates.items c.loop-candidate.at ≡ Some c.in-Some.candidate
taken g c =
    let items = c.args.candidates.items in
    let at = c.loop-candidate.invariant.at in
    let turn = YieldsList-turn (YieldsList-from_vec {s = c.into_iter-candidate-iterator.result} items (cc) (cc)) c.loop-candidate.yielded c.loop-candidate.candidate-iterator c.loop-candidate.yielded_by
    c.next.result c.next.new.self c.in-Some.candidate c.in-Some.is c.next.ensures.steps in
    let low = turn.0 in
    slice_get_read items (length items) c.loop-candidate.at c.in-Some.candidate refl (omega arith) (turn.1 ∙ ap (λ n. get_or items n c.in-Some.candidate) (sym at))

one_more : (g : Over) (c : In-Some g) → (c.loop-candidate.at + 1) % 2 ^ 64 ≡ c.loop-candidate.at + 1
one_more g c =
    let low = slice_get_within c.args.candidates.items c.loop-candidate.at c.in-Some.candidate (taken g c) in
    let ok = c.args.candidates.ok in
    let small = c.args.candidates.small in
    omega arith

pub with_state-requires : goal.with_state-requires
with_state-requires g c =
    let first = c.requires.first in
    let firsts = c.args.firsts.now in
    let next = c.loop-candidate.next in
    has-state g.S.PartialEq.eq c.args.visited.now.states.keys first.0 c.args.candidates.items first.1 firsts first.2 c.loop-candidate.at c.in-Some.candidate
    (taken g (goal.at.with_state-requires g c).In-Some) (subst (λ k. Stands k firsts) c.if-firsts-next.true (stands-at firsts next c.if-next-firsts.true))

pub add-requires-clause-shard : goal.add-requires-clause-shard
add-requires-clause-shard g c κs within =
    let input = g.S.Hash.hash_input in
    let items = c.args.candidates.items in
    let firsts = c.args.firsts.now in
    let candidate = c.in-Some.candidate in
    let one = AllZip-get_or (IsShardAt input c.args.visited.now.states.shards items) firsts c.args.shards.now c.loop-candidate.next 0 0 c.requires.shards c.if-next-firsts.true in
    one candidate c.with_state.result.state (ap (slice_get items) c.if-firsts-next.true ∙ taken g (goal.at.add-requires-clause-shard g c).In-Some) (ap (λ (x : _). x.state) c.with_state.ensures)
    ∙ ap (λ n. shard_of input n c.with_state.result.state) (sym c.loop-candidate.invariant.shards)

pub add-requires-clause-new : goal.add-requires-clause-new
add-requires-clause-new g c κs within =
    let first = c.requires.first in
    let eq = g.S.PartialEq.eq in
    let laws = (g.met.S.Eq g.world.𝓛 g.world.𝓜 g.world.𝓡 ((λ s x. x), (λ x. x), (λ x. x), λ x. x)).laws in
    let firsts = c.args.firsts.now in
    let next = c.loop-candidate.next in
    let at = c.loop-candidate.at in
    let known = c.args.visited.now.states.keys in
    let has = subst (λ k. Stands k firsts) c.if-firsts-next.true (stands-at firsts next c.if-next-firsts.true) in
    let r = c.with_state.result in
    let there = the-same eq known first.0 c.args.candidates.items first.1 firsts first.2 at c.in-Some.candidate r (taken g (goal.at.add-requires-clause-new g c).In-Some) c.with_state.ensures has in
    ap (list_any (eq r.state)) (c.loop-candidate.invariant.states first.0 first.1 first.2) ∙ first-is-new eq laws known first.0 firsts r at first.2 there has

pub loop-candidate-preserved : goal.loop-candidate-preserved
loop-candidate-preserved g c =
    let eq = g.S.PartialEq.eq in
    let laws = (g.met.S.Eq g.world.𝓛 g.world.𝓜 g.world.𝓡 ((λ s x. x), (λ x. x), (λ x. x), λ x. x)).laws in
    let firsts = c.args.firsts.now in
    let inv = c.loop-candidate.invariant in
    let next = c.loop-candidate.next in
    let at = c.loop-candidate.at in
    let known = c.args.visited.now.states.keys in
    let steps = c.args.visited.now.steps in
    let items = c.args.candidates.items in
    let candidate = c.in-Some.candidate in
    let ascending = c.requires.first.2.ascending in
    let some = (goal.at.loop-candidate-preserved g c).In-Some in
    let more = one_more g some in
    let count : (at + 1) % 2 ^ 64 ≡ length (c.loop-candidate.yielded ++ candidate ∷ []) = (let l = length-append c.loop-candidate.yielded (candidate ∷ []) in let k = inv.at in omega arith) in
    elim c.if-next-firsts.branch [
      | then-next-firsts+then-firsts-next+in_ok-add w ↦ (
          let has = subst (λ k. Stands k firsts) w.if-firsts-next.true (stands-at firsts next w.if-next-firsts.true) in
          let r = w.with_state.result in
          record {
            states = λ all thinned first.
                let there = the-same eq known all items thinned firsts first at candidate r (taken g some) w.with_state.ensures has in
                let new = first-is-new eq laws known all firsts r at first there has in
                ap (λ (v : _). v.states.keys) w.visited-is
                ∙ kept-new eq laws state_of known all r at there known c.loop-candidate.visited.states.keys (inv.states all thinned first) w.add.new.self.states.keys new w.in_ok-add.ensures.states
                ∙ ap (λ n. known ++ map state_of (newly eq known (take n all))) (sym more);
            steps = λ all thinned first.
                let there = the-same eq known all items thinned firsts first at candidate r (taken g some) w.with_state.ensures has in
                let new = first-is-new eq laws known all firsts r at first there has in
                ap (λ (v : _). v.steps) w.visited-is
                ∙ kept-new eq laws step_of known all r at there steps c.loop-candidate.visited.steps (inv.steps all thinned first) w.add.new.self.steps new w.in_ok-add.ensures.steps
                ∙ ap (λ n. steps ++ map step_of (newly eq known (take n all))) (sym more);
            shards = ap (λ (v : _). v.states.shards) w.visited-is ∙ w.add.ensures.shards ∙ inv.shards;
            at = count;
            up = subst (λ n. IsUpTo firsts n ((at + 1) % 2 ^ 64)) (sym w.next-is)
                (subst (λ k. IsUpTo firsts (next + 1) k) (sym more) (up-first firsts next at ascending inv.up w.if-next-firsts.true w.if-firsts-next.true));
          })
      | else-next-firsts w ↦ (
          let other : next < length firsts → get_or firsts next 0 ≢ at = elim w.else-next-firsts.branch [
            | else-next-firsts-via-then-next-firsts+else-firsts-next w' ↦ (λ low. w'.if-firsts-next.false)
            | else-next-firsts-via-else-next-firsts w' ↦ (let past = w'.if-next-firsts.false in λ low. absurd (omega arith))
          ] in
          let missing = not-there firsts next at ascending inv.up other in
          record {
            states = λ all thinned first.
                let full = all-at eq known all items thinned at candidate (taken g some) in
                ap (λ (v : _). v.states.keys) w.visited-is
                ∙ kept-known eq laws state_of known all full.0 at full.1 known c.loop-candidate.visited.states.keys (inv.states all thinned first)
                (other-is-known eq laws known all firsts full.0 at first full.1 missing)
                ∙ ap (λ n. known ++ map state_of (newly eq known (take n all))) (sym more);
            steps = λ all thinned first.
                let full = all-at eq known all items thinned at candidate (taken g some) in
                ap (λ (v : _). v.steps) w.visited-is
                ∙ kept-known eq laws step_of known all full.0 at full.1 steps c.loop-candidate.visited.steps (inv.steps all thinned first)
                (other-is-known eq laws known all firsts full.0 at first full.1 missing)
                ∙ ap (λ n. steps ++ map step_of (newly eq known (take n all))) (sym more);
            shards = ap (λ (v : _). v.states.shards) w.visited-is ∙ inv.shards;
            at = count;
            up = subst (λ n. IsUpTo firsts n ((at + 1) % 2 ^ 64)) (sym w.next-is)
                (subst (λ k. IsUpTo firsts next k) (sym more) (up-other firsts next at ascending inv.up other));
          })
    ]

-- at the end all candidates were counted
whole : (g : Over) (c : After-drop-candidate-iterator-2 g) (all : List (Candidate g.row.S.Denot g.row.L.Denot)) → AreThinned g.S.PartialEq.eq c.args.visited.now.states.keys all c.args.candidates.items
    → take c.loop-candidate.at all ≡ all
whole g c all thinned =
    let items = c.args.candidates.items in
    let ended = YieldsList-end (YieldsList-from_vec {s = c.into_iter-candidate-iterator.result} items (cc) (cc)) c.loop-candidate.yielded c.loop-candidate.candidate-iterator c.loop-candidate.yielded_by
    c.next.result c.next.new.self c.in-None.is c.next.ensures.steps in
    let len = same-length g.S.PartialEq.eq c.args.visited.now.states.keys all items thinned in
    let at = c.loop-candidate.invariant.at in
    let end = ended.1 in
    take_all c.loop-candidate.at all (omega arith)

pub returns-clause-states : goal.returns-clause-states
returns-clause-states g c = λ all thinned first.
    let known = c.args.visited.now.states.keys in
    c.loop-candidate.invariant.states all thinned first ∙ ap (λ cs. known ++ map state_of (newly g.S.PartialEq.eq known cs)) (whole g c all thinned)

pub returns-clause-steps : goal.returns-clause-steps
returns-clause-steps g c = λ all thinned first.
    c.loop-candidate.invariant.steps all thinned first ∙ ap (λ cs. c.args.visited.now.steps ++ map step_of (newly g.S.PartialEq.eq c.args.visited.now.states.keys cs)) (whole g c all thinned)
