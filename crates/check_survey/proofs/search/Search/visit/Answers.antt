use Rattle.std.proofs.Common.{◌≡◌, ◌<◌, [], length, arith, get_or-set_same, sym, ◌∙◌}
use Rattle.std.proofs.lemmas.List.{get_or_read}
use Rattle.check_survey.specs.declared.search.State.TheVariants.{New, Open}
use Rattle.check_survey.proofs.Steps.{begun, begun-on, state-read}
use Rattle.check_survey.proofs.search.Search.visit.Goals as goal
use Rattle.check_survey.proofs.search.Search.visit.Goals.{in-New+in_ok-begin, in_default}

pub loop-step-init : goal.loop-step-init
loop-step-init c =
    let things = c.args.things.now in
    let states = c.args.self.now.states.items in
    let start = c.args.start in
    let known = c.requires.searched in
    let inside : start < length states = omega (arith, known.count, c.requires.within) in
    elim c.match-index.branch [
      | in-New+in_ok-begin w ↦ (let new = state-read states start c.index.result.now New inside c.index.ensures w.in-New.is in
          rw (w.self-is, w.in_ok-begin.ensures.states, w.in_ok-begin.ensures.path, c.requires.path) (record {
            searched = begun things states [] start c.requires.within new c.requires.within known;
            start = λ is. (let e : Open ≡ New = sym (get_or-set_same states start Open New inside) ∙ is in cc);
            begun = begun-on things states [] start Open inside (λ is. cc);
          }))
      | in_default w ↦ rw (w.self-is, c.requires.path) (record {
        searched = known;
        start = λ is. w.in_default.not-New (get_or_read states start c.index.result.now inside c.index.ensures New ∙ is);
        begun = λ i is. is;
      })
    ]
