use Rattle.std.proofs.Common.{◌≤◌, ◌+◌, [], ◌∷◌, ◌++◌, length, refl, sym, ap, ◌∙◌, arith}
use Rattle.check_survey.specs.Graphs.{references}
use Rattle.check_survey.specs.Things.{capped}
use Rattle.check_survey.specs.declared.search.State.TheVariants.{New, Open, Done}
use Rattle.check_survey.proofs.Chains.{own-read, references-read}
use Rattle.check_survey.proofs.Sizes.{size-around}
use Rattle.check_survey.proofs.Steps.{begun-next, finished, found-circle, last-read, left-begun, left-finished, left-passed, passed, read_all, read-more, reads-next, state-read}
use Rattle.check_survey.proofs.search.Search.advance.Goals as goal

pub returns-then-step-len-clause-searched : goal.returns-then-step-len-clause-searched
returns-then-step-len-clause-searched c =
    let things = c.args.things.now in
    let step = c.args.step in
    let thing = c.index-things-step.result in
    let known = c.requires.searched in
    let read = last-read things c.args.self.now.states.items c.args.self.now.path.items step known in
    let refers = references-read things step.thing thing read.within c.index-things-step.is in
    let all : length (references things step.thing) ≤ step.passed = omega (arith, ap length refers, c.len.ensures, c.if-step-len.true) in
    finished things c.args.self.now.states.items c.args.self.now.path.items step known c.around.result
    (size-around things step.thing step.size c.around.result read.within (read_all things step read all) c.around.ensures.chain
    (c.around.ensures.weight ∙ ap (λ n. capped (step.size.weight + n)) (sym (own-read things step.thing thing read.within c.index-things-step.is))))

pub returns-then-step-len-clause-less : goal.returns-then-step-len-clause-less
returns-then-step-len-clause-less c =
    left-finished c.args.things.now c.args.self.now.states.items c.args.self.now.path.items c.args.step c.requires.searched c.around.result

pub reference-next-requires : goal.reference-next-requires
reference-next-requires c =
    let things = c.args.things.now in
    let step = c.args.step in
    let thing = c.index-things-step.result in
    let read = last-read things c.args.self.now.states.items c.args.self.now.path.items step c.requires.searched in
    let refers = references-read things step.thing thing read.within c.index-things-step.is in
    let not_all = c.if-step-len.false in
    omega (arith, ap length refers, c.len.ensures, read.passed)

pub returns-in-Open-clause-circle : goal.returns-in-Open-clause-circle
returns-in-Open-clause-circle c =
    let things = c.args.things.now in
    let states = c.args.self.now.states.items in
    let path = c.args.self.now.path.items in
    let step = c.args.step in
    let known = c.requires.searched in
    let thing = c.index-things-step.result in
    let next = c.reference-next.result in
    let reads = reads-next things states path step c.requires.complete known thing c.len.result next c.index-things-step.is c.len.ensures c.if-step-len.false c.reference-next.ensures in
    found-circle things states path step known next reads.refers reads.within (state-read states next c.index.result.now Open reads.inside c.index.ensures c.in-Open.is)

pub begin-requires : goal.begin-requires
begin-requires c =
    let thing = c.index-things-step.result in
    (reads-next c.args.things.now c.args.self.now.states.items c.args.self.now.path.items c.args.step c.requires.complete c.requires.searched thing c.len.result
    c.reference-next.result c.index-things-step.is c.len.ensures c.if-step-len.false c.reference-next.ensures).inside

pub overflow_add-step : goal.overflow_add-step
overflow_add-step c =
    let things = c.args.things.now in
    let step = c.args.step in
    let thing = c.index-things-step.result in
    let read = last-read things c.args.self.now.states.items c.args.self.now.path.items step c.requires.searched in
    let refers = references-read things step.thing thing read.within c.index-things-step.is in
    let not_all = c.if-step-len.false in
    omega (arith, ap length refers, c.len.ensures, c.len.type_inv, read.passed)

pub returns-in_ok-begin-in-New-clause-searched : goal.returns-in_ok-begin-in-New-clause-searched
returns-in_ok-begin-in-New-clause-searched c =
    let things = c.args.things.now in
    let states = c.args.self.now.states.items in
    let path = c.args.self.now.path.items in
    let step = c.args.step in
    let known = c.requires.searched in
    let thing = c.index-things-step.result in
    let next = c.reference-next.result in
    let reads = reads-next things states path step c.requires.complete known thing c.len.result next c.index-things-step.is c.len.ensures c.if-step-len.false c.reference-next.ensures in
    let new = state-read states next c.index.result.now New reads.inside c.index.ensures c.in-New.is in
    rw (c.in_ok-begin-in-New.ensures.states, c.in_ok-begin-in-New.ensures.path, c.in_ok-push-in-New.ensures.items) (begun-next things states path step known next reads.refers reads.within new)

pub returns-in_ok-begin-in-New-clause-less : goal.returns-in_ok-begin-in-New-clause-less
returns-in_ok-begin-in-New-clause-less c =
    let things = c.args.things.now in
    let states = c.args.self.now.states.items in
    let path = c.args.self.now.path.items in
    let step = c.args.step in
    let known = c.requires.searched in
    let thing = c.index-things-step.result in
    let next = c.reference-next.result in
    let reads = reads-next things states path step c.requires.complete known thing c.len.result next c.index-things-step.is c.len.ensures c.if-step-len.false c.reference-next.ensures in
    let new = state-read states next c.index.result.now New reads.inside c.index.ensures c.in-New.is in
    rw (c.in_ok-begin-in-New.ensures.states, c.in_ok-begin-in-New.ensures.path, c.in_ok-push-in-New.ensures.items) (left-begun things states (path ++ step ∷ []) next reads.within new known.count)

pub returns-in_ok-push-in-Done-clause-searched : goal.returns-in_ok-push-in-Done-clause-searched
returns-in_ok-push-in-Done-clause-searched c =
    let things = c.args.things.now in
    let states = c.args.self.now.states.items in
    let path = c.args.self.now.path.items in
    let step = c.args.step in
    let known = c.requires.searched in
    let thing = c.index-things-step.result in
    let next = c.reference-next.result in
    let reads = reads-next things states path step c.requires.complete known thing c.len.result next c.index-things-step.is c.len.ensures c.if-step-len.false c.reference-next.ensures in
    let done = state-read states next c.index.result.now (Done c.in-Done.size) reads.inside c.index.ensures c.in-Done.is in
    let more = read-more things step (last-read things states path step known) next c.in-Done.size c.beside.result reads.below reads.is (known.done next c.in-Done.size done) c.beside.ensures.chain c.beside.ensures.weight in
    rw c.in_ok-push-in-Done.ensures.items (passed things states path step known _ refl more)

pub returns-in_ok-push-in-Done-clause-less : goal.returns-in_ok-push-in-Done-clause-less
returns-in_ok-push-in-Done-clause-less c =
    let things = c.args.things.now in
    let states = c.args.self.now.states.items in
    let path = c.args.self.now.path.items in
    let step = c.args.step in
    let known = c.requires.searched in
    let thing = c.index-things-step.result in
    let next = c.reference-next.result in
    let reads = reads-next things states path step c.requires.complete known thing c.len.result next c.index-things-step.is c.len.ensures c.if-step-len.false c.reference-next.ensures in
    rw c.in_ok-push-in-Done.ensures.items (left-passed things states path step known _ refl reads.below refl)
