use Rattle.std.proofs.Common.{◌≡◌, ◌+◌, ◌-◌, arith, inl, inr, refl}
use Rattle.std.proofs.lemmas.Result.{err_from_is_err_and}
use Rattle.ttcn_syntax.proofs.Cuts.{read-gap, read-token, read_all, read_fault, other_fault, rest-is, piece-within, part-within, nothing-read}
use Rattle.ttcn_syntax.proofs.Once.{reads-once}
use Rattle.ttcn_syntax.proofs.lexer.lex.Goals as goal
use Rattle.ttcn_syntax.proofs.lexer.lex.Goals.{in-Some+in_ok-push, in_default}
use Rattle.ttcn_syntax.specs.Limits.{longest_text}

pub returns-in_err-token-clause-too_long : goal.returns-in_err-token-clause-too_long
returns-in_err-token-clause-too_long c =
    let p = err_from_is_err_and c.from_residual.result c.from_residual.ensures.1 in
    other_fault _ longest_text c.from_residual.result c.in_err-token.field-0.0 (rw p.2 at p.1) c.in_err-token.ensures.fault c.if-text-gt-LONGEST_TEXT.false

pub returns-in_err-token-clause-fault : goal.returns-in_err-token-clause-fault
returns-in_err-token-clause-fault c =
    let p = err_from_is_err_and c.from_residual.result c.from_residual.ensures.1 in
    let text = c.args.text.now in
    let at = c.loop-at.at in
    let n = c.piece_at-piece.result.1 in
    let count : (at + n) - at ≡ n = omega arith in
    let longest = rw (rest-is text at) at c.piece_at-piece.ensures.longest in
    rw (p.1, p.2) (inr (elim c.in_err-token.ensures.fault [
      | inl memory ↦ inl memory
      | inr fault ↦ inr (read_fault text at n c.loop-at.place c.loop-at.tokens.items c.in_err-token.field-0.0 c.loop-at.invariant longest (rw count at fault))
    ]))

pub loop-at-preserved : goal.loop-at-preserved
loop-at-preserved c =
    let text = c.args.text.now in
    let at = c.loop-at.at in
    let n = c.piece_at-piece.result.1 in
    let count : (at + n) - at ≡ n = omega arith in
    let read = c.loop-at.invariant in
    let next = c.place_behind-place.result in
    let longest = rw (rest-is text at) at c.piece_at-piece.ensures.longest in
    let within = piece-within text at n read.within (rw (rest-is text at) at c.piece_at-piece.ensures.within) in
    let line = part-within text at n c.loop-at.place.line next.line read.line (rw count at c.place_behind-place.ensures.line) in
    let column = part-within text at n c.loop-at.place.column next.column read.column (rw count at c.place_behind-place.ensures.column) in
    let moved = rw count at c.place_behind-place.ensures.moved in
    elim c.match-branch-2.branch [
      | in-Some+in_ok-push w ↦
          read-token text at n c.loop-at.place next c.loop-at.tokens.items c.match-branch-2.tokens.items w.in-Some.token
          read longest (rw (w.in-Some.is, count) at c.in_ok-token.ensures.token) within line column moved (rw w.tokens-is w.in_ok-push.ensures.items)
      | in_default w ↦
          read-gap text at n c.loop-at.place next c.loop-at.tokens.items c.match-branch-2.tokens.items
          read longest (nothing-read c.in_ok-token.field-0 _ _ c.in_ok-token.ensures.token w.in_default.not-Some) within line column moved (rw w.tokens-is refl)
    ]

pub returns-clause-tokens : goal.returns-clause-tokens
returns-clause-tokens c = read_all c.args.text.now c.loop-at.at c.loop-at.place c.loop-at.tokens.items c.loop-at.invariant c.loop-at-test.false

pub returns-then-text-gt-LONGEST_TEXT-clause-one : goal.returns-then-text-gt-LONGEST_TEXT-clause-one
returns-then-text-gt-LONGEST_TEXT-clause-one c = reads-once c.args.text.now

pub returns-in_err-token-clause-one : goal.returns-in_err-token-clause-one
returns-in_err-token-clause-one c = reads-once c.args.text.now

pub returns-in_err-push-clause-one : goal.returns-in_err-push-clause-one
returns-in_err-push-clause-one c = reads-once c.args.text.now

pub returns-clause-one : goal.returns-clause-one
returns-clause-one c = reads-once c.args.text.now
