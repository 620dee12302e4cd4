use Rattle.std.proofs.Common.{◌≡◌, take, vec_len}
use Rattle.std.specs.List.{count_by}
use Rattle.test_corpus.specs.Rows.{is_title}
use Rattle.test_corpus.proofs.reading.read_rows.Given as goal

-- each title so far gave a row
abbrev pub invariant-loop-at : goal.invariant-loop-at
invariant-loop-at l = vec_len l.rows ≡ count_by (λ line. is_title line.now) (take l.at l.lines)
