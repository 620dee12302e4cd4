use Rattle.std.proofs.Common.{inr}
use Rattle.ttcn_syntax.proofs.Readings.{gap-read, integer-read, large-read, float-read, text-read, symbol-read, other-read, open-comment-read, open-text-read, bad-byte-read}
use Rattle.ttcn_syntax.proofs.reading.token_of.Goals as goal

pub returns-in-Blanks-clause-token : goal.returns-in-Blanks-clause-token
returns-in-Blanks-clause-token c = gap-read c.in-Blanks.is

pub returns-in-Some-clause-token : goal.returns-in-Some-clause-token
returns-in-Some-clause-token c = integer-read c.args.bytes.now c.in-Integer.is c.in-Some.ensures.0 c.in-Some.ensures.1

pub returns-in-None-clause-fault : goal.returns-in-None-clause-fault
returns-in-None-clause-fault c = inr (large-read c.args.bytes.now c.args.place c.in-Integer.is c.in-None.ensures)

pub returns-in-Float-clause-token : goal.returns-in-Float-clause-token
returns-in-Float-clause-token c = float-read c.args.bytes.now c.in-Float.is

pub returns-in-Text-clause-token : goal.returns-in-Text-clause-token
returns-in-Text-clause-token c = text-read c.args.bytes.now c.in-Text.is

pub returns-in-Symbol-clause-token : goal.returns-in-Symbol-clause-token
returns-in-Symbol-clause-token c = symbol-read c.args.bytes.now c.in-Symbol.is

pub returns-in-Other-clause-token : goal.returns-in-Other-clause-token
returns-in-Other-clause-token c = other-read c.args.bytes.now c.in-Other.is

pub returns-in-OpenComment-clause-fault : goal.returns-in-OpenComment-clause-fault
returns-in-OpenComment-clause-fault c = inr (open-comment-read c.args.bytes.now c.args.place c.in-OpenComment.is)

pub returns-in-OpenText-clause-fault : goal.returns-in-OpenText-clause-fault
returns-in-OpenText-clause-fault c = inr (open-text-read c.args.bytes.now c.args.place c.in-OpenText.is)

pub returns-in-BadByte-clause-fault : goal.returns-in-BadByte-clause-fault
returns-in-BadByte-clause-fault c = inr (bad-byte-read c.args.bytes.now c.args.place c.in-BadByte.is)
