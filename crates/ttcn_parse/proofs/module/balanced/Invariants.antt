use Rattle.std.proofs.Common.{◌≡◌, ◌∷◌, [], length, reverse}
use Rattle.ttcn_syntax.specs.declared.token.Symbol.TheVariants as mark
use Rattle.parse_reader.specs.Modules.{balanced_from}
use Rattle.ttcn_parse.proofs.module.balanced.Given as goal

-- the brackets that are to be closed are those that the tokens so far leave of the first
abbrev pub invariant-loop-token : goal.invariant-loop-token
invariant-loop-token l =
    balanced_from (mark.RightBrace ∷ []) l.fn.parser ≡ balanced_from (reverse l.expected.items) l.parser

abbrev pub decreases-loop-token : goal.decreases-loop-token
decreases-loop-token l = length l.parser
