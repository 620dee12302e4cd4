use Rattle.std.proofs.Common.{◌≡◌, ◌+◌, ◌-◌, ◌*◌, [], None}
use Rattle.parse_expressions.specs.internal.Level.{rank_of}
use Rattle.parse_reader.specs.internal.Expressions.{inner, links_from, most_links, operand_of}
use Rattle.parse_expressions.proofs.expressions.+expression.Given as goal

abbrev pub decreases-operand : goal.decreases-operand
decreases-operand l = l.depth * 64 + 2 * rank_of l.level

abbrev pub decreases-chain : goal.decreases-chain
decreases-chain l = l.depth * 64 + 2 * rank_of l.tighter + 2

abbrev pub decreases-links : goal.decreases-links
decreases-links l = l.depth * 64 + 2 * rank_of l.tighter + 1

abbrev pub decreases-negation : goal.decreases-negation
decreases-negation l = l.depth * 64 + 27

abbrev pub decreases-signed : goal.decreases-signed
decreases-signed l = l.depth * 64 + 7

abbrev pub decreases-primary : goal.decreases-primary
decreases-primary l = l.depth * 64 + 6

abbrev pub decreases-bracketed : goal.decreases-bracketed
decreases-bracketed l = l.depth * 64 + 5

-- the links so far and those that are left are those of the beginning
abbrev pub invariant-links-loop-turn : goal.invariant-links-loop-turn
invariant-links-loop-turn l =
    links_from (operand_of (inner l.depth) l.tighter None) l.level (most_links l.level l.fn.parser) [] l.fn.parser
    ≡ links_from (operand_of (inner l.depth) l.tighter None) l.level (l._turn-end - l._turn) l.links l.parser
