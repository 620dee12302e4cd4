-- What a spelling leaves of its tokens.
use Rattle.std.proofs.Common.{◌≤◌, ◌<◌, List, length, arith}
use Rattle.ttcn_syntax.specs.declared.token.Spanned.{Spanned}
use Rattle.parse_limits.specs.Groups.{Balanced, Group, braces, nothing, pair, plain}
use Rattle.parse_grammar.specs.Grammar.{InTurn, Part, Parts, Spells, all, and_more, at_its_end, balanced, by, end, here, last_one, next_item, next_semicolon, no_item, no_semicolon, then, this}

balanced-shrinks : {ts rest : List Spanned} → Balanced ts rest → length rest ≤ length ts
balanced-shrinks nothing = omega arith
balanced-shrinks (plain o c more) = omega (arith, balanced-shrinks more)
balanced-shrinks (pair is p inside close more) = omega (arith, balanced-shrinks inside, balanced-shrinks more)

group-shrinks : {ts rest : List Spanned} → Group ts rest → length rest < length ts
group-shrinks (braces is inside close) = omega (arith, balanced-shrinks inside)

-- what is spelled leaves no more tokens than there were
mutual
  pub shrinks : {p : Part} {ts rest : List Spanned} → Spells p ts rest → length rest ≤ length ts
  shrinks (this is) = omega arith
  shrinks here = omega arith
  shrinks (by made turn) = turn-shrinks turn
  shrinks (all turn) = turn-shrinks turn
  shrinks (last_one s) = shrinks s
  shrinks (and_more s is more) = omega (arith, shrinks s, shrinks more)
  shrinks no_item = omega arith
  shrinks (next_item s gap more) = omega (arith, shrinks s, shrinks gap, shrinks more)
  shrinks (at_its_end s ends) = shrinks s
  shrinks no_semicolon = omega arith
  shrinks (next_semicolon is s) = omega (arith, shrinks s)
  shrinks (balanced g) = omega (arith, group-shrinks g)

  pub turn-shrinks : {ps : Parts} {ts rest : List Spanned} → InTurn ps ts rest → length rest ≤ length ts
  turn-shrinks end = omega arith
  turn-shrinks (then s more) = omega (arith, shrinks s, turn-shrinks more)
