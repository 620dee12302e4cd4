-- What is read of some texts.
use Rattle.std.proofs.Common.{◌≡◌, true, false, List, [], ◌∷◌, refl}
use Rattle.std.specs.Prelude.{Some, None}
use Rattle.ttcn_syntax.specs.declared.operator.Operator.TheVariants as operator
use Rattle.ttcn_syntax.specs.declared.token.Symbol.TheVariants as mark
use Rattle.ttcn_syntax.specs.declared.token.Token.{Token}
use Rattle.ttcn_syntax.specs.declared.token.Token.TheVariants as token
use Rattle.ttcn_syntax.specs.declared.token.Spanned.{Spanned}
use Rattle.ttcn_syntax.specs.declared.token.Word.TheVariants as word
use Rattle.ttcn_syntax.specs.declared.tree.expression.Expr.TheVariants as expr
use Rattle.parse_reader.specs.Trees.{link}
use Rattle.parse_reader.specs.internal.Reading.{expect, same_level, same_symbol, same_word, sees, sees_word}
use Rattle.parse_reader.specs.internal.Expressions.{bracketed, chain, eat_operator, expression, inner, links_from, most_links, negation, primary, signed}

-- tokens at one place
abbrev at_one_place : List Token → List Spanned
at_one_place [] = []
at_one_place (t ∷ ts) = record { token = t; place = record { line = 1; column = 1 } } ∷ at_one_place ts

-- `1 < 2 == true` compares what `1 < 2` gives
one-less-two-is-true : expression (at_one_place (token.Int 1 ∷ token.Symbol mark.Less ∷ token.Int 2 ∷ token.Symbol mark.Equal ∷ token.Word word.True ∷ []))
    ≡ Some (expr.Chain (expr.Chain (expr.Int 1) (link operator.Less (expr.Int 2) ∷ [])) (link operator.Equal (expr.Bool true) ∷ []), [])
unfolding expression chain links_from eat_operator most_links negation signed primary same_level same_symbol same_word sees sees_word
one-less-two-is-true = refl

-- `not true == false` denies the comparison
denied-comparison : expression (at_one_place (token.Word word.Not ∷ token.Word word.True ∷ token.Symbol mark.Equal ∷ token.Word word.False ∷ []))
    ≡ Some (expr.Not (expr.Chain (expr.Bool true) (link operator.Equal (expr.Bool false) ∷ [])), [])
unfolding expression chain links_from eat_operator most_links negation signed primary same_level same_symbol same_word sees sees_word
denied-comparison = refl

-- of `(1 < 2 < 3)` no expression is read
no-chain-of-comparisons : expression (at_one_place (token.Symbol mark.LeftParen ∷ token.Int 1 ∷ token.Symbol mark.Less ∷ token.Int 2 ∷ token.Symbol mark.Less ∷ token.Int 3 ∷ token.Symbol mark.RightParen ∷ [])) ≡ None
unfolding expression chain links_from eat_operator most_links negation signed primary same_level same_symbol same_word sees sees_word bracketed inner expect
no-chain-of-comparisons = refl
