-- Tokens spell one module at most.
use Rattle.std.proofs.Common.{◌≡◌, List}
use Rattle.ttcn_syntax.specs.declared.token.Spanned.{Spanned}
use Rattle.ttcn_syntax.specs.declared.tree.definition.Module.{Module}
use Rattle.parse_grammar.specs.Grammar.{IsModule}
use Rattle.parse_grammar.proofs.Complete as grammar

pub one_tree : (ts : List Spanned) (tree other : Module) → IsModule ts tree → IsModule ts other → tree ≡ other
one_tree = grammar.one_tree
