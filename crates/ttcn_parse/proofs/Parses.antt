-- What the parser answers, from what its functions read.
use Rattle.std.proofs.Common.{◌≡◌, List}
use Rattle.std.specs.Prelude.{Some, None}
use Rattle.ttcn_syntax.specs.declared.token.Spanned.{Spanned}
use Rattle.ttcn_syntax.specs.declared.tree.definition.Module.{Module}
use Rattle.parse_limits.specs.Groups.{IsTooDeep}
use Rattle.parse_limits.specs.LeftOut.{HasLeftOut}
use Rattle.parse_reader.specs.Modules.{whole}
use Rattle.ttcn_parse.specs.Refused.{IsRead, IsUnread}
use Rattle.parse_grammar.proofs.Complete.{reads_whole}
use Rattle.parse_grammar.proofs.SoundDefinitions.{reads_module}

pub parses : (tokens : List Spanned) (tree : Module) (rest : List Spanned) → (IsTooDeep tokens → ⊥) → (HasLeftOut tokens → ⊥)
    → whole tokens ≡ Some (tree, rest) → IsRead tokens tree
parses tokens tree rest shallow used h = record {
  not_deep = shallow;
  not_left_out = used;
  is_module = reads_module tokens tree rest h;
}

pub refuses : (tokens : List Spanned) → (IsTooDeep tokens → ⊥) → (HasLeftOut tokens → ⊥) → whole tokens ≡ None → IsUnread tokens
refuses tokens shallow used h = record {
  not_deep = shallow;
  not_left_out = used;
  no_module = λ tree spells. (let read = reads_whole spells in cc);
}
