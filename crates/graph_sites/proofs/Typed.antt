-- The types of expressions and messages by themselves.
use Rattle.std.proofs.Common.{◌≡◌, refl, sym, ap, ◌∙◌, ℕ, ◌+◌, ◌-◌, ◌<◌, ◌≤◌, Bool, List, [], ◌∷◌, length, map, get_or, drop, Option, Some, None, arith}
use Rattle.std.proofs.lemmas.List.{drop_all}
use Rattle.ttcn_syntax.specs.declared.operator.Operator.{Operator}
use Rattle.ttcn_syntax.specs.declared.tree.definition.Definition.{Definition}
use Rattle.ttcn_syntax.specs.declared.tree.expression.Expr.{Expr}
use Rattle.ttcn_syntax.specs.declared.tree.expression.Expr.TheVariants as expr
use Rattle.ttcn_syntax.specs.declared.tree.expression.Link.{Link, out-Link}
use Rattle.ttcn_syntax.specs.declared.tree.template.MessageTemplate.{MessageTemplate}
use Rattle.check_rules.proofs.Judgements.{expression-Chain, expression-Null, link-out}
use Rattle.check_rules.specs.Expressions.{Judge, Judgement, along, expression, join_link, join_links, link, within}
use Rattle.check_rules.specs.Templates.{typing_of_template}
use Rattle.check_scope.proofs.Lookups.{drop-next}
use Rattle.check_scope.specs.Names.{Scope}
use Rattle.check_scope.specs.Typings.{result_of, type_known, typed}
use Rattle.check_scope.specs.declared.types.DataType.{DataType}
use Rattle.check_scope.specs.declared.types.Typing.{Typing}
use Rattle.check_scope.specs.declared.types.Typing.TheVariants as typing
use Rattle.check_rules.specs.Messages.{Passing, by_template, by_type_name, type_by_itself, type_of_message}

-- ---- fields

pub along-next : (definitions : List Definition) (names : List (List ℕ)) (i : ℕ) (name : List ℕ) (t next : Typing) → i < length names → name ≡ get_or names i name
    → next ≡ (within definitions t name).typing → (along definitions next (drop (i + 1) names)).typing ≡ (along definitions t (drop i names)).typing
along-next definitions names i name t next below is found =
    ap (λ u. (along definitions u (drop (i + 1) names)).typing) found ∙ sym (ap (λ l. (along definitions t l).typing) (drop-next names i name below is))

pub along-end : (definitions : List Definition) (names : List (List ℕ)) (i : ℕ) (t : Typing) → length names ≤ i → t ≡ (along definitions t (drop i names)).typing
along-end definitions names i t past = sym (ap (λ l. (along definitions t l).typing) (drop_all i names past))

-- ---- expressions

module _ (scope : Scope) (free : Bool) where
  pub of-null : typing.Null ≡ (expression expr.Null scope free).typing
  of-null = sym (ap (λ (j : Judgement). j.typing) (expression-Null scope free))

  -- a chain is of the type of its last operator
  join-last : (judge : Judge) (l : Link) (links : List Link) (last : Link) → last ≡ get_or (l ∷ links) (length links) last
      → typing.Known (result_of (out-Link last).operator) ≡ (join_links judge (map link (l ∷ links)) scope free).typing
  join-last judge l [] last is = ap (λ x. typing.Known (result_of (out-Link x).operator)) is ∙ sym (ap (λ (p : Operator × Judge). typing.Known (result_of p.0)) (link-out l))
  join-last judge l (m ∷ links) last is = join-last (join_link (link l).0 judge (link l).1) m links last is

  pub of-chain : (first : Expr) (links : List Link) (last : Link) → 1 ≤ length links → last ≡ get_or links (length links - 1) last
      → typing.Known (result_of (out-Link last).operator) ≡ (expression (expr.Chain first links) scope free).typing
  of-chain first [] last some is = absurd (omega (arith, some))
  of-chain first (l ∷ links) last some is =
      let here : length (l ∷ links) - 1 ≡ length links = omega arith in
      join-last (expression first) l links last (is ∙ ap (λ n. get_or (l ∷ links) n last) here) ∙ sym (ap (λ (j : Judge). (j scope free).typing) (expression-Chain first (l ∷ links)))

  -- one without operators is of the type of its operand
  pub of-alone : (first : Expr) (links : List Link) (t : Typing) → length links < 1 → t ≡ (expression first scope free).typing → t ≡ (expression (expr.Chain first links) scope free).typing
  of-alone first [] t none is = is ∙ sym (ap (λ (j : Judge). (j scope free).typing) (expression-Chain first []))
  of-alone first (l ∷ links) t none is = absurd (omega (arith, none))

-- ---- messages

pub known-typed : (of : Option DataType) → of ≡ type_known (typed of)
known-typed None = refl
known-typed (Some t) = refl

-- by itself a message is of the type that it names, whatever passes
pub known-itself : (passing : Passing) (t : Typing) → type_known t ≡ type_known (type_by_itself passing t).typing
known-itself passing (typing.Known t) = refl
known-itself passing typing.Null = refl
known-itself passing typing.AnyComponent = refl
known-itself passing typing.NoValue = refl
known-itself passing typing.Unknown = refl

module _ (scope : Scope) (passing : Passing) (otherwise : Judgement) (message : MessageTemplate) where
  pub message-typed : (t : Typing) → message.type_name ≡ None → Some t ≡ typing_of_template scope message.template
      → type_known t ≡ type_known (type_of_message scope passing otherwise message).typing
  message-typed t is found =
      known-itself passing t ∙ ap (λ o. type_known (by_template passing otherwise o).typing) found
      ∙ sym (ap (λ o. type_known (by_type_name scope passing otherwise message.template o).typing) is)
