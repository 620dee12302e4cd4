-- What is said of an expression, form by form, and of a chain, link by link.
use Rattle.std.proofs.Common.{◌≡◌, ℕ, ◌+◌, ◌<◌, ◌≤◌, Bool, false, List, [], ◌∷◌, map, length, get_or, drop, refl, sym, ap, ◌∙◌}
use Rattle.std.proofs.lemmas.List.{drop_all}
use Rattle.ttcn_syntax.specs.declared.operator.Operator.{Operator}
use Rattle.ttcn_syntax.specs.declared.operator.Sign.{Sign}
use Rattle.ttcn_syntax.specs.declared.tree.expression.ComponentRef.{ComponentRef}
use Rattle.ttcn_syntax.specs.declared.tree.expression.Expr.{Expr}
use Rattle.ttcn_syntax.specs.declared.tree.expression.Expr.TheVariants as form
use Rattle.ttcn_syntax.specs.declared.tree.expression.Expr.TheFolds.{fold-roll-Expr}
use Rattle.ttcn_syntax.specs.declared.tree.expression.Expr.TheOpen.{Expr-F}
use Rattle.ttcn_syntax.specs.declared.tree.expression.Link.{Link, fold_out-Link, out-Link}
use Rattle.ttcn_syntax.specs.declared.tree.expression.Reference.{Reference}
use Rattle.check_rules.specs.internal.Findings.{free_before, finding, with_before}
use Rattle.check_scope.specs.internal.Checking.{least}
use Rattle.check_rules.specs.Expressions.{Judgement, Judge, after, check_ispresent, check_running, between, join_links, expression, expression_step, fine, join_link, link, link_step, of_type, operand}
use Rattle.check_scope.specs.Names.{Scope}
use Rattle.check_scope.specs.Typings.{compares}
use Rattle.check_rules.specs.declared.finding.Finding.{Finding}
use Rattle.check_scope.specs.declared.types.DataType.{DataType}
use Rattle.check_scope.specs.declared.types.DataType.TheVariants as type
use Rattle.check_scope.specs.declared.types.Typing.TheVariants as typing
use Rattle.check_rules.proofs.Findings.{finding_after}
use Rattle.check_scope.proofs.Lookups.{drop-next}

-- ---- forms

module _ (scope : Scope) (free : Bool) where
  pub expression-Null : expression form.Null scope free ≡ fine typing.Null
  expression-Null = ap (λ (j : Judge). j scope free) (ap expression (sym form.rolls-Null) ∙ fold-roll-Expr Judge (Operator × Judge) expression_step link_step Expr-F.Null)

  pub expression-Running : (reference : ComponentRef) → expression (form.Running reference) scope free ≡ check_running scope reference
  expression-Running reference = ap (λ (j : Judge). j scope free) (ap expression (sym (form.rolls-Running reference)) ∙ fold-roll-Expr Judge (Operator × Judge) expression_step link_step (Expr-F.Running reference))

  pub expression-Ispresent : (reference : Reference) → expression (form.Ispresent reference) scope free ≡ check_ispresent scope reference
  expression-Ispresent reference = ap (λ (j : Judge). j scope free) (ap expression (sym (form.rolls-Ispresent reference)) ∙ fold-roll-Expr Judge (Operator × Judge) expression_step link_step (Expr-F.Ispresent reference))

  pub expression-Not : (inner : Expr) → expression (form.Not inner) scope free ≡ operand type.Boolean (expression inner scope false)
  expression-Not inner = ap (λ (j : Judge). j scope free) (ap expression (sym (form.rolls-Not inner)) ∙ fold-roll-Expr Judge (Operator × Judge) expression_step link_step (Expr-F.Not inner))

  pub expression-Signed : (sign : Sign) (inner : Expr) → expression (form.Signed sign inner) scope free ≡ operand type.Integer (expression inner scope false)
  expression-Signed sign inner = ap (λ (j : Judge). j scope free) (ap expression (sym (form.rolls-Signed sign inner)) ∙ fold-roll-Expr Judge (Operator × Judge) expression_step link_step (Expr-F.Signed sign inner))

pub expression-Chain : (first : Expr) (links : List Link) → expression (form.Chain first links) ≡ join_links (expression first) (map link links)
expression-Chain first links = ap expression (sym (form.rolls-Chain first links)) ∙ fold-roll-Expr Judge (Operator × Judge) expression_step link_step (Expr-F.Chain first links)

pub link-out : (l : Link) → link l ≡ ((out-Link l).operator, expression (out-Link l).operand)
link-out l = fold_out-Link Judge (Operator × Judge) expression_step link_step l

-- ---- chains

-- what a link makes of what was found before it
abbrev pub linked : Scope → Finding → Operator × Judge → Finding
linked scope found l = with_before found.broken (with_before (least (l.1 scope (compares l.0)).broken) (finding (between l.0 found.typing (l.1 scope (compares l.0)).typing)))

abbrev pub all_linked : Scope → Finding → List (Operator × Judge) → Finding
all_linked scope found [] = found
all_linked scope found (l ∷ links) = all_linked scope (linked scope found l) links

finding-join_link : (scope : Scope) (free : Bool) (op : Operator) (left right : Judge) → finding (join_link op left right scope free) ≡ linked scope (finding (left scope (compares op))) (op, right)
finding-join_link scope free op left right =
    finding_after (left scope (compares op)).broken (after (right scope (compares op)).broken (between op (left scope (compares op)).typing (right scope (compares op)).typing))
    ∙ ap (with_before (least (left scope (compares op)).broken))
    (finding_after (right scope (compares op)).broken (between op (left scope (compares op)).typing (right scope (compares op)).typing))

finding-join_links : (scope : Scope) (free : Bool) (first : Judge) (links : List (Operator × Judge))
    → finding (join_links first links scope free) ≡ all_linked scope (finding (first scope (free_before links free))) links
finding-join_links scope free first [] = refl
finding-join_links scope free first (l ∷ links) =
    finding-join_links scope free (join_link l.0 first l.1) links
    ∙ ap (λ f. all_linked scope f links) (finding-join_link scope (free_before links free) l.0 first l.1)

-- the first operand, with all links
pub chain-first : (scope : Scope) (free : Bool) (first : Expr) (links : List Link) (found : Finding)
    → found ≡ finding (expression first scope (free_before (map link links) free))
    → all_linked scope found (map link (drop 0 links)) ≡ finding (expression (form.Chain first links) scope free)
chain-first scope free first links found is =
    ap (λ f. all_linked scope f (map link links)) is
    ∙ sym (finding-join_links scope free (expression first) (map link links))
    ∙ sym (ap (λ (j : Judge). finding (j scope free)) (expression-Chain first links))

-- one link less is left behind it
pub chain-next : (scope : Scope) (links : List Link) (i : ℕ) (l : Link) (found right next : Finding) → i < length links → l ≡ get_or links i l
    → right ≡ finding (expression (out-Link l).operand scope (compares (out-Link l).operator))
    → next ≡ with_before found.broken (with_before right.broken (finding (between (out-Link l).operator found.typing right.typing)))
    → all_linked scope found (map link (drop i links)) ≡ all_linked scope next (map link (drop (i + 1) links))
chain-next scope links i l found right next inside is right_is next_is =
    ap (λ ls. all_linked scope found (map link ls)) (drop-next links i l inside is)
    ∙ ap (λ x. all_linked scope (linked scope found x) (map link (drop (i + 1) links))) (link-out l)
    ∙ ap (λ f. all_linked scope f (map link (drop (i + 1) links)))
    (sym (next_is ∙ ap (λ r. with_before found.broken (with_before r.broken (finding (between (out-Link l).operator found.typing r.typing)))) right_is))

-- none is left
pub chain-end : (scope : Scope) (links : List Link) (i : ℕ) (found : Finding) → length links ≤ i → all_linked scope found (map link (drop i links)) ≡ found
chain-end scope links i found past = ap (λ ls. all_linked scope found (map link ls)) (drop_all i links past)

-- ---- operands

-- an operand that must be of a type, by what was found of it
pub operand-found : (wanted : DataType) (judged whole : Judgement) (found of next : Finding) → whole ≡ operand wanted judged → found ≡ finding judged → of ≡ finding (of_type wanted found.typing)
    → next ≡ with_before found.broken of → next ≡ finding whole
operand-found wanted judged whole found of next whole-is found_is of_is next_is =
    next_is ∙ ap (with_before found.broken) of_is
    ∙ ap (λ (f : Finding). with_before f.broken (finding (of_type wanted f.typing))) found_is
    ∙ sym (finding_after judged.broken (of_type wanted judged.typing))
    ∙ sym (ap finding whole-is)
