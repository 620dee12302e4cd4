-- What several functions of the code read one behind the other, of statements and branches.
use Rattle.std.proofs.Common.{◌≡◌, ◌∙◌, Bool, true, false, ℕ, zero, suc, ◌+◌, ◌-◌, ◌<◌, List, [], ◌∷◌, ◌++◌, refl, ap, sym}
use Rattle.parse_reader.proofs.Turns.{next-turn}
use Rattle.std.specs.Prelude.{None, Option, Some, if◌then◌else◌}
use Rattle.ttcn_syntax.specs.declared.token.Spanned.{Spanned}
use Rattle.ttcn_syntax.specs.declared.token.Token.{Token}
use Rattle.ttcn_syntax.specs.declared.token.Symbol.TheVariants as mark
use Rattle.ttcn_syntax.specs.declared.token.Word.TheVariants as word
use Rattle.ttcn_syntax.specs.declared.tree.statement.Statement.{Statement}
use Rattle.ttcn_syntax.specs.declared.token.Token.TheVariants as token
use Rattle.ttcn_syntax.specs.declared.tree.expression.Expr.{Expr}
use Rattle.ttcn_syntax.specs.declared.tree.statement.Action.{Action}
use Rattle.ttcn_syntax.specs.declared.tree.statement.Alternative.{Alternative}
use Rattle.ttcn_syntax.specs.declared.tree.statement.Alternative.TheVariants as alternative_form
use Rattle.parse_reader.specs.declared.heads.Head.TheVariants as head
use Rattle.parse_reader.specs.declared.heads.Wait.{Wait}
use Rattle.parse_reader.specs.declared.heads.Wait.TheVariants as wait
use Rattle.parse_reader.specs.Trees.{branch_at, statement_at}
use Rattle.parse_reader.specs.internal.Reading.{Parsed, Parser, after_semicolons, at_brace, and_then, behind, end_item, ended, expect, expect_word, head_token, here, items_from, may_end, pure, sees, sees_word, ◌>>=◌}
use Rattle.parse_reader.specs.internal.Expressions.{expression}
use Rattle.parse_reader.specs.internal.Values.{call, calls}
use Rattle.parse_reader.specs.internal.Events.{an_event}
use Rattle.parse_reader.specs.internal.Actions.{assignment}
use Rattle.parse_reader.specs.internal.Statements.{action_behind, action_by, action_in, alt_by, alternative_by, alternative_of, block_by, block_if_any, block_in, branch_by, branch_head, do_by, do_condition, for_by, for_head, for_start_, for_step, guard, guarded_by, head_by, if_by, in_brackets, statement_by, statement_head, waits_for, while_by}
use Rattle.parse_reader.proofs.Pieces.{piece, step, piece-within, again}

-- ---- what ends where it may

end-split : {A B : Type 0} (k : A → Parser B) (before r : List Spanned) (a : A) (b : Bool)
    → and_then (if b then Some (tt {0}, after_semicolons r) else None) (λ _ rest. k a rest)
    ≡ and_then (if b then Some (a, r) else None) (λ a rest. k a (after_semicolons rest))
end-split k before r a true = refl
end-split k before r a false = refl

ended-split : {A B : Type 0} (o : Parsed A) (k : A → Parser B) (ts : List Spanned)
    → and_then o (λ a r. and_then (end_item ts r) (λ _ rest. k a rest))
    ≡ and_then (and_then o (λ a r. if may_end ts r then Some (a, r) else None)) (λ a rest. k a (after_semicolons rest))
unfolding end_item
ended-split (Some p) k ts = end-split k ts p.1 p.0 (may_end ts p.1)
ended-split None k ts = refl

-- one turn of a loop over items that end where they may
pub item-turn : {A : Type 0} {x : Parsed (List A)} (p : Parser A) (found : List A) (ts : List Spanned) (n at : ℕ) → at < n
    → x ≡ items_from at_brace (ended p) (n - at) found ts
    → x ≡ (if at_brace ts then Some (found, ts) else and_then (p ts) (λ a r. and_then (end_item ts r) (λ _ rest.
    items_from at_brace (ended p) (n - (at + 1)) (found ++ a ∷ []) rest)))
unfolding items_from ended
item-turn p found ts n at below e = next-turn (λ left. items_from at_brace (ended p) left found ts) n at below e
    ∙ ap (λ o. if at_brace ts then Some (found, ts) else o)
    (sym (ended-split (p ts) (λ a. items_from at_brace (ended p) (n - (at + 1)) (found ++ a ∷ [])) ts))

-- ---- statements and branches up to their first block

whole-again : (blocks : Parser (List Statement)) (o : Parsed Action) → and_then (and_then o (λ a r. Some (head.Whole a, r))) (action_behind blocks) ≡ o
whole-again blocks (Some p) = refl
whole-again blocks None = refl

for-split : (blocks : Parser (List Statement)) (ts : List Spanned)
    → and_then (head_by (Some (token.Word word.For)) ts) (action_behind blocks) ≡ for_by blocks ts
unfolding for_by for_head for_step
for-split blocks ts = piece-within (expect_word word.For ts) _ _ _ _ (λ _ r. piece-within (expect mark.LeftParen r) _ _ _ _ (λ _ r.
    piece-within (for_start_ r) _ _ _ _ (λ start r. piece-within (expect mark.Semicolon r) _ _ _ _ (λ _ r. piece (expression r) _ _ _ (λ e r.
    piece-within (expect mark.Semicolon r) _ _ _ _ (λ _ r. piece-within (assignment r) _ _ _ _ (λ a r.
    piece-within (expect mark.RightParen r) _ _ _ _ (λ _ r. refl))))))))

head-split-by : (blocks : Parser (List Statement)) (ts : List Spanned) (t : Option Token)
    → and_then (head_by t ts) (action_behind blocks) ≡ action_by blocks t ts
unfolding alt_by if_by do_by do_condition while_by
head-split-by blocks ts (Some (token.Word word.Alt)) = piece (expect_word word.Alt ts) _ _ _ (λ _ r. refl)
head-split-by blocks ts (Some (token.Word word.If)) = piece (expect_word word.If ts) _ _ _ (λ _ r. refl)
head-split-by blocks ts (Some (token.Word word.Do)) = piece (expect_word word.Do ts) _ _ _ (λ _ r. refl)
head-split-by blocks ts (Some (token.Word word.While)) =
    piece (expect_word word.While ts) _ _ _ (λ _ r. piece (in_brackets r) _ _ _ (λ e r. refl))
head-split-by blocks ts (Some (token.Word word.For)) = for-split blocks ts
head-split-by blocks ts _ = whole-again blocks _

head-split : (blocks : Parser (List Statement)) (ts : List Spanned) → and_then (statement_head ts) (action_behind blocks) ≡ action_in blocks ts
unfolding statement_head action_in
head-split blocks ts = head-split-by blocks ts (head_token ts)

pub statement-split : (blocks : Parser (List Statement)) (ts : List Spanned) → and_then (here ts) (λ place r. and_then (statement_head r) (λ h r.
    and_then (action_behind blocks h r) (λ a r. Some (statement_at place a, r)))) ≡ statement_by blocks ts
unfolding statement_by
statement-split blocks ts = step (here ts) _ _ (λ place r.
    again (statement_head r) (action_behind blocks) (λ a r. Some (statement_at place a, r))
    ∙ ap (λ o. and_then o (λ a r. Some (statement_at place a, r))) (head-split blocks r))

-- a block begins with its brace
block-begins : (depth : ℕ) (ts : List Spanned) → sees mark.LeftBrace ts ≡ false → block_in depth ts ≡ None
unfolding block_in block_by expect
block-begins zero ts h = refl
block-begins (suc depth) ts h = rw h refl

behind-else : (depth : ℕ) (ts : List Spanned) (b : Bool) → sees mark.LeftBrace ts ≡ b
    → and_then (if b then and_then (block_in depth ts) (λ ss r. Some (Some ss, r)) else Some (None, ts)) (alternative_of wait.Else)
    ≡ and_then (block_in depth ts) (λ ss r. Some (alternative_form.Else ss, r))
behind-else depth ts true h = piece (block_in depth ts) _ _ _ (λ ss r. refl)
behind-else depth ts false h = rw (block-begins depth ts h) refl

else-behind : (depth : ℕ) (ts : List Spanned)
    → and_then (block_if_any (block_in depth) ts) (alternative_of wait.Else) ≡ and_then (block_in depth ts) (λ ss r. Some (alternative_form.Else ss, r))
unfolding block_if_any
else-behind depth ts = behind-else depth ts (sees mark.LeftBrace ts) refl

-- the block behind what a branch waits for
abbrev behind_wait : ℕ → Wait → Parser Alternative
behind_wait depth w ts = and_then (block_if_any (block_in depth) ts) (alternative_of w)

wait-split : (depth : ℕ) (g : Option Expr) (ts : List Spanned) (b : Bool)
    → and_then (if b then and_then (call ts) (λ c r. Some (wait.Call g c, r)) else and_then (an_event ts) (λ e r. Some (wait.Event g e, r))) (behind_wait depth)
    ≡ (if b then and_then (call ts) (λ c r. and_then (block_if_any (block_in depth) r) (λ ss r. Some (alternative_form.Call g c ss, r)))
    else and_then (an_event ts) (λ e r. and_then (block_if_any (block_in depth) r) (λ ss r. Some (alternative_form.Event g e ss, r))))
wait-split depth g ts true = piece (call ts) _ _ _ (λ c r. refl)
wait-split depth g ts false = piece (an_event ts) _ _ _ (λ e r. refl)

waits-split : (depth : ℕ) (g : Option Expr) (ts : List Spanned)
    → and_then (waits_for g ts) (behind_wait depth) ≡ guarded_by (block_in depth) g ts
unfolding waits_for guarded_by
waits-split depth g ts = wait-split depth g ts (calls ts)

else-split : (depth : ℕ) (ts : List Spanned) (b : Bool)
    → and_then ((if b then expect mark.RightBracket >>= (λ _. pure wait.Else) else guard >>= waits_for) (if b then behind ts else ts)) (behind_wait depth)
    ≡ (if b then expect mark.RightBracket >>= (λ _. block_in depth >>= (λ ss. pure (alternative_form.Else ss))) else guard >>= guarded_by (block_in depth)) (if b then behind ts else ts)
else-split depth ts true = piece (expect mark.RightBracket (behind ts)) _ _ _ (λ _ r. else-behind depth r)
else-split depth ts false = piece (guard ts) _ _ _ (λ g r. waits-split depth g r)

alternative-split : (depth : ℕ) (ts : List Spanned) → and_then (branch_head ts) (behind_wait depth) ≡ alternative_by (block_in depth) ts
unfolding branch_head alternative_by
alternative-split depth ts = piece (expect mark.LeftBracket ts) _ _ _ (λ _ r. else-split depth r (sees_word word.Else r))

pub branch-split : (depth : ℕ) (ts : List Spanned) → and_then (here ts) (λ place r. and_then (branch_head r) (λ w r.
    and_then (block_if_any (block_in depth) r) (λ ss r. and_then (alternative_of w ss r) (λ a r. Some (branch_at place a, r))))) ≡ branch_by (block_in depth) ts
unfolding branch_by
branch-split depth ts = step (here ts) _ _ (λ place r.
    step (branch_head r) _ _ (λ w r. again (block_if_any (block_in depth) r) (alternative_of w) (λ a r. Some (branch_at place a, r)))
    ∙ again (branch_head r) (behind_wait depth) (λ a r. Some (branch_at place a, r))
    ∙ ap (λ o. and_then o (λ a r. Some (branch_at place a, r))) (alternative-split depth r))
