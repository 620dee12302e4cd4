-- Blocks begin with no mark, and where the marks that come first are gone, none comes first.
use Rattle.std.proofs.Common.{◌≡◌, ℕ, List, [], ◌∷◌, ◌++◌, refl, sym, ap, ◌∙◌}
use Rattle.ttcn_syntax.specs.declared.tree.definition.Definition.{Definition}
use Rattle.ttcn_syntax.specs.declared.tree.statement.Action.TheOpen.{Action-F}
use Rattle.ttcn_syntax.specs.declared.tree.statement.Statement.{Statement}
use Rattle.check_scope.specs.Names.{Entry}
use Rattle.semantics.specs.Configurations.{Data, Frame}
use Rattle.semantics.specs.Items.{Does, Doing, Item, Mark, Waiting, action_of, declarations, items, items_of_action, items_of_statement, site_after}
use Rattle.semantics.specs.Sites.{Site, constant_entries, scope_at, timer_entries, variable_entries}
use Rattle.semantics.specs.Storing.{in_last, with_calls, with_remaining}
use Rattle.semantics.specs.Taking.{uncovered, without_marks}

-- a list that doesn't begin with a mark
abbrev pub HasNone : List Item → Type 0
HasNone [] = Unit {0}
HasNone (Mark site s ∷ items) = ⊥
HasNone (Doing site s part ∷ items) = Unit {0}
HasNone (Waiting target ∷ items) = Unit {0}

pub without-none : (items : List Item) → HasNone (without_marks items)
without-none [] = tt
without-none (Mark site s ∷ items) = without-none items
without-none (Doing site s part ∷ items) = tt
without-none (Waiting target ∷ items) = tt

pub none-stays : (items : List Item) → HasNone items → without_marks items ≡ items
none-stays [] is = refl
none-stays (Mark site s ∷ items) is = absurd is
none-stays (Doing site s part ∷ items) is = refl
none-stays (Waiting target ∷ items) is = refl

-- of frames, the last one
abbrev pub LastHasNone : List Frame → Type 0
LastHasNone [] = Unit {0}
LastHasNone (frame ∷ frames) = HasNone frame.remaining

pub uncovered-none : (own : Data) (calls : List Frame) → own.calls ≡ calls → LastHasNone calls → uncovered own ≡ own
uncovered-none own [] e is = ap (λ calls. with_calls (in_last (λ frame. with_remaining (without_marks frame.remaining) frame) calls) own) e ∙ ap (λ calls. with_calls calls own) (sym e)
uncovered-none own (frame ∷ frames) e is =
    ap (λ calls. with_calls (in_last (λ frame. with_remaining (without_marks frame.remaining) frame) calls) own) e
    ∙ ap (λ items. with_calls (with_remaining items frame ∷ frames) own) (none-stays frame.remaining is)
    ∙ ap (λ calls. with_calls calls own) (sym e)

pub none-uncovered : (calls : List Frame) → LastHasNone (in_last (λ frame. with_remaining (without_marks frame.remaining) frame) calls)
none-uncovered [] = tt
none-uncovered (frame ∷ frames) = without-none frame.remaining

-- ---- blocks

none-append : (xs ys : List Item) → HasNone xs → HasNone ys → HasNone (xs ++ ys)
none-append [] ys one other = other
none-append (Mark site s ∷ xs) ys one other = absurd one
none-append (Doing site s part ∷ xs) ys one other = tt
none-append (Waiting target ∷ xs) ys one other = tt

declarations-none : (site : Site) (s : Statement) (at : ℕ) (entries : List Entry) → HasNone (declarations site s at entries)
declarations-none site s at [] = tt
declarations-none site s at (entry ∷ entries) = tt

action-none : (definitions : List Definition) (site : Site) (s : Statement) (x : Does) → HasNone (items_of_action definitions site s x)
action-none definitions site s (Action-F.Variables vs) = declarations-none site s 0 (variable_entries (scope_at definitions site) vs)
action-none definitions site s (Action-F.Constants cs) = declarations-none site s 0 (constant_entries (scope_at definitions site) cs)
action-none definitions site s (Action-F.Timers timers) = declarations-none site s 0 (timer_entries timers)
action-none definitions site s _ = tt

pub block-none : (definitions : List Definition) (site : Site) (block : List Statement) → HasNone (items definitions site block)
block-none definitions site [] = tt
block-none definitions site (s ∷ block) =
    none-append (items_of_statement definitions site s) (items definitions (site_after definitions site s) block)
    (action-none definitions site s (action_of s)) (block-none definitions (site_after definitions site s) block)
