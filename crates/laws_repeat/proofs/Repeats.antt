-- A `repeat` finds its `alt`.
use Rattle.std.proofs.Common.{◌≡◌, Bool, true, false, ◌||◌, List, [], ◌∷◌, Option, Some, None, Ok, IfSome, is_some, option_map, refl, sym, ap, subst, ◌∙◌}
use Rattle.ttcn_syntax.specs.declared.tree.statement.Action.TheOpen.{Action-F}
use Rattle.ttcn_syntax.specs.declared.tree.statement.Statement.{Statement}
use Rattle.laws_repeat.proofs.Asked.{lists-repeated}
use Rattle.laws_repeat.proofs.Changes.{IsStanding, end-stands, next-stands, replay-stands, start-stands-so}
use Rattle.laws_repeat.proofs.Marks.{marks-last}
use Rattle.laws_repeat.specs.Following.{IsClosed, lists_of, repeated_from, repeated_lists}
use Rattle.laws_repeat.specs.Marks.{AllAreMarked, AreMarked, IsAtRepeat, StandsAtRepeat, StandsMarked, has_mark, some_marked}
use Rattle.laws_statements.proofs.Descent.{statement_fine}
use Rattle.laws_statements.specs.Parts.{HasFineParts}
use Rattle.laws_steps.proofs.Found.{some-of}
use Rattle.semantics.specs.Configurations.{Configuration, Ended, Frame, Goes}
use Rattle.semantics.specs.Items.{Doing, Item, Mark, Waiting, action_of}
use Rattle.semantics.specs.Runs.{graph_of, replay, start}
use Rattle.semantics.specs.Snapshots.{Test}
use Rattle.semantics.specs.Steps.{Label, next}
use Rattle.semantics.specs.Taking.{from_mark, repeated}
use Rattle.summary.specs.Run.{Run, end_of}
use Rattle.check_rules.specs.Rules.{AreWellTyped}

-- ---- in frames

-- a `repeat` is not closed
repeat-open : (s : Statement) → action_of s ≡ Action-F.Repeat → IsClosed s → ⊥
repeat-open s is closed =
    let parts : HasFineParts closed.0 Action-F.Repeat = subst (HasFineParts closed.0) is (statement_fine s closed.0 closed.1 closed.3) in
    absurd (let is = sym closed.2 ∙ parts in cc)

lists-found : (lists : List (List Item)) (o : Option (List Item)) (below : Option (List (List Item))) → is_some (repeated_from lists o below) ≡ (is_some o || is_some below)
lists-found lists None below = refl
lists-found lists (Some xs) below = refl

some-found : (lists : List (List Item)) → is_some (repeated_lists lists) ≡ some_marked lists
some-found [] = refl
some-found (xs ∷ lists) = lists-found lists (from_mark xs) (repeated_lists lists) ∙ ap (λ b. is_some (from_mark xs) || b) (some-found lists)

map-some : {A B : Type 0} (f : A → B) (o : Option A) → is_some (option_map f o) ≡ is_some o
map-some f None = refl
map-some f (Some a) = refl

calls-found : (calls : List Frame) → is_some (repeated calls) ≡ some_marked (lists_of calls)
calls-found calls = sym (map-some lists_of (repeated calls)) ∙ ap is_some (lists-repeated calls) ∙ some-found (lists_of calls)

is-true : (b : Bool) → (b ≡ false → ⊥) → b ≡ true
is-true true lone = refl
is-true false lone = absurd (lone refl)

at-repeat : (xs : List Item) (lists : List (List Item)) → IsAtRepeat xs → AreMarked (some_marked lists) xs → (has_mark xs || some_marked lists) ≡ true
at-repeat [] lists is marked = absurd is
at-repeat (Doing site s part ∷ xs) lists is marked = is-true (has_mark xs || some_marked lists) (λ lone. repeat-open s is (marked.0 lone))
at-repeat (Mark site s ∷ xs) lists is marked = absurd is
at-repeat (Waiting target ∷ xs) lists is marked = absurd is

-- where each `repeat` has its mark, one that is done finds its `alt`
pub repeat-found : (calls : List Frame) → StandsAtRepeat calls → AllAreMarked (lists_of calls) → is_some (repeated calls) ≡ true
repeat-found [] is marked = absurd is
repeat-found (frame ∷ frames) is marked = calls-found (frame ∷ frames) ∙ at-repeat frame.remaining (lists_of frames) is marked.0

-- ---- in runs

module _ (test : Test) (well : AreWellTyped test.definitions) where
  told : (c : Configuration) → IsStanding test AllAreMarked (marks-last test.definitions well) c → StandsMarked test c
  told (Ended v) is = tt
  told (Goes c) is = is

  said : (c : Configuration) → StandsMarked test c → IsStanding test AllAreMarked (marks-last test.definitions well) c
  said (Ended v) is = tt
  said (Goes c) is = is

  pub start_marked : StandsMarked test (start test)
  start_marked = told (start test) (start-stands-so test AllAreMarked (marks-last test.definitions well))

  if-told : (o : Option Configuration) → IfSome o (IsStanding test AllAreMarked (marks-last test.definitions well)) → IfSome o (StandsMarked test)
  if-told None is = tt
  if-told (Some c) is = told c is

  pub next_marked : (c d : Configuration) (label : Label) → StandsMarked test c → next test c label ≡ Some d → StandsMarked test d
  next_marked c d label is e =
      some-of (StandsMarked test) (next test c label) d e (if-told (next test c label) (next-stands test AllAreMarked (marks-last test.definitions well) c label (said c is)))

  pub replay_marked : (run : List Label) (c : Configuration) → replay test run ≡ Ok c → StandsMarked test c
  replay_marked run c e = told c (replay-stands test AllAreMarked (marks-last test.definitions well) run c e)

  pub end-marked : (run : Run Label) → StandsMarked test (end_of (graph_of test) run)
  end-marked run = told (end_of (graph_of test) run) (end-stands test AllAreMarked (marks-last test.definitions well) run)
