-- Marks stay where `repeat` needs them, and further out than what comes before them.
use Rattle.std.proofs.Common.{◌≡◌, ℕ, Bool, true, false, ◌||◌, List, [], ◌∷◌, ◌++◌, append-nil, Option, Some, None, IfSome, refl, sym, ap, subst, ◌∙◌, ⊎_elim}
use Rattle.std.specs.List.{All}
use Rattle.std.proofs.lemmas.List.Elements.{All-append, All-cons, All-head, All-nil, All-tail}
use Rattle.ttcn_syntax.specs.declared.tree.definition.Definition.{Definition}
use Rattle.ttcn_syntax.specs.declared.tree.definition.DefinitionKind.{DefinitionKind}
use Rattle.ttcn_syntax.specs.declared.tree.definition.DefinitionKind.TheVariants as kind
use Rattle.ttcn_syntax.specs.declared.tree.statement.Statement.{Statement}
use Rattle.check_rules.specs.Calls.{component_named}
use Rattle.check_scope.specs.Names.{Entry, Scope, kind_at}
use Rattle.check_scope.specs.Scopes.{scope_on}
use Rattle.check_scope.specs.declared.rule.Rule.{Rule}
use Rattle.check_rules.specs.Definitions.{check_component_name, check_parameters, check_result, place_in, returns_of}
use Rattle.check_rules.specs.Statements.{Place, statements}
use Rattle.laws_checker.proofs.Nothing.{nothing-first, nothing-rest}
use Rattle.laws_checker.proofs.Whole.{behaviour_whole, definition_is_fine, parameters_whole}
use Rattle.laws_checker.specs.Laws.{IsWhole}
use Rattle.laws_repeat.proofs.Blocks.{IsClosedBlock, block-closed, block-inside}
use Rattle.laws_repeat.proofs.Outside.{outside-both, outside-itself}
use Rattle.laws_repeat.proofs.Ways.{inside-unmarked}
use Rattle.laws_repeat.specs.Following.{Branched, Called, Follows, GaveBack, IsBody, IsClosedItem, IsInside, IsMade, IsOutside, IsUnmarked, Left, Repeated, Replaced, repeated_from, repeated_lists}
use Rattle.laws_repeat.specs.Marks.{AllAreMarked, AreMarked, IsMarkOutside, has_mark, some_marked}
use Rattle.laws_repeat.specs.internal.Lasting.{IsLasting}
use Rattle.laws_steps.proofs.Found.{some-of}
use Rattle.semantics.proofs.Pairs.{All-more}
use Rattle.semantics.specs.Items.{Doing, Item, Mark, Part, Waiting, items}
use Rattle.semantics.specs.Runs.{testcase_body}
use Rattle.semantics.specs.Sites.{Site, beginning}
use Rattle.semantics.specs.Statements.{body_of}
use Rattle.semantics.specs.Taking.{from_mark, without_marks}
use Rattle.check_rules.specs.Rules.{AreWellTyped}

-- ---- marks in lists

or-right : (b : Bool) → (b || true) ≡ true
or-right true = refl
or-right false = refl

-- what is false of one or the other is false of each
or-first : (a b : Bool) → (a || b) ≡ false → a ≡ false
or-first true b e = e
or-first false b e = refl

or-second : (a b : Bool) → (a || b) ≡ false → b ≡ false
or-second true b e = absurd (let is = e in cc)
or-second false b e = e

-- no marks come of items that are none
unmarked-front : (xs rest : List Item) → All IsUnmarked xs → has_mark (xs ++ rest) ≡ has_mark rest
unmarked-front [] rest all = refl
unmarked-front (Doing site s part ∷ xs) rest all = unmarked-front xs rest (All-tail IsUnmarked (Doing site s part) xs all)
unmarked-front (Mark site s ∷ xs) rest all = absurd (All-head IsUnmarked (Mark site s) xs all)
unmarked-front (Waiting target ∷ xs) rest all = unmarked-front xs rest (All-tail IsUnmarked (Waiting target) xs all)

-- ---- marks further out

outside-in : (outer inner : List Entry) → IsOutside outer inner → (x : Item) → IsMarkOutside outer x → IsMarkOutside inner x
outside-in outer inner out (Doing site s part) is = tt
outside-in outer inner out (Mark site s) is = outside-both site.declared outer inner is out
outside-in outer inner out (Waiting target) is = tt

all-outside-in : (outer inner : List Entry) → IsOutside outer inner → (xs : List Item) → All (IsMarkOutside outer) xs → All (IsMarkOutside inner) xs
all-outside-in outer inner out xs all = All-more (IsMarkOutside outer) (IsMarkOutside inner) (outside-in outer inner out) xs all

none-outside : (inner : List Entry) (x : Item) → IsUnmarked x → IsMarkOutside inner x
none-outside inner (Doing site s part) is = tt
none-outside inner (Mark site s) is = absurd is
none-outside inner (Waiting target) is = tt

all-none-outside : (inner : List Entry) (xs : List Item) → All IsUnmarked xs → All (IsMarkOutside inner) xs
all-none-outside inner xs all = All-more IsUnmarked (IsMarkOutside inner) (none-outside inner) xs all

-- ---- one list

module _ (below : Bool) where
  -- items at a site in front of a list: they are closed unless there is a mark in the list, or below
  front-marked : (site : Site) (xs rest : List Item) → All (IsInside site) xs → ((has_mark rest || below) ≡ false → All IsClosedItem xs) → All (IsMarkOutside site.declared) rest → AreMarked below rest
      → AreMarked below (xs ++ rest)
  front-marked site [] rest all closed out is = is
  front-marked site (Doing inner s part ∷ xs) rest all closed out is =
      let others : All (IsInside site) xs = All-tail (IsInside site) (Doing inner s part) xs all in
      let none : All IsUnmarked xs = inside-unmarked site xs others in (
        (λ lone. All-head IsClosedItem (Doing inner s part) xs (closed (subst (λ b. (b || below) ≡ false) (unmarked-front xs rest none) lone))),
        All-append (IsMarkOutside inner.declared) xs rest (all-none-outside inner.declared xs none)
            (all-outside-in site.declared inner.declared (All-head (IsInside site) (Doing inner s part) xs all) rest out),
        front-marked site xs rest others (λ lone. All-tail IsClosedItem (Doing inner s part) xs (closed lone)) out is,
      )
  front-marked site (Mark inner s ∷ xs) rest all closed out is = absurd (All-head (IsInside site) (Mark inner s) xs all)
  front-marked site (Waiting target ∷ xs) rest all closed out is =
      front-marked site xs rest (All-tail (IsInside site) (Waiting target) xs all) (λ lone. All-tail IsClosedItem (Waiting target) xs (closed lone)) out is

  -- marks that come first go
  uncovered-marked : (xs : List Item) → AreMarked below xs → AreMarked below (without_marks xs)
  uncovered-marked [] is = is
  uncovered-marked (Mark site s ∷ xs) is = uncovered-marked xs is.2
  uncovered-marked (Doing site s part ∷ xs) is = is
  uncovered-marked (Waiting target ∷ xs) is = is

  -- from a mark on, with the `alt` put back
  from-marked : (xs : List Item) → AreMarked below xs → IfSome (from_mark xs) (AreMarked below)
  from-marked [] is = tt
  from-marked (Mark site s ∷ xs) is = is
  from-marked (Doing site s part ∷ xs) is = from-marked xs is.2
  from-marked (Waiting target ∷ xs) is = from-marked xs is

-- above a mark, a list without marks
above-marked : (below : Bool) → below ≡ true → (xs : List Item) → All IsUnmarked xs → AreMarked below xs
above-marked below found [] all = tt
above-marked below found (Doing site s part ∷ xs) all = (
  (λ lone. absurd (let is = sym (or-second (has_mark xs) below lone) ∙ found in cc)),
  all-none-outside site.declared xs (All-tail IsUnmarked (Doing site s part) xs all),
  above-marked below found xs (All-tail IsUnmarked (Doing site s part) xs all),
)
above-marked below found (Mark site s ∷ xs) all = absurd (All-head IsUnmarked (Mark site s) xs all)
above-marked below found (Waiting target ∷ xs) all = above-marked below found xs (All-tail IsUnmarked (Waiting target) xs all)

-- ---- all lists

-- lists without marks above others of which one has a mark
some-above : (frames lists : List (List Item)) → some_marked lists ≡ true → some_marked (frames ++ lists) ≡ true
some-above [] lists found = found
some-above (xs ∷ frames) lists found = ap (λ b. has_mark xs || b) (some-above frames lists found) ∙ or-right (has_mark xs)

all-above : (frames lists : List (List Item)) → some_marked lists ≡ true → All (All IsUnmarked) frames → AllAreMarked lists → AllAreMarked (frames ++ lists)
all-above [] lists found all is = is
all-above (xs ∷ frames) lists found all is = (
  above-marked (some_marked (frames ++ lists)) (some-above frames lists found) xs (All-head (All IsUnmarked) xs frames all),
  all-above frames lists found (All-tail (All IsUnmarked) xs frames all) is,
)

found-marked : (lists : List (List Item)) (found : Option (List Item)) (below : Option (List (List Item))) → AllAreMarked lists → IfSome found (AreMarked (some_marked lists)) → IfSome below AllAreMarked
    → IfSome (repeated_from lists found below) AllAreMarked
found-marked lists None below all is others = others
found-marked lists (Some xs) below all is others = (is, all)

repeated-marked : (lists : List (List Item)) → AllAreMarked lists → IfSome (repeated_lists lists) AllAreMarked
repeated-marked [] all = tt
repeated-marked (xs ∷ lists) all =
    found-marked lists (from_mark xs) (repeated_lists lists) all.1 (from-marked (some_marked lists) xs all.0) (repeated-marked lists all.1)

same-body : (one other : List Statement) → Some one ≡ Some other → one ≡ other
same-body one other e = let is = e in cc

module _ (definitions : List Definition) (well : AreWellTyped definitions) where
  -- ---- bodies break no rule outside of branches

  closing : (body : List Statement) (before : List Rule) (place : Place) → before ++ statements body place ≡ [] → IsWhole place.scope → place.in_branch ≡ false → IsClosedBlock definitions body
  closing body before place nothing whole lone = (place, whole, lone, nothing-rest before (statements body place) nothing)

  function-closed : (at : ℕ) (k : Option DefinitionKind) (body : List Statement) → kind_at definitions at ≡ k → body_of k ≡ Some body → IsClosedBlock definitions body
  function-closed at (Some (kind.Function f)) body is e =
      let scope : Scope = scope_on definitions (component_named definitions f.runs_on) in
      let before : List Rule = check_component_name definitions f.runs_on ++ check_parameters scope f.parameters ++ check_result definitions f.returns in
      let place : Place = place_in scope f.parameters (returns_of definitions f.returns) in
      let fine = definition_is_fine definitions well at (kind.Function f) is in
      let named : List Rule = check_component_name definitions f.runs_on in
      let parameters : List Rule = check_parameters scope f.parameters in
      let right : check_parameters scope f.parameters ≡ [] =
      nothing-rest named parameters (nothing-first (named ++ parameters) (check_result definitions f.returns) (nothing-first before (statements f.body place) fine)) in
      subst (IsClosedBlock definitions) (same-body f.body body e) (
        place,
        parameters_whole scope f.parameters right (behaviour_whole definitions well (component_named definitions f.runs_on)),
        refl,
        nothing-rest before (statements f.body place) fine,
      )
  function-closed at None body is e = absurd (let lone = e in cc)
  function-closed at (Some (kind.Record r)) body is e = absurd (let lone = e in cc)
  function-closed at (Some (kind.Enumerated r)) body is e = absurd (let lone = e in cc)
  function-closed at (Some (kind.Port p)) body is e = absurd (let lone = e in cc)
  function-closed at (Some (kind.Component c)) body is e = absurd (let lone = e in cc)
  function-closed at (Some (kind.Constants cs)) body is e = absurd (let lone = e in cc)
  function-closed at (Some (kind.Template t)) body is e = absurd (let lone = e in cc)
  function-closed at (Some (kind.Altstep a)) body is e = absurd (let lone = e in cc)
  function-closed at (Some (kind.Testcase t)) body is e = absurd (let lone = e in cc)

  case-closed : (at : ℕ) (k : Option DefinitionKind) (body : List Statement) → kind_at definitions at ≡ k → testcase_body k ≡ Some body → IsClosedBlock definitions body
  case-closed at (Some (kind.Testcase t)) body is e =
      let scope : Scope = scope_on definitions (component_named definitions (Some t.runs_on)) in
      let before : List Rule = check_component_name definitions (Some t.runs_on) ++ check_component_name definitions t.system in
      subst (IsClosedBlock definitions) (same-body t.body body e)
      (closing t.body before _ (definition_is_fine definitions well at (kind.Testcase t) is) (behaviour_whole definitions well (component_named definitions (Some t.runs_on))) refl)
  case-closed at None body is e = absurd (let lone = e in cc)
  case-closed at (Some (kind.Record r)) body is e = absurd (let lone = e in cc)
  case-closed at (Some (kind.Enumerated r)) body is e = absurd (let lone = e in cc)
  case-closed at (Some (kind.Port p)) body is e = absurd (let lone = e in cc)
  case-closed at (Some (kind.Component c)) body is e = absurd (let lone = e in cc)
  case-closed at (Some (kind.Constants cs)) body is e = absurd (let lone = e in cc)
  case-closed at (Some (kind.Template t)) body is e = absurd (let lone = e in cc)
  case-closed at (Some (kind.Altstep a)) body is e = absurd (let lone = e in cc)
  case-closed at (Some (kind.Function f)) body is e = absurd (let lone = e in cc)

  body-closed : (at : ℕ) (body : List Statement) → IsBody definitions at body → IsClosedBlock definitions body
  body-closed at body is = ⊎_elim (function-closed at (kind_at definitions at) body refl) (case-closed at (kind_at definitions at) body refl) is

  -- what remains of a body, above whatever frames
  body-marked : (below : Bool) (at : ℕ) (body : List Statement) → IsBody definitions at body → AreMarked below (items definitions (beginning at) body)
  body-marked below at body is =
      let all : List Item = items definitions (beginning at) body in
      subst (AreMarked below) (append-nil all)
      (front-marked below (beginning at) all [] (block-inside definitions (beginning at) body) (λ lone. block-closed definitions (beginning at) body (body-closed at body is))
      (All-nil (IsMarkOutside (beginning at).declared)) tt)

  -- ---- steps

  made-marked : (below : Bool) (site : Site) (s : Statement) (part : Part) (made rest : List Item) → IsMade site s made → AreMarked below (Doing site s part ∷ rest) → AreMarked below (made ++ rest)
  made-marked below site s part made rest is all = front-marked below site made rest is.inside (λ lone. is.closed (all.0 lone)) all.1 all.2

  -- a block in front of the mark of its `alt`
  branch-marked : (below : Bool) (site : Site) (s : Statement) (part : Part) (block rest : List Item) → All (IsInside site) block → AreMarked below (Doing site s part ∷ rest)
      → AreMarked below (block ++ Mark site s ∷ rest)
  branch-marked below site s part block rest inside all =
      front-marked below site block (Mark site s ∷ rest) inside (λ lone. absurd (let is = lone in cc))
      (All-cons (IsMarkOutside site.declared) (Mark site s) rest (outside-itself site.declared) all.1) (all.0, all.1, all.2)

  front-has-mark : (block : List Item) (site : Site) (s : Statement) (rest : List Item) → All (IsInside site) block → has_mark (block ++ Mark site s ∷ rest) ≡ true
  front-has-mark block site s rest inside = unmarked-front block (Mark site s ∷ rest) (inside-unmarked site block inside)

  marked-behind : (before after : List (List Item)) → Follows definitions before after → AllAreMarked before → AllAreMarked after
  marked-behind before after (Replaced site s part made rest lists was is e) all =
      let first : AllAreMarked ((Doing site s part ∷ rest) ∷ lists) = subst AllAreMarked was all in
      subst AllAreMarked (sym e) (made-marked (some_marked lists) site s part made rest is first.0, first.1)
  marked-behind before after (Called site s part made rest lists at body was is of e) all =
      let first : AllAreMarked ((Doing site s part ∷ rest) ∷ lists) = subst AllAreMarked was all in
      subst AllAreMarked (sym e) (body-marked (some_marked ((made ++ rest) ∷ lists)) at body of, (made-marked (some_marked lists) site s part made rest is first.0, first.1))
  marked-behind before after (Branched site s part block rest lists frames was inside none e) all =
      let first : AllAreMarked ((Doing site s part ∷ rest) ∷ lists) = subst AllAreMarked was all in
      let found : some_marked ((block ++ Mark site s ∷ rest) ∷ lists) ≡ true = ap (λ b. b || some_marked lists) (front-has-mark block site s rest inside) in
      subst AllAreMarked (sym e) (all-above frames ((block ++ Mark site s ∷ rest) ∷ lists) found none (branch-marked (some_marked lists) site s part block rest inside first.0, first.1))
  marked-behind before after (Left xs lists was e) all =
      let first : AllAreMarked (xs ∷ lists) = subst AllAreMarked was all in
      subst AllAreMarked (sym e) first.1
  marked-behind before after (GaveBack xs target rest lists was e) all =
      let both : AllAreMarked (xs ∷ (Waiting target ∷ rest) ∷ lists) = subst AllAreMarked was all in
      subst AllAreMarked (sym e) (both.1.0, both.1.1)
  marked-behind before after (Repeated is) all = some-of AllAreMarked (repeated_lists before) after is (repeated-marked before all)

  pub marks-last : IsLasting definitions AllAreMarked
  marks-last = record {
    none = tt;
    begun = λ at body is. (body-marked false at body is, tt);
    followed = marked-behind;
    uncovered = λ xs lists is. (uncovered-marked (some_marked lists) xs is.0, is.1);
  }
