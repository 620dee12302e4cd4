-- How blocks, branches, conditions and loops are drawn.
use Rattle.std.proofs.Common.{◌≡◌, refl, sym, ap, subst, ◌∙◌, ℕ, zero, suc, ◌+◌, ◌<◌, ◌≤◌, Bool, true, false, true≢false, List, [], ◌∷◌, ◌++◌, map, length, get_or, take, nat_lt, Option, Some, None, slice_get, arith, if◌then◌else◌}
use Rattle.std.proofs.lemmas.Bool.{le-ltb, lt-ltb}
use Rattle.ttcn_syntax.specs.declared.tree.expression.Expr.{Expr}
use Rattle.ttcn_syntax.specs.declared.tree.statement.Action.TheOpen.{Action-F}
use Rattle.ttcn_syntax.specs.declared.tree.statement.Action.TheVariants as form
use Rattle.ttcn_syntax.specs.declared.tree.statement.Assignment.{Assignment}
use Rattle.ttcn_syntax.specs.declared.tree.statement.Branch.{Branch}
use Rattle.ttcn_syntax.specs.declared.tree.statement.Conditional.{Conditional, out-Conditional}
use Rattle.ttcn_syntax.specs.declared.tree.statement.ForStart.{ForStart}
use Rattle.ttcn_syntax.specs.declared.tree.statement.Statement.{Statement}
use Rattle.ttcn_syntax.specs.declared.tree.definition.Definition.{Definition}
use Rattle.check_scope.specs.Names.{Entry}
use Rattle.semantics.specs.Items.{Does, Doing, From, Item, Last, Loop, Mark, Part, Whole, action_of, items, items_if_any, items_of_action, items_of_statement, declarations, site_after, site_in_for, start_items}
use Rattle.semantics.specs.Sites.{Site, entries_of, scope_at, site_behind}
use Rattle.ttcn_graph.specs.Drafts.{AreAt, AreDrawn, Draft, Grows, IsBegun, IsDrawn, IsFinished, at_site}
use Rattle.ttcn_graph.specs.Ways.{Lists, items_of_branch, items_otherwise, ways_of, ways_of_branches, ways_of_conditional}
use Rattle.ttcn_graph.specs.internal.Drawing.{Does as DoesAction, declared_before, site_before, ways_of_condition}
use Rattle.ttcn_graph.proofs.Drafted.{drawn, extends-more, grows-more, grows-not}
use Rattle.ttcn_graph.proofs.Forms.{after-is, does-Alt, does-DoWhile, does-For, does-If, does-While, items-are, part-is}
use Rattle.ttcn_graph.proofs.Growing.{ChainLeft, at-push, begun-kept, begun-more, begun-ways, drawn-is, drawn-more, drawn-push, drawn-ways-more, kept-more, names-drawn, within-more}

-- a part of a statement that was drawn behind other things
pub item-more : (a b c : Draft) (s : Statement) (part : Part) (rest at : ℕ) → Grows a b → rest < length a.lists
    → IsDrawn b c at (Doing b.site s part ∷ get_or b.lists rest []) → IsDrawn a c at (Doing a.site s part ∷ get_or a.lists rest [])
item-more a b c s part rest at g h drawn =
    drawn-is a c at (Doing b.site s part ∷ get_or b.lists rest []) (Doing a.site s part ∷ get_or a.lists rest [])
    (λ i. Doing (g.site i) s part ∷ kept-more a b rest g h i)
    (drawn-more a b c at (Doing b.site s part ∷ get_or b.lists rest []) g drawn)

-- ---- branches

map-next : {A B : Type 0} (f : A → B) (all : List A) (i : ℕ) (x : A) → i < length all → x ≡ get_or all i x → map f (take (suc i) all) ≡ map f (take i all) ++ f x ∷ []
map-next f [] i x h is = absurd (omega (arith, h))
map-next f (y ∷ all) zero x h is = ap (λ z. f z ∷ []) (sym is)
map-next f (y ∷ all) (suc i) x h is = ap (λ l. f y ∷ l) (map-next f all i x (omega (arith, h)) is)

-- the items of a branch, in front of a list
abbrev pub in_front : Draft → ℕ → Branch → List Item
in_front d rest branch = items_of_branch d.definitions d.site branch ++ get_or d.lists rest []

pub branches-next : (old d d' : Draft) (all : List Branch) (rest i : ℕ) (b : Branch) (positions pushed : List ℕ) (at : ℕ) → rest < length old.lists → i < length all → b ≡ get_or all i b
    → AreDrawn old d positions (map (in_front old rest) (take i all)) → IsDrawn d d' at (in_front d rest b) → pushed ≡ positions ++ at ∷ []
    → AreDrawn old d' pushed (map (in_front old rest) (take (i + 1) all))
branches-next old d d' all rest i b positions pushed at within below is a h push =
    let g = a.grown in
    let item : in_front d rest b ≡ in_front old rest b = λ k. items_of_branch (g.definitions k) (g.site k) b ++ kept-more old d rest g within k in
    let next : suc i ≡ i + 1 = omega arith in
    let more = drawn-push old d' positions (map (in_front old rest) (take i all)) at (in_front old rest b)
    (drawn-ways-more old d d' positions (map (in_front old rest) (take i all)) a h.grown) h.within (h.stands ∙ item) in
    subst (λ p. AreDrawn old d' p (map (in_front old rest) (take (i + 1) all))) (sym push)
    (subst (AreDrawn old d' (positions ++ at ∷ []))
    (sym (map-next (in_front old rest) all i b below is) ∙ ap (λ k. map (in_front old rest) (take k all)) next)
    more)

-- ---- an `alt`

module _ (old b m d : Draft) (s : Statement) (branches : List Branch) (whole marked rest : ℕ) (positions : List ℕ) (within : rest < length old.lists)
    (begun : IsBegun old b whole (Doing old.site s Whole ∷ get_or old.lists rest [])) (h : IsDrawn b m marked (Mark b.site s ∷ get_or b.lists rest []))
    (a : AreDrawn m d positions (map (in_front m marked) branches)) where
  alt-begun : IsBegun old d whole (Doing old.site s Whole ∷ get_or old.lists rest [])
  alt-begun =
      begun-more old m d whole (Doing old.site s Whole ∷ get_or old.lists rest []) (begun-more old b m whole (Doing old.site s Whole ∷ get_or old.lists rest []) begun h.grown) a.grown

  marked-is : get_or m.lists marked [] ≡ Mark old.site s ∷ get_or old.lists rest []
  marked-is = h.stands ∙ (λ i. Mark (begun.site i) s ∷ begun-kept old b whole rest (Doing old.site s Whole ∷ get_or old.lists rest []) begun within i)

  pub alt-ways : (pushed : List ℕ) → pushed ≡ positions ++ marked ∷ [] → DoesAction s (form.Alt branches) → AreAt d.lists pushed (ways_of d.definitions (get_or d.lists whole []))
  alt-ways pushed push does =
      let mark = Mark old.site s ∷ get_or old.lists rest [] in
      let definitions = h.grown.definitions ∙ begun.definitions in
      let site = h.grown.site ∙ begun.site in
      let blocks : AreAt d.lists positions (map (λ b. items_of_branch old.definitions old.site b ++ mark) branches) =
      subst (AreAt d.lists positions) (λ i. map (λ b. items_of_branch (definitions i) (site i) b ++ marked-is i) branches) a.stand in
      subst (λ p. AreAt d.lists p (ways_of d.definitions (get_or d.lists whole []))) (sym push)
      (subst (AreAt d.lists (positions ++ marked ∷ []))
      (sym (begun-ways old d whole (Doing old.site s Whole ∷ get_or old.lists rest []) (ways_of_branches old.definitions old.site mark branches) alt-begun
      (part-is old.definitions old.site s (get_or old.lists rest []) Whole (Action-F.Alt branches) (does-Alt s branches does))))
      (at-push d.lists positions (map (λ b. items_of_branch old.definitions old.site b ++ mark) branches) marked mark blocks
      (within-more m d marked a.grown h.within) (kept-more m d marked a.grown h.within ∙ marked-is)))

  pub alt-drawn : (f : Draft) → IsFinished d f whole → IsDrawn old f whole (Doing old.site s Whole ∷ get_or old.lists rest [])
  alt-drawn f finished = drawn old d f whole (Doing old.site s Whole ∷ get_or old.lists rest []) alt-begun finished

-- ---- an `if`

found-at : {A : Type 0} (l : List A) (i : ℕ) (x : A) → i < length l → x ≡ get_or l i x → slice_get l i ≡ Some x
found-at [] i x h is = absurd (omega (arith, h))
found-at (y ∷ l) zero x h is = ap Some (sym is)
found-at (y ∷ l) (suc i) x h is = found-at l i x (omega (arith, h)) is

pub not-found : {A : Type 0} (l : List A) (i : ℕ) → length l ≤ i → slice_get l i ≡ None
not-found [] i h = refl
not-found (y ∷ l) zero h = absurd (omega (arith, h))
not-found (y ∷ l) (suc i) h = not-found l i (omega (arith, h))

-- a condition with its block
pub condition-drawn : (old d : Draft) (all : List Conditional) (place failed rest held : ℕ) (c : Conditional) (block : List Statement) (none one two : List ℕ)
    → place < length all → c ≡ get_or all place c → block ≡ (out-Conditional c).block → failed < length old.lists
    → IsDrawn old d held (items old.definitions old.site block ++ get_or old.lists rest []) → none ≡ [] → one ≡ none ++ held ∷ [] → two ≡ one ++ failed ∷ []
    → AreDrawn old d two (ways_of_condition old.definitions old.site (get_or old.lists rest []) (get_or old.lists failed []) (slice_get all place))
condition-drawn old d all place failed rest held c block none one two below is block_is within h none_is one_is two_is =
    let positions : two ≡ held ∷ failed ∷ [] = two_is ∙ ap (λ p. p ++ failed ∷ []) (one_is ∙ ap (λ p. p ++ held ∷ []) none_is) in
    subst (λ p. AreDrawn old d p (ways_of_condition old.definitions old.site (get_or old.lists rest []) (get_or old.lists failed []) (slice_get all place))) (sym positions)
    (subst (λ o. AreDrawn old d (held ∷ failed ∷ []) (ways_of_condition old.definitions old.site (get_or old.lists rest []) (get_or old.lists failed []) o)) (sym (found-at all place c below is))
    (record {
      grown = h.grown;
      stand = (h.within, h.stands ∙ ap (λ b. items old.definitions old.site b ++ get_or old.lists rest []) block_is, (within-more old d failed h.grown within, kept-more old d failed h.grown within, tt));
    }))

-- and no condition
pub condition-none : (old : Draft) (all : List Conditional) (place failed rest : ℕ) (none one : List ℕ) → length all ≤ place → failed < length old.lists → none ≡ [] → one ≡ none ++ failed ∷ []
    → AreDrawn old old one (ways_of_condition old.definitions old.site (get_or old.lists rest []) (get_or old.lists failed []) (slice_get all place))
condition-none old all place failed rest none one past within none_is one_is =
    let positions : one ≡ failed ∷ [] = one_is ∙ ap (λ p. p ++ failed ∷ []) none_is in
    subst (λ p. AreDrawn old old p (ways_of_condition old.definitions old.site (get_or old.lists rest []) (get_or old.lists failed []) (slice_get all place))) (sym positions)
    (subst (λ o. AreDrawn old old (failed ∷ []) (ways_of_condition old.definitions old.site (get_or old.lists rest []) (get_or old.lists failed []) o)) (sym (not-found all place past))
    (record {
      grown = grows-not old;
      stand = (within, refl, tt);
    }))

-- ---- the conditions of an `if` from one on

ways-if : (definitions : List Definition) (site : Site) (s : Statement) (rest failed : List Item) (k : ℕ) (conditionals : List Conditional) (last : Option (List Statement)) (found : Option Conditional)
    → ((c : Conditional) → found ≡ Some c → failed ≡ items_otherwise definitions site s rest (k + 1) conditionals last) → (found ≡ None → failed ≡ items_if_any definitions site last ++ rest)
    → ways_of_conditional definitions site s rest k conditionals last found ≡ ways_of_condition definitions site rest failed found
ways-if definitions site s rest failed k conditionals last None some none = ap (λ l. l ∷ []) (sym (none refl))
ways-if definitions site s rest failed k conditionals last (Some c) some none = ap (λ l. (items definitions site (out-Conditional c).block ++ rest) ∷ l ∷ []) (sym (some c refl))

chosen : {A : Type 0} (b : Bool) (x y : A) → b ≡ false → (if b then x else y) ≡ y
chosen true x y is = absurd (true≢false is)
chosen false x y is = refl

chosen-first : {A : Type 0} (b : Bool) (x y : A) → b ≡ true → (if b then x else y) ≡ x
chosen-first true x y is = refl
chosen-first false x y is = absurd (true≢false (sym is))

none-past : {A : Type 0} (l : List A) (i : ℕ) → slice_get l i ≡ None → length l ≤ i
none-past [] i is = omega arith
none-past (x ∷ l) zero is = absurd (let clash = is in cc)
none-past (x ∷ l) (suc i) is = let past = none-past l i is in omega (arith, past)

some-within : {A : Type 0} (l : List A) (i : ℕ) (x : A) → slice_get l i ≡ Some x → i < length l
some-within [] i x is = absurd (let clash = is in cc)
some-within (y ∷ l) zero x is = omega arith
some-within (y ∷ l) (suc i) x is = let within = some-within l i x is in omega (arith, within)

module _ (old d : Draft) (s : Statement) (rest : ℕ) (conditionals : List Conditional) (last : Option (List Statement)) (failed left : ℕ)
    (within : rest < length old.lists) (chain : ChainLeft old d s rest conditionals last failed left) where
  failed-is : get_or d.lists failed [] ≡ items_otherwise d.definitions d.site s (get_or d.lists rest []) left conditionals last
  failed-is =
      let g = chain.grown in
      chain.stands ∙ sym (λ i. items_otherwise (g.definitions i) (g.site i) s (kept-more old d rest g within i) left conditionals last)

  pub rest-within : rest < length d.lists
  rest-within = within-more old d rest chain.grown within

  pub chain-ways : (j : ℕ) → left ≡ j + 1 → j < length conditionals → DoesAction s (form.If conditionals last)
      → ways_of d.definitions (Doing d.site s (From j) ∷ get_or d.lists rest []) ≡ ways_of_condition d.definitions d.site (get_or d.lists rest []) (get_or d.lists failed []) (slice_get conditionals j)
  chain-ways j is below does =
      part-is d.definitions d.site s (get_or d.lists rest []) (From j) (Action-F.If conditionals last) (does-If s conditionals last does)
      ∙ ways-if d.definitions d.site s (get_or d.lists rest []) (get_or d.lists failed []) j conditionals last (slice_get conditionals j)
      (λ c found. failed-is ∙ ap (λ k. items_otherwise d.definitions d.site s (get_or d.lists rest []) k conditionals last) is)
      (λ none. absurd (let past = none-past conditionals j none in omega (arith, past, below)))

  pub whole-ways : (1 < left → ⊥) → DoesAction s (form.If conditionals last) → left ≤ length conditionals
      → ways_of d.definitions (Doing d.site s Whole ∷ get_or d.lists rest []) ≡ ways_of_condition d.definitions d.site (get_or d.lists rest []) (get_or d.lists failed []) (slice_get conditionals 0)
  whole-ways end does most =
      part-is d.definitions d.site s (get_or d.lists rest []) Whole (Action-F.If conditionals last) (does-If s conditionals last does)
      ∙ ways-if d.definitions d.site s (get_or d.lists rest []) (get_or d.lists failed []) 0 conditionals last (slice_get conditionals 0)
      (λ c found.
      let some = some-within conditionals 0 c found in
      let positive = chain.first some in
      let one : left ≡ 0 + 1 = omega (arith, positive, end) in
      failed-is ∙ ap (λ k. items_otherwise d.definitions d.site s (get_or d.lists rest []) k conditionals last) one)
      (λ none.
      let past = none-past conditionals 0 none in
      failed-is ∙ chosen (nat_lt left (length conditionals)) _ _ (le-ltb left (length conditionals) (omega (arith, past))))

  pub chain-next : (d' d'' : Draft) (ways : List ℕ) (lists : Lists) (at j : ℕ) → 1 < left → left ≡ j + 1 → left ≤ length conditionals → AreDrawn d d' ways lists
      → IsDrawn d' d'' at (Doing d'.site s (From j) ∷ get_or d'.lists rest []) → ChainLeft old d'' s rest conditionals last at j
  chain-next d' d'' ways lists at j more is most a h =
      let p = item-more old d' d'' s (From j) rest at (grows-more old d d' chain.grown a.grown) within h in
      record {
        grown = p.grown;
        within = p.within;
        stands = p.stands ∙ sym (chosen-first (nat_lt j (length conditionals)) _ _ (lt-ltb j (length conditionals) (omega (arith, is, most))));
        first = λ some. omega (arith, more, is);
      }

pub chain-first : (old : Draft) (s : Statement) (rest : ℕ) (conditionals : List Conditional) (last : Option (List Statement)) (failed : ℕ) → failed < length old.lists
    → get_or old.lists failed [] ≡ items_if_any old.definitions old.site last ++ get_or old.lists rest [] → ChainLeft old old s rest conditionals last failed (length conditionals)
chain-first old s rest conditionals last failed within stands = record {
  grown = grows-not old;
  within = within;
  stands = stands ∙ sym (chosen (nat_lt (length conditionals) (length conditionals)) _ _ (le-ltb (length conditionals) (length conditionals) (omega arith)));
  first = λ some. some;
}

-- ---- loops

-- a block that leads back to the list in front of which it is drawn
pub loop-ways : (old b d : Draft) (body : List Statement) (at held : ℕ) (list : List Item) → IsBegun old b at list → IsDrawn b d held (items b.definitions b.site body ++ get_or b.lists at [])
    → ways_of old.definitions list ≡ (items old.definitions old.site body ++ list) ∷ [] → ways_of d.definitions (get_or d.lists at []) ≡ get_or d.lists held [] ∷ []
loop-ways old b d body at held list begun h is =
    begun-ways old d at list ((items old.definitions old.site body ++ list) ∷ []) (begun-more old b d at list begun h.grown) is
    ∙ ap (λ l. l ∷ []) (sym (h.stands ∙ (λ i. items (begun.definitions i) (begun.site i) body ++ begun.stands i)))

pub loop-drawn : (old b d f : Draft) (at held : ℕ) (list other : List Item) → IsBegun old b at list → IsDrawn b d held other → IsFinished d f at → IsDrawn old f at list
loop-drawn old b d f at held list other begun h finished = drawn old d f at list (begun-more old b d at list begun h.grown) finished

pub while-ways : (definitions : List Definition) (site : Site) (s : Statement) (rest : List Item) (condition : Expr) (body : List Statement) → DoesAction s (form.While condition body)
    → ways_of definitions (Doing site s Whole ∷ rest) ≡ (items definitions site body ++ Doing site s Whole ∷ rest) ∷ []
while-ways definitions site s rest condition body does = part-is definitions site s rest Whole (Action-F.While condition body) (does-While s condition body does)

pub do-ways : (definitions : List Definition) (site : Site) (s : Statement) (rest : List Item) (condition : Expr) (body : List Statement) → DoesAction s (form.DoWhile body condition)
    → ways_of definitions (Doing site s Loop ∷ rest) ≡ (items definitions site body ++ Doing site s Loop ∷ rest) ∷ []
do-ways definitions site s rest condition body does = part-is definitions site s rest Loop (Action-F.DoWhile body condition) (does-DoWhile s body condition does)

-- a `do`, behind the `while` that it becomes
module _ (old b d e w : Draft) (s : Statement) (condition : Expr) (body : List Statement) (again held whole rest : ℕ) (within : rest < length old.lists)
    (begun : IsBegun old b again (Doing old.site s Loop ∷ get_or old.lists rest [])) (h : IsDrawn b d held (items b.definitions b.site body ++ get_or b.lists again []))
    (finished : IsFinished d e again) (begun' : IsBegun e w whole (Doing e.site s Whole ∷ get_or e.lists rest [])) where
  loop-done : IsDrawn old e again (Doing old.site s Loop ∷ get_or old.lists rest [])
  loop-done = loop-drawn old b d e again held (Doing old.site s Loop ∷ get_or old.lists rest []) (items b.definitions b.site body ++ get_or b.lists again []) begun h finished

  held-is : get_or e.lists held [] ≡ items e.definitions e.site body ++ Doing e.site s Loop ∷ get_or e.lists rest []
  held-is =
      let g = loop-done.grown in
      ap (λ l. get_or l held []) finished.lists ∙ h.stands ∙ (λ i. items (begun.definitions i) (begun.site i) body ++ begun.stands i)
      ∙ sym (λ i. items (g.definitions i) (g.site i) body ++ Doing (g.site i) s Loop ∷ kept-more old e rest g within i)

  held-within : held < length e.lists
  held-within = subst (λ l. held < length l) (sym finished.lists) h.within

  pub do-whole-ways : DoesAction s (form.DoWhile body condition) → ways_of w.definitions (get_or w.lists whole []) ≡ get_or w.lists held [] ∷ []
  do-whole-ways does =
      begun-ways e w whole (Doing e.site s Whole ∷ get_or e.lists rest []) ((items e.definitions e.site body ++ Doing e.site s Loop ∷ get_or e.lists rest []) ∷ []) begun'
      (part-is e.definitions e.site s (get_or e.lists rest []) Whole (Action-F.DoWhile body condition) (does-DoWhile s body condition does))
      ∙ ap (λ l. l ∷ []) (sym (begun-kept e w whole held (Doing e.site s Whole ∷ get_or e.lists rest []) begun' held-within ∙ held-is))

  pub do-drawn : (f : Draft) → IsFinished w f whole → IsDrawn old f whole (Doing old.site s Whole ∷ get_or old.lists rest [])
  do-drawn f finished' = item-more old e f s Whole rest whole loop-done.grown within (drawn e w f whole (Doing e.site s Whole ∷ get_or e.lists rest []) begun' finished')

-- ---- a `for`

-- the `while` that it becomes
module _ (old b m d : Draft) (s : Statement) (body : List Statement) (again last held rest : ℕ)
    (begun : IsBegun old b again (Doing old.site s Loop ∷ get_or old.lists rest [])) (a : IsDrawn b m last (Doing b.site s Last ∷ get_or b.lists again []))
    (h : IsDrawn m d held (items m.definitions m.site body ++ get_or m.lists last [])) where
  for-begun : IsBegun old d again (Doing old.site s Loop ∷ get_or old.lists rest [])
  for-begun =
      begun-more old m d again (Doing old.site s Loop ∷ get_or old.lists rest []) (begun-more old b m again (Doing old.site s Loop ∷ get_or old.lists rest []) begun a.grown) h.grown

  pub for-loop-ways : (start : ForStart) (condition : Expr) (step : Assignment) → DoesAction s (form.For start condition step body) → ways_of d.definitions (get_or d.lists again []) ≡ get_or d.lists held [] ∷ []
  for-loop-ways start condition step does =
      let list = Doing old.site s Loop ∷ get_or old.lists rest [] in
      let definitions = a.grown.definitions ∙ begun.definitions in
      let site = a.grown.site ∙ begun.site in
      let end : get_or m.lists last [] ≡ Doing old.site s Last ∷ list = a.stands ∙ (λ i. Doing (begun.site i) s Last ∷ begun.stands i) in
      begun-ways old d again list ((items old.definitions old.site body ++ Doing old.site s Last ∷ list) ∷ []) for-begun
      (part-is old.definitions old.site s (get_or old.lists rest []) Loop (Action-F.For start condition step body) (does-For s start condition step body does))
      ∙ ap (λ l. l ∷ []) (sym (h.stands ∙ (λ i. items (definitions i) (site i) body ++ end i)))

  pub for-loop-drawn : (f : Draft) → IsFinished d f again → IsDrawn old f again (Doing old.site s Loop ∷ get_or old.lists rest [])
  for-loop-drawn f finished = drawn old d f again (Doing old.site s Loop ∷ get_or old.lists rest []) for-begun finished

-- the whole of it: it is declared, its `while` drawn at that site, and then what it begins with
module _ (old o e f w : Draft) (s : Statement) (start : ForStart) (body : List Statement) (again first whole rest : ℕ) (within : rest < length old.lists)
    (is : o ≡ at_site (site_in_for old.definitions old.site start) old) (a : IsDrawn o e again (Doing o.site s Loop ∷ get_or o.lists rest []))
    (h : (site : Site) → e.site ≡ site_in_for e.definitions site start → IsDrawn (at_site site e) f first (start_items e.definitions site s start ++ get_or e.lists again []))
    (begun : IsBegun f w whole (Doing f.site s Whole ∷ get_or f.lists rest [])) where
  inside : Draft
  inside = at_site (site_in_for old.definitions old.site start) old

  loop-inside : IsDrawn (at_site (site_in_for old.definitions old.site start) old) e again (Doing (site_in_for old.definitions old.site start) s Loop ∷ get_or old.lists rest [])
  loop-inside = subst (λ (o : Draft). IsDrawn o e again (Doing o.site s Loop ∷ get_or o.lists rest [])) is a

  start-there : IsDrawn (at_site old.site e) f first (start_items e.definitions old.site s start ++ get_or e.lists again [])
  start-there = h old.site (loop-inside.grown.site ∙ ap (λ definitions. site_in_for definitions old.site start) (sym loop-inside.grown.definitions))

  for-grown : Grows old f
  for-grown = record {
    definitions = start-there.grown.definitions ∙ loop-inside.grown.definitions;
    site = start-there.grown.site;
    lists = extends-more old.lists e.lists f.lists loop-inside.grown.lists start-there.grown.lists;
    keeps = λ is_open all. start-there.grown.keeps is_open (loop-inside.grown.keeps is_open all);
  }

  pub for-ways : (condition : Expr) (step : Assignment) → DoesAction s (form.For start condition step body) → ways_of w.definitions (get_or w.lists whole []) ≡ get_or w.lists first [] ∷ []
  for-ways condition step does =
      let g = for-grown in
      let list = Doing f.site s Whole ∷ get_or f.lists rest [] in
      let defs = start-there.grown.definitions in
      begun-ways f w whole list ((start_items f.definitions f.site s start ++ Doing (site_in_for f.definitions f.site start) s Loop ∷ get_or f.lists rest []) ∷ []) begun
      (part-is f.definitions f.site s (get_or f.lists rest []) Whole (Action-F.For start condition step body) (does-For s start condition step body does))
      ∙ ap (λ l. l ∷ []) (sym (begun-kept f w whole first list begun start-there.within ∙ start-there.stands
      ∙ (λ i. start_items (loop-inside.grown.definitions i) old.site s start ++ loop-inside.stands i)
      ∙ sym (λ i. start_items (g.definitions i) (g.site i) s start ++ Doing (site_in_for (g.definitions i) (g.site i) start) s Loop ∷ kept-more old f rest g within i)))

  pub for-drawn : (c : Draft) → IsFinished w c whole → IsDrawn old c whole (Doing old.site s Whole ∷ get_or old.lists rest [])
  for-drawn c finished = item-more old f c s Whole rest whole for-grown within (drawn f w c whole (Doing f.site s Whole ∷ get_or f.lists rest []) begun finished)

-- ---- declarations

-- the names that a statement declares
pub declared-drawn : (old new : Draft) (site : Site) (s : Statement) (does : Does) (entries : List Entry) (count at : ℕ) (rest : List Item) → action_of s ≡ does
    → items_of_action old.definitions site s does ≡ declarations site s 0 entries → site_behind site (entries_of (scope_at old.definitions site) does) ≡ site_behind site entries
    → length entries ≡ count → old.site ≡ site_after old.definitions site s
    → IsDrawn (at_site (site_before count old.site) old) new at (declared_before old.site s count rest)
    → IsDrawn (at_site site old) new at (items_of_statement old.definitions site s ++ rest)
declared-drawn old new site s does entries count at rest is items_is site_is many behind h =
    drawn-is (at_site site old) new at (declarations site s 0 entries ++ rest) (items_of_statement old.definitions site s ++ rest)
    (ap (λ l. l ++ rest) (sym (items-are old.definitions site s does is ∙ items_is)))
    (names-drawn old new site s entries count at rest (behind ∙ after-is old.definitions site s does is ∙ site_is) many h)
