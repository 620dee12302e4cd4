-- How drafts grow.
use Rattle.std.proofs.Common.{◌≡◌, refl, sym, ap, subst, ◌∙◌, ℕ, ◌<◌, Bool, true, false, true≢false, ◌||◌, List, [], ◌∷◌, ◌++◌, length, get_or, slice_get, nat_eq, Option, Some, None, is_some, zero, suc, arith, inl, inr}
use Rattle.std.proofs.lemmas.Bool.{cases_lt, eq-eqb, eqb-true}
use Rattle.std.proofs.lemmas.List.{append-nil, append_assoc}
use Rattle.std.specs.Option.{IfNone, IfSome}
use Rattle.ttcn_syntax.specs.declared.tree.definition.Definition.{Definition}
use Rattle.graph_numbers.specs.Lists.{Extends, IsPut}
use Rattle.semantics.specs.Items.{Item}
use Rattle.semantics.specs.Sites.{Site}
use Rattle.ttcn_graph.specs.Drafts.{AllBut, AreAt, Draft, Grows, HasWays, IsBegun, IsDrawn, IsFinished, IsWay, and_open}
use Rattle.ttcn_graph.specs.Ways.{ways_of}
use Rattle.ttcn_graph.proofs.ListsKept.{get-kept, longer}

some-is : {X : Type 0} {a b : X} → ◌≡◌ {A = Option X} (Some a) (Some b) → a ≡ b
some-is {a = a} h = ap (λ o. elim o as (λ _. _) [ None ↦ a | Some x ↦ x ]) h

-- ---- lists at positions

pub at-more : (old new : List (List Item)) → Extends old new → (positions : List ℕ) (lists : List (List Item)) → AreAt old positions lists → AreAt new positions lists
at-more old new more [] [] h = tt
at-more old new more [] (l ∷ lists) h = absurd h
at-more old new more (p ∷ positions) [] h = absurd h
at-more old new more (p ∷ positions) (l ∷ lists) h =
    let below = h.0 in
    let long = longer old new more in
    (omega (arith, below, long), get-kept old new more p h.0 ∙ h.1, at-more old new more positions lists h.2)

pub extends-more : (a b c : List (List Item)) → Extends a b → Extends b c → Extends a c
extends-more a b c h k = (h.0 ++ k.0, k.1 ∙ ap (λ l. l ++ k.0) h.1 ∙ append_assoc a h.0 k.0)

-- ---- beginning and finishing

not-open : (p q : ℕ) (is_open : ℕ → Bool) → and_open p is_open q ≡ false → (q ≡ p → ⊥) × (is_open q ≡ false)
not-open p q is_open h = by (nat_eq p q) refl h
  where
    by : (b : Bool) → nat_eq p q ≡ b → (b || is_open q) ≡ false → (q ≡ p → ⊥) × (is_open q ≡ false)
    by true is h = absurd (true≢false h)
    by false is h = (λ same. true≢false (sym (eq-eqb p q (sym same)) ∙ is), h)

-- what may come of the list at a position stays, where lists are added
pub ways-more : (definitions : List Definition) (old new : List (List Item)) (ways : List (List ℕ)) → Extends old new → (p : ℕ) → p < length old
    → AreAt old (get_or ways p []) (ways_of definitions (get_or old p [])) → AreAt new (get_or ways p []) (ways_of definitions (get_or new p []))
ways-more definitions old new ways more p below h =
    subst (λ l. AreAt new (get_or ways p []) (ways_of definitions l)) (sym (get-kept old new more p below)) (at-more old new more (get_or ways p []) (ways_of definitions (get_or old p [])) h)

pub begun : (definitions : List Definition) (site : Site) (old new : List (List Item)) (ways : List (List ℕ)) (at rest : ℕ) (i : Item) → IsPut old new at i rest
    → IsBegun (record { definitions = definitions; site = site; lists = old; ways = ways }) (record { definitions = definitions; site = site; lists = new; ways = ways }) at (i ∷ get_or old rest [])
begun definitions site old new ways at rest i put = record {
  definitions = refl;
  site = refl;
  lists = put.extended;
  keeps = λ is_open all p below closed.
      let apart = not-open at p is_open closed in
      elim (cases_lt p (length old)) as (λ _. HasWays (record { definitions = definitions; site = site; lists = new; ways = ways }) p) [
        | inl before ↦ ways-more definitions old new ways put.extended p before (all p before apart.1)
        | inr from ↦ absurd (apart.0 (put.alone p from below))
      ];
  within = put.within;
  stands = put.stands;
}

pub finished : (definitions : List Definition) (site : Site) (lists : List (List Item)) (old new : List (List ℕ)) (at : ℕ) (ways : List ℕ)
    → get_or new at [] ≡ ways → ((p : ℕ) → (p ≡ at → ⊥) → get_or new p [] ≡ get_or old p []) → AreAt lists ways (ways_of definitions (get_or lists at []))
    → IsFinished (record { definitions = definitions; site = site; lists = lists; ways = old }) (record { definitions = definitions; site = site; lists = lists; ways = new }) at
finished definitions site lists old new at ways here elsewhere h = record {
  definitions = refl;
  site = refl;
  lists = refl;
  keeps = λ is_open all p below closed. by is_open all p below closed (nat_eq at p) refl;
}
  where
    by : (is_open : ℕ → Bool) → AllBut (record { definitions = definitions; site = site; lists = lists; ways = old }) (and_open at is_open)
        → (p : ℕ) → p < length lists → is_open p ≡ false → (b : Bool) → nat_eq at p ≡ b
        → AreAt lists (get_or new p []) (ways_of definitions (get_or lists p []))
    by is_open all p below closed true is =
        let same = eqb-true at p is in
        subst (λ q. AreAt lists (get_or new q []) (ways_of definitions (get_or lists q []))) same (subst (λ w. AreAt lists w (ways_of definitions (get_or lists at []))) (sym here) h)
    by is_open all p below closed false is =
        let other = elsewhere p (λ same. true≢false (sym (eq-eqb at p (sym same)) ∙ is)) in
        subst (λ w. AreAt lists w (ways_of definitions (get_or lists p []))) (sym other) (all p below (ap (λ b. b || is_open p) is ∙ closed))

-- a position that was begun and finished
pub drawn : (old mid new : Draft) (at : ℕ) (list : List Item) → IsBegun old mid at list → IsFinished mid new at → IsDrawn old new at list
drawn old mid new at list b f = record {
  grown = record {
    definitions = f.definitions ∙ b.definitions;
    site = f.site ∙ b.site;
    lists = (b.lists.0, f.lists ∙ b.lists.1);
    keeps = λ is_open all. f.keeps is_open (b.keeps is_open all);
  };
  within = subst (λ l. at < length l) (sym f.lists) b.within;
  stands = ap (λ l. get_or l at []) f.lists ∙ b.stands;
}

-- what may come of a list that was begun
pub ways-begun : (old mid : Draft) (at : ℕ) (list : List Item) (ways : List ℕ) → IsBegun old mid at list → AreAt old.lists ways (ways_of old.definitions list)
    → AreAt mid.lists ways (ways_of mid.definitions (get_or mid.lists at []))
ways-begun old mid at list ways b h =
    subst (λ d. AreAt mid.lists ways (ways_of d (get_or mid.lists at []))) (sym b.definitions)
    (subst (λ l. AreAt mid.lists ways (ways_of old.definitions l)) (sym b.stands) (at-more old.lists mid.lists b.lists ways (ways_of old.definitions list) h))

pub grows-not : (d : Draft) → Grows d d
grows-not d = record { definitions = refl; site = refl; lists = ([], sym (append-nil d.lists)); keeps = λ is_open all. all }

pub grows-more : (a b c : Draft) → Grows a b → Grows b c → Grows a c
grows-more a b c g h = record {
  definitions = h.definitions ∙ g.definitions;
  site = h.site ∙ g.site;
  lists = extends-more a.lists b.lists c.lists g.lists h.lists;
  keeps = λ is_open all. h.keeps is_open (g.keeps is_open all);
}

-- ---- ways

pub way-found : (lists : List (List Item)) (positions : List ℕ) (ways : List (List Item)) → AreAt lists positions ways → (k p : ℕ) → slice_get positions k ≡ Some p
    → (p < length lists) × (slice_get ways k ≡ Some (get_or lists p []))
way-found lists [] ways h k p is = absurd (true≢false (sym (ap is_some is)))
way-found lists (q ∷ positions) [] h k p is = absurd h
way-found lists (q ∷ positions) (l ∷ ways) h zero p is =
    let same = some-is is in
    (subst (λ x. x < length lists) same h.0, ap Some (sym h.1 ∙ ap (λ x. get_or lists x []) same))
way-found lists (q ∷ positions) (l ∷ ways) h (suc k) p is = way-found lists positions ways h.2 k p is

pub way-missing : (lists : List (List Item)) (positions : List ℕ) (ways : List (List Item)) → AreAt lists positions ways → (k : ℕ) → slice_get positions k ≡ None
    → slice_get ways k ≡ None
way-missing lists [] [] h k is = refl
way-missing lists [] (l ∷ ways) h k is = absurd h
way-missing lists (q ∷ positions) [] h k is = absurd h
way-missing lists (q ∷ positions) (l ∷ ways) h zero is = absurd (true≢false (ap is_some is))
way-missing lists (q ∷ positions) (l ∷ ways) h (suc k) is = way-missing lists positions ways h.2 k is

pub is-way : (d : Draft) (at place way : ℕ) → slice_get (get_or d.ways at []) place ≡ Some way → HasWays d at → IsWay d at place way
is-way d at place way is h =
    let found = way-found d.lists (get_or d.ways at []) (ways_of d.definitions (get_or d.lists at [])) h place way is in record { within = found.0; stands = found.1 }

pub way-answer : (d : Draft) (at place : ℕ) (found : Option ℕ) → found ≡ slice_get (get_or d.ways at []) place
    → IfSome found (λ way. HasWays d at → IsWay d at place way)
    × IfNone found (HasWays d at → slice_get (ways_of d.definitions (get_or d.lists at [])) place ≡ None)
way-answer d at place None is = (tt, λ h. way-missing d.lists (get_or d.ways at []) (ways_of d.definitions (get_or d.lists at [])) h place (sym is))
way-answer d at place (Some way) is = (λ h. is-way d at place way (sym is) h, tt)
