-- How drafts grow from part to part.
use Rattle.std.proofs.Common.{◌≡◌, refl, sym, ap, subst, ◌∙◌, ℕ, zero, suc, ◌+◌, ◌<◌, ◌≤◌, List, [], ◌∷◌, ◌++◌, map, length, get_or, take, drop, Option, Result, Ok, Err, IfOk, arith}
use Rattle.std.proofs.lemmas.List.{append_assoc, drop_all}
use Rattle.ttcn_syntax.specs.declared.tree.statement.Conditional.{Conditional}
use Rattle.ttcn_syntax.specs.declared.tree.statement.ForStart.{ForStart}
use Rattle.ttcn_syntax.specs.declared.tree.statement.ForStart.TheVariants as for_start
use Rattle.ttcn_syntax.specs.declared.tree.statement.Statement.{Statement}
use Rattle.ttcn_syntax.specs.declared.tree.statement.Variable.{Variable}
use Rattle.ttcn_syntax.specs.declared.tree.statement.Variables.{Variables}
use Rattle.check_scope.proofs.Lookups.{drop-next}
use Rattle.check_scope.specs.Names.{Entry, resolved}
use Rattle.check_scope.specs.declared.names.Meaning.TheVariants as meaning
use Rattle.semantics.specs.Items.{Doing, Item, Name, Part, declarations, items, items_of_statement, site_after, site_in_for, start_items}
use Rattle.semantics.specs.Sites.{Site, scope_at, site_behind, site_with, variable_entries}
use Rattle.graph_sites.specs.internal.OwnNames.{retracted}
use Rattle.ttcn_graph.specs.Drafts.{AreAt, AreDrawn, Draft, Grows, IsBegun, IsDrawn, at_site}
use Rattle.ttcn_graph.specs.Ways.{Lists, items_otherwise, ways_of}
use Rattle.ttcn_graph.specs.internal.Drawing.{declared_before, site_before, site_behind_all}
use Rattle.ttcn_graph.proofs.Behind.{before-behind, behind-next, declared-behind}
use Rattle.ttcn_graph.proofs.Drafted.{at-more, drawn, extends-more, grows-more, grows-not}
use Rattle.ttcn_graph.proofs.ListsKept.{get-kept, length-map, longer}

-- ---- positions in drafts that grow

-- a position stays within, and what is at it stays
pub within-more : (a b : Draft) (p : ℕ) → Grows a b → p < length a.lists → p < length b.lists
within-more a b p g h = let long = longer a.lists b.lists g.lists in omega (arith, h, long)

pub kept-more : (a b : Draft) (p : ℕ) → Grows a b → p < length a.lists → get_or b.lists p [] ≡ get_or a.lists p []
kept-more a b p g h = get-kept a.lists b.lists g.lists p h

pub ways-more : (a b : Draft) (positions : List ℕ) (lists : Lists) → Grows a b → AreAt a.lists positions lists → AreAt b.lists positions lists
ways-more a b positions lists g h = at-more a.lists b.lists g.lists positions lists h

pub begun-kept : (a b : Draft) (at p : ℕ) (list : List Item) → IsBegun a b at list → p < length a.lists → get_or b.lists p [] ≡ get_or a.lists p []
begun-kept a b at p list g h = get-kept a.lists b.lists g.lists p h

-- a draft that was begun, and grew
pub begun-more : (a b c : Draft) (at : ℕ) (list : List Item) → IsBegun a b at list → Grows b c → IsBegun a c at list
begun-more a b c at list h g = record {
  definitions = g.definitions ∙ h.definitions;
  site = g.site ∙ h.site;
  lists = extends-more a.lists b.lists c.lists h.lists g.lists;
  keeps = λ is_open all. g.keeps _ (h.keeps is_open all);
  within = within-more b c at g h.within;
  stands = kept-more b c at g h.within ∙ h.stands;
}

-- a draft that grew, and then drew
pub drawn-more : (a b c : Draft) (at : ℕ) (list : List Item) → Grows a b → IsDrawn b c at list → IsDrawn a c at list
drawn-more a b c at list g d = record { grown = grows-more a b c g d.grown; within = d.within; stands = d.stands }

-- what is drawn is this list
pub drawn-is : (a b : Draft) (at : ℕ) (l m : List Item) → l ≡ m → IsDrawn a b at l → IsDrawn a b at m
drawn-is a b at l m is d = subst (IsDrawn a b at) is d

-- what may come of a list that was begun
pub begun-ways : (a c : Draft) (at : ℕ) (list : List Item) (ways : Lists) → IsBegun a c at list → ways_of a.definitions list ≡ ways → ways_of c.definitions (get_or c.lists at []) ≡ ways
begun-ways a c at list ways h is =
    ap (λ d. ways_of d (get_or c.lists at [])) h.definitions ∙ ap (ways_of a.definitions) h.stands ∙ is

-- ---- positions one after the other

pub at-push : (lists : Lists) (positions : List ℕ) (ways : Lists) (p : ℕ) (list : List Item) → AreAt lists positions ways → p < length lists → get_or lists p [] ≡ list
    → AreAt lists (positions ++ p ∷ []) (ways ++ list ∷ [])
at-push lists [] [] p list h within is = (within, is, tt)
at-push lists [] (l ∷ ways) p list h within is = absurd h
at-push lists (q ∷ positions) [] p list h within is = absurd h
at-push lists (q ∷ positions) (l ∷ ways) p list h within is = (h.0, h.1, at-push lists positions ways p list h.2 within is)

pub drawn-push : (a b : Draft) (positions : List ℕ) (ways : Lists) (p : ℕ) (list : List Item) → AreDrawn a b positions ways → p < length b.lists → get_or b.lists p [] ≡ list
    → AreDrawn a b (positions ++ p ∷ []) (ways ++ list ∷ [])
drawn-push a b positions ways p list d within is = record { grown = d.grown; stand = at-push b.lists positions ways p list d.stand within is }

pub drawn-ways-more : (a b c : Draft) (positions : List ℕ) (ways : Lists) → AreDrawn a b positions ways → Grows b c → AreDrawn a c positions ways
drawn-ways-more a b c positions ways d g = record { grown = grows-more a b c d.grown g; stand = ways-more b c positions ways g d.stand }

-- ---- names

-- a draft at other sites
pub grows-sited : (old d d' : Draft) (site : Site) → Grows (at_site d.site old) d → Grows (at_site site d) d' → Grows (at_site d'.site old) d'
grows-sited old d d' site g h = record {
  definitions = h.definitions ∙ g.definitions;
  site = refl;
  lists = extends-more old.lists d.lists d'.lists g.lists h.lists;
  keeps = λ is_open all. h.keeps is_open (g.keeps is_open all);
}

-- so many names are left to be drawn
pub record NamesLeft (old d : Draft) (s : Statement) (count : ℕ) (rest : List Item) (at left : ℕ) : Type 0 where
  pub grown : Grows (at_site d.site old) d
  pub within : at < length d.lists
  pub list_is : declared_before d.site s left (get_or d.lists at []) ≡ declared_before old.site s count rest
  pub site_is : site_before left d.site ≡ site_before count old.site

pub names-first : (old : Draft) (s : Statement) (count at : ℕ) → at < length old.lists → NamesLeft old old s count (get_or old.lists at []) at count
names-first old s count at within = record { grown = grows-not old; within = within; list_is = refl; site_is = refl }

pub names-next : (old d d' : Draft) (s : Statement) (count : ℕ) (rest : List Item) (at at' j left : ℕ) → left ≡ suc j → NamesLeft old d s count rest at left
    → IsDrawn (at_site (retracted d.site) d) d' at' (Doing (retracted d.site) s (Name j) ∷ get_or d.lists at []) → NamesLeft old d' s count rest at' j
names-next old d d' s count rest at at' j left is n h =
    let site : d'.site ≡ retracted d.site = h.grown.site in
    record {
      grown = grows-sited old d d' (retracted d.site) n.grown h.grown;
      within = h.within;
      list_is = (λ i. declared_before (site i) s j (h.stands i)) ∙ sym (ap (λ k. declared_before d.site s k (get_or d.lists at [])) is) ∙ n.list_is;
      site_is = ap (site_before j) site ∙ sym (ap (λ k. site_before k d.site) is) ∙ n.site_is;
    }

-- a draft at a site, that grew there
pub grows-at : (old d : Draft) (site : Site) → d.site ≡ site → Grows (at_site d.site old) d → Grows (at_site site old) d
grows-at old d site is g = record { definitions = g.definitions; site = is; lists = g.lists; keeps = g.keeps }

pub names-end : (old d : Draft) (s : Statement) (count : ℕ) (rest : List Item) (at left : ℕ) → left ≡ zero → NamesLeft old d s count rest at left
    → IsDrawn (at_site (site_before count old.site) old) d at (declared_before old.site s count rest)
names-end old d s count rest at left is n = record {
  grown = grows-at old d (site_before count old.site) (sym (ap (λ k. site_before k d.site) is) ∙ n.site_is) n.grown;
  within = n.within;
  stands = sym (ap (λ k. declared_before d.site s k (get_or d.lists at [])) is) ∙ n.list_is;
}

-- names that were declared at a site
pub names-drawn : (old d : Draft) (site : Site) (s : Statement) (entries : List Entry) (count at : ℕ) (rest : List Item) → old.site ≡ site_behind site entries → length entries ≡ count
    → IsDrawn (at_site (site_before count old.site) old) d at (declared_before old.site s count rest)
    → IsDrawn (at_site site old) d at (declarations site s 0 entries ++ rest)
names-drawn old d site s entries count at rest behind many h =
    let all : count ≡ length entries + 0 = omega (arith, many) in
    let before = ap (site_before count) behind ∙ before-behind entries site 0 count all in
    record {
      grown = record { definitions = h.grown.definitions; site = h.grown.site ∙ before; lists = h.grown.lists; keeps = h.grown.keeps };
      within = h.within;
      stands = h.stands ∙ ap (λ from. declared_before from s count rest) behind ∙ declared-behind entries site s 0 count rest all;
    }

-- ---- blocks

-- the statements before are left to be drawn
pub record BlockLeft (old d : Draft) (body : List Statement) (rest : List Item) (at left : ℕ) : Type 0 where
  pub grown : Grows (at_site d.site old) d
  pub within : at < length d.lists
  pub site_is : d.site ≡ site_behind_all old.definitions old.site (take left body)
  pub stands : get_or d.lists at [] ≡ items old.definitions d.site (drop left body) ++ rest

pub block-next : (old d d' : Draft) (body : List Statement) (rest : List Item) (s : Statement) (at at' j left : ℕ) → left ≡ suc j → j < length body → s ≡ get_or body j s → BlockLeft old d body rest at left
    → ((site : Site) → d.site ≡ site_after d.definitions site s → IsDrawn (at_site site d) d' at' (items_of_statement d.definitions site s ++ get_or d.lists at []))
    → BlockLeft old d' body rest at' j
block-next old d d' body rest s at at' j left is within at_is b draws =
    let site = site_behind_all old.definitions old.site (take j body) in
    let behind : d.site ≡ site_after old.definitions site s = b.site_is ∙ ap (λ k. site_behind_all old.definitions old.site (take k body)) is ∙ behind-next old.definitions body old.site j s within at_is in
    let h = draws site (behind ∙ ap (λ definitions. site_after definitions site s) (sym b.grown.definitions)) in
    let next : suc j ≡ j + 1 = omega arith in
    record {
      grown = grows-sited old d d' site b.grown h.grown;
      within = h.within;
      site_is = h.grown.site;
      stands =
          h.stands ∙ (λ i. items_of_statement (b.grown.definitions i) site s ++ b.stands i)
          ∙ sym (append_assoc (items_of_statement old.definitions site s) (items old.definitions d.site (drop left body)) rest)
          ∙ (λ i. (items_of_statement old.definitions site s ++ items old.definitions (behind i) (drop (is i) body)) ++ rest)
          ∙ ap (λ k. (items_of_statement old.definitions site s ++ items old.definitions (site_after old.definitions site s) (drop k body)) ++ rest) next
          ∙ ap (λ left. items old.definitions site left ++ rest) (sym (drop-next body j s within at_is))
          ∙ ap (λ from. items old.definitions from (drop j body) ++ rest) (sym h.grown.site);
    }

pub block-end : (old d : Draft) (body : List Statement) (rest : List Item) (at left : ℕ) → left ≡ zero → BlockLeft old d body rest at left
    → IsDrawn old d at (items old.definitions old.site body ++ rest)
block-end old d body rest at left is b =
    let site : d.site ≡ old.site = b.site_is ∙ ap (λ k. site_behind_all old.definitions old.site (take k body)) is in
    record {
      grown = grows-at old d old.site site b.grown;
      within = b.within;
      stands = b.stands ∙ (λ i. items old.definitions (site i) (drop (is i) body) ++ rest);
    }

-- ---- going behind declarations

-- one name more is declared
pub declare-next : {A : Type 0} (entry : A → Entry) (d d' goes : Draft) (all : List A) (i : ℕ) (x : A) → i < length all → x ≡ get_or all i x → d' ≡ at_site (site_with d.site (entry x)) d
    → at_site (site_behind d.site (map entry (drop i all))) d ≡ goes → at_site (site_behind d'.site (map entry (drop (i + 1) all))) d' ≡ goes
declare-next entry d d' goes all i x within is next left =
    ap (λ (d : Draft). at_site (site_behind d.site (map entry (drop (i + 1) all))) d) next
    ∙ ap (λ more. at_site (site_behind d.site (map entry more)) d) (sym (drop-next all i x within is))
    ∙ left

pub declare-end : {A : Type 0} (entry : A → Entry) (d goes : Draft) (all : List A) (i : ℕ) → length all ≤ i → at_site (site_behind d.site (map entry (drop i all))) d ≡ goes → d ≡ goes
declare-end entry d goes all i past left = sym (ap (λ more. at_site (site_behind d.site (map entry more)) d) (drop_all i all past)) ∙ left

-- one statement more
pub behind-all-next : (d d' goes : Draft) (body : List Statement) (i : ℕ) (s : Statement) → i < length body → s ≡ get_or body i s → d' ≡ at_site (site_after d.definitions d.site s) d
    → at_site (site_behind_all d.definitions d.site (drop i body)) d ≡ goes → at_site (site_behind_all d'.definitions d'.site (drop (i + 1) body)) d' ≡ goes
behind-all-next d d' goes body i s within is next left =
    ap (λ (d : Draft). at_site (site_behind_all d.definitions d.site (drop (i + 1) body)) d) next
    ∙ ap (λ more. at_site (site_behind_all d.definitions d.site more) d) (sym (drop-next body i s within is))
    ∙ left

pub behind-all-end : (d goes : Draft) (body : List Statement) (i : ℕ) → length body ≤ i → at_site (site_behind_all d.definitions d.site (drop i body)) d ≡ goes → d ≡ goes
behind-all-end d goes body i past left = sym (ap (λ more. at_site (site_behind_all d.definitions d.site more) d) (drop_all i body past)) ∙ left

-- ---- a part of a statement, behind what was drawn for its ways

pub put-within : (a b : Draft) (ways : List ℕ) (lists : Lists) (rest : ℕ) → AreDrawn a b ways lists → rest < length a.lists → rest < length b.lists
put-within a b ways lists rest d h = within-more a b rest d.grown h

pub put-ways : (a b : Draft) (s : Statement) (part : Part) (ways : List ℕ) (lists : Lists) (rest : ℕ) → AreDrawn a b ways lists → rest < length a.lists
    → ways_of a.definitions (Doing a.site s part ∷ get_or a.lists rest []) ≡ lists → AreAt b.lists ways (ways_of b.definitions (Doing b.site s part ∷ get_or b.lists rest []))
put-ways a b s part ways lists rest d h is =
    subst (AreAt b.lists ways)
    (sym is ∙ sym (λ i. ways_of (d.grown.definitions i) (Doing (d.grown.site i) s part ∷ kept-more a b rest d.grown h i)))
    d.stand

pub put-drawn : (a b c : Draft) (s : Statement) (part : Part) (ways : List ℕ) (lists : Lists) (rest at : ℕ) → AreDrawn a b ways lists → rest < length a.lists
    → IsDrawn b c at (Doing b.site s part ∷ get_or b.lists rest []) → IsDrawn a c at (Doing a.site s part ∷ get_or a.lists rest [])
put-drawn a b c s part ways lists rest at d h drawn =
    drawn-is a c at (Doing b.site s part ∷ get_or b.lists rest []) (Doing a.site s part ∷ get_or a.lists rest [])
    (λ i. Doing (d.grown.site i) s part ∷ kept-more a b rest d.grown h i)
    (drawn-more a b c at (Doing b.site s part ∷ get_or b.lists rest []) d.grown drawn)

-- ---- an `if`

-- the conditions of an `if` are drawn from one on
pub record ChainLeft (old d : Draft) (s : Statement) (rest : ℕ) (conditionals : List Conditional) (last : Option (List Statement)) (failed left : ℕ) : Type 0 where
  pub grown : Grows old d
  pub within : failed < length d.lists
  pub stands : get_or d.lists failed [] ≡ items_otherwise old.definitions old.site s (get_or old.lists rest []) left conditionals last
  pub first : 0 < length conditionals → 0 < left

-- ---- what a `for` begins with

pub start-drawn : (old new : Draft) (site : Site) (s : Statement) (start : ForStart) (vs : Variables) (variables : List Variable) (at : ℕ) (rest : List Item) → start ≡ for_start.Variables vs
    → variables ≡ vs.variables → old.site ≡ site_in_for old.definitions site start
    → IsDrawn (at_site (site_before (length variables) old.site) old) new at (declared_before old.site s (length variables) rest)
    → IsDrawn (at_site site old) new at (start_items old.definitions site s start ++ rest)
start-drawn old new site s start vs variables at rest start_is variables_are behind h =
    let entries = variable_entries (scope_at old.definitions site) vs in
    drawn-is (at_site site old) new at (declarations site s 0 entries ++ rest) (start_items old.definitions site s start ++ rest)
    (ap (λ start. start_items old.definitions site s start ++ rest) (sym start_is))
    (names-drawn old new site s entries (length variables) at rest (behind ∙ ap (site_in_for old.definitions site) start_is)
    (length-map (λ v. (v.name, meaning.Variable (resolved (scope_at old.definitions site).names vs.type_name))) vs.variables ∙ ap length (sym variables_are)) h)

-- what is so of the result where there is one
pub ok-map : {T E : Type 0} (r : Result T E) (P Q : T → Type 0) → ((t : T) → P t → Q t) → IfOk r P → IfOk r Q
ok-map (Ok t) P Q more h = more t h
ok-map (Err e) P Q more h = tt
