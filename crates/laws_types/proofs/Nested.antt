-- What remains of a block, of declarations and of loops: each item stands where no names are declared but those of the items before it.
use Rattle.std.proofs.Common.{◌≡◌, ℕ, ◌+◌, suc, true, false, List, [], ◌∷◌, ◌++◌, map, slice_get, Option, Some, None, IsSomeAnd, append_assoc, refl, sym, ap, subst, arith}
use Rattle.ttcn_syntax.specs.declared.tree.definition.Definition.{Definition}
use Rattle.ttcn_syntax.specs.declared.tree.expression.Expr.{Expr}
use Rattle.ttcn_syntax.specs.declared.tree.statement.Action.{Action}
use Rattle.ttcn_syntax.specs.declared.tree.statement.Action.TheFolds.{map-Action}
use Rattle.ttcn_syntax.specs.declared.tree.statement.Action.TheOpen.{Action-F}
use Rattle.ttcn_syntax.specs.declared.tree.statement.Alternative.{Alternative}
use Rattle.ttcn_syntax.specs.declared.tree.statement.Assignment.{Assignment}
use Rattle.ttcn_syntax.specs.declared.tree.statement.Branch.{Branch}
use Rattle.ttcn_syntax.specs.declared.tree.statement.Conditional.{Conditional}
use Rattle.ttcn_syntax.specs.declared.tree.statement.Constant.{Constant}
use Rattle.ttcn_syntax.specs.declared.tree.statement.Constants.{Constants}
use Rattle.ttcn_syntax.specs.declared.tree.statement.ForStart.{ForStart}
use Rattle.ttcn_syntax.specs.declared.tree.statement.ForStart.TheVariants as for_start
use Rattle.ttcn_syntax.specs.declared.tree.statement.Statement.{Statement}
use Rattle.ttcn_syntax.specs.declared.tree.statement.Timer.{Timer}
use Rattle.ttcn_syntax.specs.declared.tree.statement.Variable.{Variable}
use Rattle.ttcn_syntax.specs.declared.tree.statement.Variables.{Variables}
use Rattle.check_rules.specs.Declarations.{one_by_one}
use Rattle.check_rules.specs.Targets.{check_constant, check_constants, check_timer_name, check_timers, check_type, check_variable, check_variables, constant_entry, variable_entry}
use Rattle.check_scope.specs.Names.{Entry, Scope, resolved}
use Rattle.check_scope.specs.declared.names.Meaning.{Meaning}
use Rattle.check_scope.specs.declared.names.Meaning.TheVariants as meaning
use Rattle.check_scope.specs.declared.rule.Rule.{Rule}
use Rattle.check_rules.specs.Statements.{Check, StatementRules, action, action_step, alternative, branch, conditional, statement, statements}
use Rattle.laws_checker.proofs.Descent.{first_fine, others_fine}
use Rattle.laws_checker.proofs.Nothing.{nothing-first, nothing-rest}
use Rattle.laws_checker.specs.Laws.{IsKnown}
use Rattle.laws_sites.proofs.Blocks.{parts-of, place, scope-after}
use Rattle.laws_sites.proofs.Sites.{behind-constants-fine, behind-timers-fine, behind-variables-fine}
use Rattle.laws_sites.specs.Standing.{IsFineSite, PlaceIn, place_at}
use Rattle.laws_statements.proofs.Growing.{constant-new, new-unseen, new_name_within, variable-new, within_both, within_itself}
use Rattle.laws_statements.proofs.Typing.{type_known}
use Rattle.laws_statements.proofs.Within.{type_stays}
use Rattle.laws_statements.specs.Parts.{HasFineParts, IsFineIfAny}
use Rattle.laws_statements.specs.Within.{IsWithin}
use Rattle.semantics.specs.Items.{Does, Doing, Item, Loop, Mark, Part, Start, Waiting, Whole, action_of, declarations, items, items_if_any, items_of_action, items_of_statement, site_after, site_in_for, start_items}
use Rattle.semantics.specs.Sites.{Site, constant_entries, entries_of, scope_at, site_behind, site_with, timer_entries, variable_entries}
use Rattle.laws_repeat.proofs.Outside.{outside-behind, outside-both, outside-itself}
use Rattle.laws_repeat.specs.Following.{IsOutside}
use Rattle.laws_types.specs.Typed.{Declares, DeclaresVariable, Leaves, Nest, StandsIn}

-- ---- what is said of one level of a statement

abbrev told : Does → StatementRules
told x = action_step (map-Action Action Alternative Branch Conditional Statement StatementRules Check Check Check StatementRules action alternative branch conditional statement x)

module _ (definitions : List Definition) (at : ℕ) where
  abbrev NestAt : List Entry → List Item → Type 0
  NestAt declared xs = Nest definitions at declared xs

  abbrev FineAt : Site → Type 0
  FineAt site = IsFineSite definitions at site

  stands-wider : (declared more : List Entry) (site : Site) → IsOutside declared more → StandsIn at declared site → StandsIn at more site
  stands-wider declared more site wider is = (is.0, outside-both site.declared declared more is.1 wider)

  pub nest-wider : (declared more : List Entry) (xs : List Item) → IsOutside declared more → NestAt declared xs → NestAt more xs
  nest-wider declared more [] wider is = tt
  nest-wider declared more (Doing site s part ∷ xs) wider is = (stands-wider declared more site wider is.0, is.1)
  nest-wider declared more (Mark site s ∷ xs) wider is = (stands-wider declared more site wider is.0, is.1)
  nest-wider declared more (Waiting target ∷ xs) wider is = absurd is

  stands-there : (site : Site) → site.behaviour ≡ at → StandsIn at site.declared site
  stands-there site within = (within, outside-itself site.declared)

  -- ---- names that are declared one by one

  module _ {A : Type 0} (rules : Scope → A → List Rule) (name : A → List ℕ) (m : Meaning) (new : (s : Scope) (x : A) → rules s x ≡ [] → s.names (name x) ≡ None) (known : IsKnown definitions m)
      (s : Statement) (first : Scope) (all : List A) (is : (scope : Scope) (k : ℕ) (x : A) → IsWithin first scope → slice_get all k ≡ Some x → Declares scope k (action_of s) (name x, m)) where
    abbrev entry-of : A → Entry
    entry-of x = (name x, m)

    nest-names : (site : Site) (k : ℕ) (xs : List A) (rest : List Item) → ((j : ℕ) → slice_get all (j + k) ≡ slice_get xs j) → site.behaviour ≡ at → IsWithin first (scope_at definitions site)
        → one_by_one rules (λ s x. entry-of x) (scope_at definitions site) xs ≡ [] → NestAt (site_behind site (map entry-of xs)).declared rest
        → NestAt site.declared (declarations site s k (map entry-of xs) ++ rest)
    nest-names site k [] rest stand within grown nothing is-rest = is-rest
    nest-names site k (x ∷ xs) rest stand within grown nothing is-rest =
        let next : Site = site_with site (entry-of x) in
        let others : List Rule = one_by_one rules (λ s x. entry-of x) (scope_at definitions next) xs in
        let here : rules (scope_at definitions site) x ≡ [] = nothing-first (rules (scope_at definitions site) x) others nothing in (
          stands-there site within,
          (
            entry-of x ∷ site.declared,
            (entry-of x, is (scope_at definitions site) k x grown (subst (λ n. slice_get all n ≡ Some x) (omega arith) (stand 0)), known, refl),
            nest-names next (k + 1) xs rest (λ j. subst (λ n. slice_get all n ≡ slice_get xs j) (omega arith) (stand (suc j))) within
                (within_both first (scope_at definitions site) (scope_at definitions next) grown (new_name_within (scope_at definitions site) (name x) m (new (scope_at definitions site) x here)))
                (nothing-rest (rules (scope_at definitions site) x) others nothing) is-rest,
          ),
        )

  there : {A : Type 0} (P : A → Type 0) (o : Option A) (x : A) → o ≡ Some x → P x → IsSomeAnd o P
  there P o x is holds = subst (λ o. IsSomeAnd o P) (sym is) holds

  module _ (site : Site) (within : site.behaviour ≡ at) (rest : List Item) where
    abbrev here : Scope
    here = scope_at definitions site

    nest-variables : (vs : Variables) → check_variables here vs ≡ [] → (s : Statement) → ((scope : Scope) (k : ℕ) (entry : Entry) → DeclaresVariable scope vs k entry → Declares scope k (action_of s) entry)
        → NestAt (site_behind site (variable_entries here vs)).declared rest → NestAt site.declared (declarations site s 0 (variable_entries here vs) ++ rest)
    nest-variables vs nothing s is is-rest =
        let of = resolved here.names vs.type_name in
        let typed : check_type here.names true vs.type_name ≡ [] = nothing-first (check_type here.names true vs.type_name) (one_by_one (check_variable of) (variable_entry of) here vs.variables) nothing in
        nest-names (check_variable of) (λ (v : Variable). v.name) (meaning.Variable of) (variable-new of) (type_known here.names true vs.type_name typed) s here vs.variables
        (λ scope k v grown stands. is scope k (v.name, meaning.Variable of)
        (there (λ (w : Variable). (v.name, meaning.Variable of) ≡ (w.name, meaning.Variable (resolved scope.names vs.type_name))) (slice_get vs.variables k) v stands
        (ap (λ t. (v.name, meaning.Variable t)) (sym (type_stays here scope grown true vs.type_name typed)))))
        site 0 vs.variables rest (λ j. ap (slice_get vs.variables) (omega arith)) within (within_itself here)
        (nothing-rest (check_type here.names true vs.type_name) (one_by_one (check_variable of) (variable_entry of) here vs.variables) nothing) is-rest

    nest-constants : (cs : Constants) → check_constants here cs ≡ [] → (s : Statement) → ((scope : Scope) (k : ℕ) (entry : Entry) → Declares scope k (Action-F.Constants cs) entry → Declares scope k (action_of s) entry)
        → NestAt (site_behind site (constant_entries here cs)).declared rest → NestAt site.declared (declarations site s 0 (constant_entries here cs) ++ rest)
    nest-constants cs nothing s is is-rest =
        let of = resolved here.names cs.type_name in
        let typed : check_type here.names false cs.type_name ≡ [] = nothing-first (check_type here.names false cs.type_name) (one_by_one (check_constant of) (constant_entry of) here cs.constants) nothing in
        nest-names (check_constant of) (λ (c : Constant). c.name) (meaning.Constant of) (constant-new of) (type_known here.names false cs.type_name typed) s here cs.constants
        (λ scope k c grown stands. is scope k (c.name, meaning.Constant of)
        (there (λ (d : Constant). (c.name, meaning.Constant of) ≡ (d.name, meaning.Constant (resolved scope.names cs.type_name))) (slice_get cs.constants k) c stands
        (ap (λ t. (c.name, meaning.Constant t)) (sym (type_stays here scope grown false cs.type_name typed)))))
        site 0 cs.constants rest (λ j. ap (slice_get cs.constants) (omega arith)) within (within_itself here)
        (nothing-rest (check_type here.names false cs.type_name) (one_by_one (check_constant of) (constant_entry of) here cs.constants) nothing) is-rest

    nest-timers : (timers : List Timer) → check_timers here timers ≡ [] → (s : Statement) → ((scope : Scope) (k : ℕ) (entry : Entry) → Declares scope k (Action-F.Timers timers) entry → Declares scope k (action_of s) entry)
        → NestAt (site_behind site (timer_entries timers)).declared rest → NestAt site.declared (declarations site s 0 (timer_entries timers) ++ rest)
    nest-timers timers nothing s is is-rest =
        nest-names check_timer_name (λ (t : Timer). t.name) meaning.Timer (λ s t rules. new-unseen s.names t.name rules) tt s here timers
        (λ scope k t grown stands. is scope k (t.name, meaning.Timer) (there (λ (u : Timer). (t.name, meaning.Timer) ≡ (u.name, meaning.Timer)) (slice_get timers k) t stands refl))
        site 0 timers rest (λ j. ap (slice_get timers) (omega arith)) within (within_itself here) nothing is-rest

  -- ---- statements

  -- an item that declares nothing
  pub nest-one : (site : Site) (s : Statement) (part : Part) (rest : List Item) → site.behaviour ≡ at → Leaves definitions site s part site.declared → NestAt site.declared rest → NestAt site.declared (Doing site s part ∷ rest)
  nest-one site s part rest within leaves is = (stands-there site within, (site.declared, leaves, is))

  nest-action : (site : Site) (s : Statement) (inside : PlaceIn definitions at) (x : Does) (rest : List Item) → action_of s ≡ x → FineAt site → HasFineParts (place definitions at site inside) x
      → NestAt (site_behind site (entries_of (scope_at definitions site) x)).declared rest → NestAt site.declared (items_of_action definitions site s x ++ rest)
  nest-action site s inside (Action-F.Variables vs) rest e fine parts is =
      nest-variables site fine.within rest vs parts s (λ scope k entry holds. subst (λ x. Declares scope k x entry) (sym e) holds) is
  nest-action site s inside (Action-F.Constants cs) rest e fine parts is =
      nest-constants site fine.within rest cs parts s (λ scope k entry holds. subst (λ x. Declares scope k x entry) (sym e) holds) is
  nest-action site s inside (Action-F.Timers timers) rest e fine parts is =
      nest-timers site fine.within rest timers parts s (λ scope k entry holds. subst (λ x. Declares scope k x entry) (sym e) holds) is
  nest-action site s inside _ rest e fine parts is = nest-one site s Whole rest fine.within refl is

  -- ---- the site behind a statement

  after-of : (site : Site) (inside : PlaceIn definitions at) (x : Does) → FineAt site → HasFineParts (place definitions at site inside) x → FineAt (site_behind site (entries_of (scope_at definitions site) x))
  after-of site inside (Action-F.Variables vs) fine parts = behind-variables-fine definitions at site fine vs parts
  after-of site inside (Action-F.Constants cs) fine parts = behind-constants-fine definitions at site fine cs parts
  after-of site inside (Action-F.Timers timers) fine parts = behind-timers-fine definitions at site fine timers parts
  after-of site inside _ fine parts = fine

  after-fine : (site : Site) (s : Statement) (inside : PlaceIn definitions at) → FineAt site → (statement s).broken (place definitions at site inside) ≡ [] → FineAt (site_after definitions site s)
  after-fine site s inside fine nothing = after-of site inside (action_of s) fine (parts-of definitions at site s inside fine nothing)

  -- ---- blocks

  pub nest-block : (block : List Statement) (site : Site) (inside : PlaceIn definitions at) (rest : List Item) → FineAt site → statements block (place definitions at site inside) ≡ [] → NestAt site.declared rest
      → NestAt site.declared (items definitions site block ++ rest)
  nest-block [] site inside rest fine nothing is = is
  nest-block (s ∷ block) site inside rest fine nothing is =
      let here = first_fine s block (place definitions at site inside) nothing in
      let next : Site = site_after definitions site s in
      let others : NestAt next.declared (items definitions next block ++ rest) =
      nest-block block next inside rest (after-fine site s inside fine here)
      (subst (λ scope. statements block (place_at definitions at scope inside) ≡ []) (sym (scope-after definitions at site s)) (others_fine s block (place definitions at site inside) nothing))
      (nest-wider site.declared next.declared rest (outside-behind site (entries_of (scope_at definitions site) (action_of s))) is) in
      subst (NestAt site.declared) (sym (append_assoc (items_of_statement definitions site s) (items definitions next block) rest))
      (nest-action site s inside (action_of s) (items definitions next block ++ rest) refl fine (parts-of definitions at site s inside fine here) others)

  pub nest-block-if : (block : Option (List Statement)) (site : Site) (inside : PlaceIn definitions at) (rest : List Item) → FineAt site → IsFineIfAny (place definitions at site inside) block → NestAt site.declared rest
      → NestAt site.declared (items_if_any definitions site block ++ rest)
  nest-block-if None site inside rest fine nothing is = is
  nest-block-if (Some block) site inside rest fine nothing is = nest-block block site inside rest fine nothing is

  -- ---- loops

  pub nest-for : (site : Site) (s : Statement) (inside : PlaceIn definitions at) (start : ForStart) (condition : Expr) (step : Assignment) (block : List Statement) (rest : List Item)
      → action_of s ≡ Action-F.For start condition step block → FineAt site → HasFineParts (place definitions at site inside) (Action-F.For start condition step block) → NestAt site.declared rest
      → NestAt site.declared (start_items definitions site s start ++ Doing (site_in_for definitions site start) s Loop ∷ rest)
  nest-for site s inside (for_start.Variables vs) condition step block rest e fine parts is =
      let next : Site = site_behind site (variable_entries (scope_at definitions site) vs) in
      nest-variables site fine.within (Doing next s Loop ∷ rest) vs parts.0 s (λ scope k entry holds. subst (λ x. Declares scope k x entry) (sym e) holds)
      (nest-one next s Loop rest (within-behind site (variable_entries (scope_at definitions site) vs) fine.within) refl
      (nest-wider site.declared next.declared rest (outside-behind site (variable_entries (scope_at definitions site) vs)) is))
    where
      within-behind : (site : Site) (entries : List Entry) → site.behaviour ≡ at → (site_behind site entries).behaviour ≡ at
      within-behind site [] is = is
      within-behind site (e ∷ entries) is = within-behind (site_with site e) entries is
  nest-for site s inside (for_start.Assign a) condition step block rest e fine parts is =
      nest-one site s Start (Doing site s Loop ∷ rest) fine.within refl (nest-one site s Loop rest fine.within refl is)
