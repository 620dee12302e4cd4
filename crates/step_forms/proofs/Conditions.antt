-- Conditions and loops, as the rules say of them.
use Rattle.std.proofs.Common.{◌≡◌, refl, sym, append_assoc, ap, subst, ◌∙◌, ℕ, ◌+◌, List, [], ◌∷◌, ◌++◌, Option, Some, None, Result, slice_get}
use Rattle.ttcn_syntax.specs.declared.tree.expression.Expr.{Expr}
use Rattle.ttcn_syntax.specs.declared.tree.statement.Action.TheOpen.{Action-F}
use Rattle.ttcn_syntax.specs.declared.tree.statement.Assignment.{Assignment}
use Rattle.ttcn_syntax.specs.declared.tree.statement.Conditional.{Conditional, out-Conditional}
use Rattle.ttcn_syntax.specs.declared.tree.statement.ForStart.{ForStart}
use Rattle.ttcn_syntax.specs.declared.tree.statement.Statement.{Statement}
use Rattle.step_forms.proofs.Forms.{whole-asks}
use Rattle.step_forms.proofs.Standing.{ways-there}
use Rattle.step_forms.specs.Asks.{Asks}
use Rattle.step_forms.specs.internal.Places.{list_at}
use Rattle.step_forms.specs.internal.Stands.{legend_of, site_of, stand_by}
use Rattle.step_forms.specs.declared.stand.Stand.{Stand}
use Rattle.semantics.specs.Items.{Does, Doing, Item, Last, Loop, Whole, action_of, items, items_if_any}
use Rattle.semantics.specs.Statements as said
use Rattle.config_parts.specs.declared.act.Act.{Act}
use Rattle.graph_items.specs.Standing.{part_of}
use Rattle.ttcn_graph.specs.Ways.{items_otherwise, ways_from, ways_of, ways_of_conditional}
use Rattle.value_types.specs.declared.fault.Fault.{Fault}

module _ (s : Stand) (k : ℕ) (cs : List Conditional) (last : Option (List Statement)) (r : Result (Option Act) Fault)
    (ways : ways_of ((s.snapshot.now).test.now).definitions (list_at (s.snapshot.now).test.now (s.frame.now).remaining)
    ≡ ways_from ((s.snapshot.now).test.now).definitions (site_of s) s.statement.now (list_at (s.snapshot.now).test.now s.rest) k cs last) where
  there : (o : Option Conditional) → slice_get cs k ≡ o → ways_of ((s.snapshot.now).test.now).definitions (list_at (s.snapshot.now).test.now (s.frame.now).remaining)
      ≡ ways_of_conditional ((s.snapshot.now).test.now).definitions (site_of s) s.statement.now (list_at (s.snapshot.now).test.now s.rest) k cs last o
  there o get = ways ∙ ap (ways_of_conditional ((s.snapshot.now).test.now).definitions (site_of s) s.statement.now (list_at (s.snapshot.now).test.now s.rest) k cs last) get

  pub if-tests : (c : Conditional) (held failed : List Item) → slice_get cs k ≡ Some c
      → slice_get (ways_of ((s.snapshot.now).test.now).definitions (list_at (s.snapshot.now).test.now (s.frame.now).remaining)) 0 ≡ Some held
      → slice_get (ways_of ((s.snapshot.now).test.now).definitions (list_at (s.snapshot.now).test.now (s.frame.now).remaining)) 1 ≡ Some failed
      → Asks (legend_of s) (said.act_test (stand_by s) (site_of s) (out-Conditional c).condition held failed) r
      → Asks (legend_of s) (said.act_if (stand_by s) (site_of s) s.statement.now k cs last) r
  if-tests c held failed get first second asks =
      let definitions = ((s.snapshot.now).test.now).definitions in
      let rest = list_at (s.snapshot.now).test.now s.rest in
      let stand = stand_by s in
      let block = items definitions (site_of s) (out-Conditional c).block ++ rest in
      let other = items_otherwise definitions (site_of s) s.statement.now rest (k + 1) cs last in
      let one : Some block ≡ Some held = sym (ap (λ (ws : List (List Item)). slice_get ws 0) (there (Some c) get)) ∙ first in
      let two : Some other ≡ Some failed = sym (ap (λ (ws : List (List Item)). slice_get ws 1) (there (Some c) get)) ∙ second in
      let block-is : block ≡ held = cc in
      let other-is : other ≡ failed = cc in
      subst (λ o. Asks (legend_of s) (said.act_conditional stand (site_of s) s.statement.now k cs last o) r) (sym get)
      (subst (λ h. Asks (legend_of s) (said.act_test stand (site_of s) (out-Conditional c).condition h other) r) (sym block-is)
      (subst (λ f. Asks (legend_of s) (said.act_test stand (site_of s) (out-Conditional c).condition held f) r) (sym other-is) asks))

  pub if-ends : (otherwise : List Item) → slice_get cs k ≡ None
      → slice_get (ways_of ((s.snapshot.now).test.now).definitions (list_at (s.snapshot.now).test.now (s.frame.now).remaining)) 0 ≡ Some otherwise
      → Asks (legend_of s) (said.go_on (stand_by s) otherwise) r
      → Asks (legend_of s) (said.act_if (stand_by s) (site_of s) s.statement.now k cs last) r
  if-ends otherwise get first asks =
      let definitions = ((s.snapshot.now).test.now).definitions in
      let rest = list_at (s.snapshot.now).test.now s.rest in
      let other = items_if_any definitions (site_of s) last ++ rest in
      let one : Some other ≡ Some otherwise = sym (ap (λ (ws : List (List Item)). slice_get ws 0) (there None get)) ∙ first in
      let other-is : other ≡ otherwise = cc in
      subst (λ o. Asks (legend_of s) (said.act_conditional (stand_by s) (site_of s) s.statement.now k cs last o) r) (sym get)
      (subst (λ h. Asks (legend_of s) (said.go_on (stand_by s) h) r) (sym other-is) asks)

-- what the `while` asks for that a statement becomes, by what the statement does
pub while-asks : (s : Stand) (does : Does) (r : Result (Option Act) Fault) → action_of s.statement.now ≡ does → Asks (legend_of s) (said.act_while (stand_by s) (site_of s) s.statement.now does) r
    → Asks (legend_of s) (said.act_while (stand_by s) (site_of s) s.statement.now (action_of s.statement.now)) r
while-asks s does r is asks = subst (λ d. Asks (legend_of s) (said.act_while (stand_by s) (site_of s) s.statement.now d) r) (sym is) asks

module _ (s : Stand) (block slice : List Statement) (condition : Expr) (r : Result (Option Act) Fault) (same : slice ≡ block)
    (asks : (again : List Item) → ways_of ((s.snapshot.now).test.now).definitions (list_at (s.snapshot.now).test.now (s.frame.now).remaining)
    ≡ (items ((s.snapshot.now).test.now).definitions (site_of s) slice ++ again ++ list_at (s.snapshot.now).test.now s.rest) ∷ []
    → Asks (legend_of s) (said.act_loop (stand_by s) (site_of s) condition slice again) r) where
  looped : (again behind : List Item) → behind ≡ again ++ list_at (s.snapshot.now).test.now s.rest
      → ways_of ((s.snapshot.now).test.now).definitions (list_at (s.snapshot.now).test.now (s.frame.now).remaining) ≡ (items ((s.snapshot.now).test.now).definitions (site_of s) block ++ behind) ∷ []
      → Asks (legend_of s) (said.act_loop (stand_by s) (site_of s) condition block again) r
  looped again behind is ways =
      let definitions = ((s.snapshot.now).test.now).definitions in
      let rest = list_at (s.snapshot.now).test.now s.rest in
      let first : List Statement → List Item = λ b. items definitions (site_of s) b in
      subst (λ b. Asks (legend_of s) (said.act_loop (stand_by s) (site_of s) condition b again) r) same
      (asks again (ways ∙ ap (λ (l : List Item). l ∷ []) (ap (λ (l : List Item). first block ++ l) is ∙ sym (append_assoc (first block) again rest) ∙ ap (λ b. (first b ++ again) ++ rest) (sym same))))

  pub loop-asks : part_of s.part ≡ Whole → action_of s.statement.now ≡ Action-F.While condition block
      → Asks (legend_of s) (said.act_whole (stand_by s) (site_of s) s.statement.now (action_of s.statement.now)) r
  loop-asks part does =
      let again = Doing (site_of s) s.statement.now Whole in
      whole-asks (legend_of s) (stand_by s) (site_of s) s.statement.now (Action-F.While condition block) r does
      (looped (again ∷ []) (again ∷ list_at (s.snapshot.now).test.now s.rest) refl (ways-there s Whole (Action-F.While condition block) part does))

  pub do-asks : part_of s.part ≡ Loop → action_of s.statement.now ≡ Action-F.DoWhile block condition
      → Asks (legend_of s) (said.act_while (stand_by s) (site_of s) s.statement.now (action_of s.statement.now)) r
  do-asks part does =
      let loop = Doing (site_of s) s.statement.now Loop in
      while-asks s (Action-F.DoWhile block condition) r does
      (looped (loop ∷ []) (loop ∷ list_at (s.snapshot.now).test.now s.rest) refl (ways-there s Loop (Action-F.DoWhile block condition) part does))

  pub for-asks : (start : ForStart) (step : Assignment) → part_of s.part ≡ Loop → action_of s.statement.now ≡ Action-F.For start condition step block
      → Asks (legend_of s) (said.act_while (stand_by s) (site_of s) s.statement.now (action_of s.statement.now)) r
  for-asks start step part does =
      let loop = Doing (site_of s) s.statement.now Loop in
      let last = Doing (site_of s) s.statement.now Last in
      while-asks s (Action-F.For start condition step block) r does
      (looped (last ∷ loop ∷ []) (last ∷ loop ∷ list_at (s.snapshot.now).test.now s.rest) refl (ways-there s Loop (Action-F.For start condition step block) part does))
