-- What is chosen at a statement where a component stands, and what is asked for then.
use Rattle.std.proofs.Common.{◌≡◌, refl, sym, ap, subst, ◌∙◌, ℕ, List, [], ◌∷◌, ◌++◌, map, Option, Some, None, Result, Ok, Err, true, is_some, slice_get}
use Rattle.std.specs.Option.{option_map}
use Rattle.ttcn_syntax.specs.declared.tree.statement.Action.TheOpen.{Action-F}
use Rattle.ttcn_syntax.specs.declared.tree.statement.Statement.{Statement, out-Statement}
use Rattle.ttcn_syntax.specs.declared.tree.value.Call.{Call}
use Rattle.check_rules.specs.Calls.{altstep_meant}
use Rattle.check_scope.specs.Names.{module_names}
use Rattle.step_forms.proofs.Standing.{ways-there}
use Rattle.step_forms.specs.Asks.{Asks}
use Rattle.step_forms.specs.internal.Places.{list_at}
use Rattle.step_forms.specs.internal.Stands.{legend_of, site_of, stand_by}
use Rattle.step_forms.specs.declared.stand.Stand.{Stand}
use Rattle.step_choice.specs.Choices.{Finds, IsWayOf, choice_of}
use Rattle.semantics.specs.Branches.{Judge, write_altsteps, written_alt, written_call}
use Rattle.semantics.specs.Events.{Choice}
use Rattle.semantics.specs.Items.{Item, Mark, Whole, action_of}
use Rattle.semantics.specs.Statements as said
use Rattle.semantics.specs.Storing.{last_values}
use Rattle.step_snapshot.specs.Seen.{own_by, seen_by}
use Rattle.step_snapshot.specs.Tests.{test_by}
use Rattle.config_parts.specs.Legend.{frame_by}
use Rattle.config_parts.specs.declared.act.Act.{Act}
use Rattle.config_parts.specs.declared.frame.Frame.{Frame}
use Rattle.graph_items.specs.Standing.{part_of}
use Rattle.ttcn_graph.specs.Ways.{ways_of}
use Rattle.value_types.specs.declared.fault.Fault.{Fault}
use Rattle.value_types.specs.declared.fault.Fault.TheVariants.{Dynamic, Memory}

module _ (s : Stand) where
  -- the choice of the rules is that of the last frame
  pub choice-there : (st : Statement) → said.choice_at (stand_by s) (site_of s) st ≡ choice_of (test_by (s.snapshot.now).test.now) (seen_by s.snapshot.now) (own_by s.snapshot.now) (site_of s) st
  choice-there st =
      let stand = stand_by s in
      let judge : List Frame → Judge = λ calls. record { site = site_of s; view = record { values = last_values (map (frame_by (legend_of s)) calls); timers = stand.snapshot.timers } } in
      ap (λ (calls : List Frame). option_map (said.choose_from stand) (written_alt stand.test stand.snapshot stand.own (judge calls) (out-Statement st).place (action_of st))) (sym s.last)

  -- what is chosen is asked for
  pub chosen-asks : (other : said.Act) (choice : Choice) (r : Result (Option Act) Fault)
      → choice_of (test_by (s.snapshot.now).test.now) (seen_by s.snapshot.now) (own_by s.snapshot.now) (site_of s) s.statement.now ≡ Some choice
      → Asks (legend_of s) (said.act_choice (stand_by s) (site_of s) s.statement.now choice) r
      → Asks (legend_of s) (said.act_alt_or other (stand_by s) (site_of s) s.statement.now (said.choice_at (stand_by s) (site_of s) s.statement.now)) r
  chosen-asks other choice r is asks =
      subst (λ c. Asks (legend_of s) (said.act_alt_or other (stand_by s) (site_of s) s.statement.now c) r) (sym (choice-there s.statement.now ∙ is)) asks

  -- a call of no altstep is no `alt`
  pub no-choice : (call : Call) → action_of s.statement.now ≡ Action-F.«Action::Call» call → altstep_meant (module_names ((s.snapshot.now).test.now).definitions call.name) ≡ None
      → said.choice_at (stand_by s) (site_of s) s.statement.now ≡ None
  no-choice call does none =
      let stand = stand_by s in
      ap (λ d. option_map (said.choose_from stand) (written_alt stand.test stand.snapshot stand.own (said.judge_at stand (site_of s)) (out-Statement s.statement.now).place d)) does
      ∙ ap (λ at. option_map (said.choose_from stand) (option_map (λ k. written_call (write_altsteps stand.test stand.snapshot stand.own) stand.test stand.snapshot stand.own (said.judge_at stand (site_of s)) call [] (Some k)) at)) none

-- ---- the way of what is taken

module _ (s : Stand) (whole : part_of s.part ≡ Whole) (way : ℕ) (block : List Item) (is : IsWayOf ((s.snapshot.now).test.now).definitions (site_of s) s.statement.now way block) where
  way-there : slice_get (ways_of ((s.snapshot.now).test.now).definitions (list_at (s.snapshot.now).test.now (s.frame.now).remaining)) way ≡ Some (block ++ Mark (site_of s) s.statement.now ∷ list_at (s.snapshot.now).test.now s.rest)
  way-there =
      ap (λ (ways : List (List Item)). slice_get ways way) (ways-there s Whole (action_of s.statement.now) whole refl)
      ∙ is (list_at (s.snapshot.now).test.now s.rest)

  pub way-is : is_some (slice_get (ways_of ((s.snapshot.now).test.now).definitions (list_at (s.snapshot.now).test.now (s.frame.now).remaining)) way) ≡ true
  way-is = ap is_some way-there

  pub way-leads : (items : List Item) → slice_get (ways_of ((s.snapshot.now).test.now).definitions (list_at (s.snapshot.now).test.now (s.frame.now).remaining)) way ≡ Some items
      → items ≡ block ++ Mark (site_of s) s.statement.now ∷ list_at (s.snapshot.now).test.now s.rest
  way-leads items there =
      let both : Some items ≡ Some (block ++ Mark (site_of s) s.statement.now ∷ list_at (s.snapshot.now).test.now s.rest) = sym there ∙ way-there in cc

-- ---- what is found of a choice

-- no branch can be taken, or the choice is refused
pub none-asks : (s : Stand) (W : ℕ → List Item → Type 0) (choice : Choice) → Finds s.snapshot.now W choice (Ok None) → Asks (legend_of s) (said.act_choice (stand_by s) (site_of s) s.statement.now choice) (Ok None)
none-asks s W choice is = ap (said.act_choice (stand_by s) (site_of s) s.statement.now) is

pub refused-asks : (s : Stand) (W : ℕ → List Item → Type 0) (choice : Choice) (fault : Fault) → Finds s.snapshot.now W choice (Err fault) → Asks (legend_of s) (said.act_choice (stand_by s) (site_of s) s.statement.now choice) (Err fault)
refused-asks s W choice Dynamic (why, is) = subst (λ c. Asks (legend_of s) (said.act_choice (stand_by s) (site_of s) s.statement.now c) (Err Dynamic)) (sym is) tt
refused-asks s W choice Memory is = tt
