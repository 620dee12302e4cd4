-- What is read of a component is read by the rules.
use Rattle.std.proofs.Common.{◌≡◌, ℕ, Bool, true, false, [], cond, is_some, sym, ap, subst, ◌∙◌, ◌<◌}
use Rattle.std.proofs.lemmas.List.Elements.{All-nil}
use Rattle.semantics.specs.Sites.{Site, runs_on}
use Rattle.semantics.specs.Snapshots.{members_in, seen_members}
use Rattle.step_snapshot.specs.Seen.{own_by, seen_by}
use Rattle.step_snapshot.specs.Tests.{legend_by, test_by}
use Rattle.step_snapshot.specs.declared.snapshot.Snapshot.{Snapshot}
use Rattle.config_parts.specs.Views.{HasSlotsWithin, view_by}
use Rattle.config_parts.specs.declared.frame.Cells.{Cells}
use Rattle.config_parts.specs.internal.Stored.{no_cells}
use Rattle.value_types.specs.declared.frame.TimerState.{TimerState}
use Rattle.value_types.specs.declared.value.Value.{Value}

-- no names are within all
pub none-within : (size : ℕ) (cells : Cells) → cells ≡ no_cells → HasSlotsWithin size cells
none-within size cells none = let P : Cells → Type 0 = λ x. HasSlotsWithin size x in subst P (sym none) (record { values = All-nil (λ (e : ℕ × Value). e.0 < size); timers = All-nil (λ (e : ℕ × TimerState). e.0 < size) })

-- what a behaviour sees of the component
pub members-seen : (s : Snapshot) (site : Site) (behaviour : ℕ) (sees : Bool) → site.behaviour ≡ behaviour → sees ≡ is_some (runs_on (s.test.now).definitions behaviour) → sees ≡ true
    → view_by (legend_by s.test.now) (s.component.now).own.members ≡ seen_members (test_by s.test.now) site (members_in (seen_by s) (own_by s))
members-seen s site behaviour sees at said so =
    ap (λ b. cond b (view_by (legend_by s.test.now) (s.component.now).own.members) (record { values = []; timers = [] }))
    (sym so ∙ said ∙ ap (λ k. is_some (runs_on (s.test.now).definitions k)) (sym at))

pub nothing-seen : (s : Snapshot) (site : Site) (behaviour : ℕ) (sees : Bool) (nothing : Cells) → nothing ≡ no_cells → site.behaviour ≡ behaviour → sees ≡ is_some (runs_on (s.test.now).definitions behaviour) → sees ≡ false
    → view_by (legend_by s.test.now) nothing ≡ seen_members (test_by s.test.now) site (members_in (seen_by s) (own_by s))
nothing-seen s site behaviour sees nothing none at said not_so =
    ap (view_by (legend_by s.test.now)) none
    ∙ ap (λ b. cond b (view_by (legend_by s.test.now) (s.component.now).own.members) (record { values = []; timers = [] }))
    (sym not_so ∙ said ∙ ap (λ k. is_some (runs_on (s.test.now).definitions k)) (sym at))
