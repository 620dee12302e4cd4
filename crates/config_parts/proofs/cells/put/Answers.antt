use Rattle.std.proofs.Common.{◌≡◌, nat_eq, sym, ap, ◌∙◌}
use Rattle.std.proofs.lemmas.Bool.{eq-eqb, ne_eqb}
use Rattle.config_parts.proofs.Changed.{overwritten}
use Rattle.config_parts.proofs.Places.{placed}
use Rattle.config_parts.proofs.Stored.{insert-at, push-at, set-at}
use Rattle.config_parts.specs.internal.Changes.{place}
use Rattle.config_parts.specs.internal.Stored as spec
use Rattle.config_parts.proofs.cells.put.Goals.{in-Some+then-index-slot, in-Some+else-index-slot+in_ok-insert-in-Some, in-None+in_ok-push-in-None}
use Rattle.config_parts.proofs.cells.put.Goals as goal

pub returns : goal.returns
returns g c =
    let is = spec.is_not_below c.args.slot in
    let items = c.into_vec-entries.result.items in
    let found = ap (place is) (sym c.deref.ensures.value) ∙ sym (placed is c.deref.result.now) ∙ sym c.place_for.ensures in
    let changed : c.match-place_for.entries.items ≡ spec.put c.args.slot c.args.stored items =
    elim c.match-place_for.branch [
      | in-Some+then-index-slot w ↦
          ap (λ v. v.items) w.entries-is
          ∙ overwritten items w.in-Some.at w.index_mut.result.now (λ e. (e.0, c.args.stored)) w.index_mut.ensures.value
          ∙ set-at c.args.slot c.args.stored items w.in-Some.at w.index.result.now (found ∙ w.in-Some.is)
          (ap (λ e. nat_eq e.0 c.args.slot) (sym w.index.ensures) ∙ eq-eqb w.index.result.now.0 c.args.slot w.if-index-slot.true)
      | in-Some+else-index-slot+in_ok-insert-in-Some w ↦
          ap (λ v. v.items) w.entries-is
          ∙ w.in_ok-insert-in-Some.ensures.items
          ∙ insert-at c.args.slot c.args.stored items w.in-Some.at w.index.result.now (found ∙ w.in-Some.is)
          (ap (λ e. nat_eq e.0 c.args.slot) (sym w.index.ensures) ∙ ne_eqb w.index.result.now.0 c.args.slot w.if-index-slot.false)
      | in-None+in_ok-push-in-None w ↦
          ap (λ v. v.items) w.entries-is
          ∙ w.in_ok-push-in-None.ensures.items
          ∙ push-at c.args.slot c.args.stored items (found ∙ w.in-None.is)
    ] in
    c.from_vec.ensures ∙ changed ∙ ap (spec.put c.args.slot c.args.stored) c.into_vec-entries.ensures
