use Rattle.std.proofs.Common.{List, [], ap, length, refl, slice_get, subst, sym, ◌∙◌}
use Rattle.std.proofs.lemmas.Option.{slice_get_read}
use Rattle.step_forms.proofs.Asking.{asked}
use Rattle.step_forms.proofs.Ending.{leave-above, more-below, some-below}
use Rattle.step_forms.proofs.Standing.{first-known}
use Rattle.step_forms.proofs.end.act_leave.Goals as goal
use Rattle.step_forms.specs.internal.Places.{behind_first}
use Rattle.step_forms.specs.internal.Stands.{legend_of, stand_by}
use Rattle.step_data.specs.Frames.{left}
use Rattle.semantics.specs.Items.{Item}
use Rattle.semantics.specs.Statements as said
use Rattle.step_snapshot.specs.Seen.{own_by}
use Rattle.step_snapshot.specs.Slots.{NoneIsMissing}
use Rattle.config_parts.specs.declared.frame.Data.{Data}
use Rattle.config_parts.specs.declared.frame.Frame.{Frame}
use Rattle.graph_names.specs.Known.{names_of}

pub give_back-requires-clause-known : goal.give_back-requires-clause-known
give_back-requires-clause-known c =
    let t = (c.args.stand.now).snapshot.now.test.now in
    first-known t.names (c.in-Some-waiting_at.target.now).reference.name []
    (subst (λ (l : List Item). NoneIsMissing t.names (names_of l)) c.in-Some-waiting_at.ensures.found (t.items (c.in-Some.below.now).remaining))

pub returns-in-None-clause-asks : goal.returns-in-None-clause-asks
returns-in-None-clause-asks c =
    let s = c.args.stand.now in
    let own = ((s.snapshot.now).component.now).own in
    let stand = stand_by s in
    let below = some-below own.calls (behind_first own.calls) s.frame.now c.in-Some.below.now s.last (sym (slice_get_read c.as_slice.result.now (length c.as_slice.result.now) 1 c.in-Some.below.now refl c.in-Some.ensures.lookup.3.0 c.in-Some.ensures.lookup.1) ∙ ap (λ (calls : List Frame). slice_get calls 1) (c.as_slice.ensures ∙ ap (λ (held : Data). held.calls) c.deref.ensures)) in
    asked (legend_of s) (said.leave stand stand.below c.args.given) (said.Requests said.Continues (left (own_by s.snapshot.now))) c.go_on_behind.result
    (leave-above (legend_of s) own s.frame.now (behind_first own.calls) s.last stand refl c.in-Some.below.now (more-below (behind_first own.calls)) below c.args.given c.in-None.ensures.none)
    c.go_on_behind.ensures.asks
