use Rattle.std.proofs.Common.{length, ap, subst, sym, ◌∙◌}
use Rattle.step_forms.proofs.Stood.{cells-within, view-is}
use Rattle.step_forms.proofs.stand.Stand.reads.Goals as goal
use Rattle.step_forms.specs.internal.Stands.{site_of}
use Rattle.semantics.specs.Snapshots.{View, reading_in}
use Rattle.config_parts.specs.Views.{HasSlotsWithin, view_by}
use Rattle.config_parts.specs.declared.frame.Cells.{Cells}
use Rattle.step_snapshot.specs.Seen.{own_by, seen_by}
use Rattle.step_snapshot.specs.Tests.{legend_by, test_by}

pub frame-requires : goal.frame-requires
frame-requires c =
    let s = c.args.self.now in
    subst (λ (cells : Cells). HasSlotsWithin (length s.snapshot.now.test.now.names) cells) (sym c.get.ensures) (cells-within s)

pub returns : goal.returns
returns c =
    let s = c.args.self.now in
    let seen = s.snapshot.now in
    c.frame.ensures (site_of s) s.site
    ∙ ap (λ (cells : Cells). reading_in (test_by seen.test.now) (seen_by seen) (own_by seen) (site_of s) (view_by (legend_by seen.test.now) cells)) c.get.ensures
    ∙ ap (λ (v : View). reading_in (test_by seen.test.now) (seen_by seen) (own_by seen) (site_of s) v) (view-is s)
