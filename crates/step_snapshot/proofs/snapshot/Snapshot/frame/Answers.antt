use Rattle.std.proofs.Common.{Bor, List, ◌≡◌, length, refl, sym, ap, subst, ◌∙◌, ℕ}
use Rattle.semantics.specs.Snapshots.{facts_of, members_in, seen_members}
use Rattle.step_snapshot.specs.Seen.{own_by, seen_by}
use Rattle.step_snapshot.specs.Tests.{legend_by, test_by}
use Rattle.step_snapshot.proofs.Framed.{members-seen, none-within, nothing-seen}
use Rattle.step_snapshot.proofs.snapshot.Snapshot.frame.Goals as goal
use Rattle.step_snapshot.proofs.snapshot.Snapshot.frame.Goals.{then-sees_members, else-sees_members}
use Rattle.config_parts.specs.Views.{AreNames, HasSlotsWithin, view_by}
use Rattle.config_parts.specs.declared.frame.Cells.{Cells}
use Rattle.config_parts.specs.declared.frame.Data.{Data}
use Rattle.value_types.specs.Chains.{within_chains}
use Rattle.value_types.specs.Frames.{longest_chain}

pub returns : goal.returns
returns c site at =
    let s = c.args.self.now in
    let t = s.test.now in
    let legend = legend_by t in
    let inner : HasSlotsWithin (length t.names) c.args.inner.now = c.requires in
    let named : AreNames legend c.as_slice.result.now = let P : List (List ℕ) → Type 0 = λ ns. AreNames legend ns in subst P (sym c.as_slice.ensures) (c.names_make_legends.ensures.names t.graphs.lists t.names) in
    let size : (cells : Cells) → HasSlotsWithin (length t.names) cells → HasSlotsWithin (length c.as_slice.result.now) cells = λ cells h. let P : List (List ℕ) → Type 0 = λ ns. HasSlotsWithin (length ns) cells in subst P (sym c.as_slice.ensures) h in
    let Q : Cells → Type 0 = λ cells. HasSlotsWithin (length t.names) cells × (view_by legend cells ≡ seen_members (test_by t) site (members_in (seen_by s) (own_by s))) in
    let outer : Q c.if-sees_members.outer.now =
    elim c.if-sees_members.branch [
      | then-sees_members w ↦ subst Q (sym (ap (λ (b : Bor Cells). b.now) w.outer-is)) (let R : Data → Type 0 = λ own. Q own.members in subst R (sym w.deref.ensures) (s.within.members, members-seen s site c.args.behaviour c.sees_members.result at c.sees_members.ensures w.if-sees_members.true))
      | else-sees_members w ↦ subst Q (sym (ap (λ (b : Bor Cells). b.now) w.outer-is)) (none-within (length t.names) t.nothing t.none, nothing-seen s site c.args.behaviour c.sees_members.result t.nothing t.none at c.sees_members.ensures w.if-sees_members.false)
    ] in
    c.frame_of.ensures legend (test_by t) (seen_by s) named (size c.args.inner.now inner) (size c.if-sees_members.outer.now outer.0) refl t.main s.runs
    ∙ ap (λ v. within_chains longest_chain (facts_of (test_by t) (seen_by s).itself (seen_by s) (view_by legend c.args.inner.now) v)) outer.1
