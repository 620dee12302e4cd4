use Rattle.std.proofs.Common.{ℕ, List, length, refl, sym, ap, subst, ◌∙◌}
use Rattle.step_create.proofs.Declared.{none-within}
use Rattle.step_create.proofs.members.Maker.reads.Goals as goal
use Rattle.semantics.specs.Snapshots.{View, facts_of}
use Rattle.step_snapshot.specs.Tests.{legend_by, test_by}
use Rattle.config_parts.proofs.Naming.{are-names}
use Rattle.config_parts.specs.Views.{AreNames, HasSlotsWithin, view_by}
use Rattle.config_parts.specs.declared.frame.Cells.{Cells}
use Rattle.value_types.specs.Chains.{within_chains}
use Rattle.value_types.specs.Frames.{longest_chain}

pub returns : goal.returns
returns c snapshot runs =
    let t = c.args.self.now.test.now in
    let legend = legend_by t in
    let named : AreNames legend c.as_slice.result.now = let P : List (List ℕ) → Type 0 = λ ns. AreNames legend ns in subst P (sym c.as_slice.ensures) (are-names t.graphs.lists t.names) in
    let size : (cells : Cells) → HasSlotsWithin (length t.names) cells → HasSlotsWithin (length c.as_slice.result.now) cells = λ cells h. let P : List (List ℕ) → Type 0 = λ ns. HasSlotsWithin (length ns) cells in subst P (sym c.as_slice.ensures) h in
    c.frame_of.ensures legend (test_by t) snapshot named (size c.args.cells.now c.requires) (size t.nothing (none-within (length t.names) t.nothing t.none)) refl t.main runs
    ∙ ap (λ (v : View). within_chains longest_chain (facts_of (test_by t) c.args.self.now.itself.now snapshot (view_by legend c.args.cells.now) v)) (ap (view_by legend) t.none)
