-- Laws of the system of live parts.
use Rattle.std.specs.Prelude.{◌≡◌, ◌<◌, Option, Some, None, IfSome, AllPairs}
use Rattle.std.proofs.Common.{refl, arith}
use Rattle.std.specs.declared.cmp.Ordering.TheVariants.{Less}
use Rattle.ttcn_syntax.specs.declared.tree.statement.Verdict.{Verdict}
use Rattle.ttcn_syntax.specs.declared.tree.statement.Verdict.TheVariants as verdict
use Rattle.ttcnx_runs.specs.Runs.{FitsRuns}
use Rattle.laws_order.specs.Order.{StandsInOrder}
use Rattle.laws_order.proofs.Runs.{live_ordered, next_ordered, start_ordered}
use Rattle.semantics.proofs.LabelOrder.{labels_ascend}
use Rattle.semantics.proofs.LiveTheorem.{live_twice}
use Rattle.semantics.proofs.Pairs.{pairs-nil}
use Rattle.semantics.specs.Canonical.{canonical_graph}
use Rattle.semantics.specs.Configurations.{Configuration, Ended, Goes, badness}
use Rattle.semantics.specs.Labels.{label_cmp, labels}
use Rattle.semantics.specs.LiveParts.{live_part}
use Rattle.semantics.specs.Runs.{mark_of, option_elim, start}
use Rattle.semantics.specs.Snapshots.{Test}
use Rattle.semantics.specs.Steps.{Label, next}
use Rattle.ttcn_step.specs.FrameLimit.{AllKeepFrameLimit}
use Rattle.ttcn_step.proofs.FramesKept.{limit_at_start, limit_behind}
use Rattle.ttcn_step.proofs.LiveForms.{limit-in-live-parts}

-- ---- live parts fit runs, too

live-fits : (c : Configuration) → StandsInOrder c → AllKeepFrameLimit c → FitsRuns (live_part c)
live-fits c ordered frames = record { ordered = live_ordered c ordered; frames = limit-in-live-parts c frames; live = live_twice c }

-- ---- where runs start and lead

pub first-fits : (test : Test) → FitsRuns (canonical_graph test).first
first-fits test = live-fits (start test) (start_ordered test) (limit_at_start test)

behind-fits : (test : Test) (c : Configuration) (label : Label) (found : Option Configuration) → next test c label ≡ found → FitsRuns c → FitsRuns (live_part (option_elim c (λ d. d) found))
behind-fits test c label None is fits = live-fits c fits.ordered fits.frames
behind-fits test c label (Some d) is fits = live-fits d (next_ordered test c d label fits.ordered is) (limit_behind test c d label fits.frames is)

pub after-fits : (test : Test) (c : Configuration) (label : Label) → FitsRuns c → FitsRuns ((canonical_graph test).after c label)
after-fits test c label fits = behind-fits test c label (next test c label) refl fits

-- ---- labels and marks

pub ascending : (test : Test) (c : Configuration) → FitsRuns c → AllPairs (λ k l. label_cmp k l ≡ Less) (labels test c)
ascending test (Ended v) fits = pairs-nil (λ k l. label_cmp k l ≡ Less)
ascending test (Goes c) fits = labels_ascend test c (fits.ordered).ordered

below-8 : (v : Verdict) → badness v < 8
below-8 verdict.None = omega arith
below-8 verdict.Pass = omega arith
below-8 verdict.Inconc = omega arith
below-8 verdict.Fail = omega arith
below-8 verdict.Error = omega arith

pub marks-below : (c : Configuration) → IfSome (mark_of c) (λ mark. mark < 8)
marks-below (Ended v) = below-8 v
marks-below (Goes c) = tt
