use Rattle.std.proofs.Common.{◌≡◌, drop, map}
use Rattle.check_scope.specs.declared.names.Meaning.TheVariants as meaning
use Rattle.semantics.specs.Sites as sites
use Rattle.ttcn_graph.specs.Drafts.{at_site}
use Rattle.ttcn_graph.proofs.names.declare_timers.Given as goal

abbrev pub invariant-loop-timer : goal.invariant-loop-timer
invariant-loop-timer l =
    at_site (sites.site_behind l.draft.site (map (λ timer. (timer.name, meaning.Timer)) (drop l.timer-index l.timers))) l.draft
    ≡ at_site (sites.site_behind l.fn.draft.site (map (λ timer. (timer.name, meaning.Timer)) l.timers)) l.fn.draft
