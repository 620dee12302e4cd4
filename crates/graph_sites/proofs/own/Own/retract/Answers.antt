use Rattle.std.proofs.Common.{[], ◌∷◌, bytes_eq, sym, ap, subst, ◌∙◌}
use Rattle.std.specs.HashMap.{get_by}
use Rattle.graph_sites.specs.internal.KeptNames.{AreKept, entries_of}
use Rattle.graph_sites.specs.internal.OwnNames.{own_names, without_first}
use Rattle.graph_sites.proofs.Owned.{entries_of-push, kept-pop, latest-retracted, not-absent}
use Rattle.graph_sites.proofs.own.Own.retract.Goals as goal

pub invariant_of-self : goal.invariant_of-self
invariant_of-self c =
    let k = c.in-Some.last in
    let kept = c.pop.new.self.items in
    let all = subst (AreKept []) c.in-Some.ensures.items c.self.invariant.1 in
    let parts = kept-pop [] kept k all in
    let was = c.self.invariant.0 ∙ ap (λ items. own_names (entries_of [] items)) c.in-Some.ensures.items ∙ ap own_names (entries_of-push [] kept k)
    ∙ ap (λ n. own_names ((n, k.meaning) ∷ entries_of [] kept)) (sym c.as_bytes.ensures) in (
      latest-retracted c.as_bytes.result.now k.meaning k.before (entries_of [] kept) (λ q. get_by (λ key. bytes_eq q key.now) c.insert.new.self)
          (λ q. get_by (λ key. bytes_eq q key.now) c.self.inside.latest) (λ q. c.in-Ok.ensures.updates.0 (record c.as_bytes.result { now = q })) was
          (parts.1 ∙ ap (own_names (entries_of [] kept)) (sym c.as_bytes.ensures)),
      parts.0,
    )

pub unreachable-requires : goal.unreachable-requires
unreachable-requires c =
    let k = c.in-Some.last in
    let kept = c.pop.new.self.items in
    let was = c.self.invariant.0 ∙ ap (λ items. own_names (entries_of [] items)) c.in-Some.ensures.items ∙ ap own_names (entries_of-push [] kept k)
    ∙ ap (λ n. own_names ((n, k.meaning) ∷ entries_of [] kept)) (sym c.as_bytes.ensures) in
    not-absent c.as_bytes.result.now k.meaning (entries_of [] kept) (λ q. get_by (λ key. bytes_eq q key.now) c.self.inside.latest) was c.in-Err.ensures.absent

pub returns-in-Ok : goal.returns-in-Ok
returns-in-Ok c =
    let k = c.in-Some.last in
    let kept = c.pop.new.self.items in
    sym (ap without_first (sym c.self.view_is ∙ ap (entries_of []) c.in-Some.ensures.items ∙ entries_of-push [] kept k))
