use Rattle.std.proofs.Common.{arith, ◌≡◌, [], ◌∷◌, bytes_eq, sym, ap, subst, ◌∙◌}
use Rattle.std.specs.HashMap.{get_by}
use Rattle.graph_sites.specs.declared.own.Kept.{Kept}
use Rattle.graph_sites.specs.internal.KeptNames.{AreKept, entries_of, latest_in}
use Rattle.graph_sites.specs.internal.OwnNames.{own_names}
use Rattle.graph_sites.proofs.Owned.{entries_of-push, kept-push, latest-declared, popped, unchanged}
use Rattle.graph_sites.proofs.own.Own.declare.Goals as goal

pub invariant_of-self-in-Ok : goal.invariant_of-self-in-Ok
invariant_of-self-in-Ok c =
    let kept = c.self.inside.kept.items in
    let k : Kept = record { name = c.args.name; meaning = c.args.meaning; before = c.get-before.result } in
    let latest = latest-declared c.as_bytes-2.result.now c.args.meaning (entries_of [] kept) (λ q. get_by (λ key. bytes_eq q key.now) c.insert.new.self)
    (λ q. get_by (λ key. bytes_eq q key.now) c.self.inside.latest) (λ q. c.in-Ok.ensures.updates.0 (record c.as_bytes-2.result { now = q })) c.self.invariant.0 in
    let before = c.get-before.ensures ∙ ap (own_names c.args.self.now) c.as_bytes.ensures ∙ ap (λ es. own_names es c.args.name.now) (sym c.self.view_is) in
    subst (λ items. (latest_in c.insert.new.self ≡ own_names (entries_of [] items)) × AreKept [] items) (sym c.in_ok-push.ensures.items)
    (latest ∙ ap (λ n. own_names ((n, c.args.meaning) ∷ entries_of [] kept)) c.as_bytes-2.ensures ∙ ap own_names (sym (entries_of-push [] kept k)), kept-push [] kept k c.self.invariant.1 before)

pub invariant_of-self-in-Err : goal.invariant_of-self-in-Err
invariant_of-self-in-Err c =
    let k : Kept = record { name = c.args.name; meaning = c.args.meaning; before = c.get-before.result } in
    let count = c.in_ok-push.ensures.len in
    let some = c.pop.ensures.variant.1 (omega arith) in
    let items = popped c.self.inside.kept.items c.pop.new.self.items k c.pop.result some (sym c.in_ok-push.ensures.items ∙ c.pop.ensures.items) in
    let latest = c.self.invariant.0 in
    subst (λ items. (latest_in c.insert.new.self ≡ own_names (entries_of [] items)) × AreKept [] items) (sym items)
    (unchanged c.self.inside.latest c.insert.new.self c.in-Err.ensures.err ∙ latest, c.self.invariant.1)

pub returns-in-Ok : goal.returns-in-Ok
returns-in-Ok c =
    let k : Kept = record { name = c.args.name; meaning = c.args.meaning; before = c.get-before.result } in
    record {
      ok = ap (entries_of []) c.in_ok-push.ensures.items ∙ entries_of-push [] c.self.inside.kept.items k ∙ ap (λ es. (c.args.name.now, c.args.meaning) ∷ es) c.self.view_is;
      refused = tt;
    }

pub returns-in-Err-clause-refused : goal.returns-in-Err-clause-refused
returns-in-Err-clause-refused c =
    let k : Kept = record { name = c.args.name; meaning = c.args.meaning; before = c.get-before.result } in
    let count = c.in_ok-push.ensures.len in
    let some = c.pop.ensures.variant.1 (omega arith) in
    let items = popped c.self.inside.kept.items c.pop.new.self.items k c.pop.result some (sym c.in_ok-push.ensures.items ∙ c.pop.ensures.items) in
    ap (entries_of []) items ∙ c.self.view_is
