use Rattle.std.proofs.Common.{◌≡◌, ℕ, List, Option, Some, ap, subst, sym, ◌∙◌}
use Rattle.std.specs.Prelude.{IfOk}
use Rattle.config_packed.specs.Pieces.{changed_going}
use Rattle.config_packed.specs.Spelling.{spell_list, spell_queue}
use Rattle.config_parts.specs.declared.config.Config.TheVariants as config
use Rattle.ttcnx_runs.proofs.Parting.{part-at}
use Rattle.ttcnx_runs.proofs.recalling.changed_alone.Goals as goal
use Rattle.ttcnx_runs.specs.Remembered.{without_front}

pub changed-requires : goal.changed-requires
changed-requires c =
    let part = part-at c.requires.0 c.args.parts.now c.args.at c.index.result.now c.requires.1 c.requires.2 c.index.ensures c.requires.3 in
    ((c.requires.0, c.requires.4, c.requires.2), (c.args.own.now.0, (c.args.own.now.1, c.as_bytes.ensures)), (c.requires.1.queues, ap (λ (p : List ℕ × List ℕ). p.1) part))

pub changed-requires-in-Some : goal.changed-requires-in-Some
changed-requires-in-Some c =
    let part = part-at c.requires.0 c.args.parts.now c.args.at c.index.result.now c.requires.1 c.requires.2 c.index.ensures c.requires.3 in (
      (c.requires.0, c.requires.4, c.requires.2),
      (c.args.own.now.0, (c.args.own.now.1, c.as_bytes-in-Some.ensures)),
      (
        without_front c.args.removed c.requires.1.queues,
        subst (λ (r : Option ℕ). c.as_slice.result.now ≡ spell_list spell_queue (without_front r c.requires.1.queues)) (sym c.in-Some.is)
            (c.as_slice.ensures.value ∙ c.in_ok-queues-in-Some.ensures c.requires.1.queues (ap (λ (p : List ℕ × List ℕ). p.1) part)),
      ),
    )

pub returns-in-None : goal.returns-in-None
returns-in-None c going component cut found whole =
    let part = part-at going c.args.parts.now c.args.at c.index.result.now component cut c.index.ensures found in
    subst (λ (r : Option ℕ). IfOk c.changed.result (λ packed. packed ≡ config.Going (changed_going going c.args.at c.args.own.now.0 c.args.own.now.1 c.args.at (without_front r component.queues)))) (sym c.in-None.is)
    (c.changed.ensures going c.args.own.now.0 c.args.own.now.1 component.queues whole cut c.as_bytes.ensures (ap (λ (p : List ℕ × List ℕ). p.1) part))

pub returns-in_ok-queues-in-Some : goal.returns-in_ok-queues-in-Some
returns-in_ok-queues-in-Some c going component cut found whole =
    let part = part-at going c.args.parts.now c.args.at c.index.result.now component cut c.index.ensures found in
    subst (λ (r : Option ℕ). IfOk c.changed-in-Some.result (λ packed. packed ≡ config.Going (changed_going going c.args.at c.args.own.now.0 c.args.own.now.1 c.args.at (without_front r component.queues)))) (sym c.in-Some.is)
    (c.changed-in-Some.ensures going c.args.own.now.0 c.args.own.now.1 (without_front (Some c.in-Some.port) component.queues) whole cut c.as_bytes-in-Some.ensures
    (c.as_slice.ensures.value ∙ c.in_ok-queues-in-Some.ensures component.queues (ap (λ (p : List ℕ × List ℕ). p.1) part)))
