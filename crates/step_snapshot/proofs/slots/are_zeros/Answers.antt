use Rattle.std.proofs.Common.{◌&&◌, length, nat_eq, sym, ap, ◌∙◌, eq-eqb}
use Rattle.std.specs.List.{list_all}
use Rattle.step_snapshot.proofs.slots.are_zeros.Goals as goal

pub returns-then-bytes-count : goal.returns-then-bytes-count
returns-then-bytes-count c =
    c.are_zero.ensures
    ∙ sym (ap (λ b. b && list_all (λ x. nat_eq x 0) c.args.bytes.now) (eq-eqb (length c.args.bytes.now) c.args.count c.if-bytes-count.true))
