use Rattle.std.proofs.Common.{ℕ, ◌+◌, ◌-◌, Bool, ◌&&◌, List, drop, length, nat_eq, sym, ap, ◌∙◌}
use Rattle.std.specs.Prelude.{bytes_eq}
use Rattle.std.specs.List.{list_all, starts_with}
use Rattle.step_snapshot.proofs.Beyond.{last-at, same-beyond, same-there}
use Rattle.step_snapshot.proofs.slots.is_name_of.Goals as goal

pub returns-then-slot-names : goal.returns-then-slot-names
returns-then-slot-names c =
    c.eq.ensures ∙ ap (λ x. bytes_eq x c.args.name.now) c.index-names-slot.is
    ∙ same-there c.args.names.now c.args.slot c.index-names-slot.result c.args.name.now c.if-slot-names.true

pub returns : goal.returns
returns c =
    let zeros = c.args.slot - length c.args.names.now + 1 in
    let test : List ℕ → List ℕ → Bool = λ last name. starts_with nat_eq name last && (nat_eq (length (drop (length last) name)) zeros && list_all (λ x. nat_eq x 0) (drop (length last) name)) in
    c.is_longer.ensures ∙ ap (test c.last_name.result.now) c.as_bytes.ensures
    ∙ ap (λ last. test last c.args.name.now) (c.last_name.ensures ∙ sym (last-at c.args.names.now))
    ∙ same-beyond c.args.names.now c.args.slot c.args.name.now c.if-slot-names.false
