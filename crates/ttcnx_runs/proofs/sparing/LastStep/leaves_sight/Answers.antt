use Rattle.std.proofs.Common.{◌≡◌, Some, ap, bytes_eq, length, map, sym, true, ◌∙◌}
use Rattle.std.proofs.lemmas.Bool.{ltb-true}
use Rattle.std.proofs.lemmas.Option.{slice_get-map}
use Rattle.std.specs.Option.{option_map}
use Rattle.std.specs.Prelude.{slice_get}
use Rattle.syntax_equality.specs.Equality.{name_one}
use Rattle.ttcnx_runs.proofs.Parting.{get-found}
use Rattle.ttcnx_runs.proofs.sparing.LastStep.leaves_sight.Goals as goal

pub returns-in-Some : goal.returns-in-Some
returns-in-Some g c = λ same.
    let known = c.in-Some.before.now in
    let all = c.as_slice-known.result.now in
    let at = c.args.at in
    let bytes : bytes_eq known.now.key.items c.args.one.now.key.items ≡ true =
    (λ i. bytes_eq (sym c.as_slice.ensures.value i) (sym c.as_slice-in-Some.ensures.value i)) ∙ sym c.eq.ensures ∙ same in
    let found : slice_get all at ≡ Some known =
    get-found all at known (ltb-true at (length all) (sym c.in-Some.ensures.lookup.0)) c.in-Some.ensures.lookup.1 in (
      c.if-at-self.false,
      ap (λ xs. slice_get (map (λ one. one.now.key.items) xs) at) (sym c.as_slice-known.ensures.value) ∙ slice_get-map (λ one. one.now.key.items) all at
          ∙ ap (option_map (λ one. one.now.key.items)) found ∙ ap Some (name_one known.now.key.items c.args.one.now.key.items bytes),
    )
