use Rattle.std.proofs.Common.{◌≡◌, sym, ap, subst, ◌∙◌, arith, IfOk}
use Rattle.std.specs.Option.{option_map}
use Rattle.report_script.proofs.Members.{member-depth, object-depth, part-is}
use Rattle.report_script.specs.Values.{field_given, value_given}
use Rattle.serde_json.specs.View.{members_view, view}
use Rattle.report_script.proofs.value.+values.Goals as goal

pub read_field-read_value-requires : goal.read_field-read_value-requires
read_field-read_value-requires t c =
    let below = member-depth c.args.field.now.name (members_view c.args.members.now.entries) (view c.in-Some.json.now) (sym c.in-Some.ensures) in
    (omega (arith, below), tt)

pub read_field-returns-in-Some : goal.read_field-returns-in-Some
read_field-returns-in-Some t c =
    let definitions = c.args.scope.now.definitions.now in
    let given = part-is c.args.field.now.name (members_view c.args.members.now.entries) ∙ ap (option_map value_given) (sym c.in-Some.ensures) in
    let same = ap (value_given (view c.in-Some.json.now) definitions) c.target_of_field.ensures ∙ sym (ap (field_given definitions c.args.field.now) given) in
    subst (λ answer. IfOk c.read_value.result (λ value. value ≡ answer)) same c.read_value.ensures

pub read_field-returns-in-None : goal.read_field-returns-in-None
read_field-returns-in-None t c =
    let given = part-is c.args.field.now.name (members_view c.args.members.now.entries) ∙ ap (option_map value_given) (sym c.in-None.ensures) in
    c.omitted.ensures ∙ sym (ap (field_given c.args.scope.now.definitions.now c.args.field.now) given)

pub read_value-read_record-requires : goal.read_value-read_record-requires
read_value-read_record-requires t c =
    let deep = object-depth (view c.args.json.now) (members_view c.in-Some.members.now.entries) c.in-Some.ensures in
    (omega (arith, deep), tt)
