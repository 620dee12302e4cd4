use Rattle.std.proofs.Common.{sym, ◌∙◌}
use Rattle.ttcn_values.proofs.Following.{record-of-record}
use Rattle.value_types.proofs.Outcomes.{value-in-or-unmet}
use Rattle.ttcn_values.proofs.reader.record.state_of_field.Goals as goal

pub returns-in-Record : goal.returns-in-Record
returns-in-Record c = rw (c.in-Record.is, record-of-record, ← c.fields.ensures, ← c.as_slice.ensures) (c.state_in.ensures ∙ sym (value-in-or-unmet _))
