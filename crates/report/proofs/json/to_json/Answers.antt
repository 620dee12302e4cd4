use Rattle.std.proofs.Common.{rules, string_bytes}
use Rattle.report.proofs.Plain.{json_text-written}
use Rattle.serde_json.specs.View.{view}
use Rattle.report.proofs.json.to_json.Goals as goal

pub returns : goal.returns
returns c = json_text-written c.args.report.now (view c.in_ok-report_value.field-0) (string_bytes c.in_ok-text.text) _ c.in_ok-report_value.ensures c.in_ok-text.ensures.text (search rules)
