use Rattle.std.proofs.Common.{refl}
use Rattle.report_script.proofs.Texts.{json-none, json-read}
use Rattle.report_script.proofs.script.read_json.Goals as goal

pub returns-in-Ok-clause-read : goal.returns-in-Ok-clause-read
returns-in-Ok-clause-read c = json-read c.args.text.now _ c.in-Ok.ensures.ok.0 c.in-Ok.ensures.ok.1

pub returns-in_default : goal.returns-in_default
returns-in_default c = record {
  read = tt;
  refused = λ other. (refl, json-none c.args.text.now (λ whole. c.in-Err.ensures.err (λ memory. c.in_default.not-Memory (c.classify.ensures.memory.1 memory)) whole));
}
