use Rattle.std.proofs.Common.{◌≡◌, ◌≢◌, Ok, Err, IfOk, IfErr, rules, subst, ap, ◌∙◌}
use Rattle.std.proofs.lemmas.Result.{IfOk-weaker}
use Rattle.check_scope.specs.internal.Checking.{view}
use Rattle.report_script.proofs.Fits.{script-fits}
use Rattle.report_script.proofs.Texts.{said}
use Rattle.report_script.specs.Scripts.{script_said, test_with}
use Rattle.report_script.specs.declared.error.ScriptError.TheVariants as scripting
use Rattle.serde_json.specs.View.{view as data_of}
use Rattle.step_script.specs.Fitting.{FitsScript}
use Rattle.report_script.proofs.script.read_script.Goals as goal

pub returns : goal.returns
returns c =
    let definitions = c.args.program.now.definitions in
    let same = said definitions c.as_slice-definitions.result.now c.args.testcase c.position.result c.args.text.now (data_of c.in_ok-json.json) (view c.in_ok-scope.scope) c.if-text-gt-MOST_BYTES.false
    c.in_ok-json.ensures.read c.in_ok-scope.ensures (c.as_slice-definitions.ensures ∙ ap (λ m. m.definitions) c.module.ensures.same) c.position.ensures in
    let are_read = subst (λ answer. IfOk c.script_of.result (λ script. answer ≡ Ok script.ports)) same c.script_of.ensures.read in
    record {
      read = are_read;
      refused = subst (λ answer. IfErr c.script_of.result (λ error. error ≢ scripting.Memory → answer ≡ Err error)) same c.script_of.ensures.refused;
      too_large = search rules;
      fits = IfOk-weaker c.script_of.result (λ script. script_said definitions c.args.testcase c.args.text.now ≡ Ok script.ports) (λ script. FitsScript (test_with definitions c.args.testcase script.ports))
          (λ script is. script-fits definitions c.module.ensures.well_typed c.args.testcase c.args.text.now script.ports is) are_read;
    }
