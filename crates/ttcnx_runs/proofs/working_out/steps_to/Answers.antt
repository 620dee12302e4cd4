use Rattle.std.proofs.Common.{◌≡◌, Some, ap, length, option_map, refl, rules, subst, sym, ◌∙◌}
use Rattle.std.proofs.lemmas.Iterator.Adapters.{YieldsList-from_vec}
use Rattle.std.proofs.lemmas.Iterator.Consumers.{YieldsList-turn}
use Rattle.std.proofs.lemmas.List.Elements.{All-push}
use Rattle.std.specs.List.{All}
use Rattle.semantics.specs.Configurations.{Configuration}
use Rattle.semantics.specs.LiveParts.{live_part}
use Rattle.semantics.specs.Places.{branch_of}
use Rattle.ttcn_step.specs.Answers.{IsSuccessor}
use Rattle.ttcn_step.specs.Machines.{Machine, said}
use Rattle.ttcnx_runs.proofs.Recalled.{alike-pushed}
use Rattle.ttcnx_runs.proofs.working_out.steps_to.Goals as goal
use Rattle.ttcnx_runs.specs.internal.Makes.{LeadsTo}
use Rattle.ttcnx_runs.specs.internal.WorkedOut.{IsStep}
use Rattle.ttcnx_runs.specs.declared.step.Step.{Step}

pub loop-label-preserved : goal.loop-label-preserved
loop-label-preserved g c =
    let machine = g.K.Scheme.machine in
    let config = c.args.config.now in
    let s = c.in-Some.field-0 in
    let turn = YieldsList-turn (YieldsList-from_vec {s = c.into_iter-label-iterator.result} c.args.found.items (cc) (cc)) c.loop-label.yielded c.loop-label.label-iterator c.loop-label.yielded_by c.next.result c.next.new.self s c.in-Some.is c.next.ensures.steps in
    let leads : IsSuccessor machine config s = subst (IsSuccessor machine config) (sym turn.1) (c.requires.leads (length c.loop-label.yielded) s turn.0) in
    let given : c.map.result ≡ c.in_ok-place.place = search rules in
    let branch : c.map.result ≡ branch_of machine.test (said machine config) s.label =
    given ∙ c.in_ok-place.ensures ∙ ap (λ (m : Machine). branch_of m.test (said m config) s.label) c.requires.is in
    let after : LeadsTo machine config s.label c.in_ok-after.after = ap (option_map live_part) leads ∙ ap Some (sym c.in_ok-after.ensures) in
    let step : Step Configuration = record { label = s.label; branch = c.map.result; after = c.in_ok-after.after } in
    let is : IsStep machine config step = record { branch = branch; leads = after } in
    record {
      labels = alike-pushed (λ step. step.label) (λ s. s.label) c.loop-label.steps.items step c.push.new.self.items c.loop-label.yielded s c.in_ok-push.ensures.items c.loop-label.invariant.labels refl;
      each = subst (All (IsStep machine config)) (sym c.in_ok-push.ensures.items) (All-push (IsStep machine config) c.loop-label.steps.items step c.loop-label.invariant.each is);
    }
