use Rattle.std.proofs.Common.{length, sym, ap, ◌∙◌}
use Rattle.std.proofs.lemmas.List.{length-map}
use Rattle.check_survey.specs.Things.{tally}
use Rattle.ttcn_types.proofs.WrittenOut.{length-written}
use Rattle.check_rules.specs.Parts.{constants_and_templates}
use Rattle.ttcn_types.proofs.parts.written.constants_and_templates.Goals as goal

pub returns-clause-places : goal.returns-clause-places
returns-clause-places c =
    let definitions = c.args.scope.now.definitions.now in
    c.in_ok-numbers.ensures.count ∙ sym (ap length c.in_ok-things.ensures ∙ length-map (constants_and_templates definitions) tally ∙ length-written definitions)
