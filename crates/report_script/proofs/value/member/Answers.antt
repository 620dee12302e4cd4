use Rattle.std.proofs.Common.{option_map, sym, ap, subst, ◌∙◌}
use Rattle.std.specs.Str.{IsUtf8}
use Rattle.report_script.proofs.Members.{no-text-no-member}
use Rattle.serde_json.proofs.Views.{view_of_ref, view-lookup}
use Rattle.serde_json.specs.Find.{get_member}
use Rattle.serde_json.specs.View.{members_view, view}
use Rattle.report_script.proofs.value.member.Goals as goal

pub returns-in-Ok : goal.returns-in-Ok
returns-in-Ok c =
    view_of_ref c.get.result ∙ ap (option_map view) c.get.ensures.value ∙ view-lookup c.in-Ok.name.now c.args.members.now.entries
    ∙ ap (λ name. get_member name (members_view c.args.members.now.entries)) (c.in-Ok.ensures.cases.0 ∙ c.as_bytes.ensures)

pub returns-in-Err : goal.returns-in-Err
returns-in-Err c = sym (no-text-no-member c.args.name.now c.args.members.now.entries (λ whole. c.in-Err.ensures.cases.0 (subst IsUtf8 (sym c.as_bytes.ensures) whole)))
