use Rattle.std.proofs.Common.{refl, ap, codes, true}
use Rattle.std.proofs.lemmas.Result.{IfOk-weaker}
use Rattle.clap.specs.Words.{App, new_app}
use Rattle.clap.specs.Simple.{on_top}
use Rattle.ttcnx_command_line.specs.App.{Lists, bare_app, explain_app, file_app, lint_app, run_app, run_file_app}
use Rattle.ttcnx_command_line.specs.internal.Named.{HasWords}
use Rattle.ttcnx_command_line.proofs.Builds.{IsApp, fields-set, subcommand-added}
use Rattle.ttcnx_command_line.proofs.definition.command.Goals as goal

abbrev fresh : App
fresh = new_app (codes "ttcnx")

abbrev versioned : App
versioned = on_top (λ s. record s { has_version = true }) fresh

abbrev whole : App
whole = on_top (λ s. record s { no_binary_name = true }) versioned

pub returns : goal.returns
returns c =
    let start = fields-set fresh fresh c.new.result c.about.result _ c.about.ensures (c.new.ensures.app, c.new.ensures.local) refl (λ e. e) in
    let version = fields-set fresh versioned c.about.result c.version.result _ c.version.ensures start refl (ap (on_top (λ s. record s { has_version = true }))) in
    let named = fields-set versioned versioned c.version.result _ _ c.in_ok-bin_name.ensures.0 version refl (λ e. e) in
    let words = fields-set versioned whole _ c.no_binary_name.result _ c.no_binary_name.ensures named refl (ap (on_top (λ s. record s { no_binary_name = true }))) in
    let bare = fields-set whole bare_app c.no_binary_name.result c.subcommand_required.result _ c.subcommand_required.ensures words refl (ap (on_top (λ s. record s { subcommand_required = true }))) in
    let check = c.in_ok-file_command.ensures in
    let one = subcommand-added bare_app (file_app (codes "check")) _ _ _ c.in_ok-subcommand.ensures bare (check.app, check.local) in
    let run = c.in_ok-run_command.ensures.app in
    let run_is : IsApp (run_app run.0) _ = (run.2, c.in_ok-run_command.ensures.local) in
    let two = subcommand-added _ (run_app run.0) _ _ _ c.in_ok-subcommand-2.ensures one run_is in
    let three = subcommand-added _ (run_file_app (codes "replay")) _ _ _ c.in_ok-subcommand-3.ensures two (c.in_ok-run_file_command.ensures.app, c.in_ok-run_file_command.ensures.local) in
    let four = subcommand-added _ (run_file_app (codes "coarsen")) _ _ _ c.in_ok-subcommand-4.ensures three (c.in_ok-run_file_command-2.ensures.app, c.in_ok-run_file_command-2.ensures.local) in
    let five = subcommand-added _ (run_file_app (codes "double")) _ _ _ c.in_ok-subcommand-5.ensures four (c.in_ok-run_file_command-3.ensures.app, c.in_ok-run_file_command-3.ensures.local) in
    let explain = c.in_ok-explain_command.ensures.app in
    let explain_is : IsApp (explain_app explain.0) _ = (explain.2, c.in_ok-explain_command.ensures.local) in
    let six = subcommand-added _ (explain_app explain.0) _ _ _ c.in_ok-subcommand-6.ensures five explain_is in
    let lint = c.in_ok-lint_command.ensures.app in
    let lint_is : IsApp (lint_app lint.0) _ = (lint.2, c.in_ok-lint_command.ensures.local) in
    let seven = subcommand-added _ (lint_app lint.0) _ _ _ c.in_ok-subcommand-7.ensures six lint_is in
    let listing = c.in_ok-file_command-2.ensures in
    let lists : Lists = record { formats = explain.0; lint_formats = lint.0; verdicts = run.0 } in
    let words : HasWords lists = record { formats = explain.1; lint_formats = lint.1; verdicts = run.1 } in
    IfOk-weaker c.subcommand-8.result _ _ (λ m h. (lists, words, (subcommand-added _ (file_app (codes "list")) _ _ m h seven (listing.app, listing.local)).0)) c.subcommand-8.ensures
