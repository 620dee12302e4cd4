-- What the calls that build a command make of the app that it stands for.
use Rattle.std.proofs.Common.{◌≡◌, ◌∙◌, ◌||◌, false, ap, ap₂}
use Rattle.clap.specs.Built.{AddsArg, AddsSubcommand}
use Rattle.clap.specs.Walk.{Rule, rule_of}
use Rattle.clap.specs.Simple.{App, app_of, app_of_fields, with_rule, with_subcommand}
use Rattle.clap.specs.declared.builder.arg.Arg.{Arg}
use Rattle.clap.specs.declared.builder.command.Command.{Command}
use Rattle.clap.specs.declared.builder.command.Command.TheOpen.{Command-F}
use Rattle.clap.specs.declared.builder.command.Command.TheViews.{out-Command}

-- the command stands for the app, and has no global argument
abbrev pub IsApp : App → Command → Type 0
IsApp a c = (app_of c ≡ a) × ((out-Command c).has_globals ≡ false)

-- other fields of the same app
pub fields-set : (a b : App) (c new : Command) (f : Command-F Command) → out-Command new ≡ f → IsApp a c → f.has_globals ≡ (out-Command c).has_globals
    → (app_of c ≡ a → app_of_fields f ≡ b) → IsApp b new
fields-set a b c new f is h same made = (ap app_of_fields is ∙ made h.0, ap (λ (x : Command-F Command). x.has_globals) is ∙ (same ∙ h.1))

pub arg-added : (a : App) (r : Rule) (old : Command) (x : Arg) (new : Command) → AddsArg old x new → IsApp a old → rule_of x ≡ r → x.global ≡ false
    → IsApp (with_rule a r) new
arg-added a r old x new h is rule local = (h.shape local ∙ ap₂ with_rule is.0 rule, h.globals ∙ ap₂ (λ p q. p || q) is.1 local)

pub subcommand-added : (a b : App) (old sub new : Command) → AddsSubcommand old sub new → IsApp a old → IsApp b sub → IsApp (with_subcommand a b.top) new
subcommand-added a b old sub new h is below =
    (h.shape below.1 ∙ ap₂ (λ (x y : App). with_subcommand x y.top) is.0 below.0, h.globals ∙ ap₂ (λ p q. p || q) is.1 below.1)
