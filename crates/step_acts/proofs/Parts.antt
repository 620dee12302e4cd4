-- Parts of statements, by what code finds of them.
use Rattle.std.proofs.Common.{◌≡◌, sym, subst, ℕ, Option, Some, None, Result, Err}
use Rattle.check_scope.specs.declared.types.DataType.{DataType}
use Rattle.step_forms.specs.Asks.{Asks}
use Rattle.step_forms.specs.internal.Stands.{legend_of, site_of, stand_by}
use Rattle.step_forms.specs.declared.stand.Stand.{Stand}
use Rattle.semantics.specs.Items.{Does, action_of}
use Rattle.semantics.specs.Statements as said
use Rattle.config_parts.specs.declared.act.Act.{Act}
use Rattle.ttcn_syntax.specs.declared.tree.statement.Constant.{Constant}
use Rattle.ttcn_syntax.specs.declared.tree.statement.Variable.{Variable}
use Rattle.value_types.specs.declared.fault.Fault.{Fault}
use Rattle.value_types.specs.declared.fault.Fault.TheVariants.{Dynamic}

module _ (s : Stand) (r : Result (Option Act) Fault) where
  pub variable-asks : (of found : Option DataType) (o : Option Variable) (v : Variable) → o ≡ Some v → found ≡ of → Asks (legend_of s) (said.act_initial (stand_by s) (site_of s) found v.name v.value) r
      → Asks (legend_of s) (said.act_variable (stand_by s) (site_of s) of o) r
  variable-asks of found o v is same asks =
      subst (λ (p : Option Variable). Asks (legend_of s) (said.act_variable (stand_by s) (site_of s) of p) r) (sym is)
      (subst (λ t. Asks (legend_of s) (said.act_initial (stand_by s) (site_of s) t v.name v.value) r) same asks)

  pub constant-asks : (of found : Option DataType) (o : Option Constant) (k : Constant) → o ≡ Some k → found ≡ of → Asks (legend_of s) (said.act_constant (stand_by s) (site_of s) found (Some k)) r
      → Asks (legend_of s) (said.act_constant (stand_by s) (site_of s) of o) r
  constant-asks of found o k is same asks =
      subst (λ (p : Option Constant). Asks (legend_of s) (said.act_constant (stand_by s) (site_of s) of p) r) (sym is)
      (subst (λ t. Asks (legend_of s) (said.act_constant (stand_by s) (site_of s) t (Some k)) r) same asks)

  pub from-asks : (k : ℕ) (does : Does) → action_of s.statement.now ≡ does → Asks (legend_of s) (said.act_from (stand_by s) (site_of s) s.statement.now k does) r
      → Asks (legend_of s) (said.act_from (stand_by s) (site_of s) s.statement.now k (action_of s.statement.now)) r
  from-asks k does is asks = subst (λ d. Asks (legend_of s) (said.act_from (stand_by s) (site_of s) s.statement.now k d) r) (sym is) asks

  pub step-asks : (does : Does) → action_of s.statement.now ≡ does → Asks (legend_of s) (said.act_for_step (stand_by s) (site_of s) does) r
      → Asks (legend_of s) (said.act_for_step (stand_by s) (site_of s) (action_of s.statement.now)) r
  step-asks does is asks = subst (λ d. Asks (legend_of s) (said.act_for_step (stand_by s) (site_of s) d) r) (sym is) asks

pub no-variable : (s : Stand) (of : Option DataType) (o : Option Variable) → o ≡ None → Asks (legend_of s) (said.act_variable (stand_by s) (site_of s) of o) (Err Dynamic)
no-variable s of o is = subst (λ (p : Option Variable). Asks (legend_of s) (said.act_variable (stand_by s) (site_of s) of p) (Err Dynamic)) (sym is) tt

pub no-constant : (s : Stand) (of : Option DataType) (o : Option Constant) → o ≡ None → Asks (legend_of s) (said.act_constant (stand_by s) (site_of s) of o) (Err Dynamic)
no-constant s of o is = subst (λ (p : Option Constant). Asks (legend_of s) (said.act_constant (stand_by s) (site_of s) of p) (Err Dynamic)) (sym is) tt
