-- What statements do, by the form that code finds.
use Rattle.std.proofs.Common.{◌≡◌, ap, sym, ◌∙◌, ℕ, List, Option, Result, subst}
use Rattle.ttcn_syntax.specs.declared.tree.expression.ComponentRef.{ComponentRef}
use Rattle.ttcn_syntax.specs.declared.tree.statement.Action.{out-Action, out-roll-Action}
use Rattle.ttcn_syntax.specs.declared.tree.statement.Action.TheOpen.{Action-F}
use Rattle.ttcn_syntax.specs.declared.tree.statement.Action.TheVariants as form
use Rattle.ttcn_syntax.specs.declared.tree.statement.Mapping.{Mapping}
use Rattle.ttcn_syntax.specs.declared.tree.statement.PortRef.{PortRef}
use Rattle.ttcn_syntax.specs.declared.tree.statement.Send.{Send}
use Rattle.ttcn_syntax.specs.declared.tree.statement.Statement.{Statement}
use Rattle.ttcn_syntax.specs.declared.tree.value.Call.{Call}
use Rattle.ttcn_syntax.specs.declared.tree.value.Value.{Value as WrittenValue}
use Rattle.step_forms.specs.Asks.{Asks}
use Rattle.semantics.specs.Items.{action_of}
use Rattle.semantics.specs.Items as rules
use Rattle.semantics.specs.Sites.{Site}
use Rattle.semantics.specs.Statements as said
use Rattle.config_parts.specs.Legend.{Legend}
use Rattle.config_parts.specs.declared.act.Act.{Act}
use Rattle.value_types.specs.declared.fault.Fault.{Fault}
use Rattle.ttcn_graph.specs.internal.Drawing.{Does}

pub does-Connect : (s : Statement) (one other : PortRef) → Does s (form.Connect one other) → action_of s ≡ Action-F.Connect one other
does-Connect s one other is = ap out-Action (is ∙ sym (form.rolls-Connect one other)) ∙ out-roll-Action (Action-F.Connect one other)

pub does-Map : (s : Statement) (m : Mapping) → Does s (form.Map m) → action_of s ≡ Action-F.Map m
does-Map s m is = ap out-Action (is ∙ sym (form.rolls-Map m)) ∙ out-roll-Action (Action-F.Map m)

pub does-Send : (s : Statement) (send : Send) → Does s (form.Send send) → action_of s ≡ Action-F.Send send
does-Send s send is = ap out-Action (is ∙ sym (form.rolls-Send send)) ∙ out-roll-Action (Action-F.Send send)

pub does-StartTimer : (s : Statement) (name : List ℕ) → Does s (form.StartTimer name) → action_of s ≡ Action-F.StartTimer name
does-StartTimer s name is = ap out-Action (is ∙ sym (form.rolls-StartTimer name)) ∙ out-roll-Action (Action-F.StartTimer name)

pub does-StopOf : (s : Statement) (component : ComponentRef) → Does s (form.StopOf component) → action_of s ≡ Action-F.StopOf component
does-StopOf s component is = ap out-Action (is ∙ sym (form.rolls-StopOf component)) ∙ out-roll-Action (Action-F.StopOf component)

pub does-StartComponent : (s : Statement) (component : ComponentRef) (call : Call) → Does s (form.StartComponent component call) → action_of s ≡ Action-F.StartComponent component call
does-StartComponent s component call is = ap out-Action (is ∙ sym (form.rolls-StartComponent component call)) ∙ out-roll-Action (Action-F.StartComponent component call)

-- what the whole of a statement asks for, by its form
pub whole-asks : (legend : Legend) (stand : said.Stand) (site : Site) (s : Statement) (does : rules.Does) (r : Result (Option Act) Fault) → action_of s ≡ does → Asks legend (said.act_whole stand site s does) r
    → Asks legend (said.act_whole stand site s (action_of s)) r
whole-asks legend stand site s does r is asks = subst (λ d. Asks legend (said.act_whole stand site s d) r) (sym is) asks
