-- Calls of functions, as the rules say of them.
use Rattle.std.proofs.Common.{◌≡◌, ℕ, List, refl, sym, ap, ◌∙◌, map, Option, Some, None}
use Rattle.std.specs.Option.{option_map}
use Rattle.ttcn_syntax.specs.declared.tree.definition.DefinitionKind.{DefinitionKind}
use Rattle.ttcn_syntax.specs.declared.tree.definition.DefinitionKind.TheVariants as kind
use Rattle.ttcn_syntax.specs.declared.tree.statement.Statement.{Statement}
use Rattle.ttcn_syntax.specs.declared.tree.value.Call.{Call}
use Rattle.check_rules.specs.Calls.{altstep_meant, behaviour_meant, parameters_of}
use Rattle.check_scope.specs.Names.{kind_at, module_names}
use Rattle.step_data.specs.Frames.{activated}
use Rattle.semantics.specs.Branches.{argument_values, frame_with}
use Rattle.semantics.specs.Configurations as rules
use Rattle.semantics.specs.Items.{Item, items}
use Rattle.semantics.specs.Sites.{Site, beginning}
use Rattle.semantics.specs.Snapshots.{View, view_of_arguments}
use Rattle.semantics.specs.Statements as said
use Rattle.step_snapshot.specs.Slots.{NoneIsMissing}
use Rattle.config_parts.specs.Legend.{Legend, frame_by}
use Rattle.config_parts.specs.Views.{view_by}
use Rattle.config_parts.specs.declared.frame.Cells.{Cells}
use Rattle.graph_names.specs.Known.{names_of_kind}
use Rattle.value_types.specs.Outcomes.{Yields, outcome_and_then, outcome_map}
use Rattle.value_types.specs.Templates.{arguments}
use Rattle.value_types.specs.declared.value.Value.{Value}

module _ (stand : said.Stand) (site : Site) (call : Call) where
  abbrev pub meant : Option ℕ
  meant = behaviour_meant (module_names stand.test.definitions call.name)

  module _ (at : ℕ) (is : meant ≡ Some at) where
    called-at : said.frame_of_call stand site call ≡ said.frame_at stand site at call.arguments (said.body_of (kind_at stand.test.definitions at))
    called-at = ap (said.called_frame stand site call) is

    -- its frame
    yields-at : (body : Option (List Statement)) (list : List Item) (values : List Value) → said.body_of (kind_at stand.test.definitions at) ≡ body → Some list ≡ option_map (items stand.test.definitions (beginning at)) body
        → arguments (said.reads stand site) (parameters_of (kind_at stand.test.definitions at)) call.arguments ≡ Yields values
        → said.frame_of_call stand site call ≡ Yields (frame_with stand.test.definitions at values list)
    yields-at None list values same found yields = absurd (let bad = found in cc)
    yields-at (Some body) list values same found yields =
        called-at ∙ ap (said.frame_at stand site at call.arguments) same
        ∙ ap (outcome_map (λ vs. said.function_frame stand.test at vs body)) yields
        ∙ ap (λ is. Yields (frame_with stand.test.definitions at values is)) (let same-list : items stand.test.definitions (beginning at) body ≡ list = cc in same-list)

    pub frame-called : (legend : Legend) (remaining : ℕ) (cells : Cells) (values : List Value) → Some (legend.lists remaining) ≡ option_map (items stand.test.definitions (beginning at)) (said.body_of (kind_at stand.test.definitions at))
        → arguments (said.reads stand site) (parameters_of (kind_at stand.test.definitions at)) call.arguments ≡ Yields values
        → view_by legend cells ≡ view_of_arguments (argument_values stand.test.definitions at values)
        → said.frame_of_call stand site call ≡ Yields (frame_by legend (record { remaining = remaining; cells = cells }))
    frame-called legend remaining cells values found yields seen =
        let frame-of : View → rules.Frame = λ v. record { remaining = legend.lists remaining; values = v.values; timers = v.timers } in
        yields-at (said.body_of (kind_at stand.test.definitions at)) (legend.lists remaining) values refl found yields
        ∙ ap Yields (sym (ap frame-of seen))

-- ---- activations

pub activated-as : (stand : said.Stand) (site : Site) (call : Call) (own : rules.Data) (at : ℕ) (values : List Value) → altstep_meant (module_names stand.test.definitions call.name) ≡ Some at
    → arguments (said.reads stand site) (parameters_of (kind_at stand.test.definitions at)) call.arguments ≡ Yields values → said.activated stand site call own ≡ activated at own values
activated-as stand site call own at values is yields = ap (said.activated_at stand site call own) is ∙ ap (outcome_and_then (λ vs. activated at own vs)) yields

-- ---- parameters

-- the parameters of a function have slots, where the names of its definition do
pub parameters-known : (names : List (List ℕ)) (k : Option DefinitionKind) (begin : List Statement → List Item) (list : List Item) → Some list ≡ option_map begin (said.body_of k) → NoneIsMissing names (names_of_kind k)
    → NoneIsMissing names (map (λ parameter. parameter.name) (parameters_of k))
parameters-known names (Some (kind.Function f)) begin list is known = known
parameters-known names None begin list is known = absurd (let bad = is in cc)
parameters-known names (Some (kind.Record d)) begin list is known = absurd (let bad = is in cc)
parameters-known names (Some (kind.Enumerated d)) begin list is known = absurd (let bad = is in cc)
parameters-known names (Some (kind.Port d)) begin list is known = absurd (let bad = is in cc)
parameters-known names (Some (kind.Component d)) begin list is known = absurd (let bad = is in cc)
parameters-known names (Some (kind.Constants d)) begin list is known = absurd (let bad = is in cc)
parameters-known names (Some (kind.Template d)) begin list is known = absurd (let bad = is in cc)
parameters-known names (Some (kind.Altstep d)) begin list is known = absurd (let bad = is in cc)
parameters-known names (Some (kind.Testcase d)) begin list is known = absurd (let bad = is in cc)
