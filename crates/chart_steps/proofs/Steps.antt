-- Steps that are told, one more each time.
use Rattle.std.proofs.Common.{◌≡◌, ℕ, suc, arith, ◌+◌, ◌-◌, ◌<◌, Bor, List, [], ◌∷◌, ◌++◌, length, drop, get_or, slice_get, Option, Some, None, Result, Ok, Err, IfErr, option_map, bytes_eq, refl, sym, ap, subst, ◌∙◌}
use Rattle.std.specs.List.{find}
use Rattle.std.specs.Result.{IsErrAnd}
use Rattle.std.proofs.lemmas.Option.{same_Some}
use Rattle.chart_steps.specs.Stories.{AreTold, IsTold, Refuses, last_of, verdict_at}
use Rattle.chart_steps.specs.internal.Telling.{TellsStep}
use Rattle.chart_steps.specs.declared.story.Told.{Told}
use Rattle.config_parts.proofs.Applied.{find-by}
use Rattle.config_parts.specs.Legend.{Legend, config_by, component_by}
use Rattle.config_parts.specs.declared.component.Component.{Component}
use Rattle.config_parts.specs.declared.config.Config.{Config}
use Rattle.config_parts.specs.declared.config.Config.TheVariants as config
use Rattle.config_parts.specs.declared.config.Going.{Going}
use Rattle.semantics.specs.Configurations as rules
use Rattle.semantics.specs.Runs.{option_elim, replay, replay_from}
use Rattle.semantics.specs.Steps.{Label}
use Rattle.ttcn_step.proofs.Replaying.{next-left}
use Rattle.ttcn_step.specs.Machines.{Machine, said}
use Rattle.ttcn_step.specs.declared.error.ReplayError.{ReplayError}
use Rattle.ttcn_step.specs.declared.error.ReplayError.TheVariants as replaying
use Rattle.value_types.specs.declared.path.Path.{Path}

-- ---- the last step

-- the last step leads behind all
pub last-more : (config : Config) (steps : List Told) (told : Told) → last_of config (steps ++ told ∷ []) ≡ told.behind
last-more config [] told = refl
last-more config (first ∷ steps) told = last-more first.behind steps told

-- it is that which stands last
pub last-behind : (config : Config) (steps : List Told) (told : Told) → slice_get steps (length steps - 1) ≡ Some told → told.behind ≡ last_of config steps
last-behind config [] told e = absurd (let no = e in cc)
last-behind config (first ∷ []) told e = ap (λ (t : Told). t.behind) (sym (same_Some first told e))
last-behind config (first ∷ second ∷ steps) told e =
    let less : length (first ∷ second ∷ steps) - 1 ≡ suc (length (second ∷ steps) - 1) = omega arith in
    last-behind first.behind (second ∷ steps) told (sym (ap (slice_get (first ∷ second ∷ steps)) less) ∙ e)

-- ---- one step more

pub told-more : (machine : Machine) (config : Config) (labels : List Label) (steps : List Told) (label : Label) (told : Told) → AreTold machine config labels steps
    → IsTold machine (last_of config steps) label told → AreTold machine config (labels ++ label ∷ []) (steps ++ told ∷ [])
told-more machine config [] [] label told are is = (is, tt)
told-more machine config [] (first ∷ steps) label told are is = absurd are
told-more machine config (one ∷ labels) [] label told are is = absurd are
told-more machine config (one ∷ labels) (first ∷ steps) label told are is = (are.0, told-more machine first.behind labels steps label told are.1 is)

-- ---- refusals

-- where a label is not enabled, the run is refused at it
pub refused-at : (machine : Machine) (run : List Label) (place : ℕ) (config : Config) (label : Label) (e : ReplayError) → place < length run → label ≡ get_or run place label
    → TellsStep machine config label (place + 1) (Err e) → replay_from machine.test (drop place run) (place + 1) (said machine config) ≡ replay machine.test run → Refuses machine run e
refused-at machine run place config label (replaying.NotEnabled k) less read tells leads =
    sym leads ∙ next-left machine.test run place label (said machine config) less read
    ∙ ap (option_elim (Err (place + 1)) (replay_from machine.test (drop (place + 1) run) (place + 1 + 1))) tells.0 ∙ ap Err (sym tells.1)
refused-at machine run place config label replaying.Memory less read tells leads = tt

-- an error that is handed on
pub handed-on : {A : Type 0} (r : Result A ReplayError) (e : ReplayError) (P : ReplayError → Type 0) → IsErrAnd r (λ x. x ≡ e) → P e → IfErr r P
handed-on (Ok a) e P is holds = tt
handed-on (Err x) e P is holds = subst P (sym is) holds

-- ---- verdicts

verdict-now : (legend : Legend) (o : Option (Bor Component)) → option_map (λ x. x.now.verdict) o ≡ option_map (λ (x : rules.Component). x.verdict) (option_map (component_by legend) (option_map (λ x. x.now) o))
verdict-now legend None = refl
verdict-now legend (Some x) = refl

-- the verdict of a component that is found
pub verdict-of : (legend : Legend) (c : Config) (going : Going) (path : Path) (all : List Component) (found : Option (Bor Component)) → c ≡ config.Going going
    → option_map (λ x. x.now) found ≡ find (λ component. bytes_eq component.itself.path.numbers path.numbers) all → all ≡ going.components
    → option_map (λ x. x.now.verdict) found ≡ verdict_at (config_by legend c) path
verdict-of legend c going path all found is e same =
    let of : List Component → Option Component = λ xs. find (λ component. bytes_eq component.itself.path.numbers path.numbers) xs in
    verdict-now legend found
    ∙ ap (λ (o : Option Component). option_map (λ (x : rules.Component). x.verdict) (option_map (component_by legend) o)) (e ∙ ap of same)
    ∙ sym (ap (λ d. verdict_at (config_by legend d) path) is ∙ ap (option_map (λ (x : rules.Component). x.verdict)) (find-by legend path going.components))
