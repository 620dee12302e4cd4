-- What is told of steps, by slots as by names.
use Rattle.std.proofs.Common.{◌≡◌, ℕ, Bor, List, Option, Some, None, IfSome, option_map, refl, sym, ap, ◌∙◌}
use Rattle.std.specs.Option.{option_and_then}
use Rattle.semantics.specs.Configurations as rules
use Rattle.semantics.specs.Snapshots.{Test}
use Rattle.semantics.specs.Steps.{Label, Statement, next_message}
use Rattle.semantics.specs.Telling.{Sent, Way, maker, sent_going, sent_in, sent_of_component, way_to}
use Rattle.config_parts.proofs.Applied.{find-by}
use Rattle.config_parts.specs.Legend.{Legend, component_by, going_by}
use Rattle.config_parts.specs.Views.{AreAllWithin, Extent, IsWithin}
use Rattle.config_parts.specs.declared.component.Component.{Component}
use Rattle.config_parts.specs.declared.config.Going.{Going}
use Rattle.ttcn_step.proofs.Found.{Searched, found-within, searched}
use Rattle.value_types.specs.Frames.{entry}
use Rattle.value_types.specs.declared.path.Path.{Path}
use Rattle.value_types.specs.declared.value.Value.{Value}

-- ---- the component of a label

now-by : (legend : Legend) (o : Option (Bor Component)) → option_map (λ x. component_by legend x.now) o ≡ option_map (component_by legend) (option_map (λ x. x.now) o)
now-by legend None = refl
now-by legend (Some x) = refl

module _ (legend : Legend) (going : Going) (label : Label) where
  abbrev Maker : Label → Option rules.Component
  Maker = maker (going_by legend going)

  pub maker-found : (path : Path) (all : List Component) (found : Option (Bor Component)) → label ≡ Statement path → option_map (λ x. x.now) found ≡ Searched path.numbers all
      → all ≡ going.components → option_map (λ x. component_by legend x.now) found ≡ Maker label
  maker-found path all found is e same =
      now-by legend found ∙ ap (option_map (component_by legend)) (e ∙ ap (Searched path.numbers) same)
      ∙ sym (ap Maker is ∙ find-by legend path going.components)

-- what is known of all components holds of one that is found
pub maker-within : (size : Extent) (numbers : List ℕ) (all components : List Component) (found : Option (Bor Component)) → AreAllWithin size components
    → option_map (λ x. x.now) found ≡ Searched numbers all → all ≡ components → IfSome found (λ x. IsWithin size x.now.own)
maker-within size numbers all components None within e same = tt
maker-within size numbers all components (Some x) within e same = found-within size numbers components x.now within (searched numbers all components (Some x) (Some x) e same refl)

-- ---- deliveries

module _ (test : Test) (c : rules.Going) (name : List ℕ) where
  abbrev BroughtTo : rules.End → Option Sent
  BroughtTo e = option_map (λ v. record { from = None; value = v; way = way_to c e }) (next_message test c name)

  pub brings-unmapped : entry c.mappings name ≡ None → None ≡ sent_in test c name
  brings-unmapped none = sym (ap (option_and_then BroughtTo) none)

  pub brings-none : (e : rules.End) → entry c.mappings name ≡ Some e → next_message test c name ≡ None → None ≡ sent_in test c name
  brings-none e is none = sym (ap (option_and_then BroughtTo) is ∙ ap (λ (o : Option Value). option_map (λ v. record { from = None; value = v; way = way_to c e }) o) none)

  pub brings : (e : rules.End) (v : Value) (way : Way) → entry c.mappings name ≡ Some e → next_message test c name ≡ Some v → way ≡ way_to c e
      → Some (record { from = None; value = v; way = way }) ≡ sent_in test c name
  brings e v way is left goes =
      ap (λ (w : Way). Some (record { from = None; value = v; way = w })) goes
      ∙ sym (ap (option_and_then BroughtTo) is ∙ ap (λ (o : Option Value). option_map (λ v. record { from = None; value = v; way = way_to c e }) o) left)

-- ---- labels

-- where no component has the path, its statement sends nothing
pub missing-sends : (test : Test) (c : rules.Going) (label : Label) (path : Path) → label ≡ Statement path → None ≡ maker c label → None ≡ sent_going test c label
missing-sends test c label path is none = ap (option_and_then (sent_of_component test c)) (none ∙ ap (maker c) is) ∙ sym (ap (sent_going test c) is)
