-- What surveys find among things whose parts are counted as far as a count goes is what is found among the things.
use Rattle.std.proofs.Common.{ℕ, ◌<◌, List, map, length, Option, sym, subst, inl, inr}
use Rattle.std.proofs.lemmas.List.{length-map}
use Rattle.std.proofs.lemmas.List.Elements.{All-map}
use Rattle.std.specs.List.{All}
use Rattle.check_scope.specs.declared.rule.Rule.{Rule}
use Rattle.check_survey.proofs.Tallies.{AreAlike, alike-back, circle-alike, heavier-alike, longer-alike, tally-alike}
use Rattle.check_survey.specs.Graphs.{AreComplete}
use Rattle.check_survey.specs.Things.{largest, tally}
use Rattle.check_survey.specs.declared.thing.Thing.{Thing}
use Rattle.ttcn_types.proofs.Complete.{Below}
use Rattle.ttcn_types.proofs.LeastWhere.{where-same}
use Rattle.check_rules.specs.Limits.{longest_chain}
use Rattle.ttcn_types.specs.internal.Surveys.{BreaksAmong, IsLeastWhere}
use Rattle.ttcn_types.specs.internal.Surveys.BreaksAmong.{in_circle, too_large}

-- what is referred to stays among them
pub tally_complete : (things : List Thing) → AreComplete things → AreComplete (map tally things)
tally_complete things complete =
    subst (λ n. All (Below n) (map tally things)) (sym (length-map things tally)) (All-map (Below (length things)) tally things complete)

module _ (heaviest : ℕ) (circle : Rule) (small : heaviest < largest) where
  breaks-alike : (these those : List Thing) → AreAlike these those → (r : Rule) → BreaksAmong these heaviest circle r → BreaksAmong those heaviest circle r
  breaks-alike these those alike _ (in_circle has) = in_circle (has.0, circle-alike these those alike has.0 has.1)
  breaks-alike these those alike _ (too_large (inl (i, longer))) = too_large (inl (i, longer-alike these those alike longest_chain i longer))
  breaks-alike these those alike _ (too_large (inr (i, heavier))) = too_large (inr (i, heavier-alike these those alike heaviest i small heavier))

  -- the least rule that they break is the same
  pub least_tally : (things : List Thing) (found : Option Rule) → IsLeastWhere (BreaksAmong (map tally things) heaviest circle) found
      → IsLeastWhere (BreaksAmong things heaviest circle) found
  least_tally things found =
      where-same (BreaksAmong (map tally things) heaviest circle) (BreaksAmong things heaviest circle) found
      (breaks-alike (map tally things) things (tally-alike things))
      (breaks-alike things (map tally things) (alike-back (map tally things) things (tally-alike things)))
