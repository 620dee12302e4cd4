-- Fine runs, label by label.
use Rattle.std.proofs.Common.{◌≡◌, ℕ, ◌+◌, ◌<◌, ◌≤◌, List, [], ◌∷◌, ◌++◌, map, length, drop, get_or, Some, None, Result, Ok, Err, sym, ap, ◌∙◌}
use Rattle.std.proofs.lemmas.List.{drop_all, drop_more, map-append}
use Rattle.laws_fine.specs.Fine.{FineLabel}
use Rattle.laws_fine.specs.Gathering.{Told}
use Rattle.laws_fine.specs.Holding.{Holding, hold_fate, hold_from, hold_next, hold_run, hold_start}
use Rattle.semantics.specs.Runs.{option_elim}
use Rattle.semantics.specs.Snapshots.{Test}
use Rattle.step_coarse.specs.Fates.{fate_by, told_by}
use Rattle.step_coarse.specs.declared.fate.Told.{Told as Kept}

module _ (test : Test) (labels : List FineLabel) where
  -- what is left of fine labels from a place on, where those before lead here and this is told of them
  abbrev pub Left : ℕ → Holding → List Told → Result (Holding × List Told) ℕ
  Left place h tolds = hold_from test (drop place labels) (place + 1) h tolds

  next-left : (place : ℕ) (label : FineLabel) (h : Holding) (tolds : List Told) → place < length labels → label ≡ get_or labels place label
      → Left place h tolds ≡ option_elim (Err (place + 1)) (λ next. Left (place + 1) next (tolds ++ (label, hold_fate test h.held label) ∷ [])) (hold_next test h label)
  next-left place label h tolds less read =
      ap (λ xs. hold_from test xs (place + 1) h tolds) (drop_more labels place label less ∙ ap (λ x. x ∷ drop (place + 1) labels) (sym read))

  -- one label more
  pub goes-on : (place : ℕ) (label : FineLabel) (h next : Holding) (told new : List Kept) (t : Kept) (whole : Result (Holding × List Told) ℕ) → place < length labels → label ≡ get_or labels place label
      → hold_next test h label ≡ Some next → new ≡ told ++ t ∷ [] → t.label.now ≡ label → fate_by t.fate ≡ hold_fate test h.held label → Left place h (map told_by told) ≡ whole
      → Left (place + 1) next (map told_by new) ≡ whole
  goes-on place label h next told new t whole less read leads grows is fated holds =
      ap (λ ts. Left (place + 1) next (map told_by ts)) grows
      ∙ ap (Left (place + 1) next) (map-append told_by told (t ∷ []))
      ∙ ap (λ l. Left (place + 1) next (map told_by told ++ (l, fate_by t.fate) ∷ [])) is
      ∙ ap (λ k. Left (place + 1) next (map told_by told ++ (label, k) ∷ [])) fated
      ∙ sym (next-left place label h (map told_by told) less read
      ∙ ap (option_elim (Err (place + 1)) (λ after. Left (place + 1) after (map told_by told ++ (label, hold_fate test h.held label) ∷ []))) leads)
      ∙ holds

  -- the label can't follow
  pub stops : (place : ℕ) (label : FineLabel) (h : Holding) (tolds : List Told) (whole : Result (Holding × List Told) ℕ) → place < length labels → label ≡ get_or labels place label → hold_next test h label ≡ None
      → Left place h tolds ≡ whole → whole ≡ Err (place + 1)
  stops place label h tolds whole less read none holds =
      sym holds ∙ next-left place label h tolds less read
      ∙ ap (option_elim (Err (place + 1)) (λ next. Left (place + 1) next (tolds ++ (label, hold_fate test h.held label) ∷ []))) none

  -- no label is left
  pub ends : (place : ℕ) (h : Holding) (tolds : List Told) (whole : Result (Holding × List Told) ℕ) → length labels ≤ place → Left place h tolds ≡ whole → whole ≡ Ok (h, tolds)
  ends place h tolds whole done holds = sym holds ∙ ap (λ xs. hold_from test xs (place + 1) h tolds) (drop_all place labels done)

  -- at the start
  pub begins : (h : Holding) (tolds : List Told) → h ≡ hold_start test → tolds ≡ [] → Left 0 h tolds ≡ hold_run test labels
  begins h tolds same none = ap (Left 0 h) none ∙ ap (λ g. Left 0 g []) same
