-- Runs, label by label.
use Rattle.std.proofs.Common.{◌≡◌, ℕ, ◌+◌, ◌<◌, List, ◌∷◌, length, drop, get_or, Some, Result, Err, sym, ap, ◌∙◌}
use Rattle.std.proofs.lemmas.List.{drop_more}
use Rattle.semantics.specs.Configurations.{Configuration}
use Rattle.semantics.specs.Runs.{option_elim, replay_from}
use Rattle.semantics.specs.Snapshots.{Test}
use Rattle.semantics.specs.Steps.{Label, next}

module _ (test : Test) (run : List Label) where
  -- what is left of a run from a place on, where its labels before lead to a configuration
  abbrev pub Left : ℕ → Configuration → Result Configuration ℕ
  Left place c = replay_from test (drop place run) (place + 1) c

  pub next-left : (place : ℕ) (label : Label) (c : Configuration) → place < length run → label ≡ get_or run place label
      → Left place c ≡ option_elim (Err (place + 1)) (Left (place + 1)) (next test c label)
  next-left place label c less read =
      ap (λ xs. replay_from test xs (place + 1) c) (drop_more run place label less ∙ ap (λ x. x ∷ drop (place + 1) run) (sym read))

  -- one label more
  pub run-goes-on : (place : ℕ) (label : Label) (c d : Configuration) (whole : Result Configuration ℕ) → place < length run → label ≡ get_or run place label
      → next test c label ≡ Some d → Left place c ≡ whole → Left (place + 1) d ≡ whole
  run-goes-on place label c d whole less read leads holds =
      sym (next-left place label c less read ∙ ap (option_elim (Err (place + 1)) (Left (place + 1))) leads) ∙ holds

-- ---- what calls answer
