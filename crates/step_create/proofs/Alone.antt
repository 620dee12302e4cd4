-- The MTC runs alone where a test case starts.
use Rattle.std.proofs.Common.{◌≡◌, ℕ, Bool, true, false, ◌||◌, List, [], ◌∷◌, Some, None, cond, nat_eq, ◌&&◌, refl, sym, ap, ◌∙◌}
use Rattle.std.specs.Prelude.{bytes_eq}
use Rattle.std.specs.Cmp.{nat_eq_equiv}
use Rattle.std.specs.Option.{option_map}
use Rattle.semantics.specs.Configurations.{Running, State, is_running_state, same_path}
use Rattle.semantics.specs.Runs.{first_snapshot}
use Rattle.semantics.specs.Snapshots.{Test, holds, mtc_of, runs_in}
use Rattle.value_types.specs.declared.path.Path.{Path}
use Rattle.value_types.specs.declared.value.ComponentId.{ComponentId}

numbers-alike : (a b : List ℕ) → bytes_eq a b ≡ bytes_eq b a
numbers-alike [] [] = refl
numbers-alike [] (y ∷ b) = refl
numbers-alike (x ∷ a) [] = refl
numbers-alike (x ∷ a) (y ∷ b) = ap (λ c. c && bytes_eq a b) (nat_eq_equiv.symm x y) ∙ ap (λ c. nat_eq y x && c) (numbers-alike a b)

-- it runs if it is the one that is looked for
alone : (is_it : Bool) (main : Path) → is_it || false ≡ holds is_running_state (option_map {T = Path × State} (λ e. e.1) (cond is_it (Some (main, Running)) None))
alone true main = refl
alone false main = refl

pub alone-runs : (test : Test) (main : ComponentId) (path : Path) → mtc_of test ≡ main → (same_path path main.path || false) ≡ runs_in (first_snapshot test) path
alone-runs test main path is =
    ap (λ (m : ComponentId). same_path path m.path || false) (sym is)
    ∙ ap (λ b. b || false) (numbers-alike path.numbers (mtc_of test).path.numbers)
    ∙ alone (same_path (mtc_of test).path path) (mtc_of test).path
