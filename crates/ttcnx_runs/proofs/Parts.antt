-- A part of a sum is the sum of that part.
use Rattle.std.proofs.Common.{◌≡◌, ℕ, ◌≤◌, Bool, List, [], ◌∷◌, map, ap, refl, ◌∙◌, Option}
use Rattle.std.specs.Prelude.{IfOk, IsTrue, Result, Ok, Err}
use Rattle.summary.specs.Exploration.{Counts}
use Rattle.ttcnx_runs.specs.Answers.{Shown}
use Rattle.ttcnx_runs.specs.Sums.{blocked_of, branches_of}
use Rattle.summary.specs.KeySet.{empty, from_list, from_option, union, union_join}
use Rattle.summary.specs.NumberSet.{numbers_of}
use Rattle.std.specs.FinSet as ordered
use Rattle.summary.specs.Graph.{Graph}
use Rattle.summary.specs.Sums.{Join, Observation, join_all, shown, sum_of}
use Rattle.summary.specs.Run.{Run, Start, Then, all_runs, end_of}

module _ {C L S T : Type 0} (g : Graph C L) (j : Join S) (k : Join T) (r : Observation C L S) (q : Observation C L T) (part : S → T)
    (none : part j.none ≡ k.none) (join : (x y : S) → part (j.join x y) ≡ k.join (part x) (part y))
    (at : (c : C) → part (r.at c) ≡ q.at c) (by : (c : C) (label : L) → part (r.by c label) ≡ q.by c label) where
  shown-part : (run : Run L) → part (shown g j r run) ≡ shown g k q run
  shown-part Start = at g.first
  shown-part (Then run label) =
      join (r.by (end_of g run) label) (r.at (end_of g (Then run label)))
      ∙ ap (λ x. k.join x (part (r.at (end_of g (Then run label))))) (by (end_of g run) label)
      ∙ ap (k.join (q.by (end_of g run) label)) (at (end_of g (Then run label)))

  joined-part : (runs : List (Run L)) → part (join_all j (map (shown g j r) runs)) ≡ join_all k (map (shown g k q) runs)
  joined-part [] = none
  joined-part (run ∷ runs) =
      join (shown g j r run) (join_all j (map (shown g j r) runs))
      ∙ ap (λ x. k.join x (part (join_all j (map (shown g j r) runs)))) (shown-part run)
      ∙ ap (k.join (shown g k q run)) (joined-part runs)

  pub sum-part : (n : ℕ) → part (sum_of g j r n) ≡ sum_of g k q n
  sum-part n = joined-part (all_runs g n)

-- what is found, another way
pub if-ok : {A E : Type 0} (r : Result A E) (P Q : A → Type 0) → IfOk r P → ((a : A) → P a → Q a) → IfOk r Q
if-ok (Ok a) P Q holds so = so a holds
if-ok (Err e) P Q holds so = tt

abbrev pub shown_join : {B T : Type 0} → Join (Shown B T)
shown_join = record {
  none = record { first = record { marks = ordered.empty }; second = record { first = record { places = empty }; second = record { components = empty } } };
  join = λ x y. record {
    first = record { marks = ordered.union x.first.marks y.first.marks };
    second = record { first = record { places = union x.second.first.places y.second.first.places }; second = record { components = union x.second.second.components y.second.second.components } };
  };
}

module _ {C L B T : Type 0} (g : Graph C L) (branch : C → L → Option B) (blocked : C → List T) where
  abbrev pub shown_reading : Observation C L (Shown B T)
  shown_reading = record {
    at = λ c. record { first = record { marks = numbers_of (g.mark c) }; second = record { first = record { places = empty }; second = record { components = from_list (blocked c) } } };
    by = λ c label. record { first = record { marks = ordered.empty }; second = record { first = record { places = from_option (branch c label) }; second = record { components = empty } } };
  }

  pub branches-part : (n : ℕ) (sum : Shown B T) → sum ≡ sum_of g shown_join shown_reading n → sum.second.first.places ≡ branches_of g branch n
  branches-part n sum is = ap (λ s. s.second.first.places) is ∙ sum-part g shown_join union_join shown_reading (record { at = λ c. empty; by = λ c label. from_option (branch c label) })
      (λ s. s.second.first.places) refl (λ x y. refl) (λ c. refl) (λ c label. refl) n

  pub blocked-part : (n : ℕ) (sum : Shown B T) → sum ≡ sum_of g shown_join shown_reading n → sum.second.second.components ≡ blocked_of g blocked n
  blocked-part n sum is = ap (λ s. s.second.second.components) is ∙ sum-part g shown_join union_join shown_reading (record { at = λ c. from_list (blocked c); by = λ c label. empty })
      (λ s. s.second.second.components) refl (λ x y. refl) (λ c. refl) (λ c label. refl) n

  pub later-parts : (complete : Bool) (n count : ℕ) (sum : Shown B T)
      → (IsTrue complete → (bound : ℕ) → n ≤ bound → (sum ≡ sum_of g shown_join shown_reading bound) × Counts g bound count)
      → IsTrue complete → (bound : ℕ) → n ≤ bound → Counts g bound count × (sum.second.first.places ≡ branches_of g branch bound) × (sum.second.second.components ≡ blocked_of g blocked bound)
  later-parts complete n count sum later is bound above =
      let more = later is bound above in
      (more.1, branches-part bound sum more.0, blocked-part bound sum more.0)
