-- What is found within a bound that forbids nothing is what is found of all runs.
use Rattle.std.proofs.Common.{◌≡◌, ℕ, Bool, true, false, true≢false, List, [], ◌∷◌, map, Option, Some, None, refl, sym, ap, subst, ◌∙◌, ◌↔◌, if◌then◌else◌}
use Rattle.std.specs.Prelude.{Contains}
use Rattle.std.specs.List.{filter}
use Rattle.std.proofs.lemmas.List.{length-map}
use Rattle.laws_bounds.proofs.Standing.{same-sums}
use Rattle.laws_bounds.specs.BoundedParts.{CountsBounded, HasMarkBounded, IsBoundedReached, Keeps, kind_of}
use Rattle.laws_bounds.specs.StandsFor.{StandsFor, of_states}
use Rattle.laws_live.specs.PlaceReadings.{blocked_reading, branch_reading}
use Rattle.laws_live.specs.Parts.{CountsParts, IsPartReached}
use Rattle.search_bounds.specs.Bounded.{allowed, left_after, may_take}
use Rattle.search_bounds.specs.declared.kind.Kind.{Kind}
use Rattle.search_bounds.specs.declared.kind.Kind.TheVariants as kind
use Rattle.search_bounds.specs.declared.state.Bounded.{Bounded}
use Rattle.semantics.specs.Configurations.{Configuration, badness}
use Rattle.semantics.specs.Runs.{graph_of}
use Rattle.semantics.specs.Snapshots.{Test}
use Rattle.semantics.specs.Steps.{Label}
use Rattle.summary.specs.Exploration.{HasMark}
use Rattle.summary.specs.KeySet.{empty, from_list, from_option, union_join}
use Rattle.summary.specs.Run.{IsRun, Run}
use Rattle.summary.specs.Sums.{Join, Observation, sum_of}
use Rattle.ttcn_syntax.specs.declared.tree.statement.Verdict.{Verdict}
use Rattle.ttcnx_bounds.proofs.Mapped.{contains-map, of-part, parts-apart}
use Rattle.ttcnx_bounds.specs.BoundedFound.{AreFoundBounded, IsBestRunBounded, graph_within, no_bound}
use Rattle.ttcnx_runs.specs.Found.{AreFound, IsBestRun, run_kept}
use Rattle.ttcnx_runs.specs.declared.exploration.Exploration.{Exploration}

-- a configuration where any number of timers may still expire
abbrev free : Configuration → Bounded Configuration
free c = record { state = c; left = None }

is-free : (b : Bounded Configuration) → None ≡ b.left → free b.state ≡ b
is-free b none = λ i. record { state = b.state; left = none i }

-- ---- labels

taken : (kind : Kind) → may_take true kind ≡ true
taken kind.Statement = refl
taken kind.Expiry = refl
taken kind.Other = refl

none-left : (kind : Kind) → left_after kind None ≡ None
none-left kind.Statement = refl
none-left kind.Expiry = refl
none-left kind.Other = refl

all-kept : {A : Type 0} (test : A → Bool) → ((x : A) → test x ≡ true) → (xs : List A) → filter test xs ≡ xs
all-kept test all [] = refl
all-kept test all (x ∷ xs) = ap (λ b. if b then x ∷ filter test xs else filter test xs) (all x) ∙ ap (λ ys. x ∷ ys) (all-kept test all xs)

all-allowed : (labels : List Label) → allowed false kind_of None labels ≡ labels
all-allowed labels = all-kept (λ label. may_take true (kind_of label)) (λ label. taken (kind_of label)) labels

module _ (test : Test) where
  all-stand : StandsFor (graph_of test) (graph_within test no_bound) free
  all-stand = record {
    first = refl;
    enabled = λ c. all-allowed ((graph_of test).enabled c);
    after = λ c label. λ i. record { state = (graph_of test).after c label; left = none-left (kind_of label) i };
    mark = λ c. refl;
  }

  -- ---- runs

  to-keeps : (run : Run Label) → IsRun (graph_of test) run → Keeps test no_bound run
  to-keeps run is = record { is_run = is; few = tt; patient = λ no. absurd (true≢false (sym no)) }

  pub same-runs : (run : Run Label) → Keeps test no_bound run ↔ IsRun (graph_of test) run
  same-runs run = (λ keeps. keeps.is_run, to-keeps run)

  -- ---- what is reached, and how many

  to-part : (n : ℕ) (b : Bounded Configuration) → IsBoundedReached test no_bound n b → IsPartReached test n b.state
  to-part n b is = record { run = is.run; is_run = (is.keeps).is_run; short = is.short; ends = is.ends }

  to-bounded : (n : ℕ) (c : Configuration) → IsPartReached test n c → IsBoundedReached test no_bound n (free c)
  to-bounded n c is = record { run = is.run; keeps = to-keeps is.run is.is_run; short = is.short; ends = is.ends; leaves = refl }

  from-counts : (n count : ℕ) → CountsBounded test no_bound n count → CountsParts test n count
  from-counts n count counts = record {
    parts = map (λ b. b.state) counts.parts;
    different = parts-apart (λ b. b.state) counts.parts free
        (λ b d in-b in-d same. sym (is-free b (counts.reached b in-b).leaves) ∙ ap free same ∙ is-free d (counts.reached d in-d).leaves) counts.different;
    reached = λ c found.
        let b = of-part (λ b. b.state) counts.parts (free c) c found in
        subst (IsPartReached test n) b.2 (to-part n b.0 (counts.reached b.0 b.1));
    all = λ c is. contains-map (λ b. b.state) counts.parts (free c) (counts.all (free c) (to-bounded n c is));
    number = length-map counts.parts (λ b. b.state) ∙ counts.number;
  }

  to-counts : (n count : ℕ) → CountsParts test n count → CountsBounded test no_bound n count
  to-counts n count counts = record {
    parts = map free counts.parts;
    different = parts-apart free counts.parts (λ b. b.state) (λ c d in-c in-d same. ap (λ b. b.state) same) counts.different;
    reached = λ b found.
        let c = of-part free counts.parts b.state b found in
        subst (IsBoundedReached test no_bound n) c.2 (to-bounded n c.0 (counts.reached c.0 c.1));
    all = λ b is. subst (Contains (map free counts.parts)) (is-free b is.leaves) (contains-map free counts.parts b.state (counts.all b.state (to-part n b is)));
    number = length-map counts.parts free ∙ counts.number;
  }

  -- ---- marks

  from-marked : (n mark : ℕ) (run : Run Label) → HasMarkBounded test no_bound n mark run → HasMark (graph_of test) n mark run
  from-marked n mark run has = record { is_run = (has.keeps).is_run; short = has.short; marked = has.marked }

  to-marked : (n mark : ℕ) (run : Run Label) → HasMark (graph_of test) n mark run → HasMarkBounded test no_bound n mark run
  to-marked n mark run has = record { keeps = to-keeps run has.is_run; short = has.short; marked = has.marked }

  from-best : (n : ℕ) (v : Verdict) (labels : Option (List Label)) → IsBestRunBounded test no_bound n v labels → IsBestRun test n v labels
  from-best n v None none = λ run has. none run (to-marked n (badness v) run has)
  from-best n v (Some labels) best = (
    best.0,
    record { has = from-marked n (badness v) best.0 (best.1).has; least = λ other has. (best.1).least other (to-marked n (badness v) other has) },
    best.2,
  )

  to-best : (n : ℕ) (v : Verdict) (labels : Option (List Label)) → IsBestRun test n v labels → IsBestRunBounded test no_bound n v labels
  to-best n v None none = λ run has. none run (from-marked n (badness v) run has)
  to-best n v (Some labels) best = (
    best.0,
    record { has = to-marked n (badness v) best.0 (best.1).has; least = λ other has. (best.1).least other (from-marked n (badness v) other has) },
    best.2,
  )

  -- ---- sums

  same-sum : {S : Type 0} (j : Join S) (reading : Observation Configuration Label S) (n : ℕ) → sum_of (graph_within test no_bound) j (of_states reading) n ≡ sum_of (graph_of test) j reading n
  same-sum j reading n = same-sums (graph_of test) (graph_within test no_bound) free all-stand j reading (of_states reading) (record { at = λ c. refl; by = λ c label. refl }) n

  pub same-found : (n : ℕ) (found : Exploration) → AreFoundBounded test no_bound n found ↔ AreFound test n found
  same-found n found = (
    λ are. record {
      configurations = from-counts n found.configurations are.configurations;
      eight = are.eight;
      best = λ v. from-best n v (run_kept found v) (are.best v);
      branches = record { summed = (are.branches).summed ∙ same-sum union_join (branch_reading test from_option empty) n; ascend = (are.branches).ascend };
      blocked = record { summed = (are.blocked).summed ∙ same-sum union_join (blocked_reading test from_list empty) n; ascend = (are.blocked).ascend };
    },
    λ are. record {
      configurations = to-counts n found.configurations are.configurations;
      eight = are.eight;
      best = λ v. to-best n v (run_kept found v) (are.best v);
      branches = record { summed = (are.branches).summed ∙ sym (same-sum union_join (branch_reading test from_option empty) n); ascend = (are.branches).ascend };
      blocked = record { summed = (are.blocked).summed ∙ sym (same-sum union_join (blocked_reading test from_list empty) n); ascend = (are.blocked).ascend };
    },
  )
