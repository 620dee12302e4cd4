-- A test case has one report.
use Rattle.std.proofs.Common.{◌≡◌, ℕ, Bool, true, false, List, [], ◌∷◌, ◌++◌, length, map, refl, sym, ap, subst, ◌∙◌, arith, inl, inr}
use Rattle.std.specs.Prelude.{◌↔◌, Option, Some, None, IsTrue, codes, string_bytes}
use Rattle.std.specs.List.{AllZip, cons_option, filter_map, flat_map}
use Rattle.std.specs.Fmt.{decimal}
use Rattle.std.specs.Cmp.{IsTotalOrder}
use Rattle.std.specs.Coded.{Coded, code_by, coded_ℕ, coded_list, coded×}
use Rattle.std.specs.declared.cmp.Ordering.{Ordering}
use Rattle.std.specs.declared.alloc.Global.{Global}
use Rattle.std.specs.declared.vec.Vec.{Vec}
use Rattle.std.proofs.lemmas.Cmp.{lists_total, tied_itself}
use Rattle.summary.specs.Graph.{Graph}
use Rattle.summary.specs.Run.{Run, Before, NoLater, labels_of}
use Rattle.summary.specs.Exploration.{IsBest}
use Rattle.explore.proofs.RunOrder.{before-trans}
use Rattle.search_layer.specs.declared.plan.Plan.{Plan}
use Rattle.ttcnx_runs.specs.Aims.{IsLeastTo}
use Rattle.ttcnx_runs.specs.Found.{AreBlocked, AreBranches, IsBestRun}
use Rattle.laws_live.proofs.PartCounts.{counts-once}
use Rattle.summary.proofs.OneAscent.{one-ascent}
use Rattle.summary.specs.Ascent.{Ascends}
use Rattle.summary.specs.KeyCode.{same_keys}
use Rattle.summary.specs.KeySet.{from_list}
use Rattle.report.specs.Json.{json_text, label_json, list_of, outcome_json, place_json, standing_json}
use Rattle.report.specs.Texts.{blocked_line, branch_line, header_text, line, outcome_text, report_text, step_line, word_of, yes_or_no}
use Rattle.report.specs.declared.report.Outcome.{Outcome}
use Rattle.report.specs.declared.report.Report.{Report}
use Rattle.serde_json.specs.Data.{Data, array, boolean, member, no_members, number, object, string, unsigned}
use Rattle.serde_json.specs.View.{items_of}
use Rattle.serde_json.specs.Written.{compact_text}
use Rattle.step_labels.specs.Labels.{label_total}
use Rattle.step_labels.specs.Standings.{place_total, standing_total}
use Rattle.step_labels.specs.declared.label.Label.{Label}
use Rattle.step_labels.specs.declared.standing.Standing.{Standing}
use Rattle.semantics.specs.Configurations.{badness}
use Rattle.semantics.specs.Labels.{label_cmp}
use Rattle.semantics.specs.Runs.{graph_of}
use Rattle.semantics.specs.Snapshots.{Test}
use Rattle.ttcn_syntax.specs.declared.place.Span.{Span}
use Rattle.ttcn_syntax.specs.declared.tree.statement.Verdict.{Verdict}
use Rattle.ttcnx.proofs.Checks.{some-is}
use Rattle.ttcnx.specs.Tells.{Tells, all_verdicts, labels_in, outcome_of, outcomes_of}

-- ---- a mark has one best run

module _ {L : Type 0} (cmp : L → L → Ordering) (total : IsTotalOrder cmp) where
  pub never-before : (r : Run L) → Before cmp r r → ⊥
  never-before r (inl h) = omega (arith, h)
  never-before r (inr h) = let tied = tied_itself (lists_total total) (labels_of r) in let less = h.1 in cc

  pub same-run : (r s : Run L) → NoLater cmp r s → NoLater cmp s r → r ≡ s
  same-run r s (inr e) other = e
  same-run r s (inl h) (inr e) = sym e
  same-run r s (inl h) (inl k) = absurd (never-before r (before-trans cmp total r s r h k))

module _ {C L : Type 0} (g : Graph C L) (cmp : L → L → Ordering) (total : IsTotalOrder cmp) where
  one-best : (n mark : ℕ) (r s : Run L) → IsBest g cmp n mark r → IsBest g cmp n mark s → r ≡ s
  one-best n mark r s a b = same-run cmp total r s (a.least s b.has) (b.least r a.has)

  -- the least run to an aim is one
  pub one-least : {E : Type 0} (n : ℕ) (shown : Run L → Option E) (kind : E → Bool) (a b : Option (List L)) → IsLeastTo g cmp n shown kind a → IsLeastTo g cmp n shown kind b → a ≡ b
  one-least n shown kind None None h k = refl
  one-least n shown kind None (Some b) h k = absurd (h k.0 k.1)
  one-least n shown kind (Some a) None h k = absurd (k h.0 h.1)
  one-least n shown kind (Some a) (Some b) h k =
      ap Some (h.3 ∙ ap labels_of (same-run cmp total h.0 k.0 (h.2 k.0 k.1) (k.2 h.0 h.1)) ∙ sym k.3)

-- ---- a set has one ascending list

pub place-coded : Coded Span
place-coded = code_by (ℕ × ℕ) (coded× coded_ℕ coded_ℕ) (λ p. (p.line, p.column)) (λ q. record { line = q.0; column = q.1 }) (λ p. refl)

pub standing-coded : Coded Standing
standing-coded = code_by (List ℕ × Span) (coded× (coded_list coded_ℕ) place-coded) (λ s. (s.component.numbers, s.place)) (λ q. record { component = record { numbers = q.0 }; place = q.1 }) (λ s. refl)

module _ {K : Type 0} (coded : Coded K) {cmp : K → K → Ordering} (total : IsTotalOrder cmp) where
  pub one-list : (keys others : List K) → from_list keys ≡ from_list others → Ascends cmp keys → Ascends cmp others → keys ≡ others
  one-list keys others same up also = one-ascent total keys others up also (same_keys coded keys others same)

module _ (test : Test) (n : ℕ) where
  branches-alike : (places others : List Span) → AreBranches test n places → AreBranches test n others → places ≡ others
  branches-alike places others h k = one-list place-coded place_total places others (h.summed ∙ sym k.summed) h.ascend k.ascend

  blocked-alike : (standings others : List Standing) → AreBlocked test n standings → AreBlocked test n others → standings ≡ others
  blocked-alike standings others h k =
      one-list standing-coded standing_total standings others (h.summed ∙ sym k.summed) h.ascend k.ascend

-- ---- a report has one text

pub same-answer : {P : Type 0} (a b : Bool) → (IsTrue a ↔ P) → (IsTrue b ↔ P) → a ≡ b
same-answer true true h k = refl
same-answer false false h k = refl
same-answer true false h k = sym (k.1 (h.0 refl))
same-answer false true h k = h.1 (k.0 refl)

text-of-run : Verdict → List Label → List ℕ
text-of-run verdict labels = line (codes "verdict " ++ word_of verdict ++ codes " " ++ decimal (length labels)) ++ flat_map step_line labels

module _ (test : Test) (n : ℕ) where
  best-alike : (verdict : Verdict) (a b : Option (List Label)) → IsBestRun test n verdict a → IsBestRun test n verdict b → a ≡ b
  best-alike verdict None None h k = refl
  best-alike verdict None (Some b) h k = absurd (h k.0 k.1.has)
  best-alike verdict (Some a) None h k = absurd (k h.0 h.1.has)
  best-alike verdict (Some a) (Some b) h k =
      ap Some (h.2 ∙ ap labels_of (one-best (graph_of test) label_cmp label_total n (badness verdict) h.0 k.0 h.1 k.1) ∙ sym k.2)

header-of : List ℕ → ℕ → ℕ → Bool → List ℕ
header-of name steps configurations complete =
    line (codes "testcase " ++ name) ++ line (codes "steps " ++ decimal steps) ++ line (codes "configurations " ++ decimal configurations)
    ++ line (codes "complete " ++ yes_or_no complete)

headers-alike : (a b : Report) → string_bytes a.testcase ≡ string_bytes b.testcase → a.steps ≡ b.steps → a.configurations ≡ b.configurations
    → a.complete ≡ b.complete → header_text a ≡ header_text b
unfolding header-of
headers-alike a b name steps configurations complete =
    ap (λ x. header-of x a.steps a.configurations a.complete) name
    ∙ ap (λ x. header-of (string_bytes b.testcase) x a.configurations a.complete) steps
    ∙ ap (λ x. header-of (string_bytes b.testcase) b.steps x a.complete) configurations
    ∙ ap (λ x. header-of (string_bytes b.testcase) b.steps b.configurations x) complete

whole-text : List ℕ → List ℕ → List Span → List Standing → List ℕ
whole-text header outcomes branches blocked = header ++ outcomes ++ flat_map branch_line branches ++ flat_map blocked_line blocked

wholes-alike : (a b : Report) → header_text a ≡ header_text b → flat_map outcome_text a.outcomes.items ≡ flat_map outcome_text b.outcomes.items
    → a.branches.items ≡ b.branches.items → a.blocked.items ≡ b.blocked.items → report_text a ≡ report_text b
unfolding whole-text
wholes-alike a b header outcomes branches blocked =
    ap (λ x. whole-text x (flat_map outcome_text a.outcomes.items) a.branches.items a.blocked.items) header
    ∙ ap (λ x. whole-text (header_text b) x a.branches.items a.blocked.items) outcomes
    ∙ ap (λ x. whole-text (header_text b) (flat_map outcome_text b.outcomes.items) x a.blocked.items) branches
    ∙ ap (λ x. whole-text (header_text b) (flat_map outcome_text b.outcomes.items) b.branches.items x) blocked

-- ---- as JSON

json-of-run : Verdict → List Label → Data
json-of-run verdict labels =
    object (member (codes "run") (list_of label_json labels)
    (member (codes "verdict") (string (word_of verdict))
    no_members))

whole-json : List Standing → List Span → Bool → ℕ → ℕ → List ℕ → List Data → List ℕ
whole-json blocked branches complete configurations steps testcase outcomes = line (compact_text (
    object (member (codes "blocked") (list_of standing_json blocked)
    (member (codes "branches") (list_of place_json branches)
    (member (codes "complete") (boolean complete)
    (member (codes "configurations") (number (unsigned configurations))
    (member (codes "steps") (number (unsigned steps))
    (member (codes "testcase") (string testcase)
    (member (codes "verdicts") (array (items_of outcomes))
    no_members)))))))))

json-alike : (a b : Report) → a.blocked.items ≡ b.blocked.items → a.branches.items ≡ b.branches.items → a.complete ≡ b.complete → a.configurations ≡ b.configurations
    → a.steps ≡ b.steps → string_bytes a.testcase ≡ string_bytes b.testcase → map outcome_json a.outcomes.items ≡ map outcome_json b.outcomes.items → json_text a ≡ json_text b
unfolding whole-json
json-alike a b blocked branches complete configurations steps name outcomes = λ i.
    whole-json (blocked i) (branches i) (complete i) (configurations i) (steps i) (name i) (outcomes i)

-- ---- the report

-- outcomes of one verdict, with runs of the same labels
abbrev pub SameOutcome : Outcome → Outcome → Type 0
SameOutcome a b = (a.verdict ≡ b.verdict) × (a.run.items ≡ b.run.items)

pub texts-alike : (outcomes others : List Outcome) → AllZip SameOutcome outcomes others → flat_map outcome_text outcomes ≡ flat_map outcome_text others
unfolding text-of-run
texts-alike [] [] same = refl
texts-alike [] (b ∷ more) same = absurd same
texts-alike (a ∷ rest) [] same = absurd same
texts-alike (a ∷ rest) (b ∷ more) same = λ i. text-of-run (same.0.0 i) (same.0.1 i) ++ texts-alike rest more same.1 i

pub jsons-alike : (outcomes others : List Outcome) → AllZip SameOutcome outcomes others → map outcome_json outcomes ≡ map outcome_json others
unfolding json-of-run
jsons-alike [] [] same = refl
jsons-alike [] (b ∷ more) same = absurd same
jsons-alike (a ∷ rest) [] same = absurd same
jsons-alike (a ∷ rest) (b ∷ more) same = λ i. json-of-run (same.0.0 i) (same.0.1 i) ∷ jsons-alike rest more same.1 i

-- two reports say the same where all that they say is the same
pub same-said : (a b : Report) → string_bytes a.testcase ≡ string_bytes b.testcase → a.steps ≡ b.steps → a.configurations ≡ b.configurations → a.complete ≡ b.complete
    → AllZip SameOutcome a.outcomes.items b.outcomes.items → a.branches.items ≡ b.branches.items → a.blocked.items ≡ b.blocked.items
    → (report_text a ≡ report_text b) × (json_text a ≡ json_text b)
same-said a b testcase steps configurations complete outcomes branches blocked = (
  wholes-alike a b (headers-alike a b testcase steps configurations complete) (texts-alike a.outcomes.items b.outcomes.items outcomes) branches blocked,
  json-alike a b blocked branches complete configurations steps testcase (jsons-alike a.outcomes.items b.outcomes.items outcomes),
)

-- what is told of some verdicts has the same labels where each run has
each-told : (run_of other_of : Verdict → Option (Vec Label Global)) → ((verdict : Verdict) → labels_in (run_of verdict) ≡ labels_in (other_of verdict)) → (verdicts : List Verdict)
    → AllZip SameOutcome (filter_map (λ verdict. outcome_of verdict (run_of verdict)) verdicts) (filter_map (λ verdict. outcome_of verdict (other_of verdict)) verdicts)
each-told run_of other_of same [] = tt
each-told run_of other_of same (verdict ∷ verdicts) = of (run_of verdict) (other_of verdict) (same verdict) (each-told run_of other_of same verdicts)
  where
    of : (run other : Option (Vec Label Global)) → labels_in run ≡ labels_in other
        → AllZip SameOutcome (filter_map (λ verdict. outcome_of verdict (run_of verdict)) verdicts) (filter_map (λ verdict. outcome_of verdict (other_of verdict)) verdicts)
        → AllZip SameOutcome (cons_option (outcome_of verdict run) (filter_map (λ verdict. outcome_of verdict (run_of verdict)) verdicts))
        (cons_option (outcome_of verdict other) (filter_map (λ verdict. outcome_of verdict (other_of verdict)) verdicts))
    of None None alike rest = rest
    of None (Some b) alike rest = cc
    of (Some a) None alike rest = cc
    of (Some a) (Some b) alike rest = ((refl, some-is alike), rest)

pub same-report : (a b : Report) → string_bytes a.testcase ≡ string_bytes b.testcase → a.steps ≡ b.steps → a.configurations ≡ b.configurations → a.complete ≡ b.complete
    → (run_of other_of : Verdict → Option (Vec Label Global)) → a.outcomes.items ≡ outcomes_of run_of → b.outcomes.items ≡ outcomes_of other_of
    → ((verdict : Verdict) → labels_in (run_of verdict) ≡ labels_in (other_of verdict)) → a.branches.items ≡ b.branches.items → a.blocked.items ≡ b.blocked.items
    → (report_text a ≡ report_text b) × (json_text a ≡ json_text b)
same-report a b testcase steps configurations complete run_of other_of a_told b_told labels branches blocked =
    same-said a b testcase steps configurations complete
    (subst (λ (items : List Outcome). AllZip SameOutcome items b.outcomes.items) (sym a_told)
    (subst (λ (items : List Outcome). AllZip SameOutcome (outcomes_of run_of) items) (sym b_told) (each-told run_of other_of labels all_verdicts)))
    branches blocked

pub one-report : (test : Test) (name : List ℕ) (plan : Plan) (a b : Report) → Tells test name plan a → Tells test name plan b
    → (report_text a ≡ report_text b) × (json_text a ≡ json_text b)
one-report test name plan a b h k =
    same-report a b (h.testcase ∙ sym k.testcase) (h.steps ∙ sym k.steps)
    (counts-once test plan.steps a.configurations b.configurations (h.runs).configurations (k.runs).configurations)
    (same-answer a.complete b.complete h.complete k.complete)
    (h.runs).run_of (k.runs).run_of (h.runs).outcomes (k.runs).outcomes
    (λ verdict. best-alike test plan.steps verdict (labels_in ((h.runs).run_of verdict)) (labels_in ((k.runs).run_of verdict)) ((h.runs).best verdict) ((k.runs).best verdict))
    (branches-alike test plan.steps a.branches.items b.branches.items (h.runs).branches (k.runs).branches)
    (blocked-alike test plan.steps a.blocked.items b.blocked.items (h.runs).blocked (k.runs).blocked)
