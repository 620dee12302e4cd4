-- How the graphs of a module are drawn.
use Rattle.std.proofs.Common.{◌≡◌, refl, sym, ap, subst, ◌∙◌, ℕ, zero, suc, ◌+◌, ◌<◌, ◌≤◌, false, List, [], ◌∷◌, ◌++◌, map, length, get_or, slice_get, Option, Some, None, arith, inl, inr}
use Rattle.std.proofs.lemmas.Bool.{cases_lt}
use Rattle.std.proofs.lemmas.List.{length-append}
use Rattle.std.specs.Option.{IfNone, IfSome, option_map}
use Rattle.ttcn_syntax.specs.declared.tree.definition.Definition.{Definition}
use Rattle.semantics.specs.Branches.{branches_of}
use Rattle.semantics.specs.Sites.{beginning}
use Rattle.graph_sites.specs.Facts.{altstep_facts, branch_facts, event_by}
use Rattle.graph_sites.specs.declared.facts.EventFacts.{EventFacts}
use Rattle.graph_names.specs.Known.{Known}
use Rattle.ttcn_graph.specs.Drafts.{AreAt, AreDrawn, Draft, HasWays, at_site, empty_draft}
use Rattle.ttcn_graph.specs.Graphs.{AllHaveWays, IsAt, beginnings, beginnings_at, graphs_of}
use Rattle.ttcn_graph.specs.Ways.{Lists}
use Rattle.ttcn_graph.proofs.Drafted.{at-more, way-found, way-missing}
use Rattle.ttcn_graph.proofs.Drawing.{not-found}
use Rattle.ttcn_graph.proofs.ListsKept.{get-append, get-past}

-- ---- definition by definition

get-last : {A : Type 0} (xs : List A) (x d : A) → get_or (xs ++ x ∷ []) (length xs) d ≡ x
get-last [] x d = refl
get-last (y ∷ xs) x d = get-last xs x d

-- so many definitions were drawn
pub record AreGraphed (definitions : List Definition) (d : Draft) (starts : List (List ℕ)) (count : ℕ) : Type 0 where
  pub module_is : d.definitions ≡ definitions
  pub whole : AllHaveWays d
  pub many : length starts ≡ count
  pub stand : (at : ℕ) → at < count → AreAt d.lists (get_or starts at []) (beginnings_at definitions at)

pub graphed-first : (definitions : List Definition) (d : Draft) (starts : List (List ℕ)) → d ≡ empty_draft definitions → starts ≡ [] → AreGraphed definitions d starts 0
graphed-first definitions d starts is none =
    subst (λ d. AreGraphed definitions d starts 0) (sym is) (subst (λ all. AreGraphed definitions (empty_draft definitions) all 0) (sym none) (record {
      module_is = refl;
      whole = λ p below. none-open definitions p below;
      many = refl;
      stand = λ at below. absurd (omega (arith, below));
    }))
  where
    none-open : (definitions : List Definition) (p : ℕ) → p < 1 → HasWays (empty_draft definitions) p
    none-open definitions zero below = tt
    none-open definitions (suc p) below = absurd (omega (arith, below))

pub graphed-next : (definitions : List Definition) (d d' : Draft) (starts pushed : List (List ℕ)) (here : List ℕ) (count : ℕ) → AreGraphed definitions d starts count
    → AreDrawn (at_site (beginning count) d) d' here (beginnings_at definitions count) → pushed ≡ starts ++ here ∷ [] → AreGraphed definitions d' pushed (count + 1)
graphed-next definitions d d' starts pushed here count g h push =
    let long = length-append starts (here ∷ []) in
    let many = g.many in
    subst (λ all. AreGraphed definitions d' all (count + 1)) (sym push) (record {
      module_is = h.grown.definitions ∙ g.module_is;
      whole = λ p below. h.grown.keeps (λ q. false) (λ q within closed. g.whole q within) p below refl;
      many = omega (arith, long, many);
      stand = λ at below. elim (cases_lt at count) as (λ _. AreAt d'.lists (get_or (starts ++ here ∷ []) at []) (beginnings_at definitions at)) [
        | inl before ↦
            subst (λ positions. AreAt d'.lists positions (beginnings_at definitions at)) (sym (get-append starts (here ∷ []) at [] (omega (arith, before, many))))
            (at-more d.lists d'.lists h.grown.lists (get_or starts at []) (beginnings_at definitions at) (g.stand at before))
        | inr from ↦
            let last : count ≡ at = omega (arith, below, from) in
            subst (λ at. AreAt d'.lists (get_or (starts ++ here ∷ []) at []) (beginnings_at definitions at)) last
            (subst (λ n. AreAt d'.lists (get_or (starts ++ here ∷ []) n []) (beginnings_at definitions count)) many
            (subst (λ positions. AreAt d'.lists positions (beginnings_at definitions count)) (sym (get-last starts here [])) h.stand))
      ];
    })

pub graphed-end : (definitions : List Definition) (d : Draft) (starts : List (List ℕ)) (count : ℕ) → AreGraphed definitions d starts count → length definitions ≤ count
    → (at : ℕ) → AreAt d.lists (get_or starts at []) (beginnings_at d.definitions at)
graphed-end definitions d starts count g all at =
    subst (λ definitions. AreAt d.lists (get_or starts at []) (beginnings_at definitions at)) (sym g.module_is)
    (elim (cases_lt at count) as (λ _. AreAt d.lists (get_or starts at []) (beginnings_at definitions at)) [
      | inl before ↦ g.stand at before
      | inr from ↦
          let many = g.many in
          subst (λ positions. AreAt d.lists positions (beginnings_at definitions at)) (sym (get-past starts at [] (omega (arith, many, from))))
          (subst (λ (found : Option Definition). AreAt d.lists [] (beginnings definitions (beginning at) (option_map (λ definition. definition.kind) found)))
          (sym (not-found definitions at (omega (arith, all, from)))) tt)
    ])

-- ---- branches of altsteps

-- what is known of the branches of so many definitions
pub record AreFactsOf (definitions : List Definition) (altsteps : List (List EventFacts)) (count : ℕ) : Type 0 where
  pub many : length altsteps ≡ count
  pub stand : (at : ℕ) → at < count → map event_by (get_or altsteps at []) ≡ altstep_facts definitions at

pub facts-first : (definitions : List Definition) (altsteps : List (List EventFacts)) → altsteps ≡ [] → AreFactsOf definitions altsteps 0
facts-first definitions altsteps none = record { many = ap length none; stand = λ at below. absurd (omega (arith, below)) }

pub facts-next : (definitions : List Definition) (altsteps pushed : List (List EventFacts)) (facts : List EventFacts) (count : ℕ) → AreFactsOf definitions altsteps count
    → map event_by facts ≡ altstep_facts definitions count → pushed ≡ altsteps ++ facts ∷ [] → AreFactsOf definitions pushed (count + 1)
facts-next definitions altsteps pushed facts count g is push =
    let long = length-append altsteps (facts ∷ []) in
    let many = g.many in
    subst (λ all. AreFactsOf definitions all (count + 1)) (sym push) (record {
      many = omega (arith, long, many);
      stand = λ at below. elim (cases_lt at count) as (λ _. map event_by (get_or (altsteps ++ facts ∷ []) at []) ≡ altstep_facts definitions at) [
        | inl before ↦ ap (map event_by) (get-append altsteps (facts ∷ []) at [] (omega (arith, before, many))) ∙ g.stand at before
        | inr from ↦
            let last : at ≡ length altsteps = omega (arith, below, from, many) in
            let same : count ≡ at = omega (arith, below, from) in
            ap (λ n. map event_by (get_or (altsteps ++ facts ∷ []) n [])) last ∙ ap (map event_by) (get-last altsteps facts []) ∙ is ∙ ap (altstep_facts definitions) same
      ];
    })

pub facts-end : (definitions : List Definition) (altsteps : List (List EventFacts)) (count : ℕ) → AreFactsOf definitions altsteps count → length definitions ≤ count
    → (at : ℕ) → map event_by (get_or altsteps at []) ≡ altstep_facts definitions at
facts-end definitions altsteps count g all at = elim (cases_lt at count) as (λ _. map event_by (get_or altsteps at []) ≡ altstep_facts definitions at) [
  | inl before ↦ g.stand at before
  | inr from ↦
      let many = g.many in
      ap (map event_by) (get-past altsteps at [] (omega (arith, many, from)))
      ∙ sym (ap (λ (found : Option Definition). map (branch_facts definitions (beginning at)) (branches_of (option_map (λ definition. definition.kind) found)))
      (not-found definitions at (omega (arith, all, from))))
]

-- one more, of which nothing is known, tells nothing else
get-more : (altsteps : List (List EventFacts)) (at : ℕ) → get_or (altsteps ++ [] ∷ []) at [] ≡ get_or altsteps at []
get-more [] zero = refl
get-more [] (suc at) = refl
get-more (facts ∷ altsteps) zero = refl
get-more (facts ∷ altsteps) (suc at) = get-more altsteps at

pub facts-more : (definitions : List Definition) (altsteps pushed : List (List EventFacts)) (none : List EventFacts) → none ≡ [] → pushed ≡ altsteps ++ none ∷ []
    → ((at : ℕ) → map event_by (get_or altsteps at []) ≡ altstep_facts definitions at) → (at : ℕ) → map event_by (get_or pushed at []) ≡ altstep_facts definitions at
facts-more definitions altsteps pushed none is push all at =
    ap (λ l. map event_by (get_or l at [])) (push ∙ ap (λ facts. altsteps ++ facts ∷ []) is) ∙ ap (map event_by) (get-more altsteps at) ∙ all at

pub more-than : (definitions : List Definition) (altsteps pushed : List (List EventFacts)) (none : List EventFacts) (count : ℕ) → AreFactsOf definitions altsteps count
    → length definitions ≤ count → pushed ≡ altsteps ++ none ∷ [] → length definitions < length pushed
more-than definitions altsteps pushed none count g all push =
    let long = ap length push ∙ length-append altsteps (none ∷ []) in
    let many = g.many in
    omega (arith, long, many, all)

-- ---- positions

pub is-at : (d : Draft) (starts : List (List ℕ)) (names : Known) (positions : List ℕ) (among : Lists) (place at : ℕ) → AreAt d.lists positions among → slice_get positions place ≡ Some at → IsAt (graphs_of d starts names) at place among
is-at d starts names positions among place at h is = let found = way-found d.lists positions among h place at is in record { within = found.0; stands = found.1 }

pub at-answer : (d : Draft) (starts : List (List ℕ)) (names : Known) (positions : List ℕ) (among : Lists) (place : ℕ) (found : Option ℕ) → AreAt d.lists positions among → found ≡ slice_get positions place
    → IfSome found (λ at. IsAt (graphs_of d starts names) at place among) × IfNone found (slice_get among place ≡ None)
at-answer d starts names positions among place None h is = (tt, way-missing d.lists positions among h place (sym is))
at-answer d starts names positions among place (Some at) h is = (is-at d starts names positions among place at h (sym is), tt)
