-- The steps of the search: a thing is begun, one of its references is passed, and it is done.
use Rattle.std.proofs.Common.{◌≡◌, ◌≢◌, ℕ, zero, suc, ◌+◌, ◌<◌, ◌≤◌, List, [], ◌∷◌, ◌++◌, length, get_or, set, max, take, refl, sym, ap, subst, ◌∙◌, arith, inl, inr, Some, get_or-set_same, get_or-set_other}
use Rattle.std.specs.Prelude.{Contains}
use Rattle.std.proofs.lemmas.Bool.{cases_eq}
use Rattle.std.proofs.lemmas.List.{get_or_read, length-set, map_push, take_all, take_more}
use Rattle.std.proofs.lemmas.List.Elements.{All-pop, All-push, Contains-append_left, Contains-push, Contains-push_cases}
use Rattle.std.proofs.lemmas.List.Sums.{sum_by_push}
use Rattle.check_survey.specs.Graphs.{AreComplete, IsChain, IsOnCircle, references}
use Rattle.check_survey.specs.internal.Search.{HaveSize, IsPath, IsRead, IsSearched, StayBegun, at_first, left, left_new, left_of, state_of, things_on}
use Rattle.check_survey.specs.Things.{capped}
use Rattle.check_survey.specs.declared.search.State.{State}
use Rattle.check_survey.specs.declared.search.State.TheVariants.{New, Open, Done}
use Rattle.check_survey.specs.declared.search.Step.{Step}
use Rattle.check_survey.specs.declared.size.Size.{Size}
use Rattle.check_survey.specs.declared.thing.Thing.{Thing}
use Rattle.check_survey.proofs.Chains.{chain-circle, chain-more, path-front, references-read, refers-within}
use Rattle.check_survey.proofs.Sizes.{size-beside, size-none}

-- ---- what is left to do

-- where a new thing is begun
left_new-begun : (things : List Thing) (states : List State) (i : ℕ) → i < length things → length states ≡ length things → state_of states i ≡ New
    → left_new things (set states i Open) + (length (references things i) + 2) ≡ left_new things states
left_new-begun [] states i within count new = absurd (omega arith)
left_new-begun (thing ∷ things) [] i within count new = absurd (omega arith)
left_new-begun (thing ∷ things) (New ∷ states) zero within count new = omega arith
left_new-begun (thing ∷ things) (Open ∷ states) zero within count new = cc
left_new-begun (thing ∷ things) (Done size ∷ states) zero within count new = cc
left_new-begun (thing ∷ things) (state ∷ states) (suc i) within count new =
    let e = left_new-begun things states i (omega arith) (omega arith) new in omega (arith, e)

-- where a thing is done
left_new-done : (things : List Thing) (states : List State) (i : ℕ) (size : Size) → left_new things (set states i (Done size)) ≤ left_new things states
left_new-done [] states i size = omega arith
left_new-done (thing ∷ things) [] i size = omega arith
left_new-done (thing ∷ things) (state ∷ states) zero size = omega arith
left_new-done (thing ∷ things) (state ∷ states) (suc i) size = let e = left_new-done things states i size in omega (arith, e)

-- ---- what the code reads

pub state-read : (states : List State) (i : ℕ) (state other : State) → i < length states → state ≡ get_or states i state → state ≡ other → state_of states i ≡ other
state-read states i state other within is same = sym (get_or_read states i state within is New) ∙ same

module _ (things : List Thing) (step : Step) (read : IsRead things step) where
  -- the next reference
  pub next-refers : (i : ℕ) → step.passed < length (references things step.thing) → i ≡ get_or (references things step.thing) step.passed i → Contains (references things step.thing) i
  next-refers i below is = (step.passed, below, sym is)

  -- all references are passed
  pub read_all : length (references things step.thing) ≤ step.passed → HaveSize things (references things step.thing) step.size
  read_all all = subst (λ l. HaveSize things l step.size) (take_all step.passed (references things step.thing) all) read.size

  -- one more reference is passed
  pub read-more : (i : ℕ) (more size : Size) → step.passed < length (references things step.thing) → i ≡ get_or (references things step.thing) step.passed i
      → HaveSize things (i ∷ []) more → size.chain ≡ max step.size.chain more.chain → size.weight ≡ capped (step.size.weight + more.weight)
      → IsRead things (record { thing = step.thing; passed = step.passed + 1; size = size })
  read-more i more size below is has chain weight = record {
    within = read.within;
    passed = omega arith;
    size = subst (λ l. HaveSize things l size) longer (size-beside things (take step.passed (references things step.thing)) (i ∷ []) step.size more size read.size has chain weight);
  }
    where
      longer : take step.passed (references things step.thing) ++ i ∷ [] ≡ take (step.passed + 1) (references things step.thing)
      longer = ap (λ k. take step.passed (references things step.thing) ++ k ∷ []) is ∙ sym (take_more (references things step.thing) step.passed i below)

-- ---- steps

module _ (things : List Thing) (states : List State) (path : List Step) where
  -- what is new after a thing is set to something else was new before
  pub begun-on : (i : ℕ) (state : State) → i < length states → state ≢ New → StayBegun states (set states i state)
  begun-on i state within other j new =
      elim (cases_eq j i) [
        | inl is ↦ absurd (other (sym (get_or-set_same states i state New within) ∙ ap (state_of (set states i state)) (sym is) ∙ new))
        | inr apart ↦ sym (get_or-set_other states i j state New apart) ∙ new
      ]

  -- ---- a new thing is begun

  pub begun : (i : ℕ) → i < length things → state_of states i ≡ New → IsPath things (things_on path ++ i ∷ [])
      → IsSearched things states path → IsSearched things (set states i Open) (path ++ at_first i ∷ [])
  begun i within new linked known = record {
    count = length-set states i Open ∙ known.count;
    done = λ j size is. elim (cases_eq j i) [
      | inl same ↦ absurd (let e : Open ≡ Done size = sym (get_or-set_same states i Open New inside) ∙ ap (state_of (set states i Open)) (sym same) ∙ is in cc)
      | inr apart ↦ known.done j size (sym (get_or-set_other states i j Open New apart) ∙ is)
    ];
    on_path = λ j is. elim (cases_eq j i) [
      | inl same ↦ subst (λ k. Contains (things_on (path ++ at_first i ∷ [])) k) (sym same) (subst (λ l. Contains l i) (sym on) (Contains-push (things_on path) i))
      | inr apart ↦ subst (λ l. Contains l j) (sym on) (Contains-append_left (things_on path) (i ∷ []) j (known.on_path j (sym (get_or-set_other states i j Open New apart) ∙ is)))
    ];
    read = All-push (IsRead things) path (at_first i) known.read (record { within = within; passed = omega arith; size = size-none things _ refl refl });
    linked = subst (IsPath things) (sym on) linked;
  }
    where
      inside : i < length states
      inside = let e = known.count in omega (arith, e)

      on : things_on (path ++ at_first i ∷ []) ≡ things_on path ++ i ∷ []
      on = map_push (λ step. step.thing) path (at_first i)

  pub left-begun : (i : ℕ) → i < length things → state_of states i ≡ New → length states ≡ length things
      → left things (set states i Open) (path ++ at_first i ∷ []) < left things states path
  left-begun i within new count =
      let e = left_new-begun things states i within count new in
      let f = sum_by_push (left_of things) path (at_first i) in
      omega (arith, e, f)

-- ---- from the last thing of the path

module _ (things : List Thing) (states : List State) (path : List Step) (step : Step) (known : IsSearched things states (path ++ step ∷ [])) where
  on-push : things_on (path ++ step ∷ []) ≡ things_on path ++ step.thing ∷ []
  on-push = map_push (λ s. s.thing) path step

  path-push : IsPath things (things_on path ++ step.thing ∷ [])
  path-push = subst (IsPath things) on-push known.linked

  pub last-read : IsRead things step
  last-read = (All-pop (IsRead things) (path ++ step ∷ []) path (Some step) refl known.read).1

  -- it refers to a thing of the path
  pub found-circle : (i : ℕ) → Contains (references things step.thing) i → i < length things → state_of states i ≡ Open → IsOnCircle things i
  found-circle i refers within is =
      chain-circle things (things_on path) step.thing i (chain (things_on path) path-push) (subst (λ l. Contains l i) on-push (known.on_path i is)) refers within
    where
      chain : (xs : List ℕ) → IsPath things (xs ++ step.thing ∷ []) → IsChain things (xs ++ step.thing ∷ [])
      chain [] p = p
      chain (x ∷ xs) p = p

  -- it refers to a new thing
  pub begun-next : (i : ℕ) → Contains (references things step.thing) i → i < length things → state_of states i ≡ New
      → IsSearched things (set states i Open) ((path ++ step ∷ []) ++ at_first i ∷ [])
  begun-next i refers within new = begun things states (path ++ step ∷ []) i within new (subst (λ l. IsPath things (l ++ i ∷ [])) (sym on-push) (longer (things_on path) path-push)) known
    where
      longer : (xs : List ℕ) → IsPath things (xs ++ step.thing ∷ []) → IsPath things ((xs ++ step.thing ∷ []) ++ i ∷ [])
      longer [] p = chain-more things [] step.thing i p refers within
      longer (x ∷ xs) p = chain-more things (x ∷ xs) step.thing i p refers within

  -- one more of its references is passed
  pub passed : (next : Step) → next.thing ≡ step.thing → IsRead things next → IsSearched things states (path ++ next ∷ [])
  passed next same read = record {
    count = known.count;
    done = known.done;
    on_path = λ i is. subst (λ l. Contains l i) on (known.on_path i is);
    read = All-push (IsRead things) path next (All-pop (IsRead things) (path ++ step ∷ []) path (Some step) refl known.read).0 read;
    linked = subst (IsPath things) on known.linked;
  }
    where
      on : things_on (path ++ step ∷ []) ≡ things_on (path ++ next ∷ [])
      on = on-push ∙ ap (λ i. things_on path ++ i ∷ []) (sym same) ∙ sym (map_push (λ s. s.thing) path next)

  pub left-passed : (next : Step) → next.thing ≡ step.thing → step.passed < length (references things step.thing) → next.passed ≡ step.passed + 1
      → left things states (path ++ next ∷ []) < left things states (path ++ step ∷ [])
  left-passed next same below one_more =
      let e = sum_by_push (left_of things) path step in
      let f = sum_by_push (left_of things) path next in
      let g : length (references things next.thing) ≡ length (references things step.thing) = ap (λ i. length (references things i)) same in
      omega (arith, e, f, g)

  -- it is done
  pub finished : (size : Size) → HaveSize things (step.thing ∷ []) size → IsSearched things (set states step.thing (Done size)) path
  finished size has = record {
    count = length-set states step.thing (Done size) ∙ known.count;
    done = λ i other is. elim (cases_eq i step.thing) [
      | inl same ↦ (let here : Done size ≡ Done other = sym (get_or-set_same states step.thing (Done size) New inside) ∙ ap (state_of (set states step.thing (Done size))) (sym same) ∙ is in
          let e : size ≡ other = cc in
          subst (λ k. HaveSize things (k ∷ []) other) (sym same) (subst (HaveSize things (step.thing ∷ [])) e has))
      | inr apart ↦ known.done i other (sym (get_or-set_other states step.thing i (Done size) New apart) ∙ is)
    ];
    on_path = λ i is. elim (cases_eq i step.thing) [
      | inl same ↦ absurd (let e : Done size ≡ Open = sym (get_or-set_same states step.thing (Done size) New inside) ∙ ap (state_of (set states step.thing (Done size))) (sym same) ∙ is in cc)
      | inr apart ↦ elim (Contains-push_cases (things_on path) step.thing i (subst (λ l. Contains l i) on-push (known.on_path i (sym (get_or-set_other states step.thing i (Done size) New apart) ∙ is)))) [
        | inl among ↦ among
        | inr same ↦ absurd (apart (sym same))
      ]
    ];
    read = (All-pop (IsRead things) (path ++ step ∷ []) path (Some step) refl known.read).0;
    linked = path-front things (things_on path) step.thing path-push;
  }
    where
      inside : step.thing < length states
      inside = let e = known.count in let r = last-read.within in omega (arith, e, r)

  pub left-finished : (size : Size) → left things (set states step.thing (Done size)) path < left things states (path ++ step ∷ [])
  left-finished size =
      let e = sum_by_push (left_of things) path step in
      let f = left_new-done things states step.thing size in
      let r = last-read.passed in
      omega (arith, e, f, r)

-- ---- the next reference of the last thing, as the code reads it

pub record ReadsNext (things : List Thing) (states : List State) (step : Step) (next : ℕ) : Type 0 where
  pub below : step.passed < length (references things step.thing)
  pub is : next ≡ get_or (references things step.thing) step.passed next
  pub refers : Contains (references things step.thing) next
  pub within : next < length things
  pub inside : next < length states

pub reads-next : (things : List Thing) (states : List State) (path : List Step) (step : Step) → AreComplete things → IsSearched things states (path ++ step ∷ [])
    → (thing : Thing) (count next : ℕ) → thing ≡ get_or things step.thing thing → count ≡ length thing.references → (step.passed ≡ count → ⊥)
    → next ≡ get_or thing.references step.passed next → ReadsNext things states step next
reads-next things states path step complete known thing count next thing_is count-is not_all next_is =
    let read = last-read things states path step known in
    let refers = references-read things step.thing thing read.within thing_is in
    let below : step.passed < length (references things step.thing) = (let e = ap length refers in let f = read.passed in omega (arith, e, f)) in
    let is : next ≡ get_or (references things step.thing) step.passed next = next_is ∙ ap (λ l. get_or l step.passed next) (sym refers) in
    let among = next-refers things step read next below is in
    let within = refers-within things complete step.thing next among in
    record {
      below = below;
      is = is;
      refers = among;
      within = within;
      inside = (let e = known.count in omega (arith, e));
    }
