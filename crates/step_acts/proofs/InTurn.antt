-- Values that go to targets one after the other.
use Rattle.std.proofs.Common.{◌≡◌, refl, sym, ap, subst, ◌∙◌, List, [], ◌∷◌, ◌++◌, map, append_assoc}
use Rattle.std.proofs.lemmas.List.{map-append}
use Rattle.std.proofs.lemmas.List.Elements.{All-head, All-tail}
use Rattle.std.specs.List.{All}
use Rattle.step_acts.specs.internal.Takings.{stored_all}
use Rattle.semantics.specs.Configurations.{Data}
use Rattle.semantics.specs.Items.{Target}
use Rattle.semantics.specs.Snapshots.{Test}
use Rattle.semantics.specs.Storing.{store}
use Rattle.value_types.specs.Outcomes.{Failure, Fails, Outcome, Yields, outcome_and_then}
use Rattle.value_types.specs.declared.value.Value.{Value}

-- what holds of all holds of one among them
all-at : {A : Type 0} (P : A → Type 0) (before more : List A) (x : A) → All P (before ++ x ∷ more) → P x
all-at P [] more x all = All-head P x more all
all-at P (b ∷ before) more x all = all-at P before more x (All-tail P b (before ++ x ∷ more) all)

pub holds-of : {A : Type 0} (P : A → Type 0) (items before rest more : List A) (x : A) → items ≡ before ++ rest → rest ≡ x ∷ more → All P items → P x
holds-of P items before rest more x split here all = all-at P before more x (subst (All P) (split ∙ ap (λ r. before ++ r) here) all)

-- one more has come
pub split-on : {A : Type 0} (items before rest more : List A) (x : A) → items ≡ before ++ rest → rest ≡ x ∷ more → items ≡ (before ++ x ∷ []) ++ more
split-on items before rest more x split here = split ∙ ap (λ r. before ++ r) here ∙ sym (append_assoc before (x ∷ []) more)

after : {A B C : Type 0} (f : A → Outcome C) (g : A → Outcome B) (h : B → Outcome C) (o : Outcome A) → ((a : A) → f a ≡ outcome_and_then h (g a))
    → outcome_and_then f o ≡ outcome_and_then h (outcome_and_then g o)
after f g h (Yields a) each = each a
after f g h (Fails why) each = refl

-- first some, and then the others
stored-split : (test : Test) (xs ys : List (Target × Value)) (own : Data) → stored_all test (xs ++ ys) own ≡ outcome_and_then (stored_all test ys) (stored_all test xs own)
stored-split test [] ys own = refl
stored-split test (x ∷ xs) ys own = after (stored_all test (xs ++ ys)) (stored_all test xs) (stored_all test ys) (store test x.0 x.1 own) (λ d. stored-split test xs ys d)

module _ {A : Type 0} (test : Test) (by : A → Target × Value) (before : List A) (one : A) (own now : Data) (so-far : stored_all test (map by before) own ≡ Yields now) where
  with-more : (more : List A) → stored_all test (map by (before ++ one ∷ more)) own ≡ outcome_and_then (stored_all test (map by more)) (store test (by one).0 (by one).1 now)
  with-more more =
      ap (λ l. stored_all test l own) (map-append by before (one ∷ more)) ∙ stored-split test (map by before) (by one ∷ map by more) own
      ∙ ap (outcome_and_then (stored_all test (by one ∷ map by more))) so-far

  pub one-stored : (next : Data) → store test (by one).0 (by one).1 now ≡ Yields next → stored_all test (map by (before ++ one ∷ [])) own ≡ Yields next
  one-stored next is = with-more [] ∙ ap (outcome_and_then (stored_all test [])) is

  pub one-fails : (items rest more : List A) (why : Failure) → items ≡ before ++ rest → rest ≡ one ∷ more → store test (by one).0 (by one).1 now ≡ Fails why → stored_all test (map by items) own ≡ Fails why
  one-fails items rest more why split here fails =
      ap (λ (l : List A). stored_all test (map by l) own) (split ∙ ap (λ r. before ++ r) here) ∙ with-more more ∙ ap (outcome_and_then (stored_all test (map by more))) fails
