-- How steps behind steps build.
use Rattle.std.proofs.Common.{◌≡◌, ◌≤◌, ◌<◌, true, ℕ, zero, suc, ◌+◌, ◌-◌, List, [], ◌∷◌, ◌++◌, drop, get_or, length, map, nat_le, take, if◌then◌else◌, Some, None, refl, sym, ap, ◌∙◌, arith}
use Rattle.std.proofs.lemmas.Grind.{take_at_read}
use Rattle.std.proofs.lemmas.List.{get_or-map, take_all, append_assoc, length-append}
use Rattle.std.proofs.lemmas.Bool.{le-leb}
use Rattle.std.proofs.Math.ListN.{length-map}
use Rattle.std.proofs.lemmas.Slice.Zip.{get_or-zip, length-zip}
use Rattle.std.specs.List.{zip}
use Rattle.std.proofs.Math.Seq.{drop-append_seam, take-append_seam}
use mathlib.Core.Path.{fun_ext}
use Rattle.value_types.specs.Outcomes.{Fails, Outcome, Yields, each, outcome_and_then, outcome_map, unmet, value_in}
use Rattle.ttcn_values.specs.internal.Building.{Build, after_step, after_steps, alone, last_as, one_after, with_more}
use Rattle.value_types.specs.Readings.{Reading}
use Rattle.ttcn_values.specs.declared.reader.Step.{Step}
use Rattle.value_types.specs.declared.template.Template.{Template}

take-one : {A : Type 0} (l : List A) (i : ℕ) (d : A) → i < length l → take (i + 1) l ≡ take i l ++ get_or l i d ∷ []
take-one l i d within = (take_at_read l i d within).1

and-then-yields : (o : Outcome (List Template)) → outcome_and_then (λ t. Yields t) o ≡ o
and-then-yields (Yields t) = refl
and-then-yields (Fails why) = refl

pub and-then-assoc : (f g : Build) (o : Outcome (List Template)) → outcome_and_then g (outcome_and_then f o) ≡ outcome_and_then (one_after f g) o
and-then-assoc f g (Yields t) = refl
and-then-assoc f g (Fails why) = refl

pub one-after-assoc : (f g h : Build) → one_after (one_after f g) h ≡ one_after f (one_after g h)
one-after-assoc f g h = fun_ext (λ t. and-then-assoc g h (f t))

-- both, one behind the other
abbrev pub both : Outcome (List Template) → Outcome (List Template) → Outcome (List Template)
both a b = outcome_and_then (λ xs. outcome_map (λ ys. xs ++ ys) b) a

with-both-at : (a b : Outcome (List Template)) (t : List Template) → one_after (with_more a) (with_more b) t ≡ with_more (both a b) t
with-both-at (Yields xs) (Yields ys) t = ap Yields (append_assoc t xs ys)
with-both-at (Yields xs) (Fails why) t = refl
with-both-at (Fails why) b t = refl

pub with-both : (a b : Outcome (List Template)) → one_after (with_more a) (with_more b) ≡ with_more (both a b)
with-both a b = fun_ext (with-both-at a b)

-- what each gives, and one more
pub each-more : (os : List (Outcome Template)) (o : Outcome Template) → each (os ++ o ∷ []) ≡ both (each os) (outcome_map alone o)
each-more [] (Yields t) = refl
each-more [] (Fails why) = refl
each-more (Yields t ∷ os) o = ap (outcome_map (λ others. t ∷ others)) (each-more os o) ∙ go (each os) o
  where
    go : (a : Outcome (List Template)) (b : Outcome Template) → outcome_map (λ others. t ∷ others) (both a (outcome_map alone b)) ≡ both (outcome_map (λ others. t ∷ others) a) (outcome_map alone b)
    go (Yields xs) (Yields y) = refl
    go (Yields xs) (Fails why) = refl
    go (Fails why) b = refl
each-more (Fails why ∷ os) o = refl

abbrev pub AreSoMany : ℕ → Outcome (List Template) → Type 0
AreSoMany n (Yields ts) = length ts ≡ n
AreSoMany n (Fails why) = Unit {0}

many-more : (t : Template) (n : ℕ) (o : Outcome (List Template)) → AreSoMany n o → AreSoMany (suc n) (outcome_map (λ others. t ∷ others) o)
many-more t n (Yields ts) many = ap suc many
many-more t n (Fails why) many = tt

pub each-many : (os : List (Outcome Template)) → AreSoMany (length os) (each os)
each-many [] = refl
each-many (Yields t ∷ os) = many-more t (length os) (each os) (each-many os)
each-many (Fails why ∷ os) = tt

-- where one fails, all do
pub each-none : (os : List (Outcome Template)) (i : ℕ) (o : Outcome Template) → i < length os → get_or os i o ≡ o → value_in o ≡ None → value_in (each os) ≡ None
each-none [] i o within is none = absurd (omega (arith, within))
each-none (Fails why ∷ os) i o within is none = refl
each-none (Yields t ∷ os) zero o within is none = absurd (let e : Yields t ≡ o = is in let f : value_in o ≡ Some t = ap value_in (sym e) in cc)
each-none (Yields t ∷ os) (suc i) o within is none = go (each os) (each-none os i o (omega (arith, within)) is none)
  where
    go : (a : Outcome (List Template)) → value_in a ≡ None → value_in (outcome_map (λ others. t ∷ others) a) ≡ None
    go (Yields xs) none = absurd (let e = none in cc)
    go (Fails why) none = refl

-- the last so many of those that were put there
last-at : (make : List Template → List Template) (t xs : List Template) (n : ℕ) → length xs ≡ n → last_as make n (t ++ xs) ≡ Yields (t ++ make xs)
last-at make t xs n many =
    let long : length (t ++ xs) ≡ length t + n = length-append t xs ∙ ap (λ m. length t + m) many in
    let enough : nat_le n (length (t ++ xs)) ≡ true = le-leb n (length (t ++ xs)) (omega (arith, long)) in
    let start : length (t ++ xs) - n ≡ length t = omega (arith, long) in
    ap (λ b. if b then Yields (take (length (t ++ xs) - n) (t ++ xs) ++ make (drop (length (t ++ xs) - n) (t ++ xs))) else unmet) enough
    ∙ ap (λ k. Yields (take k (t ++ xs) ++ make (drop k (t ++ xs)))) start
    ∙ ap (λ us. Yields (us ++ make (drop (length t) (t ++ xs)))) (take-append_seam t xs)
    ∙ ap (λ us. Yields (t ++ make us)) (drop-append_seam t xs)

pub last-behind : (make : List Template → List Template) (n : ℕ) (o : Outcome (List Template)) → AreSoMany n o → one_after (with_more o) (last_as make n) ≡ with_more (outcome_map make o)
last-behind make n (Yields xs) many = fun_ext (λ t. last-at make t xs n many)
last-behind make n (Fails why) many = refl

module _ (reading : Reading) where
  pub steps-append_at : (xs ys : List Step) (t : List Template) → after_steps reading (xs ++ ys) t ≡ outcome_and_then (after_steps reading ys) (after_steps reading xs t)
  steps-append_at [] ys t = refl
  steps-append_at (x ∷ xs) ys t = go (steps-append_at xs ys) (after_step reading x t)
    where
      go : ((u : List Template) → after_steps reading (xs ++ ys) u ≡ outcome_and_then (after_steps reading ys) (after_steps reading xs u)) → (o : Outcome (List Template))
          → outcome_and_then (after_steps reading (xs ++ ys)) o ≡ outcome_and_then (after_steps reading ys) (outcome_and_then (after_steps reading xs) o)
      go rest (Yields u) = rest u
      go rest (Fails why) = refl

  alone-step : (s : Step) → after_steps reading (s ∷ []) ≡ after_step reading s
  alone-step s = fun_ext (λ t. and-then-yields (after_step reading s t))

  -- one more step
  pub steps-more : (steps : List Step) (s : Step) → after_steps reading (steps ++ s ∷ []) ≡ one_after (after_steps reading steps) (after_step reading s)
  steps-more steps s = fun_ext (λ t. steps-append_at steps (s ∷ []) t) ∙ ap (one_after (after_steps reading steps)) (alone-step s)

-- ---- loops that write down the steps of one after the other

module _ (os : List (Outcome Template)) (f g : Build) (i : ℕ) (before : g ≡ one_after f (with_more (each (take i os)))) where
  -- one more
  pub loop-next : (h : Build) (o : Outcome Template) → i < length os → get_or os i o ≡ o → h ≡ one_after g (with_more (outcome_map alone o)) → h ≡ one_after f (with_more (each (take (i + 1) os)))
  loop-next h o within is next =
      next ∙ ap (λ g. one_after g (with_more (outcome_map alone o))) before
      ∙ one-after-assoc f (with_more (each (take i os))) (with_more (outcome_map alone o))
      ∙ ap (one_after f) (with-both (each (take i os)) (outcome_map alone o))
      ∙ ap (λ m. one_after f (with_more m)) (sym (each-more (take i os) o))
      ∙ ap (λ l. one_after f (with_more (each (take i os ++ l ∷ [])))) (sym is)
      ∙ ap (λ l. one_after f (with_more (each l))) (sym (take-one os i o within))

  -- behind the last
  pub loop-last : length os ≤ i → g ≡ one_after f (with_more (each os))
  loop-last past = before ∙ ap (λ l. one_after f (with_more (each l))) (take_all i os past)

-- what the thing at a position gives
pub mapped_at : {A B : Type 0} (f : A → B) (l : List A) (i : ℕ) (x : A) (b : B) → i < length l → x ≡ get_or l i x → f x ≡ b → get_or (map f l) i b ≡ b
mapped_at f l i x b within is gives = get_or-map f l i x b within ∙ ap f (sym is) ∙ gives

-- what the things at a position of two lists give together
pub paired-at : {A B C D : Type 0} (f : A × D → C) (g : B → D) (l : List A) (m : List B) (i : ℕ) (x : A) (y : B) (c : C) → i < length l → i < length m
    → x ≡ get_or l i x → y ≡ get_or m i y → f (x, g y) ≡ c → get_or (map f (zip l (map g m))) i c ≡ c
paired-at f g l m i x y c within_l within_m is_l is_m gives =
    let within : i < length (map g m) = omega (arith, within_m, length-map m g) in
    get_or-map f (zip l (map g m)) i (x, g y) c (omega (arith, within_l, within, length-zip l (map g m)))
    ∙ ap f (get_or-zip l (map g m) i (x, g y) within_l within ∙ ap (λ a. (a, get_or (map g m) i (g y))) (sym is_l) ∙ ap (λ d. (x, d)) (mapped_at g m i y (g y) within_m is_m refl))
    ∙ gives

pub paired-length : {A B C D : Type 0} (f : A × D → C) (g : B → D) (l : List A) (m : List B) → length m ≡ length l → length (map f (zip l (map g m))) ≡ length l
paired-length f g l m as_long = omega (arith, length-map (zip l (map g m)) f, length-zip l (map g m), length-map m g, as_long)
