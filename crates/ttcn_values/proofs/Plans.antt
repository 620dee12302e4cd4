-- Steps that are written down for templates.
use Rattle.std.proofs.Common.{◌≡◌, ◌<◌, Bool, true, false, ◌||◌, nat_eq, if◌then◌else◌, ℕ, List, [], ◌∷◌, ◌++◌, Option, Some, None, is_some, Result, Ok, Err, get_or, length, map, refl, sym, ap, subst, ◌∙◌, arith}
use Rattle.std.proofs.Math.ListN.{length-map}
use Rattle.std.proofs.lemmas.Bool.{eqb-true}
use Rattle.std.proofs.lemmas.Slice.Zip.{length-zip}
use Rattle.std.specs.List.{zip}
use Rattle.std.specs.Result.{IsErrAnd}
use Rattle.ttcn_syntax.specs.declared.tree.definition.Field.{Field}
use Rattle.ttcn_values.proofs.BuildingLemmas.{AreSoMany, each-many, last-behind, mapped_at, one-after-assoc, steps-more}
use Rattle.ttcn_values.specs.internal.Building.{Build, Builds, Plans, after_step, after_steps, alone, last_as, one_after, with_more}
use Rattle.value_types.specs.Outcomes.{Fails, Gives, GivesBy, Outcome, Yields, each, outcome_and_then, outcome_map, unmet, value_in}
use Rattle.value_types.specs.Readings.{Reading}
use Rattle.value_types.specs.Templates.{Wanted, element, in_order, plain, record_at, with_ifpresent}
use Rattle.value_types.specs.declared.fault.Fault.{Fault}
use Rattle.value_types.specs.declared.fault.Fault.TheVariants.{Dynamic, Memory}
use Rattle.ttcn_values.specs.declared.reader.Step.{Step}
use Rattle.ttcn_values.specs.declared.reader.Step.TheVariants as step
use Rattle.value_types.specs.declared.template.Pattern.{Pattern}
use Rattle.value_types.specs.declared.template.Pattern.TheVariants as pattern
use Rattle.value_types.specs.declared.template.Template.{Template}
use Rattle.value_types.specs.declared.value.Value.{Value}

-- ---- faults

pub and-then-fault : {A B : Type 0} (f : A → Outcome B) (o : Outcome A) → value_in o ≡ None → value_in (outcome_and_then f o) ≡ None
and-then-fault f (Yields a) none = absurd (let e = none in cc)
and-then-fault f (Fails why) none = refl

pub map-none : {A B : Type 0} (f : A → B) (o : Outcome A) → value_in o ≡ None → value_in (outcome_map f o) ≡ None
map-none f (Yields a) none = absurd (let e = none in cc)
map-none f (Fails why) none = refl

pub none-of-map : {A B : Type 0} (f : A → B) (o : Outcome A) → value_in (outcome_map f o) ≡ None → value_in o ≡ None
none-of-map f (Yields a) none = absurd (let e = none in cc)
none-of-map f (Fails why) none = refl

module _ (reading : Reading) (old new : List Step) where
  -- what fails where a part fails has a plan that fails as the part's does
  pub plans-fault : (o : Outcome (List Template)) (fault : Fault) (r : Result (Unit {0}) Fault) → IsErrAnd r (λ e. e ≡ fault) → (fault ≡ Dynamic → value_in o ≡ None) → Plans reading o old new r
  plans-fault o fault (Ok done) is so = absurd is
  plans-fault o fault (Err Dynamic) is so = so (sym is)
  plans-fault o fault (Err Memory) is so = tt

  pub none-planned : (o : Outcome (List Template)) (fault : Fault) → Plans reading o old new (Err fault) → fault ≡ Dynamic → value_in o ≡ None
  none-planned o Dynamic planned is = planned
  none-planned o Memory planned is = absurd (let e = is in cc)

  pub plans-same : (o p : Outcome (List Template)) (r : Result (Unit {0}) Fault) → o ≡ p → Plans reading p old new r → Plans reading o old new r
  plans-same o p r same planned = subst (λ o. Plans reading o old new r) (sym same) planned

  -- ---- one more step

  one-step : (s : Step) → new ≡ old ++ s ∷ [] → after_steps reading new ≡ one_after (after_steps reading old) (after_step reading s)
  one-step s is = ap (after_steps reading) is ∙ steps-more reading old s

  pub plain-step : (p : Pattern) (o : Outcome Template) → new ≡ old ++ step.Plain p ∷ [] → o ≡ Yields (plain p)
      → after_steps reading new ≡ one_after (after_steps reading old) (with_more (outcome_map alone o))
  plain-step p o is gives = one-step (step.Plain p) is ∙ ap (λ o. one_after (after_steps reading old) (with_more (outcome_map alone o))) (sym gives)

  pub call-step : (at : ℕ) (values : List Value) (o : Outcome Template) → new ≡ old ++ step.Call at values ∷ [] → o ≡ reading.templates at values
      → after_steps reading new ≡ one_after (after_steps reading old) (with_more (outcome_map alone o))
  call-step at values o is gives = one-step (step.Call at values) is ∙ ap (λ o. one_after (after_steps reading old) (with_more (outcome_map alone o))) (sym gives)

  -- parts that become one
  pub gather-step : (mid : List Step) (s : Step) (make : List Template → List Template) (n : ℕ) (ts o : Outcome (List Template))
      → after_steps reading mid ≡ one_after (after_steps reading old) (with_more ts) → new ≡ mid ++ s ∷ [] → after_step reading s ≡ last_as make n → AreSoMany n ts → outcome_map make ts ≡ o
      → after_steps reading new ≡ one_after (after_steps reading old) (with_more o)
  gather-step mid s make n ts o before is last many made =
      ap (after_steps reading) is ∙ steps-more reading mid s ∙ ap (one_after (after_steps reading mid)) last
      ∙ ap (λ f. one_after f (last_as make n)) before
      ∙ one-after-assoc (after_steps reading old) (with_more ts) (last_as make n)
      ∙ ap (one_after (after_steps reading old)) (last-behind make n ts many)
      ∙ ap (λ o. one_after (after_steps reading old) (with_more o)) made

pub none-given : {A : Type 0} (o : Outcome A) (fault : Fault) → Gives o (Err fault) → fault ≡ Dynamic → value_in o ≡ None
none-given o Dynamic given is = given
none-given o Memory given is = absurd (let e = is in cc)

pub none-given-by : {A B : Type 0} (f : B → A) (o : Outcome A) (fault : Fault) → GivesBy f o (Err fault) → fault ≡ Dynamic → value_in o ≡ None
none-given-by f o Dynamic given is = given
none-given-by f o Memory given is = absurd (let e = is in cc)

-- what fails as a part does fails with that one's fault
pub gives-fault : {A : Type 0} (o : Outcome A) (fault : Fault) (r : Result A Fault) → IsErrAnd r (λ e. e ≡ fault) → (fault ≡ Dynamic → value_in o ≡ None) → Gives o r
gives-fault o fault (Ok a) is so = absurd is
gives-fault o fault (Err Dynamic) is so = so (sym is)
gives-fault o fault (Err Memory) is so = tt

pub gives-by-fault : {A B : Type 0} (f : B → A) (o : Outcome A) (fault : Fault) (r : Result B Fault) → IsErrAnd r (λ e. e ≡ fault) → (fault ≡ Dynamic → value_in o ≡ None) → GivesBy f o r
gives-by-fault f o fault (Ok a) is so = absurd is
gives-by-fault f o fault (Err Dynamic) is so = so (sym is)
gives-by-fault f o fault (Err Memory) is so = tt

pub none-built : (o : Outcome (List Template)) (new : List Template) (fault : Fault) → Builds o new (Err fault) → fault ≡ Dynamic → value_in o ≡ None
none-built o new Dynamic built is = built
none-built o new Memory built is = absurd (let e = is in cc)

-- ---- one template

alone-behind : (o : Outcome Template) → with_more (outcome_map alone o) [] ≡ outcome_map alone o
alone-behind (Yields t) = refl
alone-behind (Fails why) = refl

-- what steps leave that were planned for one template
pub planned-alone : (reading : Reading) (old new : List Step) (o : Outcome Template) → old ≡ [] → after_steps reading new ≡ one_after (after_steps reading old) (with_more (outcome_map alone o))
    → after_steps reading new [] ≡ outcome_map alone o
planned-alone reading old new o none planned =
    ap (λ (f : Build). f []) planned ∙ ap (λ steps. one_after (after_steps reading steps) (with_more (outcome_map alone o)) []) none ∙ alone-behind o

last_one : (u t : Template) (rest : List Template) → u ∷ [] ≡ rest ++ t ∷ [] → u ≡ t
last_one u t [] is = cc
last_one u t (r ∷ []) is = absurd (let e = is in cc)
last_one u t (r ∷ s ∷ rest) is = absurd (let e = is in cc)

pub alone-last : (o : Outcome Template) (ts rest : List Template) (t : Template) → outcome_map alone o ≡ Yields ts → ts ≡ rest ++ t ∷ [] → o ≡ Yields t
alone-last (Yields u) ts rest t is last = let same : u ∷ [] ≡ ts = cc in ap Yields (last_one u t rest (same ∙ last))
alone-last (Fails why) ts rest t is last = absurd (let e = is in cc)

pub alone-none : (o : Outcome Template) (ts : List Template) → outcome_map alone o ≡ Yields ts → length ts ≡ 0 → value_in o ≡ None
alone-none (Yields u) ts is none = let same : u ∷ [] ≡ ts = cc in absurd (omega (arith, ap length same, none))
alone-none (Fails why) ts is none = refl

-- what is made twice of the thing at a position
pub mapped-twice-at : {A B C : Type 0} (f : B → C) (g : A → B) (l : List A) (i : ℕ) (x : A) → i < length l → x ≡ get_or l i x → get_or (map f (map g l)) i (f (g x)) ≡ f (g x)
mapped-twice-at f g l i x within is =
    mapped_at f (map g l) i (g x) (f (g x)) (omega (arith, within, length-map l g)) (sym (mapped_at g l i x (g x) within is refl)) refl

-- ---- what parts give

pub map-map : {A B C : Type 0} (f : B → C) (g : A → B) (o : Outcome A) → outcome_map f (outcome_map g o) ≡ outcome_map (λ a. f (g a)) o
map-map f g (Yields a) = refl
map-map f g (Fails why) = refl

-- one template is one
pub alone-many : (o : Outcome Template) → AreSoMany 1 (outcome_map alone o)
alone-many (Yields t) = refl
alone-many (Fails why) = tt

pub mapped-many : {A : Type 0} (f : A → Outcome Template) (l : List A) → AreSoMany (length l) (each (map f l))
mapped-many f l = subst (λ n. AreSoMany n (each (map f l))) (length-map l f) (each-many (map f l))

pub mapped_twice-many : {A B : Type 0} (f : B → Outcome Template) (g : A → B) (l : List A) → AreSoMany (length l) (each (map f (map g l)))
mapped_twice-many f g l = subst (λ n. AreSoMany n (each (map f (map g l)))) (length-map l g) (mapped-many f (map g l))

-- as many as there are fields
pub in_order-many : (reading : Reading) (fields : List Field) (elements : List Wanted) → AreSoMany (length fields) (in_order reading fields elements)
in_order-many reading fields elements = go (nat_eq (length elements) (length fields)) refl
  where
    go : (b : Bool) → nat_eq (length elements) (length fields) ≡ b → AreSoMany (length fields) (if b then each (map (element reading) (zip fields elements)) else unmet)
    go true same =
        let as_long : length elements ≡ length fields = eqb-true (length elements) (length fields) same in
        let long : length (zip fields elements) ≡ length fields = omega (arith, length-zip fields elements, as_long) in
        subst (λ n. AreSoMany n (each (map (element reading) (zip fields elements)))) long (mapped-many (element reading) (zip fields elements))
    go false other = tt

-- with `ifpresent` behind it
pub present-made : (o p : Outcome Template) → outcome_map (with_ifpresent true) o ≡ p → outcome_map (map (with_ifpresent true)) (outcome_map alone o) ≡ outcome_map alone p
present-made o p is = go o ∙ ap (outcome_map alone) is
  where
    go : (o : Outcome Template) → outcome_map (map (with_ifpresent true)) (outcome_map alone o) ≡ outcome_map alone (outcome_map (with_ifpresent true) o)
    go (Yields t) = refl
    go (Fails why) = refl

or-false : (b : Bool) → (b || false) ≡ b
or-false true = refl
or-false false = refl

-- without it
pub without-ifpresent : (o : Outcome Template) → outcome_map (with_ifpresent false) o ≡ o
without-ifpresent (Yields t) = ap (λ b. Yields (record { pattern = t.pattern; ifpresent = b })) (or-false t.ifpresent)
without-ifpresent (Fails why) = refl

-- ---- records

module _ (r : Outcome ℕ) (at : ℕ) (parts : ℕ → Outcome (List Template)) (ts : Outcome (List Template)) (is : r ≡ Yields at) (same : parts at ≡ ts) where
  pub record-is : outcome_map (λ ps. alone (plain (pattern.Record at ps))) ts ≡ outcome_map alone (record_at r parts)
  record-is =
      ap (outcome_map (λ ps. alone (plain (pattern.Record at ps)))) (sym same)
      ∙ sym (map-map alone (λ ps. plain (pattern.Record at ps)) (parts at))
      ∙ ap (λ r. outcome_map alone (record_at r parts)) (sym is)

  pub record-none : value_in ts ≡ None → value_in (outcome_map alone (record_at r parts)) ≡ None
  record-none none = ap value_in (sym record-is) ∙ map-none (λ ps. alone (plain (pattern.Record at ps))) ts none

pub none-named : (o : Option ℕ) → is_some o ≡ false → o ≡ None
none-named None is = refl
none-named (Some at) is = absurd (let e = is in cc)
