-- Steps of which some states are left out, one by one and all together.
use Rattle.std.proofs.Common.{◌≡◌, Bool, true, false, ℕ, zero, suc, ◌+◌, ◌<◌, List, [], ◌∷◌, ◌++◌, map, take, length, get_or, Option, Some, None, refl, sym, ap, subst, ◌∙◌}
use Rattle.std.proofs.lemmas.List.{append_assoc, map_push, take_more}
use Rattle.std.proofs.lemmas.Slice.Zip.{all_zipped_more}
use Rattle.std.specs.List.{AllZip, flat_map}
use Rattle.std.specs.Prelude.{IfSome}
use Rattle.config_packed.specs.Pieces.{has_mappings}
use Rattle.config_parts.specs.declared.config.Config.{Config}
use Rattle.config_parts.specs.declared.config.Config.TheVariants as config
use Rattle.config_parts.specs.declared.config.Going.{Going}
use Rattle.search_ordinals.specs.Ordinals.{with_branch}
use Rattle.semantics.specs.Canonical.{canonical_graph}
use Rattle.semantics.specs.Configurations as rules
use Rattle.semantics.specs.Labels.{labels}
use Rattle.semantics.specs.Places.{branch_of}
use Rattle.semantics.specs.Steps.{Label}
use Rattle.summary.specs.Graph.{Graph}
use Rattle.ttcn_step.specs.Machines.{Machine, said}
use Rattle.ttcn_syntax.specs.declared.place.Span.{Span}
use Rattle.ttcnx_runs.proofs.Recalled.{all-steps}
use Rattle.ttcnx_runs.specs.Remembered.{steps_of}
use Rattle.search_ordinals.specs.Sparing.{IsEarly, IsSparedAt}
use Rattle.search_ordinals.specs.Told.{IsNth}
use Rattle.ttcnx_runs.specs.internal.Spared.{IsLeft, IsSpared}

-- one more step of a component
pub zipped-more : {A S T : Type 0} (R : S → T → Type 0) (f : A → S) (xs : List A) (i : ℕ) (x : A) (y : T) (start : List S) (old new : List T) → i < length xs → x ≡ get_or xs i x
    → AllZip R (start ++ map f (take i xs)) old → new ≡ old ++ y ∷ [] → R (f x) y → AllZip R (start ++ map f (take (i + 1) xs)) new
zipped-more R f xs i x y start old new below is before pushed fits =
    subst (λ zs. AllZip R (start ++ map f zs) new) (sym (take_more xs i x below ∙ ap (λ z. take i xs ++ z ∷ []) (sym is)))
    (subst (λ ss. AllZip R ss new) (append_assoc start (map f (take i xs)) (f x ∷ []) ∙ ap (λ zs. start ++ zs) (sym (map_push f (take i xs) x)))
    (subst (λ ts. AllZip R ((start ++ map f (take i xs)) ++ f x ∷ []) ts) (sym pushed)
    (all_zipped_more R (start ++ map f (take i xs)) old (f x) y before fits)))

module _ {B : Type 0} (branch : rules.Configuration → Label → Option B) (g : Graph rules.Configuration Label) (before : rules.Configuration) (nth : ℕ) (state : rules.Configuration) where
  one-spared : (label : Label) (p : Option B × Option rules.Configuration) → IsSpared g before nth (branch state label, g.after state label) p → IsSparedAt branch g before nth state label p
  one-spared label (b, Some after) is = is
  one-spared label (b, None) is = is

  -- what is spared of steps is spared of their labels
  pub all-spared : (ls : List Label) (ps : List (Option B × Option rules.Configuration)) → AllZip (IsSpared g before nth) (with_branch branch g state ls) ps → AllZip (IsSparedAt branch g before nth state) ls ps
  all-spared [] [] is = is
  all-spared [] (p ∷ ps) is = is
  all-spared (l ∷ ls) [] is = is
  all-spared (l ∷ ls) (p ∷ ps) is = (one-spared l p is.0, all-spared ls ps is.1)

  -- where no state is left out
  pub none-spared : (ls : List Label) → AllZip (IsSparedAt branch g before nth state) ls (map (λ p. (p.0, Some p.1)) (with_branch branch g state ls))
  none-spared [] = tt
  none-spared (l ∷ ls) = ((refl, refl), none-spared ls)

-- a state that is left out of those of a component is early
pub one-left : {B : Type 0} (g : Graph rules.Configuration Label) (before : rules.Configuration) (nth : ℕ) (early : Bool) (step : Option B × rules.Configuration) (b : Option B) (after : Option rules.Configuration)
    → b ≡ step.0 → IsLeft early step.1 after → (early ≡ true → IsEarly g before nth step.1) → IsSpared g before nth step (b, after)
one-left g before nth early step b None branch left is = (branch, is left)
one-left g before nth early step b (Some after) branch left is = (branch, left)

-- what is spared of the steps of all components is spared of all labels, where no system port is mapped
pub whole-spared : (machine : Machine) (before whole : Config) (b g : Going) (nth : ℕ) (ps : List (Option Span × Option rules.Configuration)) → before ≡ config.Going b → whole ≡ config.Going g → has_mappings g.links ≡ false
    → AllZip (IsSpared (canonical_graph machine.test) (said machine (config.Going b)) nth) (flat_map (steps_of machine g) g.components) ps
    → AllZip (IsSparedAt (branch_of machine.test) (canonical_graph machine.test) (said machine before) nth (said machine whole)) (labels machine.test (said machine whole)) ps
whole-spared machine before whole b g nth ps before-is whole-is none zipped =
    subst (λ (c : Config). AllZip (IsSparedAt (branch_of machine.test) (canonical_graph machine.test) (said machine c) nth (said machine whole)) (labels machine.test (said machine whole)) ps) (sym before-is)
    (subst (λ (c : Config). AllZip (IsSparedAt (branch_of machine.test) (canonical_graph machine.test) (said machine (config.Going b)) nth (said machine c)) (labels machine.test (said machine c)) ps) (sym whole-is)
    (all-spared (branch_of machine.test) (canonical_graph machine.test) (said machine (config.Going b)) nth (said machine (config.Going g)) (labels machine.test (said machine (config.Going g))) ps
    (subst (λ ss. AllZip (IsSpared (canonical_graph machine.test) (said machine (config.Going b)) nth) ss ps) (all-steps machine g none) zipped)))

-- ---- steps by their numbers

pub zipped-long : {S T : Type 0} (R : S → T → Type 0) (xs : List S) (ys : List T) → AllZip R xs ys → length xs ≡ length ys
zipped-long R [] [] zipped = refl
zipped-long R [] (y ∷ ys) zipped = absurd zipped
zipped-long R (x ∷ xs) [] zipped = absurd zipped
zipped-long R (x ∷ xs) (y ∷ ys) zipped = ap suc (zipped-long R xs ys zipped.1)

zipped-at : {S T : Type 0} (R : S → T → Type 0) (xs : List S) (ys : List T) (n : ℕ) (x : S) (y : T) → AllZip R xs ys → IsNth xs n x → IsNth ys n y → R x y
zipped-at R [] ys n x y zipped one other = absurd one
zipped-at R (a ∷ xs) [] n x y zipped one other = absurd other
zipped-at R (a ∷ xs) (b ∷ ys) zero x y zipped one other = subst (λ c. R c y) one (subst (R a) other zipped.0)
zipped-at R (a ∷ xs) (b ∷ ys) (suc n) x y zipped one other = zipped-at R xs ys n x y zipped.1 one other

-- where a state isn't left out, the step of the label of this number leads there
pub leads-at : {B : Type 0} (branch : rules.Configuration → Label → Option B) (g : Graph rules.Configuration Label) (before : rules.Configuration) (nth : ℕ) (state : rules.Configuration)
    (ls : List Label) (ps : List (Option B × Option rules.Configuration)) (number : ℕ) (label : Label) (p : Option B × Option rules.Configuration)
    → AllZip (IsSparedAt branch g before nth state) ls ps → IsNth ls number label → IsNth ps number p → IfSome p.1 (λ after. after ≡ g.after state label)
leads-at {B = B} branch g before nth state ls ps number label p zipped one other = told p (zipped-at (IsSparedAt branch g before nth state) ls ps number label p zipped one other)
  where
    told : (q : Option B × Option rules.Configuration) → IsSparedAt branch g before nth state label q → IfSome q.1 (λ after. after ≡ g.after state label)
    told (b, None) is = tt
    told (b, Some after) is = is.1
