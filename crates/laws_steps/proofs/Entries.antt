-- Entries by name: what is found behind a put, and where a name has nothing any more.
use Rattle.std.proofs.Common.{◌≡◌, ℕ, Bool, true, false, not, List, [], ◌∷◌, Option, Some, None, bytes_eq, option_map, refl, sym, ap, ◌∙◌, if◌then◌else◌}
use Rattle.std.specs.List.{find}
use Rattle.std.specs.Ordering.{is_eq, match_ordering, ordering_reverse}
use Rattle.std.specs.declared.cmp.Ordering.{Ordering}
use Rattle.std.specs.declared.cmp.Ordering.TheVariants.{Less, Equal, Greater}
use Rattle.std.proofs.lemmas.Cmp.{nat_list_cmp_total}
use Rattle.std.proofs.lemmas.Map.Text.{is_eq-slice_cmp}
use Rattle.std.proofs.lemmas.Slice.Eq.{bytes_eq-Decides}
use Rattle.semantics.specs.Entries.{Entries, name_cmp, put, without}
use Rattle.value_types.specs.Frames.{entry}

pub turned : (name other : List ℕ) (o : Ordering) → name_cmp name other ≡ o → name_cmp other name ≡ ordering_reverse o
turned name other o is = nat_list_cmp_total.antisymm other name ∙ ap ordering_reverse is

skipped : {A : Type 0} (name : List ℕ) (d : List ℕ × A) (o : Option (List ℕ × A)) → bytes_eq d.0 name ≡ false → option_map (λ e. e.1) (if bytes_eq d.0 name then Some d else o) ≡ option_map (λ e. e.1) o
skipped name d o other = ap (λ b. option_map (λ e. e.1) (if b then Some d else o)) other

alike-first : {A : Type 0} (b : Bool) (d : List ℕ × A) (o p : Option (List ℕ × A)) → option_map (λ e. e.1) o ≡ option_map (λ e. e.1) p
    → option_map (λ e. e.1) (if b then Some d else o) ≡ option_map (λ e. e.1) (if b then Some d else p)
alike-first true d o p same = refl
alike-first false d o p same = same

-- another name, in the words of a test
other-name : (name other x : List ℕ) → name_cmp name other ≡ Equal → bytes_eq name x ≡ false → bytes_eq other x ≡ false
other-name name other x equal differs =
    let same : name ≡ other = (bytes_eq-Decides name other).0 (sym (is_eq-slice_cmp name other) ∙ ap is_eq equal) in
    ap (λ n. bytes_eq n x) (sym same) ∙ differs

entry-first : {A : Type 0} (name x : List ℕ) (a : A) (e : List ℕ × A) (es : Entries A) (o : Ordering) → name_cmp name e.0 ≡ o → bytes_eq name x ≡ false → entry (put name a es) x ≡ entry es x
    → entry (match_ordering o ((name, a) ∷ e ∷ es) ((name, a) ∷ es) (e ∷ put name a es)) x ≡ entry (e ∷ es) x
entry-first name x a e es Less is differs rest = skipped x (name, a) (find (λ d. bytes_eq d.0 x) (e ∷ es)) differs
entry-first name x a e es Equal is differs rest =
    skipped x (name, a) (find (λ d. bytes_eq d.0 x) es) differs ∙ sym (skipped x e (find (λ d. bytes_eq d.0 x) es) (other-name name e.0 x is differs))
entry-first name x a e es Greater is differs rest =
    alike-first (bytes_eq e.0 x) e (find (λ d. bytes_eq d.0 x) (put name a es)) (find (λ d. bytes_eq d.0 x) es) rest

-- another name has what it had
pub put-other : {A : Type 0} (name x : List ℕ) (a : A) → bytes_eq name x ≡ false → (es : Entries A) → entry (put name a es) x ≡ entry es x
put-other name x a differs [] = skipped x (name, a) None differs
put-other name x a differs (e ∷ es) = entry-first name x a e es (name_cmp name e.0) refl differs (put-other name x a differs es)

found-first : {A : Type 0} (name : List ℕ) (a : A) (o : Option (List ℕ × A)) → option_map (λ e. e.1) (if bytes_eq name name then Some (name, a) else o) ≡ Some a
found-first name a o = ap (λ b. option_map (λ e. e.1) (if b then Some (name, a) else o)) ((bytes_eq-Decides name name).1 refl)

above-not : (name other : List ℕ) (b : Bool) → bytes_eq other name ≡ b → name_cmp name other ≡ Greater → bytes_eq other name ≡ false
above-not name other false is greater = is
above-not name other true is greater =
    absurd (let equal : true ≡ false = sym is ∙ sym (is_eq-slice_cmp other name) ∙ ap is_eq (turned name other Greater greater) in cc)

own-first : {A : Type 0} (name : List ℕ) (a : A) (e : List ℕ × A) (es : Entries A) (o : Ordering) → name_cmp name e.0 ≡ o → entry (put name a es) name ≡ Some a
    → entry (match_ordering o ((name, a) ∷ e ∷ es) ((name, a) ∷ es) (e ∷ put name a es)) name ≡ Some a
own-first name a e es Less is rest = found-first name a (find (λ d. bytes_eq d.0 name) (e ∷ es))
own-first name a e es Equal is rest = found-first name a (find (λ d. bytes_eq d.0 name) es)
own-first name a e es Greater is rest =
    skipped name e (find (λ d. bytes_eq d.0 name) (put name a es)) (above-not name e.0 (bytes_eq e.0 name) refl is) ∙ rest

-- the name has what was put
pub put-own : {A : Type 0} (name : List ℕ) (a : A) (es : Entries A) → entry (put name a es) name ≡ Some a
put-own name a [] = found-first name a None
put-own name a (e ∷ es) = own-first name a e es (name_cmp name e.0) refl (put-own name a es)

-- ---- a name that has nothing any more

without-own-if : {A : Type 0} (name : List ℕ) (e : List ℕ × A) (es : Entries A) (b : Bool) → bytes_eq e.0 name ≡ b → entry es name ≡ None → entry (if not b then e ∷ es else es) name ≡ None
without-own-if name e es true is rest = rest
without-own-if name e es false is rest = skipped name e (find (λ d. bytes_eq d.0 name) es) is ∙ rest

pub without-own : {A : Type 0} (name : List ℕ) (es : Entries A) → entry (without name es) name ≡ None
without-own name [] = refl
without-own name (e ∷ es) = without-own-if name e (without name es) (bytes_eq e.0 name) refl (without-own name es)

without-other-if : {A : Type 0} (name x : List ℕ) (e : List ℕ × A) (es kept : Entries A) (b : Bool) → bytes_eq e.0 name ≡ b → bytes_eq name x ≡ false → entry kept x ≡ entry es x
    → entry (if not b then e ∷ kept else kept) x ≡ entry (e ∷ es) x
without-other-if name x e es kept true is differs rest =
    rest ∙ sym (skipped x e (find (λ d. bytes_eq d.0 x) es) (ap (λ n. bytes_eq n x) ((bytes_eq-Decides e.0 name).0 is) ∙ differs))
without-other-if name x e es kept false is differs rest =
    alike-first (bytes_eq e.0 x) e (find (λ d. bytes_eq d.0 x) kept) (find (λ d. bytes_eq d.0 x) es) rest

pub without-other : {A : Type 0} (name x : List ℕ) → bytes_eq name x ≡ false → (es : Entries A) → entry (without name es) x ≡ entry es x
without-other name x differs [] = refl
without-other name x differs (e ∷ es) = without-other-if name x e es (without name es) (bytes_eq e.0 name) refl differs (without-other name x differs es)
