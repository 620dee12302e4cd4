-- Configurations and the bytes of their parts.
use Rattle.std.proofs.Common.{◌≡◌, ℕ, Bool, true, false, ◌&&◌, List, ◌++◌, length, take, drop, refl, sym, ap, ◌∙◌, subst, bytes_eq}
use Rattle.std.proofs.lemmas.Grind.{flat_map-append}
use Rattle.std.proofs.lemmas.List.{append-nil, take-append-drop}
use Rattle.std.specs.Cmp.{both_ways}
use Rattle.std.specs.Cmp.Lexicographic.{bytes_decides}
use Rattle.config_packed.specs.Packs.{same_bytes}
use Rattle.config_packed.specs.Reading.{config_in}
use Rattle.config_packed.specs.Shares.{AreOf, back_of, front_of, half, head_of}
use Rattle.config_packed.specs.Spelling.{spell_config, spell_content, spell_contents, spell_head}
use Rattle.config_packed.proofs.ConfigsBack.{config_back, same_bytes_itself, same_bytes_one}
use Rattle.config_parts.specs.declared.component.Component.{Component}
use Rattle.config_parts.specs.declared.config.Config.{Config}
use Rattle.config_parts.specs.declared.config.Config.TheVariants as config

halves-spell : (n : ℕ) (cs : List Component) → spell_contents (take n cs) ++ spell_contents (drop n cs) ≡ spell_contents cs
halves-spell n cs = sym (flat_map-append spell_content (take n cs) (drop n cs)) ∙ ap spell_contents (take-append-drop n cs)

parts-spell : (c : Config) → head_of c ++ (front_of c ++ back_of c) ≡ spell_config c
unfolding spell_config
parts-spell (config.Ended v) = append-nil (spell_config (config.Ended v))
parts-spell (config.Going going) = ap (λ (bytes : List ℕ). spell_head going ++ bytes) (halves-spell (half (length going.components)) going.components)

module _ (head front back : List ℕ) where
  pub are-spelled : (c : Config) → AreOf head front back c → head ++ (front ++ back) ≡ spell_config c
  are-spelled c are = (λ i. are.head i ++ (are.front i ++ are.back i)) ∙ parts-spell c

  -- they are the parts of one configuration
  pub parts-back : (c : Config) → AreOf head front back c → config_in (head ++ (front ++ back)) ≡ c
  parts-back c are = ap config_in (are-spelled c are) ∙ config_back c

  pub parts-of : (c : Config) → AreOf head front back c → AreOf head front back (config_in (head ++ (front ++ back)))
  parts-of c are = subst (AreOf head front back) (sym (parts-back c are)) are

  are-one : (a b : Config) → AreOf head front back a → AreOf head front back b → a ≡ b
  are-one a b of-a of-b = sym (parts-back a of-a) ∙ parts-back b of-b

all-true : (x y z : Bool) → (x && (y && z)) ≡ true → (x ≡ true) × (y ≡ true) × (z ≡ true)
all-true true true true e = (refl, refl, refl)
all-true true true false e = (refl, refl, e)
all-true true false z e = (refl, e, cc e)
all-true false y z e = (e, cc e, cc e)

are-true : (x y z : Bool) → x ≡ true → y ≡ true → z ≡ true → (x && (y && z)) ≡ true
are-true x y z a b c = λ i. a i && (b i && c i)

-- configurations are the same where their parts are
pub same-told : (head front back other others rest : List ℕ) (a b : Config) → AreOf head front back a → AreOf other others rest b
    → (bytes_eq head other && (bytes_eq front others && bytes_eq back rest)) ≡ same_bytes a b
same-told head front back other others rest a b of-a of-b =
    both_ways (bytes_eq head other && (bytes_eq front others && bytes_eq back rest)) (same_bytes a b)
    (λ all.
    let each = all-true (bytes_eq head other) (bytes_eq front others) (bytes_eq back rest) all in
    let h : head ≡ other = (bytes_decides head other).0 each.0 in
    let f : front ≡ others = (bytes_decides front others).0 each.1 in
    let k : back ≡ rest = (bytes_decides back rest).0 each.2 in
    let one : a ≡ b = are-one other others rest a b (record { head = sym h ∙ of-a.head; front = sym f ∙ of-a.front; back = sym k ∙ of-a.back }) of-b in
    subst (λ c. same_bytes a c ≡ true) one (same_bytes_itself a))
    (λ same.
    let one : a ≡ b = same_bytes_one a b same in
    are-true (bytes_eq head other) (bytes_eq front others) (bytes_eq back rest)
    ((bytes_decides head other).1 (of-a.head ∙ ap head_of one ∙ sym of-b.head))
    ((bytes_decides front others).1 (of-a.front ∙ ap front_of one ∙ sym of-b.front))
    ((bytes_decides back rest).1 (of-a.back ∙ ap back_of one ∙ sym of-b.back)))
