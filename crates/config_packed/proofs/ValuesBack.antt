-- Values are read back from the bytes that spell them, whatever follows.
use Rattle.std.proofs.Common.{◌≡◌, ℕ, zero, suc, ◌+◌, ◌*◌, ◌/◌, ◌%◌, ◌≤◌, ◌-◌, ◌<◌, nat_eq, nat_lt, ℤ, pos, negsuc, Bool, true, false, cond, List, [], ◌∷◌, ◌++◌, length, map, Option, Some, None, refl, sym, ap, subst, ◌∙◌, arith, append_assoc, length-append}
use Rattle.std.proofs.lemmas.Bool.{lt-ltb, ltb-true, ne_eqb}
use Rattle.std.specs.List.{flat_map}
use Rattle.config_packed.specs.Reading.{Reads, identity_from, integer_of, other_from, path_from, read_byte, read_enumerated, read_field, read_identity, read_integer, read_items, read_list, read_long, read_number, read_path, read_record, read_value, read_value_within, value_from}
use Rattle.config_packed.specs.Spelling.{number_of, spell_identity, spell_integer, spell_list, spell_long, spell_number, spell_path, spell_path_numbers, spell_value}
use Rattle.config_packed.proofs.NumbersBack.{item-back, list-from-items, read-list-back, read-long-back, read-number-back}
use Rattle.config_packed.proofs.Values.{spell-of-boolean, spell-of-component, spell-of-default, spell-of-enumerated, spell_of_field, spell-of-integer, spell-of-null, spell-of-omit, spell-of-record}
use Rattle.value_types.specs.declared.path.Path.{Path}
use Rattle.value_types.specs.declared.value.ComponentId.{ComponentId}
use Rattle.value_types.specs.declared.value.Value.{Value, roll-Value}
use Rattle.value_types.specs.declared.value.Value.TheFolds.{ind-Value, map-Value}
use Rattle.value_types.specs.declared.value.Value.TheOpen.{Value-F}
use Rattle.value_types.specs.declared.value.Value.TheShapes.{former-Value-Record-1-at-1}
use Rattle.value_types.specs.declared.value.Value.TheVariants as value

-- ---- integers and the names of components

integer-back : (z : ℤ) → integer_of (number_of z) ≡ z
integer-back (pos n) =
    let even : (2 * n) % 2 ≡ 0 = omega arith in
    let half : (2 * n) / 2 ≡ n = omega arith in
    ap (λ (r : ℕ). cond (nat_eq r 0) (pos ((2 * n) / 2)) (negsuc ((2 * n) / 2))) even ∙ ap pos half
integer-back (negsuc n) =
    let odd : (2 * n + 1) % 2 ≡ 1 = omega arith in
    let half : (2 * n + 1) / 2 ≡ n = omega arith in
    ap (λ (r : ℕ). cond (nat_eq r 0) (pos ((2 * n + 1) / 2)) (negsuc ((2 * n + 1) / 2))) odd ∙ ap negsuc half

read-integer-back : (z : ℤ) (rest : List ℕ) → read_integer (spell_long (number_of z) ++ rest) ≡ (z, rest)
unfolding read_integer
read-integer-back z rest =
    ap (λ (p : ℕ × List ℕ). (integer_of p.0, p.1)) (read-long-back (number_of z) rest)
    ∙ ap (λ (y : ℤ). (y, rest)) (integer-back z)

-- what a path begins with, and that it is read back from there on
record PathBegins (numbers : List ℕ) : Type 0 where
  pub first : ℕ
  pub behind : List ℕ
  pub begins : spell_path_numbers numbers ≡ first ∷ behind
  pub small : first < 102
  pub back : (rest : List ℕ) → path_from first (behind ++ rest) ≡ (record { numbers = numbers }, rest)

long-path-back : (numbers rest : List ℕ) → path_from 101 (spell_list spell_number numbers ++ rest) ≡ (record { numbers = numbers }, rest)
long-path-back numbers rest = ap (λ (p : List ℕ × List ℕ). (record { numbers = p.0 }, p.1)) (read-list-back spell_number read_number read-number-back numbers rest)

small-path-back : (n : ℕ) (rest : List ℕ) → n < 100 → path_from (1 + n) rest ≡ (record { numbers = n ∷ [] }, rest)
small-path-back n rest h =
    ap (λ (b : Bool). cond {A = Reads Path} b (λ bytes. (record { numbers = [] }, bytes)) (cond {A = Reads Path} (nat_lt (1 + n) 101) (λ bytes. (record { numbers = ((1 + n) - 1) ∷ [] }, bytes)) (path_from 101)) rest) (ne_eqb (1 + n) 0 (λ e. absurd (omega arith)))
    ∙ ap (λ (b : Bool). cond {A = Reads Path} b (λ bytes. (record { numbers = ((1 + n) - 1) ∷ [] }, bytes)) (path_from 101) rest) (lt-ltb (1 + n) 101 (omega arith))
    ∙ ap (λ (m : ℕ). (record { numbers = m ∷ [] }, rest)) (omega arith)

child-begins : (b : Bool) (n : ℕ) → nat_lt n 100 ≡ b → PathBegins (n ∷ [])
child-begins true n is =
    record {
      first = 1 + n;
      behind = [];
      begins = ap (λ (b : Bool). cond {A = List ℕ} b ((1 + n) ∷ []) (101 ∷ spell_list spell_number (n ∷ []))) is;
      small = let h = ltb-true n 100 is in omega arith;
      back = λ rest. small-path-back n rest (ltb-true n 100 is);
    }
child-begins false n is =
    record {
      first = 101;
      behind = spell_list spell_number (n ∷ []);
      begins = ap (λ (b : Bool). cond {A = List ℕ} b ((1 + n) ∷ []) (101 ∷ spell_list spell_number (n ∷ []))) is;
      small = omega arith;
      back = λ rest. long-path-back (n ∷ []) rest;
    }

path-begins : (numbers : List ℕ) → PathBegins numbers
path-begins [] = record { first = 0; behind = []; begins = refl; small = omega arith; back = λ rest. refl }
path-begins (n ∷ []) = child-begins (nat_lt n 100) n refl
path-begins (n ∷ m ∷ others) =
    record { first = 101; behind = spell_list spell_number (n ∷ m ∷ others); begins = refl; small = omega arith; back = λ rest. long-path-back (n ∷ m ∷ others) rest }

pub read-path-back : (path : Path) (rest : List ℕ) → read_path (spell_path path ++ rest) ≡ (path, rest)
unfolding read_path read_byte spell_path
read-path-back path rest =
    let p = path-begins path.numbers in
    ap (λ (bytes : List ℕ). read_path (bytes ++ rest)) p.begins ∙ p.back rest

-- what a component that a reference names begins with, and that it is read back from there on
pub record IdentityBegins (component : ComponentId) : Type 0 where
  pub first : ℕ
  pub behind : List ℕ
  pub begins : spell_identity component ≡ first ∷ behind
  pub small : first < 102
  pub back : (rest : List ℕ) → identity_from first (behind ++ rest) ≡ (component, rest)

pub identity-begins : (component : ComponentId) → IdentityBegins component
unfolding spell_identity spell_path identity_from
identity-begins component =
    let p = path-begins component.path.numbers in
    let type = spell_long component.component_type in
    record {
      first = p.first;
      behind = p.behind ++ type;
      begins = ap (λ (bytes : List ℕ). bytes ++ type) p.begins;
      small = p.small;
      back = λ rest.
          ap (identity_from p.first) (append_assoc p.behind type rest)
          ∙ ap (λ (q : Path × List ℕ). (record { path = q.0; component_type = (read_long q.1).0 }, (read_long q.1).1)) (p.back (type ++ rest))
          ∙ ap (λ (q : ℕ × List ℕ). (record { path = component.path; component_type = q.0 }, q.1)) (read-long-back component.component_type rest);
    }

pub read-identity-back : (component : ComponentId) (rest : List ℕ) → read_identity (spell_identity component ++ rest) ≡ (component, rest)
unfolding read_identity read_byte
read-identity-back component rest =
    let b = identity-begins component in
    ap (λ (bytes : List ℕ). read_identity (bytes ++ rest)) b.begins ∙ b.back rest

-- ---- values

-- a value is read back wherever the depth is not less than the number of its bytes
abbrev ComesBackWithin : Value → Type 0
ComesBackWithin v = (depth : ℕ) (rest : List ℕ) → length (spell_value v) ≤ depth → read_value_within depth (spell_value v ++ rest) ≡ (v, rest)

-- so it is where what stands behind its first byte is read back
behind-tag : (v : Value) (tag : ℕ) (bytes : List ℕ) → spell_value v ≡ tag ∷ bytes
    → ((depth : ℕ) (rest : List ℕ) → length bytes ≤ depth → value_from (read_value_within depth) tag (bytes ++ rest) ≡ (v, rest))
    → ComesBackWithin v
unfolding read_value_within read_byte
behind-tag v tag bytes is back zero rest h = absurd (let e = ap length is in omega arith)
behind-tag v tag bytes is back (suc depth) rest h =
    ap (λ (spelled : List ℕ). read_value_within (suc depth) (spelled ++ rest)) is
    ∙ back depth rest (let e = ap length is in omega arith)

small-integer-back : (read : Reads Value) (z : ℤ) (rest : List ℕ) → number_of z < 247 → value_from read (9 + number_of z) rest ≡ (value.Integer z, rest)
small-integer-back read z rest h =
    let n = number_of z in
    let least : (9 + n) - 9 ≡ n = omega arith in
    ap (λ (b : Bool). cond {A = Reads Value} b (λ bytes. (value.Integer (integer_of ((9 + n) - 9)), bytes)) (other_from read (9 + n)) rest) (lt-ltb 8 (9 + n) (omega arith))
    ∙ ap (λ (m : ℕ). (value.Integer (integer_of m), rest)) least
    ∙ ap (λ (y : ℤ). (value.Integer y, rest)) (integer-back z)

integer-back-when : (b : Bool) (z : ℤ) → nat_lt (number_of z) 247 ≡ b → ComesBackWithin (value.Integer z)
unfolding spell_integer
integer-back-when true z is =
    let h = ltb-true (number_of z) 247 is in
    behind-tag (value.Integer z) (9 + number_of z) []
    (spell-of-integer z ∙ ap (λ (b : Bool). cond {A = List ℕ} b ((9 + number_of z) ∷ []) (0 ∷ spell_long (number_of z))) is)
    (λ depth rest k. small-integer-back (read_value_within depth) z rest h)
integer-back-when false z is =
    behind-tag (value.Integer z) 0 (spell_long (number_of z))
    (spell-of-integer z ∙ ap (λ (b : Bool). cond {A = List ℕ} b ((9 + number_of z) ∷ []) (0 ∷ spell_long (number_of z))) is)
    (λ depth rest h. ap (λ (p : ℤ × List ℕ). (value.Integer p.0, p.1)) (read-integer-back z rest))

integer-value-back : (z : ℤ) → ComesBackWithin (value.Integer z)
integer-value-back z = integer-back-when (nat_lt (number_of z) 247) z refl

boolean-value-back : (truth : Bool) → ComesBackWithin (value.Boolean truth)
boolean-value-back true = behind-tag (value.Boolean true) 2 [] (spell-of-boolean true) (λ depth rest h. refl)
boolean-value-back false = behind-tag (value.Boolean false) 1 [] (spell-of-boolean false) (λ depth rest h. refl)

enumerated-back : (at name : ℕ) (rest : List ℕ) → read_enumerated ((spell_long at ++ spell_long name) ++ rest) ≡ (value.Enumerated at name, rest)
unfolding read_enumerated
enumerated-back at name rest = simp (append_assoc, read-long-back)

enumerated-value-back : (at name : ℕ) → ComesBackWithin (value.Enumerated at name)
enumerated-value-back at name = behind-tag (value.Enumerated at name) 3 (spell_long at ++ spell_long name) (spell-of-enumerated at name) (λ depth rest h. enumerated-back at name rest)

component-value-back : (component : ComponentId) → ComesBackWithin (value.Component component)
component-value-back component = behind-tag (value.Component component) 5 (spell_identity component) (spell-of-component component) (λ depth rest h. simp read-identity-back)

default-value-back : (activation : ℕ) → ComesBackWithin (value.Default activation)
default-value-back activation = behind-tag (value.Default activation) 6 (spell_number activation) (spell-of-default activation) (λ depth rest h. simp read-number-back)

-- ---- records

-- a value that is known to be read back
abbrev Held : Type 0
Held = (v : Value) × ComesBackWithin v

abbrev bare_field : Option Held → Option Value
bare_field = former-Value-Record-1-at-1.map Held Value (λ h. h.0)

field-back : (depth : ℕ) (field : Option Held) (rest : List ℕ) → length (spell_of_field (bare_field field)) ≤ depth
    → read_field (read_value_within depth) (spell_of_field (bare_field field) ++ rest) ≡ (bare_field field, rest)
unfolding read_field read_byte
field-back depth None rest h = refl
field-back depth (Some held) rest h = ap (λ (p : Value × List ℕ). (Some p.0, p.1)) (held.1 depth rest (omega arith))

fields-back : (depth : ℕ) (fields : List (Option Held)) (rest : List ℕ) → length (flat_map spell_of_field (map bare_field fields)) ≤ depth
    → read_items (read_field (read_value_within depth)) (length (map bare_field fields)) (flat_map spell_of_field (map bare_field fields) ++ rest) ≡ (map bare_field fields, rest)
unfolding read_items
fields-back depth [] rest h = refl
fields-back depth (field ∷ fields) rest h =
    let first = spell_of_field (bare_field field) in
    let others = flat_map spell_of_field (map bare_field fields) in
    let whole : length (first ++ others) ≤ depth = h in
    let all = length-append first others in
    item-back spell_of_field (read_field (read_value_within depth)) (bare_field field) (map bare_field fields) rest
    (λ behind. field-back depth field behind (omega arith))
    (fields-back depth fields rest (omega arith))

record-back : (depth at : ℕ) (fields : List (Option Held)) (rest : List ℕ)
    → length (spell_long at ++ (spell_long (length (map bare_field fields)) ++ flat_map spell_of_field (map bare_field fields))) ≤ depth
    → read_record (read_value_within depth) ((spell_long at ++ (spell_long (length (map bare_field fields)) ++ flat_map spell_of_field (map bare_field fields))) ++ rest) ≡ (value.Record at (map bare_field fields), rest)
unfolding read_record
record-back depth at fields rest h =
    let xs = map bare_field fields in
    let each = flat_map spell_of_field xs in
    let listed = spell_long (length xs) ++ each in
    let read = read_field (read_value_within depth) in
    let one = length-append (spell_long at) listed in
    let two = length-append (spell_long (length xs)) each in
    ap (read_record (read_value_within depth)) (append_assoc (spell_long at) listed rest)
    ∙ ap (λ (p : ℕ × List ℕ). (value.Record p.0 (read_list read p.1).0, (read_list read p.1).1)) (read-long-back at (listed ++ rest))
    ∙ ap (λ (p : List (Option Value) × List ℕ). (value.Record at p.0, p.1)) (list-from-items spell_of_field read xs rest (fields-back depth fields rest (omega arith)))

record-value-back : (at : ℕ) (fields : List (Option Held)) → ComesBackWithin (value.Record at (map bare_field fields))
record-value-back at fields =
    behind-tag (value.Record at (map bare_field fields)) 4 (spell_long at ++ (spell_long (length (map bare_field fields)) ++ flat_map spell_of_field (map bare_field fields))) (spell-of-record at (map bare_field fields))
    (λ depth rest h. record-back depth at fields rest h)

level-back : (x : Value-F Held) → ComesBackWithin (roll-Value (map-Value Held Value (λ h. h.0) x))
level-back (Value-F.Integer z) = subst ComesBackWithin (sym (value.rolls-Integer z)) (integer-value-back z)
level-back (Value-F.Boolean truth) = subst ComesBackWithin (sym (value.rolls-Boolean truth)) (boolean-value-back truth)
level-back (Value-F.Enumerated at name) = subst ComesBackWithin (sym (value.rolls-Enumerated at name)) (enumerated-value-back at name)
level-back (Value-F.Record at fields) = subst ComesBackWithin (sym (value.rolls-Record at (map bare_field fields))) (record-value-back at fields)
level-back (Value-F.Component component) = subst ComesBackWithin (sym (value.rolls-Component component)) (component-value-back component)
level-back (Value-F.Default activation) = subst ComesBackWithin (sym (value.rolls-Default activation)) (default-value-back activation)
level-back Value-F.Null = subst ComesBackWithin (sym value.rolls-Null) (behind-tag value.Null 7 [] spell-of-null (λ depth rest h. refl))
level-back Value-F.Omit = subst ComesBackWithin (sym value.rolls-Omit) (behind-tag value.Omit 8 [] spell-of-omit (λ depth rest h. refl))

value-back : (v : Value) → ComesBackWithin v
value-back = ind-Value ComesBackWithin (λ x y is-bare. subst (λ (w : Value-F Value). ComesBackWithin (roll-Value w)) is-bare (level-back y))

pub read-value-back : (v : Value) (rest : List ℕ) → read_value (spell_value v ++ rest) ≡ (v, rest)
unfolding read_value
read-value-back v rest = value-back v (length (spell_value v ++ rest)) rest (omega (arith, length-append (spell_value v) rest))
