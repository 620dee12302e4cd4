-- What the parser reads is spelled: tools, lists and expressions.
use Rattle.std.proofs.Common.{◌≡◌, ℕ, zero, suc, ◌≤◌, ◌-◌, Bool, true, false, List, [], ◌∷◌, ◌++◌, length, append-nil, append_assoc, refl, sym, ap, ◌∙◌, arith, rules, inl, inr}
use Rattle.std.specs.Prelude.{◌⊎◌, ◌&&◌, ◌||◌, if◌then◌else◌, drop, Option, Some, None}
use denote.Enum.Bare.{same_true, true_same}
use Rattle.ttcn_syntax.specs.contracts.operator.Level as a_level
use Rattle.ttcn_syntax.specs.Operators.{Joins, level_of, operator_of, symbol_operator, word_operator, written, or_joins, xor_joins, and_joins, equality_joins, order_joins, sum_joins, product_joins}
use Rattle.ttcn_syntax.specs.declared.operator.Level.{Level}
use Rattle.ttcn_syntax.specs.declared.operator.Level.TheVariants as level
use Rattle.ttcn_syntax.specs.declared.operator.Operator.{Operator}
use Rattle.ttcn_syntax.specs.declared.token.Symbol.{Symbol}
use Rattle.ttcn_syntax.specs.declared.token.Symbol.TheVariants as mark
use Rattle.ttcn_syntax.specs.declared.token.Token.{Token}
use Rattle.ttcn_syntax.specs.declared.token.Token.TheVariants as token
use Rattle.ttcn_syntax.specs.declared.token.Spanned.{Spanned}
use Rattle.ttcn_syntax.specs.declared.token.Word.{Word}
use Rattle.ttcn_syntax.specs.declared.token.Word.TheVariants as word
use Rattle.ttcn_syntax.specs.declared.tree.expression.ComponentRef.{ComponentRef}
use Rattle.ttcn_syntax.specs.declared.tree.expression.Expr.{Expr}
use Rattle.ttcn_syntax.specs.declared.tree.expression.Expr.TheVariants as expr
use Rattle.ttcn_syntax.specs.declared.tree.expression.Link.{Link}
use Rattle.parse_limits.specs.Groups.{Balanced, Group, Is, braces, nothing, pair, plain}
use Rattle.parse_grammar.specs.Grammar.{Ends, InTurn, Part, Parts, Spells, a_component, a_primary, a_reference, an_operand, the_links, dotted, each, key, one, phrase, turn, commas, semicolons, ◌▸◌}
use Rattle.parse_reader.specs.Trees.{link}
use Rattle.parse_grammar.specs.Grammar as spelled
use Rattle.parse_reader.specs.internal.Reading.{Parsed, Parser, after_semicolons, and_then, behind, ended, expect, expect_word, head_token, here, is_word, items, items_from, may_end, name, name_of, same_level, second, sees, sees_word, separated, separated_from, separated_until, token_by}
use Rattle.parse_reader.specs.internal.Expressions.{after_field, after_operator, at_level, behind_field, behind_operator, bracketed, chain, component, component_by, eat_field, eat_operator, expression, expression_from, field_of, fields_from, inner, is_present, links_from, most_links, named_reference, negation, next_field, next_operator, primary, primary_by, reference, referred, runs, signed, tree_of, at_and, at_equality, at_not, at_or, at_order, at_product, at_sum, at_xor}
use Rattle.parse_grammar.proofs.Tokens.{Begins, expect-is, expect-word-is, first-step, name-is, read-is, sees-is, sees-word-is, with-rest-is}

-- ---- what is read

-- this holds of what is read, and of the tokens behind it
pub record Holds {A : Type 0} (P : A → List Spanned → Type 0) (o : Parsed A) : Type 0 where
  pub held : (x : A × List Spanned) → o ≡ Some x → P x.0 x.1

-- what the parser reads is spelled by the tokens that it takes
abbrev pub Sound : {A : Type 0} → (A → Part) → Parser A → Type 0
Sound {A = A} part p = (ts : List Spanned) → Holds (λ a rest. Spells (part a) ts rest) (p ts)

-- ---- tools

pub either : (b : Bool) → (b ≡ true) ⊎ (b ≡ false)
either true = inl refl
either false = inr refl

pub some-is : {A : Type 0} {a b : A} → Some a ≡ Some b → a ≡ b
some-is {A = A} {a = a} h =
    let the : Option A → A = λ o. elim o as (λ _. A) [ Some r ↦ r | None ↦ a ] in ap the h

-- what holds of what was given holds of what was read
pub give : {A : Type 0} (P : A → List Spanned → Type 0) {p x : A × List Spanned} → ◌≡◌ {A = Parsed A} (Some p) (Some x)
    → P p.0 p.1 → P x.0 x.1
give P {p = p} {x = x} h held =
    let parts = read-is h in
    let first : P x.0 p.1 = rw parts.0 at held in
    rw parts.1 at first

pub done : {A : Type 0} {P : A → List Spanned → Type 0} {a : A} {ts : List Spanned} → P a ts → Holds {A = A} P (Some (a, ts))
done {P = P} now = record { held = λ x h. give P h now }

pub refused : {A : Type 0} {P : A → List Spanned → Type 0} → Holds {A = A} P None
refused = record { held = λ x h. cc }

-- one step, and what comes behind it
pub after : {A B : Type 0} {Q : A → List Spanned → Type 0} {P : B → List Spanned → Type 0} {o : Parsed A} {f : A → Parser B} → Holds Q o
    → ((a : A) (rest : List Spanned) → Q a rest → Holds P (f a rest)) → Holds P (and_then o f)
after {o = o} {f = f} begun more =
    record { held = λ y h. (let s = first-step o f y h in (more s.0.0 s.0.1 (begun.held s.0 s.1)).held y s.2) }

-- what follows from what holds
pub implied : {A : Type 0} {Q P : A → List Spanned → Type 0} {o : Parsed A} → Holds Q o
    → ((a : A) (rest : List Spanned) → Q a rest → P a rest) → Holds P o
implied begun more = record { held = λ x h. more x.0 x.1 (begun.held x h) }

pub sound-expect : (s : Symbol) → Sound (λ _. spelled.sym s) (expect s)
sound-expect s ts = record { held = λ x h. (let b = expect-is s ts x h in rw b.all (spelled.this b.is)) }

pub sound-expect-word : (w : Word) → Sound (λ _. key w) (expect_word w)
sound-expect-word w ts = record { held = λ x h. (let b = expect-word-is w ts x h in rw b.all (spelled.this b.is)) }

pub sound-name : Sound spelled.id name
sound-name ts = record { held = λ x h. (let b = name-is ts x h in rw b.all (spelled.this b.is)) }

-- ---- what one token spells

-- what is read of one token is spelled by it
pub sound-token : {A : Type 0} (spelt : A → Token) (f : Option Token → Option A) → f None ≡ None
    → ((t : Token) (a : A) → f (Some t) ≡ Some a → t ≡ spelt a) → Sound (λ a. spelled.one (spelt a)) (token_by f)
sound-token spelt f nothing_there written_so ts =
    record {
      held = λ x h. (let parts = with-rest-is f nothing_there ts x h in
          rw parts.1 (spelled.this (written_so parts.0.token x.0 parts.2)));
    }

-- the place of the next token
pub sound-here : Sound spelled.at here
unfolding here
sound-here [] = refused
sound-here (k ∷ ts) = done spelled.here

-- the symbol comes next, or it does not
pub eaten : {A : Type 0} {P : A → List Spanned → Type 0} (p q : Parser A) (s : Symbol) (ts : List Spanned)
    → (Spells (spelled.sym s) ts (behind ts) → Holds P (p (behind ts))) → Holds P (q ts)
    → Holds P ((if sees s ts then p else q) (if sees s ts then behind ts else ts))
eaten p q s ts there missing =
    elim (either (sees s ts)) [
      | inl e ↦ (let b = sees-is s ts e in rw e (there (rw b.all (spelled.this b.is))))
      | inr e ↦ rw e missing
    ]

pub word-eaten : {A : Type 0} {P : A → List Spanned → Type 0} (p q : Parser A) (w : Word) (ts : List Spanned)
    → (Spells (key w) ts (behind ts) → Holds P (p (behind ts))) → Holds P (q ts)
    → Holds P ((if sees_word w ts then p else q) (if sees_word w ts then behind ts else ts))
word-eaten p q w ts there missing =
    elim (either (sees_word w ts)) [
      | inl e ↦ (let b = sees-word-is w ts e in rw e (there (rw b.all (spelled.this b.is))))
      | inr e ↦ rw e missing
    ]

-- one of two readers
pub chosen : {A : Type 0} {P : A → List Spanned → Type 0} {o u : Parsed A} (b : Bool) → (b ≡ true → Holds P o) → Holds P u
    → Holds P (if b then o else u)
chosen true there missing = there refl
chosen false there missing = missing

-- one of two readers, where it counts which
pub decided : {A : Type 0} {P : A → List Spanned → Type 0} {o u : Parsed A} (b : Bool) → (b ≡ true → Holds P o) → (b ≡ false → Holds P u)
    → Holds P (if b then o else u)
decided true there missing = there refl
decided false there missing = missing refl

-- the parts of what is spelled in turn
pub parts_of : {ps : Parts} {ts rest : List Spanned} → Spells (turn ps) ts rest → InTurn ps ts rest
parts_of (spelled.all parts) = parts

pub both : (a b : Bool) → (a && b) ≡ true → (a ≡ true) × (b ≡ true)
both true true h = (refl, refl)
both true false h = cc
both false b h = cc

-- ---- semicolons

semicolons-step : (b : Bool) (k : Spanned) (ts : List Spanned) → sees mark.Semicolon (k ∷ ts) ≡ b → Spells semicolons ts (after_semicolons ts)
    → Spells semicolons (k ∷ ts) (if b then after_semicolons ts else k ∷ ts)
semicolons-step true k ts h more =
    let begins = sees-is mark.Semicolon (k ∷ ts) h in
    let same : k ≡ begins.first = cc in
    spelled.next_semicolon (ap (λ s. s.token) same ∙ begins.is) more
semicolons-step false k ts h more = spelled.no_semicolon

pub sound-semicolons : (ts : List Spanned) → Spells semicolons ts (after_semicolons ts)
unfolding after_semicolons
sound-semicolons [] = spelled.no_semicolon
sound-semicolons (k ∷ ts) = semicolons-step (sees mark.Semicolon (k ∷ ts)) k ts refl (sound-semicolons ts)

-- ---- lists

-- parts with ',' between them were added to those that were found
pub record Added {A : Type 0} (part : A → Part) (found : List A) (ts : List Spanned) (xs : List A) (rest : List Spanned) : Type 0 where
  pub head : A
  pub others : List A
  pub all : xs ≡ found ++ head ∷ others
  pub spelling : Spells (commas (part head ▸ each part others)) ts rest

pub comma-between : {p q : Part} {ps : Parts} {ts gap middle rest : List Spanned} → Spells p ts gap → Spells (spelled.sym mark.Comma) gap middle
    → Spells (commas (q ▸ ps)) middle rest → Spells (commas (p ▸ q ▸ ps)) ts rest
comma-between before (spelled.this is) more = spelled.and_more before is more

added-more : {A : Type 0} {part : A → Part} {found : List A} {ts gap middle rest : List Spanned} {xs : List A} (a : A) → Spells (part a) ts gap
    → Spells (spelled.sym mark.Comma) gap middle → Added part (found ++ a ∷ []) middle xs rest → Added part found ts xs rest
added-more {found = found} a before comma more =
    record {
      head = a;
      others = more.head ∷ more.others;
      all = more.all ∙ append_assoc found (a ∷ []) (more.head ∷ more.others);
      spelling = comma-between before comma more.spelling;
    }

pub sound-separated-from : {A : Type 0} (part : A → Part) (p : Parser A) → Sound part p → (n : ℕ) (found : List A) (ts : List Spanned)
    → Holds (Added part found ts) (separated_from p n found ts)
unfolding separated_from
sound-separated-from part p sound zero found ts = refused
sound-separated-from part p sound (suc n) found ts =
    after (sound ts) (λ a rest before. eaten _ _ mark.Comma rest
    (λ comma. implied (sound-separated-from part p sound n (found ++ a ∷ []) (behind rest)) (λ xs end more. added-more a before comma more))
    (done (record { head = a; others = []; all = refl; spelling = spelled.last_one before })))

separated-added : {A : Type 0} {part : A → Part} {ts rest : List Spanned} (xs : List A) → Added part [] ts xs rest → Spells (commas (each part xs)) ts rest
separated-added xs more = rw more.all more.spelling

-- X {',' X}
pub sound-separated : {A : Type 0} (part : A → Part) (p : Parser A) → Sound part p → Sound (λ xs. commas (each part xs)) (separated p)
sound-separated part p sound ts = implied (sound-separated-from part p sound (length ts) [] ts) (λ xs rest more. separated-added xs more)

-- items, and a symbol behind them
pub record Until (inside closing : Part) (ts rest : List Spanned) : Type 0 where
  pub gap : List Spanned
  pub body : Spells inside ts gap
  pub closed : Spells closing gap rest

some-added : {A : Type 0} {part : A → Part} {ts rest : List Spanned} (xs : List A) → Added part [] ts xs rest
    → Spells (spelled.separated (each part xs)) ts rest
some-added xs more = rw more.all more.spelling

-- [X {',' X}] and the symbol behind it
pub sound-until : {A : Type 0} (part : A → Part) (close : Symbol) (p : Parser A) → Sound part p → (ts : List Spanned)
    → Holds (λ xs rest. Until (spelled.separated (each part xs)) (spelled.sym close) ts rest) (separated_until close p ts)
unfolding separated_until
sound-until part close p sound ts =
    eaten _ _ close ts (λ closing. done (record { gap = ts; body = spelled.all spelled.end; closed = closing }))
    (after (sound-separated-from part p sound (length ts) [] ts) (λ xs gap body. after (sound-expect close gap) (λ _ rest closing.
    done (record { gap = gap; body = some-added xs body; closed = closing }))))

-- ---- items

-- items were added to those that were found
pub record Gathered {A : Type 0} (part : A → Part) (found : List A) (ts : List Spanned) (xs : List A) (rest : List Spanned) : Type 0 where
  pub others : List A
  pub all : xs ≡ found ++ others
  pub spelling : Spells (spelled.items (each part others)) ts rest

no-item-gathered : {A : Type 0} {part : A → Part} {found : List A} {ts : List Spanned} → Gathered part found ts found ts
no-item-gathered {found = found} = record { others = []; all = sym (append-nil found); spelling = spelled.no_item }

item-gathered : {A : Type 0} {part : A → Part} {found : List A} {ts gap rest : List Spanned} {xs : List A} (a : A) → Spells (part a) ts gap
    → Gathered part (found ++ a ∷ []) (after_semicolons gap) xs rest → Gathered part found ts xs rest
item-gathered {found = found} {gap = gap} a before more =
    record {
      others = a ∷ more.others;
      all = more.all ∙ append_assoc found (a ∷ []) more.others;
      spelling = spelled.next_item before (sound-semicolons gap) more.spelling;
    }

sound-items-from : {A : Type 0} (part : A → Part) (stops : List Spanned → Bool) (p : Parser A) → Sound part p → (n : ℕ) (found : List A) (ts : List Spanned)
    → Holds (Gathered part found ts) (items_from stops p n found ts)
unfolding items_from
sound-items-from part stops p sound zero found ts = done no-item-gathered
sound-items-from part stops p sound (suc n) found ts =
    chosen (stops ts) (λ _. done no-item-gathered)
    (after (sound ts) (λ a gap before. implied (sound-items-from part stops p sound n (found ++ a ∷ []) (after_semicolons gap))
    (λ xs rest more. item-gathered a before more)))

items-gathered : {A : Type 0} {part : A → Part} {ts rest : List Spanned} (xs : List A) → Gathered part [] ts xs rest → Spells (spelled.items (each part xs)) ts rest
items-gathered xs more = rw more.all more.spelling

-- {X {';'}}
pub sound-items : {A : Type 0} (part : A → Part) (stops : List Spanned → Bool) (p : Parser A) → Sound part p
    → Sound (λ xs. spelled.items (each part xs)) (items stops p)
sound-items part stops p sound ts = implied (sound-items-from part stops p sound (length ts) [] ts) (λ xs rest more. items-gathered xs more)

-- ---- what is left is behind what was taken

pub data Suffix : List Spanned → List Spanned → Type 0 where
  same : {ts : List Spanned} → Suffix ts ts
  longer : {k : Spanned} {ts rest : List Spanned} → Suffix ts rest → Suffix (k ∷ ts) rest

onward : {ts middle rest : List Spanned} → Suffix ts middle → Suffix middle rest → Suffix ts rest
onward same more = more
onward (longer s) more = longer (onward s more)

balanced-suffix : {ts rest : List Spanned} → Balanced ts rest → Suffix ts rest
balanced-suffix nothing = same
balanced-suffix (plain o c more) = longer (balanced-suffix more)
balanced-suffix (pair is p inside close more) = longer (onward (balanced-suffix inside) (longer (balanced-suffix more)))

group-suffix : {ts rest : List Spanned} → Group ts rest → Suffix ts rest
group-suffix (braces is inside close) = longer (onward (balanced-suffix inside) (longer same))

mutual
  pub suffix : {p : Part} {ts rest : List Spanned} → Spells p ts rest → Suffix ts rest
  suffix (spelled.this is) = longer same
  suffix spelled.here = same
  suffix (spelled.by made parts) = turn-suffix parts
  suffix (spelled.all parts) = turn-suffix parts
  suffix (spelled.last_one s) = suffix s
  suffix (spelled.and_more s is more) = onward (suffix s) (longer (suffix more))
  suffix spelled.no_item = same
  suffix (spelled.next_item s gap more) = onward (suffix s) (onward (suffix gap) (suffix more))
  suffix (spelled.at_its_end s ends) = suffix s
  suffix spelled.no_semicolon = same
  suffix (spelled.next_semicolon is s) = longer (suffix s)
  suffix (spelled.balanced g) = group-suffix g

  turn-suffix : {ps : Parts} {ts rest : List Spanned} → InTurn ps ts rest → Suffix ts rest
  turn-suffix spelled.end = same
  turn-suffix (spelled.then s more) = onward (suffix s) (turn-suffix more)

-- ---- ends

suffix-shorter : {ts rest : List Spanned} → Suffix ts rest → length rest ≤ length ts
suffix-shorter same = omega arith
suffix-shorter (longer s) = omega (arith, suffix-shorter s)

ends-later : {k : Spanned} {ts rest : List Spanned} → Ends ts rest → Ends (k ∷ ts) rest
ends-later (spelled.in_brace e) = spelled.in_brace (spelled.earlier e)
ends-later (spelled.before_semicolon is) = spelled.before_semicolon is
ends-later (spelled.before_brace is) = spelled.before_brace is

before-a-brace : (before ts : List Spanned) → sees mark.RightBrace ts ≡ true → Ends before ts
before-a-brace before ts h = let b = sees-is mark.RightBrace ts h in rw b.all (spelled.before_brace b.is)

before-a-semicolon : (before ts : List Spanned) → sees mark.Semicolon ts ≡ true → Ends before ts
before-a-semicolon before ts h = let b = sees-is mark.Semicolon ts h in rw b.all (spelled.before_semicolon b.is)

last-is-brace : (k : Spanned) (ts : List Spanned) → Begins (token.Symbol mark.RightBrace) (k ∷ ts) ts → Ends (k ∷ ts) ts
last-is-brace k ts b =
    let first : k ≡ b.first = cc in
    spelled.in_brace (spelled.last (ap (λ s. s.token) first ∙ b.is))

-- the last token that was taken is '}'
brace-last : {ts rest : List Spanned} → Suffix ts rest → sees mark.RightBrace (drop (length ts - length rest - 1) ts) ≡ true → Ends ts rest
brace-last {ts = ts} same h =
    let none-taken : length ts - length ts - 1 ≡ 0 = omega arith in
    before-a-brace ts ts (rw none-taken at h)
brace-last {ts = k ∷ ts} (longer same) h =
    let one_taken : length (k ∷ ts) - length ts - 1 ≡ 0 = omega arith in
    last-is-brace k ts (sees-is mark.RightBrace (k ∷ ts) (rw one_taken at h))
brace-last {ts = k ∷ (j ∷ ts)} {rest = rest} (longer (longer s)) h =
    let shorter = suffix-shorter s in
    let many_taken : length (k ∷ (j ∷ ts)) - length rest - 1 ≡ suc (length (j ∷ ts) - length rest - 1) = omega (arith, shorter) in
    let e : sees mark.RightBrace (drop (suc (length (j ∷ ts) - length rest - 1)) (k ∷ (j ∷ ts))) ≡ true = rw many_taken at h in
    ends-later (brace-last (longer s) e)

end_of : (a b c : Bool) → (a || (b || c)) ≡ true → (a ≡ true) ⊎ ((b ≡ true) ⊎ (c ≡ true))
end_of true b c h = inl refl
end_of false true c h = inr (inl refl)
end_of false false true h = inr (inr refl)
end_of false false false h = cc

may-end-is : {ts rest : List Spanned} → Suffix ts rest → may_end ts rest ≡ true → Ends ts rest
unfolding may_end
may-end-is {ts = ts} {rest = rest} s h =
    elim (end_of (sees mark.Semicolon rest) (sees mark.RightBrace rest) (sees mark.RightBrace (drop (length ts - length rest - 1) ts)) h) [
      | inl e ↦ before-a-semicolon ts rest e
      | inr other ↦ elim other [ inl e ↦ before-a-brace ts rest e | inr e ↦ brace-last s e ]
    ]

-- X, which may end there
pub sound-ended : {A : Type 0} (part : A → Part) (p : Parser A) → Sound part p → Sound (λ a. spelled.ended (part a)) (ended p)
unfolding ended
sound-ended part p sound ts =
    after (sound ts) (λ a rest s. chosen (may_end ts rest) (λ e. done (spelled.at_its_end s (may-end-is (suffix s) e))) refused)

-- ---- references

sound-dotted : (found : List (List ℕ)) (ts : List Spanned) (f : List ℕ) → next_field ts ≡ Some f → Spells (dotted f) ts (behind (behind ts))
sound-dotted found ts f h = field_step (sees mark.Dot ts) refl h
  where
    name-there : (t : Token) → name_of (Some t) ≡ Some f → t ≡ token.Id f
    name-there (token.Id bytes) h = ap token.Id (some-is h)
    name-there _ h = cc

    name-step : (rest : List Spanned) → name_of (head_token rest) ≡ Some f → Spells (spelled.id f) rest (behind rest)
    name-step [] h = cc
    name-step (k ∷ rest) h = spelled.this (name-there k.token h)

    field_step : (b : Bool) → sees mark.Dot ts ≡ b → field_of b (second ts) ≡ Some f → Spells (dotted f) ts (behind (behind ts))
    field_step true e h =
        let b = sees-is mark.Dot ts e in
        let dot : Spells (spelled.sym mark.Dot) ts (behind ts) = rw b.all (spelled.this b.is) in
        spelled.all (spelled.then dot (spelled.then (name-step (behind ts) h) spelled.end))
    field_step false e h = cc

-- parts were added to those that were found
pub record Joined {A : Type 0} (part : A → Part) (found : List A) (ts : List Spanned) (xs : List A) (rest : List Spanned) : Type 0 where
  pub others : List A
  pub all : xs ≡ found ++ others
  pub spelling : InTurn (each part others) ts rest

pub none-joined : {A : Type 0} {part : A → Part} {found : List A} {ts : List Spanned} → Joined part found ts found ts
none-joined {found = found} = record { others = []; all = sym (append-nil found); spelling = spelled.end }

pub one-joined : {A : Type 0} {part : A → Part} {found : List A} {ts gap rest : List Spanned} {xs : List A} (a : A) → Spells (part a) ts gap
    → Joined part (found ++ a ∷ []) gap xs rest → Joined part found ts xs rest
one-joined {found = found} a before more =
    record {
      others = a ∷ more.others;
      all = more.all ∙ append_assoc found (a ∷ []) more.others;
      spelling = spelled.then before more.spelling;
    }

fields-step : (n : ℕ) (found : List (List ℕ)) (ts : List Spanned)
    → ((found : List (List ℕ)) (ts : List Spanned) → Holds (Joined dotted found ts) (fields_from n found ts))
    → (o : Option (List ℕ)) → next_field ts ≡ o → Holds (Joined dotted found ts) (after_field (fields_from n) found o (behind_field o ts))
fields-step n found ts others None next = done none-joined
fields-step n found ts others (Some f) next =
    implied (others (found ++ f ∷ []) (behind (behind ts))) (λ fs rest more. one-joined f (sound-dotted found ts f next) more)

sound-fields-from : (n : ℕ) (found : List (List ℕ)) (ts : List Spanned) → Holds (Joined dotted found ts) (fields_from n found ts)
unfolding fields_from eat_field
sound-fields-from zero found ts = done none-joined
sound-fields-from (suc n) found ts = fields-step n found ts (λ found ts. sound-fields-from n found ts) (next_field ts) refl

pub all-joined : {A : Type 0} (part : A → Part) {ts rest : List Spanned} (xs : List A) → Joined part [] ts xs rest → Spells (turn (each part xs)) ts rest
all-joined part xs more = spelled.all (rw more.all more.spelling)

pub sound-reference : Sound (λ r. phrase (a_reference r)) reference
unfolding reference
sound-reference ts =
    after (sound-name ts) (λ bytes a first. after (sound-fields-from (length a) [] a) (λ fs rest others.
    done (spelled.by (spelled.dotted_name bytes fs) (spelled.then first (spelled.then (all-joined dotted fs others) spelled.end)))))

sound-named-reference : Sound (λ c. phrase (a_component c)) named_reference
unfolding named_reference
sound-named-reference ts = after (sound-reference ts) (λ r rest s. done (spelled.by (spelled.named r) (spelled.then s spelled.end)))

component-step : (k : Spanned) (ts : List Spanned) (t : Token) → Is k t
    → Holds (λ c rest. Spells (phrase (a_component c)) (k ∷ ts) rest) (component_by (Some t) (k ∷ ts))
component-step k ts (token.Word word.SelfWord) is = done (spelled.by spelled.itself (spelled.then (spelled.this is) spelled.end))
component-step k ts (token.Word word.Mtc) is = done (spelled.by spelled.mtc (spelled.then (spelled.this is) spelled.end))
component-step k ts _ is = sound-named-reference (k ∷ ts)

pub sound-component : Sound (λ c. phrase (a_component c)) component
unfolding component
sound-component [] = sound-named-reference []
sound-component (k ∷ ts) = component-step k ts k.token refl

-- ---- tokens that were looked at

pub symbol-at : (s : Symbol) (ts : List Spanned) → sees s ts ≡ true → Spells (spelled.sym s) ts (behind ts)
symbol-at s ts h = let b = sees-is s ts h in rw b.all (spelled.this b.is)

pub word-at : (w : Word) (ts : List Spanned) → sees_word w ts ≡ true → Spells (key w) ts (behind ts)
word-at w ts h = let b = sees-word-is w ts h in rw b.all (spelled.this b.is)

pub word-second : (w : Word) (ts : List Spanned) → is_word w (second ts) ≡ true → Spells (key w) (behind ts) (behind (behind ts))
unfolding sees_word
word-second w ts h = word-at w (behind ts) h

-- ---- operands

-- an operand of the level
abbrev pub operand_part : Level → Expr → Part
operand_part l e = phrase (an_operand l e)

abbrev pub primary_part : Expr → Part
primary_part e = phrase (a_primary e)

-- what was read before, if an operand has begun
abbrev pub Began : Option Expr → List Spanned → List Spanned → Type 0
Began None first ts = first ≡ ts
Began (Some e) first ts = Spells (primary_part e) first ts

-- what is read behind that is an operand
abbrev pub SoundFrom : Level → (Option Expr → Parser Expr) → Type 0
SoundFrom l p = (begun : Option Expr) (first ts : List Spanned) → Began begun first ts
    → Holds (λ e rest. Spells (operand_part l e) first rest) (p begun ts)

sound-bracketed : (p : Parser Expr) → Sound (operand_part level.Or) p → Sound primary_part (bracketed p)
unfolding bracketed
sound-bracketed p sound ts =
    after (sound-expect mark.LeftParen ts) (λ _ a s1. after (sound a) (λ e b s2. after (sound-expect mark.RightParen b) (λ _ c s3.
    done (spelled.by (spelled.bracketed e) (spelled.then s1 (spelled.then s2 (spelled.then s3 spelled.end)))))))

sound-is-present : Sound primary_part is_present
unfolding is_present
sound-is-present ts =
    after (sound-expect-word word.Ispresent ts) (λ _ a s1. after (sound-expect mark.LeftParen a) (λ _ b s2.
    after (sound-reference b) (λ r c s3. after (sound-expect mark.RightParen c) (λ _ d s4.
    done (spelled.by (spelled.is_present r) (spelled.then s1 (spelled.then s2 (spelled.then s3 (spelled.then s4 spelled.end)))))))))

runs_on : {c : ComponentRef} {ts : List Spanned} (rest : List Spanned) → Spells (phrase (a_component c)) ts rest → runs rest ≡ true
    → Spells (primary_part (expr.Running c)) ts (behind (behind rest))
runs_on {c = c} rest s h =
    let parts = both (sees mark.Dot rest) (is_word word.Running (second rest)) h in
    spelled.by (spelled.running c) (spelled.then s (spelled.then (symbol-at mark.Dot rest parts.0)
    (spelled.then (word-second word.Running rest parts.1) spelled.end)))

sound-referred : Sound primary_part referred
unfolding referred
sound-referred ts =
    after (sound-component ts) (λ c rest s. chosen (runs rest) (λ e. done (runs_on rest s e))
    (done (spelled.by (spelled.referred c) (spelled.then s spelled.end))))

module _ (p : Parser Expr) (sound : Sound (operand_part level.Or) p) where
  primary-step : (k : Spanned) (ts : List Spanned) (t : Token) → Is k t
      → Holds (λ e rest. Spells (primary_part e) (k ∷ ts) rest) (primary_by p (Some t) (k ∷ ts))
  primary-step k ts (token.Int n) is = done (spelled.by (spelled.number n) (spelled.then (spelled.this is) spelled.end))
  primary-step k ts (token.Word word.True) is = done (spelled.by spelled.true_word (spelled.then (spelled.this is) spelled.end))
  primary-step k ts (token.Word word.False) is = done (spelled.by spelled.false_word (spelled.then (spelled.this is) spelled.end))
  primary-step k ts (token.Word word.Null) is = done (spelled.by spelled.null (spelled.then (spelled.this is) spelled.end))
  primary-step k ts (token.Word word.Ispresent) is = sound-is-present (k ∷ ts)
  primary-step k ts (token.Symbol mark.LeftParen) is = sound-bracketed p sound (k ∷ ts)
  primary-step k ts _ is = sound-referred (k ∷ ts)

  pub sound-primary : Sound primary_part (primary p)
  unfolding primary
  sound-primary [] = sound-referred []
  sound-primary (k ∷ ts) = primary-step k ts k.token refl

  unsigned-or-signed : Sound (operand_part level.Sign) (signed p None)
  unfolding signed
  unsigned-or-signed ts =
      eaten _ _ mark.Plus ts
      (λ s. after (sound-primary (behind ts)) (λ e rest t. done (spelled.by (spelled.plus e) (spelled.then s (spelled.then t spelled.end)))))
      (eaten _ _ mark.Minus ts
      (λ s. after (sound-primary (behind ts)) (λ e rest t. done (spelled.by (spelled.minus e) (spelled.then s (spelled.then t spelled.end)))))
      (implied (sound-primary ts) (λ e rest t. spelled.by (spelled.unsigned e) (spelled.then t spelled.end))))

  sound-signed : SoundFrom level.Sign (signed p)
  unfolding signed
  sound-signed (Some e) first ts began = done (spelled.by (spelled.unsigned e) (spelled.then began spelled.end))
  sound-signed None first ts began = rw began (unsigned-or-signed ts)

sound-negation : (p : Option Expr → Parser Expr) → SoundFrom level.Equality p → SoundFrom level.Not (negation p)
unfolding negation
sound-negation p sound (Some e) first ts began =
    implied (sound (Some e) first ts began) (λ e rest s. spelled.by (spelled.affirmed e) (spelled.then s spelled.end))
sound-negation p sound None first ts began = rw began
    (word-eaten _ _ word.Not ts
    (λ s. after (sound None (behind ts) (behind ts) refl) (λ e rest t. done (spelled.by (spelled.negated e) (spelled.then s (spelled.then t spelled.end)))))
    (implied (sound None ts ts refl) (λ e rest t. spelled.by (spelled.affirmed e) (spelled.then t spelled.end))))

-- ---- operators

word-written : (w : Word) (o : Operator) → word_operator w ≡ Some o → token.Word w ≡ written o
word-written word.Or o h = ap written (some-is h)
word-written word.Xor o h = ap written (some-is h)
word-written word.And o h = ap written (some-is h)
word-written word.Mod o h = ap written (some-is h)
word-written word.Rem o h = ap written (some-is h)
word-written _ o h = cc

symbol-written : (s : Symbol) (o : Operator) → symbol_operator s ≡ Some o → token.Symbol s ≡ written o
symbol-written mark.Equal o h = ap written (some-is h)
symbol-written mark.NotEqual o h = ap written (some-is h)
symbol-written mark.Less o h = ap written (some-is h)
symbol-written mark.Greater o h = ap written (some-is h)
symbol-written mark.LessEqual o h = ap written (some-is h)
symbol-written mark.GreaterEqual o h = ap written (some-is h)
symbol-written mark.Plus o h = ap written (some-is h)
symbol-written mark.Minus o h = ap written (some-is h)
symbol-written mark.Star o h = ap written (some-is h)
symbol-written mark.Slash o h = ap written (some-is h)
symbol-written _ o h = cc

operator-written : (t : Token) (o : Operator) → operator_of t ≡ Some o → t ≡ written o
operator-written (token.Word w) o h = word-written w o h
operator-written (token.Symbol s) o h = symbol-written s o h
operator-written _ o h = cc

kept : (b : Bool) (o found : Operator) → (if b then Some o else None) ≡ Some found → (b ≡ true) × (o ≡ found)
kept true o found h = (refl, some-is h)
kept false o found h = cc

of-level : (outer : Level) (o : Option Operator) (found : Operator) → at_level outer o ≡ Some found → (o ≡ Some found) × (level_of found ≡ outer)
unfolding same_level
of-level outer None found h = cc
of-level outer (Some o) found h =
    let parts = kept (same_level (level_of o) outer) o found h in
    let equal : level_of o ≡ outer = same_true a_level.the_type (search rules) (level_of o) outer parts.0 in
    (ap Some parts.1, ap level_of (sym parts.1) ∙ equal)

operator-is : (outer : Level) (ts : List Spanned) (o : Operator) → next_operator outer ts ≡ Some o
    → Spells (spelled.one (written o)) ts (behind ts) × (level_of o ≡ outer)
operator-is outer [] o h = cc
operator-is outer (k ∷ ts) o h =
    let parts = of-level outer (operator_of k.token) o h in (spelled.this (operator-written k.token o parts.0), parts.1)

-- ---- chains

-- operators and operands were added to those that were found
record Linked (outer : Level) (most : ℕ) (found : List Link) (ts : List Spanned) (xs : List Link) (rest : List Spanned) : Type 0 where
  others : List Link
  all : xs ≡ found ++ others
  few : length others ≤ most
  spelling : Spells (phrase (the_links outer others)) ts rest

none-linked : (outer : Level) (n : ℕ) (found : List Link) (ts : List Spanned) → Linked outer n found ts found ts
none-linked outer n found ts =
    record { others = []; all = sym (append-nil found); few = omega arith; spelling = spelled.by (spelled.no_link outer) spelled.end }

one-linked : {outer tighter : Level} → Joins outer tighter → (n : ℕ) (found : List Link) (ts middle : List Spanned) (xs : List Link) (rest : List Spanned)
    (o : Operator) (e : Expr) → Spells (spelled.one (written o)) ts (behind ts) → level_of o ≡ outer → Spells (operand_part tighter e) (behind ts) middle
    → Linked outer n (found ++ link o e ∷ []) middle xs rest → Linked outer (suc n) found ts xs rest
one-linked j n found ts middle xs rest o e operator level operand more =
    record {
      others = link o e ∷ more.others;
      all = more.all ∙ append_assoc found (link o e ∷ []) more.others;
      few = omega (arith, more.few);
      spelling = spelled.by (spelled.next_link e more.others j o level)
          (spelled.then operator (spelled.then operand (spelled.then more.spelling spelled.end)));
    }

links-step : (outer tighter : Level) → Joins outer tighter → (p : Parser Expr) → Sound (operand_part tighter) p → (n : ℕ) (found : List Link) (ts : List Spanned)
    → ((found : List Link) (ts : List Spanned) → Holds (Linked outer n found ts) (links_from p outer n found ts))
    → (o : Option Operator) → next_operator outer ts ≡ o
    → Holds (Linked outer (suc n) found ts) (after_operator p (links_from p outer n) found o (behind_operator o ts))
links-step outer tighter j p sound n found ts others None next = done (none-linked outer (suc n) found ts)
links-step outer tighter j p sound n found ts others (Some o) next =
    let operator = operator-is outer ts o next in
    after (sound (behind ts)) (λ e middle operand. implied (others (found ++ link o e ∷ []) middle)
    (λ xs rest more. one-linked j n found ts middle xs rest o e operator.0 operator.1 operand more))

sound-links : (outer tighter : Level) → Joins outer tighter → (p : Parser Expr) → Sound (operand_part tighter) p → (n : ℕ) (found : List Link) (ts : List Spanned)
    → Holds (Linked outer n found ts) (links_from p outer n found ts)
unfolding links_from eat_operator
sound-links outer tighter j p sound zero found ts = done (none-linked outer 0 found ts)
sound-links outer tighter j p sound (suc n) found ts =
    links-step outer tighter j p sound n found ts (λ found ts. sound-links outer tighter j p sound n found ts) (next_operator outer ts) refl

no_more : {outer : Level} {ts rest : List Spanned} → Spells (phrase (the_links outer [])) ts rest → ts ≡ rest
no_more (spelled.by (spelled.no_link outer) spelled.end) = refl

at-most-none : {A : Type 0} (xs : List A) → length xs ≤ 0 → xs ≡ []
at-most-none [] h = refl
at-most-none (x ∷ xs) h = absurd (omega (arith, h))

most-of-order : (outer : Level) (ts : List Spanned) → outer ≡ level.Order → most_links outer ts ≡ 1
unfolding most_links same_level
most-of-order outer ts is = rw (true_same a_level.the_type outer level.Order is) refl

one-of-order : (outer : Level) (ts : List Spanned) (n : ℕ) → n ≤ most_links outer ts → outer ≡ level.Order → n ≤ 1
one-of-order outer ts n few is = rw (most-of-order outer ts is) at few

chain-step : {outer tighter : Level} → Joins outer tighter → (first : Expr) (ls : List Link) (ts middle rest : List Spanned)
    → Spells (operand_part tighter first) ts middle → Spells (phrase (the_links outer ls)) middle rest
    → (outer ≡ level.Order → length ls ≤ 1) → Spells (operand_part outer (tree_of first ls)) ts rest
chain-step j first [] ts middle rest operand more few =
    spelled.by (spelled.alone first j) (spelled.then (rw (no_more more) at operand) spelled.end)
chain-step j first (l ∷ ls) ts middle rest operand more few =
    spelled.by (spelled.joined first l ls j (λ is. at-most-none ls (omega (arith, few is)))) (spelled.then operand (spelled.then more spelled.end))

sound-chain : {outer tighter : Level} → Joins outer tighter → (p : Option Expr → Parser Expr) → SoundFrom tighter p → SoundFrom outer (chain outer p)
unfolding chain
sound-chain {outer = outer} {tighter = tighter} j p sound begun start ts began =
    after (sound begun start ts began) (λ first middle operand.
    after (sound-links outer tighter j (p None) (λ ts. sound None ts ts refl) (most_links outer middle) [] middle) (λ ls rest more.
    done (rw more.all (chain-step j first more.others start middle rest operand more.spelling
    (one-of-order outer middle (length more.others) more.few)))))

-- ---- expressions

module _ (p : Parser Expr) (sound : Sound (operand_part level.Or) p) where
  sound-product : SoundFrom level.Product (at_product p)
  sound-product = sound-chain product_joins (signed p) (sound-signed p sound)

  sound-sum : SoundFrom level.Sum (at_sum p)
  sound-sum = sound-chain sum_joins (at_product p) sound-product

  sound-order : SoundFrom level.Order (at_order p)
  sound-order = sound-chain order_joins (at_sum p) sound-sum

  sound-equality : SoundFrom level.Equality (at_equality p)
  sound-equality = sound-chain equality_joins (at_order p) sound-order

  sound-not : SoundFrom level.Not (at_not p)
  sound-not = sound-negation (at_equality p) sound-equality

  sound-and : SoundFrom level.And (at_and p)
  sound-and = sound-chain and_joins (at_not p) sound-not

  sound-xor : SoundFrom level.Xor (at_xor p)
  sound-xor = sound-chain xor_joins (at_and p) sound-and

  pub sound-or : SoundFrom level.Or (at_or p)
  sound-or = sound-chain or_joins (at_xor p) sound-xor

sound-inner : (depth : ℕ) → Sound (operand_part level.Or) (inner depth)
unfolding inner
sound-inner zero ts = refused
sound-inner (suc depth) ts = sound-or (inner depth) (sound-inner depth) None ts ts refl

pub sound-expression : Sound (operand_part level.Or) expression
unfolding expression
sound-expression ts = sound-or (inner (length ts)) (sound-inner (length ts)) None ts ts refl

-- an expression whose first primary was read
pub sound-expression-from : (e : Expr) (first ts : List Spanned) → Spells (primary_part e) first ts
    → Holds (λ e rest. Spells (operand_part level.Or e) first rest) (expression_from e ts)
unfolding expression_from
sound-expression-from e first ts began = sound-or (inner (length ts)) (sound-inner (length ts)) (Some e) first ts began
