-- What comes next in a list of tokens.
use Rattle.std.proofs.Common.{◌≡◌, ℕ, Bool, true, false, List, [], ◌∷◌, refl, sym, ap, ◌∙◌, rules}
use Rattle.std.specs.Prelude.{if◌then◌else◌, Option, Some, None}
use denote.Enum.Bare.{same_true, true_same}
use Rattle.ttcn_syntax.specs.contracts.token.Symbol as a_symbol
use Rattle.ttcn_syntax.specs.contracts.token.Word as a_word
use Rattle.ttcn_syntax.specs.declared.token.Token.{Token}
use Rattle.ttcn_syntax.specs.declared.token.Token.TheVariants as token
use Rattle.ttcn_syntax.specs.declared.token.Spanned.{Spanned}
use Rattle.ttcn_syntax.specs.declared.token.Symbol.{Symbol}
use Rattle.ttcn_syntax.specs.declared.token.Word.{Word}
use Rattle.parse_limits.specs.Groups.{Is}
use Rattle.parse_reader.specs.internal.Reading.{Parsed, Parser, and_then, with_rest, behind, expect, expect_word, head_token, is_symbol, is_word, name, name_of, same_symbol, same_word, sees, sees_word}

-- ---- a token that is there is seen

pub sees-by : (s : Symbol) (k : Spanned) (ts : List Spanned) (t : Token) → k.token ≡ t → sees s (k ∷ ts) ≡ is_symbol s (Some t)
unfolding sees
sees-by s k ts t h = rw h refl

pub sees-word-by : (w : Word) (k : Spanned) (ts : List Spanned) (t : Token) → k.token ≡ t → sees_word w (k ∷ ts) ≡ is_word w (Some t)
unfolding sees_word
sees-word-by w k ts t h = rw h refl

pub same-symbol-refl : (s : Symbol) → same_symbol s s ≡ true
unfolding same_symbol
same-symbol-refl s = true_same a_symbol.the_type s s refl

pub same-word-refl : (w : Word) → same_word w w ≡ true
unfolding same_word
same-word-refl w = true_same a_word.the_type w w refl

pub same-symbol-is : (a b : Symbol) → same_symbol a b ≡ true → a ≡ b
unfolding same_symbol
same-symbol-is a b h = same_true a_symbol.the_type (search rules) a b h

pub same-word-is : (a b : Word) → same_word a b ≡ true → a ≡ b
unfolding same_word
same-word-is a b h = same_true a_word.the_type (search rules) a b h

pub sees-here : (s : Symbol) (k : Spanned) (ts : List Spanned) → Is k (token.Symbol s) → sees s (k ∷ ts) ≡ true
sees-here s k ts h = sees-by s k ts (token.Symbol s) h ∙ same-symbol-refl s

pub sees-word-here : (w : Word) (k : Spanned) (ts : List Spanned) → Is k (token.Word w) → sees_word w (k ∷ ts) ≡ true
sees-word-here w k ts h = sees-word-by w k ts (token.Word w) h ∙ same-word-refl w

pub expect-here : (s : Symbol) (k : Spanned) (ts : List Spanned) → Is k (token.Symbol s) → expect s (k ∷ ts) ≡ Some (tt, ts)
unfolding expect
expect-here s k ts h = rw (sees-here s k ts h) refl

pub expect-word-here : (w : Word) (k : Spanned) (ts : List Spanned) → Is k (token.Word w) → expect_word w (k ∷ ts) ≡ Some (tt, ts)
unfolding expect_word
expect-word-here w k ts h = rw (sees-word-here w k ts h) refl

pub name-here : (bytes : List ℕ) (k : Spanned) (ts : List Spanned) → Is k (token.Id bytes) → name (k ∷ ts) ≡ Some (bytes, ts)
unfolding name
name-here bytes k ts h = rw h refl

-- ---- a token that is seen is there

symbol-there : (s : Symbol) (t : Token) → is_symbol s (Some t) ≡ true → t ≡ token.Symbol s
symbol-there s (token.Symbol found) h = ap token.Symbol (same-symbol-is found s h)
symbol-there s _ h = cc

word-there : (w : Word) (t : Token) → is_word w (Some t) ≡ true → t ≡ token.Word w
word-there w (token.Word found) h = ap token.Word (same-word-is found w h)
word-there w _ h = cc

-- the tokens begin with this one, and go on with those
pub record Begins (t : Token) (ts rest : List Spanned) : Type 0 where
  pub first : Spanned
  pub is : Is first t
  pub all : ts ≡ first ∷ rest

pub sees-is : (s : Symbol) (ts : List Spanned) → sees s ts ≡ true → Begins (token.Symbol s) ts (behind ts)
unfolding sees
sees-is s [] h = cc
sees-is s (k ∷ ts) h = record { first = k; is = symbol-there s k.token h; all = refl }

pub sees-word-is : (w : Word) (ts : List Spanned) → sees_word w ts ≡ true → Begins (token.Word w) ts (behind ts)
unfolding sees_word
sees-word-is w [] h = cc
sees-word-is w (k ∷ ts) h = record { first = k; is = word-there w k.token h; all = refl }

expected : (b : Bool) (ts : List Spanned) (x : Unit {0} × List Spanned) → (if b then Some (tt, behind ts) else None) ≡ Some x → (b ≡ true) × (behind ts ≡ x.1)
expected true ts x h = (refl, cc)
expected false ts x h = cc

pub expect-is : (s : Symbol) (ts : List Spanned) (x : Unit {0} × List Spanned) → expect s ts ≡ Some x → Begins (token.Symbol s) ts x.1
unfolding expect
expect-is s ts x h =
    let parts = expected (sees s ts) ts x h in
    rw (sym parts.1) (sees-is s ts parts.0)

pub expect-word-is : (w : Word) (ts : List Spanned) (x : Unit {0} × List Spanned) → expect_word w ts ≡ Some x → Begins (token.Word w) ts x.1
unfolding expect_word
expect-word-is w ts x h =
    let parts = expected (sees_word w ts) ts x h in
    rw (sym parts.1) (sees-word-is w ts parts.0)

-- ---- steps in turn

-- the parts of what is read
pub read-is : {A : Type 0} {p q : A × List Spanned} → ◌≡◌ {A = Parsed A} (Some p) (Some q) → (p.0 ≡ q.0) × (p.1 ≡ q.1)
read-is {A = A} {p = p} {q = q} h =
    let the : Parsed A → A × List Spanned = λ o. elim o as (λ _. A × List Spanned) [ Some r ↦ r | None ↦ p ] in
    let e : p ≡ q = ap the h in (ap (λ r. r.0) e, ap (λ r. r.1) e)

pub first-step : {A B : Type 0} (p : Parsed A) (f : A → Parser B) (y : B × List Spanned) → and_then p f ≡ Some y
    → (x : A × List Spanned) × (p ≡ Some x) × (f x.0 x.1 ≡ Some y)
first-step (Some x) f y h = (x, refl, h)
first-step None f y h = cc

with-rest-some : {A : Type 0} (o : Option A) (ts : List Spanned) (x : A × List Spanned) → with_rest o ts ≡ Some x → (o ≡ Some x.0) × (ts ≡ x.1)
with-rest-some None ts x h = cc
with-rest-some (Some a) ts x h = let parts = read-is h in (ap Some parts.0, parts.1)

-- what is taken of one token comes from that token
pub with-rest-is : {A : Type 0} (f : Option Token → Option A) → f None ≡ None → (ts : List Spanned) (x : A × List Spanned)
    → with_rest (f (head_token ts)) (behind ts) ≡ Some x → (k : Spanned) × (ts ≡ k ∷ x.1) × (f (Some k.token) ≡ Some x.0)
with-rest-is {A = A} f none [] x h = let e : with_rest {A = A} None [] ≡ Some x = rw none at h in cc
with-rest-is {A = A} f none (k ∷ ts) x h =
    let parts = with-rest-some (f (Some k.token)) ts x h in (k, ap (λ rest. k ∷ rest) parts.1, parts.0)

named : (t : Token) (bytes : List ℕ) → name_of (Some t) ≡ Some bytes → t ≡ token.Id bytes
named (token.Id found) bytes h = cc
named _ bytes h = cc

pub name-is : (ts : List Spanned) (x : List ℕ × List Spanned) → name ts ≡ Some x → Begins (token.Id x.0) ts x.1
unfolding name
name-is ts x h =
    let parts = with-rest-is name_of refl ts x h in
    record { first = parts.0; is = named parts.0.token x.0 parts.2; all = parts.1 }
