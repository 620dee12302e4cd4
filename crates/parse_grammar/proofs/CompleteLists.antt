-- What is spelled is what the parser reads: what comes again.
use Rattle.std.proofs.Common.{◌≡◌, ℕ, zero, suc, ◌≤◌, ◌<◌, Bool, true, false, List, [], ◌∷◌, ◌++◌, length, append-nil, append_assoc, refl, sym, ap, ◌∙◌, arith}
use Rattle.std.specs.Prelude.{Option, Some, None}
use Rattle.ttcn_syntax.specs.declared.token.Symbol.{Symbol}
use Rattle.ttcn_syntax.specs.declared.token.Symbol.TheVariants as mark
use Rattle.ttcn_syntax.specs.declared.token.Token.TheVariants as token
use Rattle.ttcn_syntax.specs.declared.token.Spanned.{Spanned}
use Rattle.parse_limits.specs.Groups.{Is}
use Rattle.parse_grammar.specs.Grammar.{Part, commas, dotted, each, ended, items, semicolons, separated}
use Rattle.parse_reader.specs.internal.Reading.{Parser, after_semicolons, items_from, sees, separated_from, separated_until}
use Rattle.parse_reader.specs.internal.Expressions.{fields_from, next_field}
use Rattle.parse_reader.specs.internal.Reading as read
use Rattle.parse_reader.specs.internal.Expressions as read_expressions
use Rattle.parse_grammar.proofs.Tokens.{expect-here, sees-here}
use Rattle.parse_reader.proofs.Semicolons.{no_semicolon, over_semicolon}
use Rattle.parse_grammar.proofs.Follow.{Follows, follows-at, loosen, may-end-here, no_symbol}
use Rattle.parse_grammar.proofs.Claims.{Known, KnownInTurn, all, and_more, at_its_end, end, last_one, leaves, next_item, no_item, then, this}
use Rattle.parse_grammar.proofs.Claims as known

-- ---- tools

-- a number of turns above 0
pub by-turns : (P : ℕ → Type 0) (n : ℕ) → 0 < n → ((m : ℕ) → n ≡ suc m → P (suc m)) → P n
by-turns P zero some f = absurd (omega (arith, some))
by-turns P (suc m) some f = f m refl

pub none-is-some : {A B : Type 0} {a : A} → ◌≡◌ {A = Option A} None (Some a) → B
none-is-some h = cc

pub some-is : {A : Type 0} {a b : A} → Some a ≡ Some b → a ≡ b
some-is {A = A} {a = a} h =
    let the : Option A → A = λ o. elim o as (λ _. A) [ Some r ↦ r | None ↦ a ] in ap the h

-- ---- X {',' X}

-- a parser reads a part before a comma, and nothing of no tokens
pub record Each {A : Type 0} (p : Parser A) (part : A → Part) (d : ℕ) : Type 0 where
  pub nothing : p [] ≡ None
  pub reads : (a : A) (ts rest : List Spanned) → Known (part a) ts rest → length ts ≤ d → Follows 24 rest → p ts ≡ Some (a, rest)

something : {A : Type 0} (p : Parser A) (ts : List Spanned) (x : A × List Spanned) → p [] ≡ None → p ts ≡ Some x → 0 < length ts
something p [] x none h = none-is-some (sym none ∙ h)
something p (k ∷ ts) x none h = omega arith

last-read : {A : Type 0} (p : Parser A) (n : ℕ) (found : List A) (ts rest : List Spanned) (a : A) → p ts ≡ Some (a, rest) → sees mark.Comma rest ≡ false
    → separated_from p (suc n) found ts ≡ Some (found ++ a ∷ [], rest)
unfolding separated_from
last-read p n found ts rest a h other = rw h (rw other refl)

next-read : {A : Type 0} (p : Parser A) (n : ℕ) (found : List A) (ts middle : List Spanned) (c : Spanned) (a : A) (x : List A × List Spanned)
    → p ts ≡ Some (a, c ∷ middle) → Is c (token.Symbol mark.Comma) → separated_from p n (found ++ a ∷ []) middle ≡ Some x
    → separated_from p (suc n) found ts ≡ Some x
unfolding separated_from
next-read p n found ts middle c a x h is more = rw h (rw (sees-here mark.Comma c middle is) more)

pub commas-read : {A : Type 0} (p : Parser A) (part : A → Part) (d : ℕ) → Each p part d → (a : A) (as_ : List A) (ts rest : List Spanned)
    → Known (commas (each part (a ∷ as_))) ts rest → length ts ≤ d → Follows 25 rest → (n : ℕ) → length ts ≤ n → (found : List A)
    → separated_from p n found ts ≡ Some (found ++ a ∷ as_, rest)
commas-read p part d good a [] ts rest (last_one s) w f n few found =
    let one = good.reads a ts rest s w (loosen 24 25 rest (omega arith) f) in
    let some = something p ts (a, rest) good.nothing one in
    by-turns (λ n. separated_from p n found ts ≡ Some (found ++ a ∷ [], rest)) n (omega (arith, few, some)) (λ m count.
    last-read p m found ts rest a one (no_symbol mark.Comma 25 rest f (omega arith)))
commas-read p part d good a (b ∷ bs) ts rest (and_more {c = c} {middle = middle} s is more) w f n few found =
    let one = good.reads a ts (c ∷ middle) s w (follows-at 24 c middle _ is (omega arith)) in
    let shorter = leaves s in
    by-turns (λ n. separated_from p n found ts ≡ Some (found ++ a ∷ b ∷ bs, rest)) n (omega (arith, few, shorter)) (λ m count.
    next-read p m found ts middle c a (found ++ a ∷ b ∷ bs, rest) one is
    (commas-read p part d good b bs middle rest more (omega (arith, w, shorter)) f m (omega (arith, few, count, shorter)) (found ++ a ∷ [])
    ∙ ap (λ xs. Some (xs, rest)) (append_assoc found (a ∷ []) (b ∷ bs))))

-- at least one
pub commas-are-read : {A : Type 0} (p : Parser A) (part : A → Part) (d : ℕ) → Each p part d → (as_ : List A) (ts rest : List Spanned)
    → Known (commas (each part as_)) ts rest → length ts ≤ d → Follows 25 rest → read.separated p ts ≡ Some (as_, rest)
commas-are-read {A = A} p part d good [] ts rest s w f = elim s [ ]
commas-are-read p part d good (a ∷ as_) ts rest s w f = commas-read p part d good a as_ ts rest s w f (length ts) (omega arith) []

until-none : {A : Type 0} (close : Symbol) (p : Parser A) (c : Spanned) (rest : List Spanned) → Is c (token.Symbol close)
    → separated_until close p (c ∷ rest) ≡ Some ([], rest)
unfolding separated_until
until-none close p c rest is = rw (sees-here close c rest is) refl

until-some : {A : Type 0} (close : Symbol) (p : Parser A) (found : List A) (ts : List Spanned) (c : Spanned) (rest : List Spanned) → sees close ts ≡ false
    → read.separated p ts ≡ Some (found, c ∷ rest) → Is c (token.Symbol close) → separated_until close p ts ≡ Some (found, rest)
unfolding separated_until
until-some close p found ts c rest other h is = rw other (rw h (rw (expect-here close c rest is) refl))

-- any number of them, and what closes them
pub until-read : {A : Type 0} (close : Symbol) (p : Parser A) (part : A → Part) (d : ℕ) → Each p part d
    → ((a : A) (ts rest : List Spanned) → Known (part a) ts rest → sees close ts ≡ false)
    → (as_ : List A) (ts : List Spanned) (c : Spanned) (rest : List Spanned) → Known (separated (each part as_)) ts (c ∷ rest) → Is c (token.Symbol close)
    → Follows 25 (c ∷ rest) → length ts ≤ d → separated_until close p ts ≡ Some (as_, rest)
until-read close p part d good begins [] ts c rest (all end) is f w = until-none close p c rest is
until-read close p part d good begins (a ∷ []) ts c rest (last_one s) is f w =
    until-some close p (a ∷ []) ts c rest (begins a ts (c ∷ rest) s) (commas-are-read p part d good (a ∷ []) ts (c ∷ rest) (last_one s) w f) is
until-read close p part d good begins (a ∷ b ∷ bs) ts c rest (and_more s comma more) is f w =
    until-some close p (a ∷ b ∷ bs) ts c rest (begins a ts _ s) (commas-are-read p part d good (a ∷ b ∷ bs) ts (c ∷ rest) (and_more s comma more) w f) is

-- ---- {';'}

pub semicolons-read : {ts rest : List Spanned} → Known semicolons ts rest → sees mark.Semicolon rest ≡ false → after_semicolons ts ≡ rest
semicolons-read (known.no_semicolon {ts = ts}) h = no_semicolon ts h
semicolons-read (known.next_semicolon {k = k} {ts = ts} is s) h = over_semicolon (k ∷ ts) (sees-here mark.Semicolon k ts is) ∙ semicolons-read s h

-- before them anything may end
pub semicolons-follow : {ts rest : List Spanned} → Known semicolons ts rest → Follows 30 rest → Follows 30 ts
semicolons-follow known.no_semicolon f = f
semicolons-follow (known.next_semicolon {k = k} {ts = ts} is s) f = follows-at 30 k ts _ is (omega arith)

-- ---- {X {';'}}

-- how the tokens of an item begin, and that they are some
pub record Leads (stops : List Spanned → Bool) (ts rest : List Spanned) : Type 0 where
  pub goes_on : stops ts ≡ false
  pub no_gap : sees mark.Semicolon ts ≡ false
  pub follows : Follows 30 ts
  pub shorter : length rest < length ts

pub record EachItem {A : Type 0} (stops : List Spanned → Bool) (p : Parser A) (part : A → Part) (d : ℕ) : Type 0 where
  pub leads : (a : A) (ts rest : List Spanned) → Known (part a) ts rest → Leads stops ts rest
  pub reads : (a : A) (ts rest : List Spanned) → Known (part a) ts rest → length ts ≤ d → Follows 30 rest → p ts ≡ Some (a, rest)

-- where the items stop
pub record Stops (stops : List Spanned → Bool) (rest : List Spanned) : Type 0 where
  pub stopped : stops rest ≡ true
  pub no_gap : sees mark.Semicolon rest ≡ false
  pub follows : Follows 30 rest

items-follow : {A : Type 0} (stops : List Spanned → Bool) (p : Parser A) (part : A → Part) (d : ℕ) → EachItem stops p part d → (as_ : List A)
    (ts rest : List Spanned) → Known (items (each part as_)) ts rest → Stops stops rest → Follows 30 ts
items-follow stops p part d good [] ts rest no_item f = f.follows
items-follow stops p part d good (a ∷ as_) ts rest (next_item s gap more) f = (good.leads a ts _ s).follows

pub items-begin : {A : Type 0} (stops : List Spanned → Bool) (p : Parser A) (part : A → Part) (d : ℕ) → EachItem stops p part d → (as_ : List A)
    (ts rest : List Spanned) → Known (items (each part as_)) ts rest → Stops stops rest → sees mark.Semicolon ts ≡ false
items-begin stops p part d good [] ts rest no_item f = f.no_gap
items-begin stops p part d good (a ∷ as_) ts rest (next_item s gap more) f = (good.leads a ts _ s).no_gap

none-left : {A : Type 0} (stops : List Spanned → Bool) (p : Parser A) (n : ℕ) (found : List A) (ts : List Spanned) → stops ts ≡ true
    → items_from stops p n found ts ≡ Some (found ++ [], ts)
unfolding items_from
none-left stops p zero found ts h = ap (λ xs. Some (xs, ts)) (sym (append-nil found))
none-left stops p (suc n) found ts h = rw h (ap (λ xs. Some (xs, ts)) (sym (append-nil found)))

item-read : {A : Type 0} (stops : List Spanned → Bool) (p : Parser A) (n : ℕ) (found : List A) (ts middle behind : List Spanned) (a : A)
    (x : List A × List Spanned) → stops ts ≡ false → p ts ≡ Some (a, middle) → after_semicolons middle ≡ behind
    → items_from stops p n (found ++ a ∷ []) behind ≡ Some x → items_from stops p (suc n) found ts ≡ Some x
unfolding items_from
item-read stops p n found ts middle behind a x other h gap more = rw other (rw h (rw gap more))

pub items-read : {A : Type 0} (stops : List Spanned → Bool) (p : Parser A) (part : A → Part) (d : ℕ) → EachItem stops p part d → (as_ : List A)
    (ts rest : List Spanned) → Known (items (each part as_)) ts rest → Stops stops rest → length ts ≤ d → (n : ℕ) → length ts ≤ n → (found : List A)
    → items_from stops p n found ts ≡ Some (found ++ as_, rest)
items-read stops p part d good [] ts rest no_item f w n few found = none-left stops p n found ts f.stopped
items-read stops p part d good (a ∷ as_) ts rest (next_item {middle = middle} {behind = behind} s gap more) f w n few found =
    let first = good.leads a ts middle s in
    let shorter = first.shorter in
    let less = leaves gap in
    let read_one = good.reads a ts middle s w (semicolons-follow gap (items-follow stops p part d good as_ behind rest more f)) in
    by-turns (λ n. items_from stops p n found ts ≡ Some (found ++ a ∷ as_, rest)) n (omega (arith, few, shorter)) (λ m count.
    item-read stops p m found ts middle behind a (found ++ a ∷ as_, rest) first.goes_on read_one
    (semicolons-read gap (items-begin stops p part d good as_ behind rest more f))
    (items-read stops p part d good as_ behind rest more f (omega (arith, w, shorter, less)) m (omega (arith, few, count, shorter, less)) (found ++ a ∷ [])
    ∙ ap (λ xs. Some (xs, rest)) (append_assoc found (a ∷ []) as_)))

-- an item that ends where it may
ended-read : {A : Type 0} (p : Parser A) (a : A) (ts rest : List Spanned) → p ts ≡ Some (a, rest) → read.may_end ts rest ≡ true
    → read.ended p ts ≡ Some (a, rest)
unfolding read.ended
ended-read p a ts rest h may = rw h (rw may refl)

pub ends-read : {A : Type 0} (p : Parser A) (part : Part) (a : A) (ts rest : List Spanned) → Known (ended part) ts rest
    → (Known part ts rest → p ts ≡ Some (a, rest)) → read.ended p ts ≡ Some (a, rest)
ends-read p part a ts rest (at_its_end s ends) reads = ended-read p a ts rest (reads s) (may-end-here ends)

-- ---- {'.' Id}

field_there : (bytes : List ℕ) (k c : Spanned) (rest : List Spanned) → Is k (token.Symbol mark.Dot) → Is c (token.Id bytes) → next_field (k ∷ c ∷ rest) ≡ Some bytes
field_there bytes k c rest is named = rw (sees-here mark.Dot k (c ∷ rest) is) (rw named refl)

fields-end : (n : ℕ) (found : List (List ℕ)) (rest : List Spanned) → next_field rest ≡ None → fields_from n found rest ≡ Some (found ++ [], rest)
unfolding fields_from read_expressions.eat_field
fields-end zero found rest h = ap (λ xs. Some (xs, rest)) (sym (append-nil found))
fields-end (suc n) found rest h = rw h (ap (λ xs. Some (xs, rest)) (sym (append-nil found)))

field-read : (n : ℕ) (found : List (List ℕ)) (bytes : List ℕ) (k c : Spanned) (rest : List Spanned) (x : List (List ℕ) × List Spanned)
    → next_field (k ∷ c ∷ rest) ≡ Some bytes → fields_from n (found ++ bytes ∷ []) rest ≡ Some x → fields_from (suc n) found (k ∷ c ∷ rest) ≡ Some x
unfolding fields_from read_expressions.eat_field
field-read n found bytes k c rest x h more = rw h more

pub fields-read : (fields : List (List ℕ)) (ts rest : List Spanned) → KnownInTurn (each dotted fields) ts rest → next_field rest ≡ None
    → (n : ℕ) → length ts ≤ n → (found : List (List ℕ)) → fields_from n found ts ≡ Some (found ++ fields, rest)
fields-read [] ts rest end h n few found = fields-end n found ts h
fields-read (f ∷ fs) ts rest (then (all (then (this {k = k} is) (then (this {k = c} {rest = behind} named) end))) more) h n few found =
    by-turns (λ n. fields_from n found ts ≡ Some (found ++ f ∷ fs, rest)) n (omega (arith, few)) (λ m count.
    field-read m found f k c behind (found ++ f ∷ fs, rest) (field_there f k c behind is named)
    (fields-read fs behind rest more h m (omega (arith, few, count)) (found ++ f ∷ [])
    ∙ ap (λ xs. Some (xs, rest)) (append_assoc found (f ∷ []) fs)))
