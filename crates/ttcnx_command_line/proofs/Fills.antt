-- What the rows hold after words that have no fault, at a command with no subcommand.
use Rattle.std.proofs.Common.{◌≡◌, ◌∙◌, ◌⊎◌, ◌<◌, ◌&&◌, ◌||◌, Bool, cond, inl, inr, true, false, not, refl, sym, ap, subst, List, [], ◌∷◌, ◌++◌, length, Option, Some, None, true≢false, lt-ltb}
use Rattle.std.specs.List.{find, fold, list_any}
use Rattle.std.specs.Option.{option_map_or}
use Rattle.std.specs.Str.{bytes_eq}
use Rattle.std.proofs.lemmas.Slice.Eq.{bytes_eq-Decides}
use Rattle.clap.specs.Facts.{explicit_source, unwrap_or_range}
use Rattle.clap.specs.Kinds.{check_kinds, range_kinds}
use Rattle.clap.specs.Values.{is_request, refused_kind}
use Rattle.clap.specs.ValueTests.{accepts}
use Rattle.clap.specs.Takes.{is_given, value_passes}
use Rattle.clap.specs.Walk.{Row, Rule, Text, action_of, arg_by_id, at_row, default_rows, finished, has_row, more_values, most_values, nothing_held, reading_by, rows_after, settled, used, used_as, values_or_missing, walk, walk_from, with_default, with_values, without}
use Rattle.clap.specs.Simple.{Shape}
use Rattle.clap.specs.Faults.{action_fault, level_fault, use_fault, values_fault}
use Rattle.clap.specs.declared.builder.action.ArgAction.{ArgAction}
use Rattle.clap.specs.declared.builder.action.ArgAction.TheVariants as action
use Rattle.clap.specs.declared.builder.value_parser.ValueParser.{ValueParser}
use Rattle.clap.specs.declared.parser.matches.ValueSource.{ValueSource}
use Rattle.clap.specs.declared.builder.value_parser.Reading.{Reading}
use Rattle.clap.specs.declared.parser.matches.ValueSource.TheVariants.{DefaultValue, CommandLine}
use Rattle.ttcnx_command_line.proofs.Walks.{none-of, settle-keeps, walk-keeps}

abbrev pub AllOf : {X : Type 0} → (X → Type 0) → List X → Type 0
AllOf P [] = Unit {0}
AllOf P (x ∷ xs) = P x × AllOf P xs

abbrev pub IsFull : List Text → Type 0
IsFull [] = ⊥
IsFull (v ∷ vs) = Unit {0}

-- there is a first value, which the argument takes
abbrev pub FirstPasses : Rule → List Text → Type 0
FirstPasses a [] = ⊥
FirstPasses a (v ∷ vs) = value_passes a v ≡ true

-- the same of default values, which may be none
abbrev pub DefaultPasses : Rule → List Text → Type 0
DefaultPasses a [] = Unit {0}
DefaultPasses a (v ∷ vs) = value_passes a v ≡ true

-- the row is of one of the arguments c, and has a first value that this one takes
pub record IsFilled (c : List Rule) (r : Row) : Type 0 where
  pub rule : Rule
  pub is : arg_by_id c r.id ≡ Some rule
  pub reading : r.reading ≡ reading_by rule
  pub first : FirstPasses rule r.values

abbrev is_count : ArgAction → Bool
is_count action.Count = true
is_count _ = false

-- an argument whose uses have a value, and which is the one with its id
pub record Fills (c : List Rule) (a : Rule) : Type 0 where
  pub own : arg_by_id c a.id ≡ Some a
  pub action : is_count (action_of a) ≡ false
  pub full : (is_request (action_of a) ≡ true) ⊎ ((0 < (unwrap_or_range a.range).start_inclusive) ⊎ IsFull a.missing)
  pub defaults : DefaultPasses a a.defaults

abbrev pub AllFilled : List Rule → List Row → Type 0
AllFilled c = AllOf (IsFilled c)

append-filled : (c : List Rule) (xs ys : List Row) → AllFilled c xs → AllFilled c ys → AllFilled c (xs ++ ys)
append-filled c [] ys p q = q
append-filled c (x ∷ xs) ys p q = (p.0, append-filled c xs ys p.1 q)

at-row-filled : (c : List Rule) (id : Text) (change : Row → List Row) (missing rows : List Row) → ((r : Row) → IsFilled c r → AllFilled c (change r))
    → AllFilled c missing → AllFilled c rows → AllFilled c (at_row id change missing rows)
at-row-filled c id change missing [] h m all = m
at-row-filled c id change missing (r ∷ rs) h m all = go (bytes_eq r.id id) (at-row-filled c id change missing rs h m all.1)
  where
    go : (b : Bool) → AllFilled c (at_row id change missing rs) → AllFilled c (cond b (change r ++ rs) (r ∷ at_row id change missing rs))
    go true rest = append-filled c (change r) rs (h r all.0) all.1
    go false rest = (all.0, rest)

first-append : (a : Rule) (xs ys : List Text) → FirstPasses a xs → FirstPasses a (xs ++ ys)
first-append a [] ys h = absurd h
first-append a (x ∷ xs) ys h = h

with-values-filled : (c : List Rule) (a : Rule) → arg_by_id c a.id ≡ Some a → (s : ValueSource) (values : List Text) (rows : List Row) → FirstPasses a values → AllFilled c rows
    → AllFilled c (with_values a.id (reading_by a) s values rows)
with-values-filled c a own s values rows first all = at-row-filled c a.id (more_values s values) _ rows
    (λ r f. (record { rule = f.rule; is = f.is; reading = f.reading; first = first-append f.rule r.values values f.first }, tt))
    (record { rule = a; is = own; reading = refl; first = first }, tt) all

without-filled : (c : List Rule) (id : Text) (rows : List Row) → AllFilled c rows → AllFilled c (without id rows)
without-filled c id rows all = at-row-filled c id (λ _. []) [] rows (λ r f. tt) tt all

accepted : (ignore_case : Bool) (parser : ValueParser) (text : Text) → cond (accepts ignore_case parser text) [] (refused_kind parser ∷ []) ≡ [] → accepts ignore_case parser text ≡ true
accepted ignore_case parser text e = go (accepts ignore_case parser text) e
  where
    go : (b : Bool) → cond b [] (refused_kind parser ∷ []) ≡ [] → b ≡ true
    go true none = refl
    go false none = cc

first-passes : (a : Rule) (values : List Text) → IsFull values → values_fault a values ≡ [] → FirstPasses a values
first-passes a [] full e = absurd full
first-passes a (v ∷ vs) full e = accepted _ _ v (none-of _ _ e).0

used-as-filled : (c : List Rule) (a : Rule) → arg_by_id c a.id ≡ Some a → (x : ArgAction) → is_count x ≡ false → (again : Bool) (values : List Text) (rows : List Row)
    → IsFull values → AllFilled c rows → action_fault x again a values rows ≡ [] → AllFilled c (used_as x a.id (reading_by a) values rows)
used-as-filled c a own action.Set n again values rows full all e =
    with-values-filled c a own CommandLine values _ (first-passes a values full (none-of _ _ e).1) (without-filled c a.id rows all)
used-as-filled c a own action.SetTrue n again values rows full all e =
    with-values-filled c a own CommandLine values _ (first-passes a values full (none-of _ _ e).1) (without-filled c a.id rows all)
used-as-filled c a own action.SetFalse n again values rows full all e =
    with-values-filled c a own CommandLine values _ (first-passes a values full (none-of _ _ e).1) (without-filled c a.id rows all)
used-as-filled c a own action.Append n again values rows full all e = with-values-filled c a own CommandLine values rows (first-passes a values full e) all
used-as-filled c a own action.Count n again values rows full all e = absurd (true≢false n)
used-as-filled c a own action.Help n again values rows full all e = all
used-as-filled c a own action.HelpShort n again values rows full all e = all
used-as-filled c a own action.HelpLong n again values rows full all e = all
used-as-filled c a own action.Version n again values rows full all e = all

is_full : (a : Rule) (values : List Text) → (0 < (unwrap_or_range a.range).start_inclusive) ⊎ IsFull a.missing
    → range_kinds (unwrap_or_range a.range).start_inclusive (most_values a) (length values) ≡ [] → IsFull (values_or_missing a values)
is_full a (v ∷ vs) may e = tt
is_full a [] (inr full) e = full
is_full a [] (inl some) e =
    let bad = rw (lt-ltb 0 (unwrap_or_range a.range).start_inclusive some) at e in
    cc

request-leaves : (x : ArgAction) → is_request x ≡ true → (id : Text) (how : Reading) (values : List Text) (rows : List Row) → used_as x id how values rows ≡ rows
request-leaves action.Set e id how values rows = absurd (true≢false (sym e))
request-leaves action.SetTrue e id how values rows = absurd (true≢false (sym e))
request-leaves action.SetFalse e id how values rows = absurd (true≢false (sym e))
request-leaves action.Append e id how values rows = absurd (true≢false (sym e))
request-leaves action.Count e id how values rows = absurd (true≢false (sym e))
request-leaves action.Help e id how values rows = refl
request-leaves action.HelpShort e id how values rows = refl
request-leaves action.HelpLong e id how values rows = refl
request-leaves action.Version e id how values rows = refl

used-filled : (c : List Rule) (again : Bool) (a : Rule) → Fills c a → (values : List Text) (rows : List Row) → AllFilled c rows → use_fault again a values rows ≡ []
    → AllFilled c (used a values rows)
used-filled c again a f values rows all e =
    let parts = none-of _ _ e in
    elim f.full [
      | inl request ↦ subst (AllFilled c) (sym (request-leaves (action_of a) request a.id (reading_by a) (values_or_missing a values) rows)) all
      | inr full ↦ used-as-filled c a f.own (action_of a) f.action again (values_or_missing a values) rows (is_full a values full parts.0) all parts.1
    ]

pub of-found : {X : Type 0} (P : X → Type 0) (p : X → Bool) (xs : List X) (x : X) → AllOf P xs → find p xs ≡ Some x → P x
of-found P p [] x all e = cc
of-found P p (y ∷ ys) x all e = go (p y) e (of-found P p ys x all.1)
  where
    go : (b : Bool) → cond b (Some y) (find p ys) ≡ Some x → (find p ys ≡ Some x → P x) → P x
    go true is rest = subst P (let same : y ≡ x = cc in same) all.0
    go false is rest = rest is

-- ---- defaults

default-filled : (c : List Rule) (a : Rule) → Fills c a → (rows : List Row) → AllFilled c rows → AllFilled c (with_default rows a)
default-filled c a f rows all = go (has_row a.id rows) a.defaults f.defaults
  where
    go : (b : Bool) (defaults : List Text) → DefaultPasses a defaults → AllFilled c (cond b rows (default_rows a.id (reading_by a) defaults rows))
    go true defaults h = all
    go false [] h = all
    go false (v ∷ vs) h = with-values-filled c a f.own DefaultValue (v ∷ vs) rows h all

defaults-filled : (c xs : List Rule) → AllOf (Fills c) xs → (rows : List Row) → AllFilled c rows → AllFilled c (fold with_default rows xs)
defaults-filled c [] fit rows all = all
defaults-filled c (a ∷ rest) fit rows all = defaults-filled c rest fit.1 (with_default rows a) (default-filled c a fit.0 rows all)

-- a row that is there stays, and a default makes one
or-kept : (hit x y : Bool) → (x ≡ true → y ≡ true) → (hit || x) ≡ true → (hit || y) ≡ true
or-kept true x y h e = refl
or-kept false x y h e = h e

with-values-has : (id other : Text) (how : Reading) (s : ValueSource) (values : List Text) (rows : List Row) → has_row id rows ≡ true → has_row id (with_values other how s values rows) ≡ true
with-values-has id other how s values [] e = absurd (true≢false (sym e))
with-values-has id other how s values (r ∷ rs) e = go (bytes_eq r.id other) (with-values-has id other how s values rs)
  where
    go : (b : Bool) → (has_row id rs ≡ true → has_row id (with_values other how s values rs) ≡ true)
        → has_row id (cond b (more_values s values r ++ rs) (r ∷ with_values other how s values rs)) ≡ true
    go true rest = e
    go false rest = or-kept (bytes_eq r.id id) _ _ rest e

with-default-has : (id : Text) (a : Rule) (rows : List Row) → has_row id rows ≡ true → has_row id (with_default rows a) ≡ true
with-default-has id a rows e = go (has_row a.id rows) a.defaults
  where
    go : (b : Bool) (defaults : List Text) → has_row id (cond b rows (default_rows a.id (reading_by a) defaults rows)) ≡ true
    go true defaults = e
    go false [] = e
    go false (v ∷ vs) = with-values-has id a.id (reading_by a) DefaultValue (v ∷ vs) rows e

defaults-have : (id : Text) (xs : List Rule) (rows : List Row) → has_row id rows ≡ true → has_row id (fold with_default rows xs) ≡ true
defaults-have id [] rows e = e
defaults-have id (a ∷ rest) rows e = defaults-have id rest (with_default rows a) (with-default-has id a rows e)

same_text : (id : Text) → bytes_eq id id ≡ true
same_text id = (bytes_eq-Decides id id).1 refl

new-values-has : (id : Text) (how : Reading) (s : ValueSource) (values : List Text) (rows : List Row) → has_row id (with_values id how s values rows) ≡ true
new-values-has id how s values [] = rw (same_text id) refl
new-values-has id how s values (r ∷ rs) = go (bytes_eq r.id id) refl (new-values-has id how s values rs)
  where
    go : (b : Bool) → bytes_eq r.id id ≡ b → has_row id (with_values id how s values rs) ≡ true
        → has_row id (cond b (more_values s values r ++ rs) (r ∷ with_values id how s values rs)) ≡ true
    go true e rest = rw e refl
    go false e rest = rw e rest

own-default-has : (a : Rule) (rows : List Row) → IsFull a.defaults → has_row a.id (with_default rows a) ≡ true
own-default-has a rows full = go (has_row a.id rows) refl a.defaults full
  where
    go : (b : Bool) → has_row a.id rows ≡ b → (defaults : List Text) → IsFull defaults → has_row a.id (cond b rows (default_rows a.id (reading_by a) defaults rows)) ≡ true
    go true e defaults h = e
    go false e [] h = absurd h
    go false e (v ∷ vs) h = new-values-has a.id (reading_by a) DefaultValue (v ∷ vs) rows

abbrev HasDefault : List Row → Rule → Type 0
HasDefault rows a = IsFull a.defaults → has_row a.id rows ≡ true

all-defaults : (xs : List Rule) (rows : List Row) → AllOf (HasDefault (fold with_default rows xs)) xs
all-defaults [] rows = tt
all-defaults (a ∷ rest) rows =
    (λ full. defaults-have a.id rest (with_default rows a) (own-default-has a rows full), all-defaults rest (with_default rows a))

-- ---- one level

pub no-check : (a b x : Bool) → check_kinds a b x ≡ [] → (b ≡ false) × (x ≡ false)
no-check true b x e = cc
no-check false true x e = cc
no-check false false true e = cc
no-check false false false e = (refl, refl)

no-want : (negates x : Bool) → (not (negates && false) && x) ≡ false → x ≡ false
no-want true x e = e
no-want false x e = e

abbrev IsNeeded : List Row → Rule → Type 0
IsNeeded rows a = a.required ≡ true → is_given a.id rows ≡ true

all-needed : (xs : List Rule) (rows : List Row) → list_any (λ a. a.required && not (is_given a.id rows)) xs ≡ false → AllOf (IsNeeded rows) xs
all-needed [] rows e = tt
all-needed (a ∷ rest) rows e =
    let parts = neither _ _ e in
    (needs a.required (is_given a.id rows) parts.0, all-needed rest rows parts.1)
  where
    neither : (x y : Bool) → (x || y) ≡ false → (x ≡ false) × (y ≡ false)
    neither true y e = absurd (true≢false e)
    neither false y e = (refl, e)

    needs : (x y : Bool) → (x && not y) ≡ false → x ≡ true → y ≡ true
    needs true true e t = refl
    needs true false e t = absurd (true≢false e)
    needs false y e t = absurd (true≢false (sym t))

-- the row of an argument has a first value that it takes
pub record HasValue (rows : List Row) (a : Rule) : Type 0 where
  pub row : Row
  pub is : find (λ r. bytes_eq r.id a.id) rows ≡ Some row
  pub reading : row.reading ≡ reading_by a
  pub first : FirstPasses a row.values

found-filled : (c : List Rule) (rows : List Row) (id : Text) (r : Row) → AllFilled c rows → find (λ x. bytes_eq x.id id) rows ≡ Some r → IsFilled c r × (r.id ≡ id)
found-filled c [] id r all e = cc
found-filled c (x ∷ xs) id r all e = go (bytes_eq x.id id) refl e (found-filled c xs id r all.1)
  where
    go : (b : Bool) → bytes_eq x.id id ≡ b → cond b (Some x) (find (λ y. bytes_eq y.id id) xs) ≡ Some r
        → (find (λ y. bytes_eq y.id id) xs ≡ Some r → IsFilled c r × (r.id ≡ id)) → IsFilled c r × (r.id ≡ id)
    go true hit is rest =
        let same : x ≡ r = cc in
        subst (λ y. IsFilled c y × (y.id ≡ id)) same (all.0, (bytes_eq-Decides x.id id).0 hit)
    go false miss is rest = rest is

row-value : (c : List Rule) (rows : List Row) (a : Rule) → Fills c a → AllFilled c rows → (r : Row) → find (λ x. bytes_eq x.id a.id) rows ≡ Some r → HasValue rows a
row-value c rows a fit all r is =
    let found = found-filled c rows a.id r all is in
    let f = found.0 in
    let at_id : arg_by_id c a.id ≡ Some f.rule = subst (λ t. arg_by_id c t ≡ Some f.rule) found.1 f.is in
    let own = fit.own in
    let same : f.rule ≡ a = cc in
    record { row = r; is = is; reading = f.reading ∙ ap reading_by same; first = subst (λ x. FirstPasses x r.values) same f.first }

given-value : (c : List Rule) (rows : List Row) (a : Rule) → Fills c a → AllFilled c rows → is_given a.id rows ≡ true → HasValue rows a
given-value c rows a fit all e = go (find (λ r. bytes_eq r.id a.id) rows) refl e
  where
    go : (o : Option Row) → find (λ r. bytes_eq r.id a.id) rows ≡ o → option_map_or (λ r. explicit_source r.source) o false ≡ true → HasValue rows a
    go None is h = absurd (true≢false (sym h))
    go (Some r) is h = row-value c rows a fit all r is

found-row : (id : Text) (rows : List Row) → has_row id rows ≡ true → (r : Row) × (find (λ x. bytes_eq x.id id) rows ≡ Some r)
found-row id [] e = absurd (true≢false (sym e))
found-row id (x ∷ xs) e = go (bytes_eq x.id id) e (found-row id xs)
  where
    go : (b : Bool) → (b || has_row id xs) ≡ true → (has_row id xs ≡ true → (r : Row) × (find (λ y. bytes_eq y.id id) xs ≡ Some r))
        → (r : Row) × (cond b (Some x) (find (λ y. bytes_eq y.id id) xs) ≡ Some r)
    go true h rest = (x, refl)
    go false h rest = rest h

abbrev pub IsWanted : Rule → Type 0
IsWanted a = (a.required ≡ true) ⊎ IsFull a.defaults

wanted-value : (c : List Rule) (rows : List Row) (a : Rule) → Fills c a → AllFilled c rows → IsNeeded rows a → HasDefault rows a → IsWanted a → HasValue rows a
wanted-value c rows a fit all need default (inl required) = given-value c rows a fit all (need required)
wanted-value c rows a fit all need default (inr full) =
    let found = found-row a.id rows (default full) in
    row-value c rows a fit all found.0 found.1

wanted-values : (c xs : List Rule) (rows : List Row) → AllOf (Fills c) xs → AllFilled c rows → AllOf (IsNeeded rows) xs → AllOf (HasDefault rows) xs
    → AllOf (λ a. IsWanted a → HasValue rows a) xs
wanted-values c [] rows fit all need default = tt
wanted-values c (a ∷ rest) rows fit all need default =
    (wanted-value c rows a fit.0 all need.0 default.0, wanted-values c rest rows fit.1 all need.1 default.1)

-- a row of the argument that is there has a first value that the argument takes
abbrev pub MayHave : List Row → Rule → Type 0
MayHave rows a = (r : Row) → find (λ x. bytes_eq x.id a.id) rows ≡ Some r → HasValue rows a

row-values : (c xs : List Rule) (rows : List Row) → AllOf (Fills c) xs → AllFilled c rows → AllOf (MayHave rows) xs
row-values c [] rows fit all = tt
row-values c (a ∷ rest) rows fit all = (row-value c rows a fit.0 all, row-values c rest rows fit.1 all)

-- words that have no fault at a command with no subcommand give each argument that is required or has a default a value,
-- and the rows of the others, where there are such, have values that they take
level-both : (s : Shape) (words : List Text) → AllOf (Fills s.rules) s.rules → level_fault s [] nothing_held words false [] ≡ []
    → AllOf (λ a. IsWanted a → HasValue (rows_after s.rules [] words) a) s.rules × AllOf (MayHave (rows_after s.rules [] words)) s.rules
level-both s words fit e =
    let end = (walk s.rules [] nothing_held words).held in
    let first = none-of _ _ e in
    let second = none-of _ _ first.1 in
    let third = none-of _ _ second.1 in
    let keeps = λ (a : Rule) (p : Rule → Bool) (is : find p s.rules ≡ Some a). used-filled s.rules s.args_override_self a (of-found (Fills s.rules) p s.rules a fit is) in
    let walked : AllFilled s.rules end.rows = walk-keeps s (AllFilled s.rules) keeps [] (walk_from nothing_held) words tt first.0 in
    let settled_filled : AllFilled s.rules (settled s.rules end).rows = settle-keeps s (AllFilled s.rules) keeps end.pending end.rows walked second.0 in
    let all : AllFilled s.rules (finished s.rules end) = defaults-filled s.rules s.rules fit (settled s.rules end).rows settled_filled in
    let want = no-want s.subcommand_negates_reqs _ (no-check _ _ _ third.1).1 in (
      wanted-values s.rules s.rules (finished s.rules end) fit all (all-needed s.rules (finished s.rules end) want) (all-defaults s.rules (settled s.rules end).rows),
      row-values s.rules s.rules (finished s.rules end) fit all,
    )

pub level-values : (s : Shape) (words : List Text) → AllOf (Fills s.rules) s.rules → level_fault s [] nothing_held words false [] ≡ []
    → AllOf (λ a. IsWanted a → HasValue (rows_after s.rules [] words) a) s.rules
level-values s words fit e = (level-both s words fit e).0

pub level-rows : (s : Shape) (words : List Text) → AllOf (Fills s.rules) s.rules → level_fault s [] nothing_held words false [] ≡ []
    → AllOf (MayHave (rows_after s.rules [] words)) s.rules
level-rows s words fit e = (level-both s words fit e).1
