-- A port that a component type's scope knows is one of the type's ports, and components have a queue for each of them.
use Rattle.std.proofs.Common.{◌≡◌, ℕ, ◌+◌, Bool, true, false, ◌||◌, List, [], ◌∷◌, ◌++◌, map, bytes_eq, Option, Some, None, is_some, ◌⊎◌, inl, inr, refl, sym, ap, ◌∙◌, if◌then◌else◌}
use Rattle.std.specs.List.{All, find, flat_map, list_any}
use Rattle.std.specs.Option.{option_or}
use Rattle.std.proofs.lemmas.List.Elements.{All-append, All-cons, All-head, All-map, All-nil, All-tail}
use Rattle.ttcn_syntax.specs.declared.tree.definition.Definition.{Definition}
use Rattle.ttcn_syntax.specs.declared.tree.definition.DefinitionKind.{DefinitionKind}
use Rattle.ttcn_syntax.specs.declared.tree.definition.DefinitionKind.TheVariants as kind
use Rattle.ttcn_syntax.specs.declared.tree.definition.Enumerator.{Enumerator}
use Rattle.ttcn_syntax.specs.declared.tree.definition.Member.{Member}
use Rattle.ttcn_syntax.specs.declared.tree.definition.Member.TheVariants as member
use Rattle.ttcn_syntax.specs.declared.tree.definition.MemberVariable.{MemberVariable}
use Rattle.ttcn_syntax.specs.declared.tree.statement.Constant.{Constant}
use Rattle.ttcn_syntax.specs.declared.tree.statement.Timer.{Timer}
use Rattle.check_scope.specs.Names.{Entry, Names, behind, behind_members, constant_entries, entries_at, entries_from, kind_at, listed, member_entries, members_of, module_names, names_on, resolved}
use Rattle.check_scope.specs.declared.names.Meaning.{Meaning}
use Rattle.check_scope.specs.declared.names.Meaning.TheVariants as meaning
use Rattle.check_rules.specs.Messages.{port_meant}
use Rattle.laws_references.proofs.Values.{all-of}
use Rattle.laws_references.specs.There.{port_names}
use Rattle.semantics.specs.Configurations.{Message, Queue}
use Rattle.semantics.specs.Creating.{empty_queues, ports_of}
use Rattle.semantics.specs.Steps.{change_queue}

-- ---- lists

any-more : (b c d : Bool) → (c ≡ true → d ≡ true) → (b || c) ≡ true → (b || d) ≡ true
any-more true c d more is = refl
any-more false c d more is = more is

any-rest : (b c : Bool) → c ≡ true → (b || c) ≡ true
any-rest true c is = refl
any-rest false c is = is

any-first : (b c : Bool) → b ≡ true → (b || c) ≡ true
any-first true c is = refl
any-first false c is = absurd (let no = is in cc)

any-left : {A : Type 0} (test : A → Bool) (xs ys : List A) → list_any test xs ≡ true → list_any test (xs ++ ys) ≡ true
any-left test [] ys is = absurd (let no = is in cc)
any-left test (x ∷ xs) ys is = any-more (test x) (list_any test xs) (list_any test (xs ++ ys)) (any-left test xs ys) is

any-right : {A : Type 0} (test : A → Bool) (xs ys : List A) → list_any test ys ≡ true → list_any test (xs ++ ys) ≡ true
any-right test [] ys is = is
any-right test (x ∷ xs) ys is = any-rest (test x) (list_any test (xs ++ ys)) (any-right test xs ys is)

-- ---- what names stand for

-- a name stands for a port
abbrev is-port : Option Meaning → Bool
is-port m = is_some (port_meant m)

one-port : (o p : Option Meaning) → is-port (option_or o p) ≡ true → (is-port o ≡ true) ⊎ (is-port p ≡ true)
one-port None p is = inr is
one-port (Some m) p is = inl is

-- an entry that is none of a port
abbrev NoPort : Entry → Type 0
NoPort entry = is-port (Some entry.1) ≡ false

no-such : (b : Bool) (m : Meaning) → is-port (Some m) ≡ false → is-port (if b then Some m else None) ≡ true → ⊥
no-such true m none is = let e : true ≡ false = sym is ∙ none in cc
no-such false m none is = let e = is in cc

none-listed : (entries : List Entry) (name : List ℕ) → All NoPort entries → is-port (listed entries name) ≡ true → ⊥
none-listed [] name all is = let e = is in cc
none-listed (entry ∷ entries) name all is = by (one-port (listed entries name) (if bytes_eq entry.0 name then Some entry.1 else None) is) (none-listed entries name (All-tail NoPort entry entries all))
  where
    by : (is-port (listed entries name) ≡ true) ⊎ (is-port (if bytes_eq entry.0 name then Some entry.1 else None) ≡ true) → (is-port (listed entries name) ≡ true → ⊥) → ⊥
    by (inl later) others = others later
    by (inr here) others = no-such (bytes_eq entry.0 name) entry.1 (All-head NoPort entry entries all) here

mapped-none : {A : Type 0} (f : A → Entry) → ((a : A) → NoPort (f a)) → (xs : List A) → All NoPort (map f xs)
mapped-none f none xs = All-map NoPort f xs (all-of (λ a. NoPort (f a)) none xs)

-- ---- the module has no ports

constants-none : (at item : ℕ) (cs : List Constant) → All NoPort (constant_entries at item cs)
constants-none at item [] = All-nil NoPort
constants-none at item (c ∷ cs) = All-cons NoPort (c.name, meaning.ModuleConstant at item) (constant_entries at (item + 1) cs) refl (constants-none at (item + 1) cs)

one-none : (name : List ℕ) (m : Meaning) → is-port (Some m) ≡ false → All NoPort ((name, m) ∷ [])
one-none name m none = All-cons NoPort (name, m) [] none (All-nil NoPort)

entries-none : (at : ℕ) (k : DefinitionKind) → All NoPort (entries_at at k)
entries-none at (kind.Record r) = one-none r.name (meaning.Record at) refl
entries-none at (kind.Enumerated e) =
    All-cons NoPort (e.name, meaning.Enumerated at) (map (λ (n : Enumerator). (n.name, meaning.Enumerator at)) e.enumerators) refl
    (mapped-none (λ (n : Enumerator). (n.name, meaning.Enumerator at)) (λ n. refl) e.enumerators)
entries-none at (kind.Port p) = one-none p.name (meaning.PortType at) refl
entries-none at (kind.Component c) = one-none c.name (meaning.Component at) refl
entries-none at (kind.Constants cs) = constants-none at 0 cs.constants
entries-none at (kind.Template t) = one-none t.name (meaning.Template at) refl
entries-none at (kind.Function f) = one-none f.name (meaning.Function at) refl
entries-none at (kind.Altstep a) = one-none a.name (meaning.Altstep at) refl
entries-none at (kind.Testcase t) = one-none t.name (meaning.Testcase at) refl

module-none : (at : ℕ) (definitions : List Definition) → All NoPort (entries_from at definitions)
module-none at [] = All-nil NoPort
module-none at (d ∷ definitions) = All-append NoPort (entries_at at d.kind) (entries_from (at + 1) definitions) (entries-none at d.kind) (module-none (at + 1) definitions)

-- ---- the ports of a component type

abbrev Named : List ℕ → List (List ℕ) → Type 0
Named name ports = list_any (λ port. bytes_eq port name) ports ≡ true

here-named : (b : Bool) (m : Meaning) → is-port (if b then Some m else None) ≡ true → b ≡ true
here-named true m is = refl
here-named false m is = absurd (let no = is in cc)

ports-listed : (of : Option ℕ) (ports : List (List ℕ)) (name : List ℕ) → is-port (listed (map (λ (port : List ℕ). (port, meaning.Port of)) ports) name) ≡ true → Named name ports
ports-listed of [] name is = absurd (let no = is in cc)
ports-listed of (port ∷ ports) name is =
    by (one-port (listed (map (λ (p : List ℕ). (p, meaning.Port of)) ports) name) (if bytes_eq port name then Some (meaning.Port of) else None) is) (ports-listed of ports name)
  where
    by : (is-port (listed (map (λ (p : List ℕ). (p, meaning.Port of)) ports) name) ≡ true) ⊎ (is-port (if bytes_eq port name then Some (meaning.Port of) else None) ≡ true)
        → (is-port (listed (map (λ (p : List ℕ). (p, meaning.Port of)) ports) name) ≡ true → Named name ports) → Named name (port ∷ ports)
    by (inl later) others = any-rest (bytes_eq port name) (list_any (λ p. bytes_eq p name) ports) (others later)
    by (inr here) others = any-first (bytes_eq port name) (list_any (λ p. bytes_eq p name) ports) (here-named (bytes_eq port name) (meaning.Port of) here)

member-listed : (names : Names) (m : Member) (name : List ℕ) → is-port (listed (member_entries names m) name) ≡ true → Named name (ports_of m)
member-listed names (member.Ports port_type ports) name is = ports-listed _ ports name is
member-listed names (member.Constants cs) name is =
    absurd (none-listed (member_entries names (member.Constants cs)) name (mapped-none (λ (c : Constant). (c.name, meaning.Constant (resolved names cs.type_name))) (λ c. refl) cs.constants) is)
member-listed names (member.Variables of variables) name is =
    absurd (none-listed (member_entries names (member.Variables of variables)) name (mapped-none (λ (v : MemberVariable). (v.name, meaning.Variable (resolved names of))) (λ v. refl) variables) is)
member-listed names (member.Timers timers) name is =
    absurd (none-listed (member_entries names (member.Timers timers)) name (mapped-none (λ (t : Timer). (t.name, meaning.Timer)) (λ t. refl) timers) is)

members-listed : (names : Names) (ms : List Member) (name : List ℕ) → is-port (behind_members names ms name) ≡ true → (is-port (names name) ≡ true) ⊎ Named name (flat_map ports_of ms)
members-listed names [] name is = inl is
members-listed names (m ∷ ms) name is = by (members-listed (behind names (member_entries names m)) ms name is)
  where
    before : (is-port (listed (member_entries names m) name) ≡ true) ⊎ (is-port (names name) ≡ true) → (is-port (names name) ≡ true) ⊎ Named name (ports_of m ++ flat_map ports_of ms)
    before (inl here) = inr (any-left (λ port. bytes_eq port name) (ports_of m) (flat_map ports_of ms) (member-listed names m name here))
    before (inr outer) = inl outer

    by : (is-port (behind names (member_entries names m) name) ≡ true) ⊎ Named name (flat_map ports_of ms) → (is-port (names name) ≡ true) ⊎ Named name (ports_of m ++ flat_map ports_of ms)
    by (inl here) = before (one-port (listed (member_entries names m) name) (names name) here)
    by (inr later) = inr (any-right (λ port. bytes_eq port name) (ports_of m) (flat_map ports_of ms) later)

pub port-named : (definitions : List Definition) (at : ℕ) (name : List ℕ) → is_some (port_meant (names_on definitions at name)) ≡ true → list_any (λ port. bytes_eq port name) (port_names definitions at) ≡ true
port-named definitions at name is = by (members-listed (module_names definitions) (members_of (kind_at definitions at)) name is)
  where
    by : (is-port (module_names definitions name) ≡ true) ⊎ Named name (port_names definitions at) → Named name (port_names definitions at)
    by (inl outer) = absurd (none-listed (entries_from 0 definitions) name (module-none 0 definitions) outer)
    by (inr here) = here

-- ---- queues

-- a queue is found where its port is one of the names
pub queue-found : (queues : List Queue) (port : List ℕ) → is_some (find (λ queue. bytes_eq queue.0 port) queues) ≡ list_any (λ name. bytes_eq name port) (map (λ queue. queue.0) queues)
queue-found [] port = refl
queue-found (queue ∷ queues) port = found-if (bytes_eq queue.0 port) queue (find (λ q. bytes_eq q.0 port) queues) (list_any (λ name. bytes_eq name port) (map (λ q. q.0) queues)) (queue-found queues port)
  where
    found-if : (b : Bool) (q : Queue) (o : Option Queue) (any : Bool) → is_some o ≡ any → is_some (if b then Some q else o) ≡ (b || any)
    found-if true q o any e = refl
    found-if false q o any e = e

-- a change of messages leaves the names
pub names-kept : (port : List ℕ) (change : List Message → List Message) (queues : List Queue) → map (λ queue. queue.0) (change_queue port change queues) ≡ map (λ queue. queue.0) queues
names-kept port change [] = refl
names-kept port change (queue ∷ queues) = kept-if (bytes_eq queue.0 port) (names-kept port change queues)
  where
    kept-if : (b : Bool) → map (λ (q : Queue). q.0) (change_queue port change queues) ≡ map (λ (q : Queue). q.0) queues
        → map (λ (q : Queue). q.0) (if b then (queue.0, change queue.1) ∷ queues else queue ∷ change_queue port change queues) ≡ queue.0 ∷ map (λ (q : Queue). q.0) queues
    kept-if true e = refl
    kept-if false e = ap (λ names. queue.0 ∷ names) e

names-of-empty : (names : List (List ℕ)) → map (λ (q : Queue). q.0) (map (λ (name : List ℕ). (name, [])) names) ≡ names
names-of-empty [] = refl
names-of-empty (name ∷ names) = ap (λ others. name ∷ others) (names-of-empty names)

-- the queues of a new component
pub empty-named : (definitions : List Definition) (at : ℕ) → map (λ queue. queue.0) (empty_queues definitions at) ≡ port_names definitions at
empty-named definitions at = names-of-empty (port_names definitions at)
