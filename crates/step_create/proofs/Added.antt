-- Ports one behind the other.
use Rattle.std.proofs.Common.{◌≡◌, ℕ, suc, ◌+◌, ◌<◌, ◌≤◌, List, [], ◌∷◌, ◌++◌, map, length, get_or, drop, Contains, refl, sym, ap, ◌∙◌, append_assoc, arith}
use Rattle.std.proofs.Math.Seq.{drop-cons}
use Rattle.std.proofs.lemmas.List.{append-nil, drop_all, map-append}
use Rattle.std.specs.List.{flat_map}
use Rattle.step_create.specs.internal.Queues.{no_messages}
use Rattle.semantics.specs.Configurations.{Queue}
use Rattle.semantics.specs.Creating.{ports_of}
use Rattle.step_snapshot.specs.Slots.{NoneIsMissing}
use Rattle.graph_names.specs.Known.{names_of_member}
use Rattle.ttcn_syntax.specs.declared.tree.definition.Member.{Member}
use Rattle.ttcn_syntax.specs.declared.tree.definition.Member.TheVariants as member

-- ---- the ports of one declaration

-- behind the first ones, so many of the ports give these
abbrev pub HaveCome : List (List ℕ) → List Queue → ℕ → List Queue → Type 0
HaveCome ports first n now = first ++ map no_messages ports ≡ now ++ map no_messages (drop n ports)

pub none-came : (ports : List (List ℕ)) (first : List Queue) → HaveCome ports first 0 first
none-came ports first = refl

pub one-came : (ports : List (List ℕ)) (first now : List Queue) (n : ℕ) (port : List ℕ) → n < length ports → port ≡ get_or ports n port → HaveCome ports first n now
    → HaveCome ports first (n + 1) (now ++ no_messages port ∷ [])
one-came ports first now n port within is came =
    came ∙ ap (λ ys. now ++ map no_messages ys) (drop-cons ports n port within ∙ ap (λ y. y ∷ drop (suc n) ports) (sym is))
    ∙ sym (append_assoc now (no_messages port ∷ []) (map no_messages (drop (suc n) ports)))
    ∙ ap (λ m. (now ++ no_messages port ∷ []) ++ map no_messages (drop m ports)) (let same : suc n ≡ n + 1 = omega arith in same)

pub all-came : (ports : List (List ℕ)) (first now : List Queue) (n : ℕ) → length ports ≤ n → HaveCome ports first n now → now ≡ first ++ map no_messages ports
all-came ports first now n end came = sym (came ∙ ap (λ ys. now ++ map no_messages ys) (drop_all n ports end) ∙ append-nil now)

-- ---- the ports of declarations

-- so many of the declarations give these
abbrev pub HaveAdded : List Member → ℕ → List Queue → Type 0
HaveAdded members n now = map no_messages (flat_map ports_of members) ≡ now ++ map no_messages (flat_map ports_of (drop n members))

pub none-added : (members : List Member) → HaveAdded members 0 []
none-added members = refl

pub one-added : (members : List Member) (now next : List Queue) (n : ℕ) (m : Member) → n < length members → m ≡ get_or members n m → HaveAdded members n now
    → next ≡ now ++ map no_messages (ports_of m) → HaveAdded members (n + 1) next
one-added members now next n m within is added more =
    added ∙ ap (λ ys. now ++ map no_messages (flat_map ports_of ys)) (drop-cons members n m within ∙ ap (λ y. y ∷ drop (suc n) members) (sym is))
    ∙ ap (λ ys. now ++ ys) (map-append no_messages (ports_of m) (flat_map ports_of (drop (suc n) members)))
    ∙ sym (append_assoc now (map no_messages (ports_of m)) (map no_messages (flat_map ports_of (drop (suc n) members))))
    ∙ ap (λ ys. ys ++ map no_messages (flat_map ports_of (drop (suc n) members))) (sym more)
    ∙ ap (λ k. next ++ map no_messages (flat_map ports_of (drop k members))) (let same : suc n ≡ n + 1 = omega arith in same)

pub all-added : (members : List Member) (now : List Queue) (n : ℕ) → length members ≤ n → HaveAdded members n now → now ≡ map no_messages (flat_map ports_of members)
all-added members now n end added = sym (added ∙ ap (λ ys. now ++ map no_messages (flat_map ports_of ys)) (drop_all n members end) ∙ append-nil now)

none-known : {A : Type 0} (name : List ℕ) → Contains [] name → A
none-known name (n, below, is) = absurd (let b : n < 0 = below in omega (arith, b))

-- the ports of a declaration are among its names
pub ports-known : (names : List (List ℕ)) (m : Member) → NoneIsMissing names (names_of_member m) → NoneIsMissing names (ports_of m)
ports-known names (member.Ports port_type ports) known name has = known name has
ports-known names (member.Constants cs) known name has = none-known name has
ports-known names (member.Variables of variables) known name has = none-known name has
ports-known names (member.Timers timers) known name has = none-known name has

-- a port of a list of which none is missing
pub port-known : (names ports : List (List ℕ)) (n : ℕ) (port : List ℕ) → n < length ports → port ≡ get_or ports n port → NoneIsMissing names ports → ¬ (¬ Contains names port)
port-known names ports n port within is known = known port (n, within, sym is)
