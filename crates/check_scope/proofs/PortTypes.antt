-- The types of the messages that pass at ports, type by type.
use mathlib.Core.Path.{fun_ext}
use Rattle.std.proofs.Common.{◌≡◌, ◌≤◌, ℕ, ◌+◌, ◌<◌, Bool, true, false, ◌||◌, if◌then◌else◌, HashSet, List, ◌∷◌, length, get_or, drop, drop-cons, add-one, Option, None, refl, sym, ap, ◌∙◌}
use Rattle.std.proofs.lemmas.Cmp.{nat_eq_equiv}
use Rattle.std.proofs.lemmas.List.{drop_all}
use Rattle.std.specs.HashSet.{contains, contains_by}
use Rattle.std.specs.List.{list_any}
use Rattle.check_scope.specs.contracts.types.DataTypePartialEq.TheImpl as derived
use Rattle.std.specs.Option.{option_map}
use Rattle.ttcn_syntax.specs.declared.tree.definition.Definition.{Definition}
use Rattle.check_scope.specs.internal.Traffic.{types_at}
use Rattle.check_scope.specs.PortTypes.{agrees, types_of_port}
use Rattle.check_scope.specs.Names.{Names}
use Rattle.check_scope.specs.declared.traffic.Traffic.{Traffic}
use Rattle.check_scope.proofs.Alongside.{Alongside}
use Rattle.check_scope.specs.Typings.{same_type}
use Rattle.check_scope.specs.declared.types.DataType.{DataType}
use Rattle.check_scope.specs.declared.types.DataType.TheVariants as type

-- a set lists types by a test
abbrev pub Lists : Type 0
Lists = DataType → Bool

-- the types so far, and those that are left
abbrev pub types_after : Lists → List (Option DataType) → Lists
types_after now others t = now t || list_any (agrees t) others

or-more : (a b c : Bool) → ((a || b) || c) ≡ (a || (b || c))
or-more true b c = refl
or-more false b c = refl

or-false : (b : Bool) → (b || false) ≡ b
or-false true = refl
or-false false = refl

-- one type more
pub types-next : (now next : Lists) (others : List (Option DataType)) (i : ℕ) → i < length others
    → next ≡ (λ t. now t || agrees t (get_or others i None)) → types_after now (drop i others) ≡ types_after next (drop (i + 1) others)
types-next now next others i inside next_is =
    let other : Option DataType = get_or others i None in
    ap (types_after now) (drop-cons others i None inside ∙ ap (λ k. other ∷ drop k others) (sym (add-one i)))
    ∙ fun_ext (λ t. sym (or-more (now t) (agrees t other) (list_any (agrees t) (drop (i + 1) others))))
    ∙ ap (λ (f : Lists). types_after f (drop (i + 1) others)) (sym next_is)

-- none is left
pub types-end : (now : Lists) (others : List (Option DataType)) (i : ℕ) → length others ≤ i → types_after now (drop i others) ≡ now
types-end now others i past = ap (types_after now) (drop_all i others past) ∙ fun_ext (λ t. or-false (now t))

-- a type that is put among others
pub put-among : (unknown same had : Bool) → (unknown || (if same then true else had)) ≡ ((unknown || had) || same)
put-among true same had = refl
put-among false true true = refl
put-among false true false = refl
put-among false false true = refl
put-among false false false = refl

pub same-either-way : (a b : DataType) → same_type a b ≡ same_type b a
same-either-way type.Integer type.Integer = refl
same-either-way type.Boolean type.Boolean = refl
same-either-way type.Default type.Default = refl
same-either-way (type.Record at) (type.Record other) = nat_eq_equiv.symm at other
same-either-way (type.Enumerated at) (type.Enumerated other) = nat_eq_equiv.symm at other
same-either-way (type.Component at) (type.Component other) = nat_eq_equiv.symm at other
same-either-way a b = refl

-- the comparison that look-ups take
pub derived-same : (a b : DataType) → derived.ghosts.eq a b ≡ same_type a b
derived-same type.Integer type.Integer = refl
derived-same type.Boolean type.Boolean = refl
derived-same type.Default type.Default = refl
derived-same (type.Record at) (type.Record other) = refl
derived-same (type.Enumerated at) (type.Enumerated other) = refl
derived-same (type.Component at) (type.Component other) = refl
derived-same a b = refl

-- a type that is put into a set
pub put-type : {S : Type 0} (set next : HashSet DataType S) (other t : DataType) → contains derived.ghosts.eq next t ≡ (if derived.ghosts.eq other t then true else contains derived.ghosts.eq set t)
    → contains_by (λ key. same_type t key) next ≡ (if same_type other t then true else contains_by (λ key. same_type t key) set)
put-type set next other t is =
    ap (λ (test : DataType → Bool). contains_by test next) (sym (fun_ext (λ key. derived-same t key)))
    ∙ is
    ∙ ap (λ (test : DataType → Bool). if derived.ghosts.eq other t then true else contains_by test set) (fun_ext (λ key. derived-same t key))
    ∙ ap (λ (b : Bool). if b then true else contains_by (λ key. same_type t key) set) (derived-same other t)

-- ---- all definitions

-- the types of the messages that pass at ports of a definition
abbrev pub passing_by : Names → Option Definition → Bool → List (Option DataType)
passing_by names definition incoming = types_of_port names incoming (option_map (λ d. d.kind) definition)

-- what passes at ports is what their definitions list
abbrev pub HaveTraffic : Names → List (Option Traffic) → List Definition → Type 0
HaveTraffic names ports definitions = Alongside types_at (passing_by names) ports definitions
