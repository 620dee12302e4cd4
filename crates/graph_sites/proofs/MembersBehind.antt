-- What component types declare, declaration by declaration.
use Rattle.std.proofs.Common.{◌≡◌, refl, sym, ap, ◌∙◌, ℕ, ◌+◌, ◌<◌, Bool, true, false, ◌||◌, List, [], ◌∷◌, ◌++◌, map, length, take, get_or, Option, Some, None, bytes_eq, if◌then◌else◌}
use Rattle.std.proofs.lemmas.List.{take_more}
use Rattle.std.specs.List.{list_any}
use Rattle.std.specs.Option.{option_or}
use Rattle.ttcn_syntax.specs.declared.tree.definition.Member.{Member}
use Rattle.ttcn_syntax.specs.declared.tree.definition.Member.TheVariants as member
use Rattle.check_scope.specs.Names.{Names, behind, behind_members, listed, member_entries, port_type_meant}
use Rattle.check_scope.specs.declared.names.Meaning.{Meaning}
use Rattle.check_scope.specs.declared.names.Meaning.TheVariants as meaning
use Rattle.check_rules.specs.Messages.{port_meant}
use Rattle.graph_sites.specs.internal.MemberNames.{declares, member_meaning}

-- ---- one declaration

either : {A : Type 0} (b c : Bool) (m : A) → option_or (if c then Some m else None) (if b then Some m else None) ≡ (if b || c then Some m else None)
either true true m = refl
either true false m = refl
either false true m = refl
either false false m = refl

-- names that stand for the same
listed-all : {A : Type 0} (of : A → List ℕ) (m : Meaning) (all : List A) (name : List ℕ)
    → listed (map (λ x. (of x, m)) all) name ≡ (if list_any (λ x. bytes_eq (of x) name) all then Some m else None)
listed-all of m [] name = refl
listed-all of m (x ∷ all) name =
    ap (λ o. option_or o (if bytes_eq (of x) name then Some m else None)) (listed-all of m all name)
    ∙ either (bytes_eq (of x) name) (list_any (λ x. bytes_eq (of x) name) all) m

listed-member : (names : Names) (m : Member) (name : List ℕ) → listed (member_entries names m) name ≡ (if declares m name then Some (member_meaning names m) else None)
listed-member names (member.Ports port_type ports) name = listed-all (λ port. port) (meaning.Port (port_type_meant (names port_type))) ports name
listed-member names (member.Constants cs) name = listed-all (λ c. c.name) (member_meaning names (member.Constants cs)) cs.constants name
listed-member names (member.Variables of variables) name = listed-all (λ v. v.name) (member_meaning names (member.Variables of variables)) variables name
listed-member names (member.Timers timers) name = listed-all (λ t. t.name) meaning.Timer timers name

-- what a name stands for behind a declaration
behind-member : (names : Names) (m : Member) (name : List ℕ) → behind names (member_entries names m) name ≡ (if declares m name then Some (member_meaning names m) else names name)
behind-member names m name = ap (λ o. option_or o (names name)) (listed-member names m name) ∙ by (declares m name)
  where
    by : (b : Bool) → option_or (if b then Some (member_meaning names m) else None) (names name) ≡ (if b then Some (member_meaning names m) else names name)
    by true = refl
    by false = refl

-- ---- types behind declarations

no-type : (names : Names) (m : Member) → port_type_meant (Some (member_meaning names m)) ≡ None
no-type names (member.Ports port_type ports) = refl
no-type names (member.Constants cs) = refl
no-type names (member.Variables of variables) = refl
no-type names (member.Timers timers) = refl

-- a name that is declared is no type; any other stands for what it stood for
pub type-behind : (names : Names) (members : List Member) (name : List ℕ)
    → port_type_meant (behind_members names members name) ≡ (if list_any (λ m. declares m name) members then None else port_type_meant (names name))
type-behind names [] name = refl
type-behind names (m ∷ members) name =
    type-behind (behind names (member_entries names m)) members name
    ∙ ap (λ o. if list_any (λ m. declares m name) members then None else port_type_meant o) (behind-member names m name)
    ∙ by (declares m name) (list_any (λ m. declares m name) members)
  where
    by : (b c : Bool) → (if c then None else port_type_meant (if b then Some (member_meaning names m) else names name)) ≡ (if b || c then None else port_type_meant (names name))
    by true true = refl
    by true false = no-type names m
    by false true = refl
    by false false = refl

-- ---- ports behind declarations

members-push : (names : Names) (members : List Member) (m : Member)
    → behind_members names (members ++ m ∷ []) ≡ behind (behind_members names members) (member_entries (behind_members names members) m)
members-push names [] m = refl
members-push names (first ∷ members) m = members-push (behind names (member_entries names first)) members m

-- behind so many declarations and one more
behind-next : (names : Names) (members : List Member) (at place : ℕ) (m : Member) (name : List ℕ) → place ≡ at + 1 → at < length members → m ≡ get_or members at m
    → behind_members names (take place members) name
    ≡ (if declares m name then Some (member_meaning (behind_members names (take at members)) m) else behind_members names (take at members) name)
behind-next names members at place m name one within is =
    ap (λ n. behind_members names (take n members) name) one
    ∙ ap (λ l. behind_members names l name) (take_more members at m within ∙ ap (λ x. take at members ++ x ∷ []) (sym is))
    ∙ ap (λ (ns : Names). ns name) (members-push names (take at members) m)
    ∙ behind-member (behind_members names (take at members)) m name

-- what a name stands for behind all declarations is what it stands for behind so many
abbrev pub IsBehind : Names → List Member → List ℕ → ℕ → Type 0
IsBehind names members name place = behind_members names members name ≡ behind_members names (take place members) name

-- the last declaration that declares the name counts
pub port-found : (names : Names) (members : List Member) (at place : ℕ) (m : Member) (name : List ℕ) (found : Option (Option ℕ)) → place ≡ at + 1 → at < length members
    → m ≡ get_or members at m → declares m name ≡ true → IsBehind names members name place
    → found ≡ port_meant (Some (member_meaning (behind_members names (take at members)) m)) → found ≡ port_meant (behind_members names members name)
port-found names members at place m name found one within is here last found_is =
    found_is
    ∙ sym (ap (λ b. port_meant (if b then Some (member_meaning (behind_members names (take at members)) m) else behind_members names (take at members) name)) here)
    ∙ sym (ap port_meant (last ∙ behind-next names members at place m name one within is))

-- one that doesn't is passed over
pub port-passed : (names : Names) (members : List Member) (at place : ℕ) (m : Member) (name : List ℕ) → place ≡ at + 1 → at < length members
    → m ≡ get_or members at m → declares m name ≡ false → IsBehind names members name place → IsBehind names members name at
port-passed names members at place m name one within is here last =
    last ∙ behind-next names members at place m name one within is
    ∙ ap (λ b. if b then Some (member_meaning (behind_members names (take at members)) m) else behind_members names (take at members) name) here
