-- The declarations of component types, one by one, and the tables of all of them.
use Rattle.std.proofs.Common.{◌≡◌, ◌≤◌, ℕ, zero, suc, ◌+◌, ◌<◌, List, [], ◌∷◌, ◌++◌, length, get_or, drop, take, Option, Some, None, refl, sym, ap, ◌∙◌, arith}
use Rattle.std.proofs.lemmas.List.{drop_all, length-take-le, take_all, take_more}
use Rattle.ttcn_syntax.specs.declared.tree.definition.Definition.{Definition}
use Rattle.ttcn_syntax.specs.declared.tree.definition.Member.{Member}
use Rattle.check_scope.specs.Names.{Names, behind, behind_members, kind_at, member_entries, members_of, module_names, names_on}
use Rattle.check_scope.specs.internal.Checking.{view_in, visible_in}
use Rattle.check_scope.specs.Scopes.{outer_names, outside}
use Rattle.check_scope.specs.internal.Tables.{either, member, said}
use Rattle.check_scope.specs.declared.table.Table.{Table}
use Rattle.check_scope.proofs.Lookups.{drop-next}

-- one declaration more
pub members-next : (names next : Names) (members : List Member) (i : ℕ) (m : Member) → i < length members → m ≡ get_or members i m
    → next ≡ behind names (member_entries names m) → behind_members names (drop i members) ≡ behind_members next (drop (i + 1) members)
members-next names next members i m inside is next_is =
    ap (behind_members names) (drop-next members i m inside is) ∙ ap (λ n. behind_members n (drop (i + 1) members)) (sym next_is)

-- none is left
pub members-end : (names : Names) (members : List Member) (i : ℕ) → length members ≤ i → behind_members names (drop i members) ≡ names
members-end names members i past = ap (behind_members names) (drop_all i members past)

-- ---- the tables of all definitions

-- each table says what its component type declares; what is no component type declares nothing
abbrev pub HaveMembers : Names → List Table → List Definition → Type 0
HaveMembers names tables definitions = (at : ℕ) → either (member tables (Some at)) names ≡ behind_members names (members_of (kind_at definitions at))

pub none-yet : (names : Names) → HaveMembers names [] []
none-yet names at = refl

one-more : (names : Names) (tables : List Table) (definitions : List Definition) (t : Table) (d : Definition) → length tables ≡ length definitions
    → HaveMembers names tables definitions → either (said t) names ≡ behind_members names (members_of (Some d.kind)) → HaveMembers names (tables ++ t ∷ []) (definitions ++ d ∷ [])
one-more names [] [] t d same all is zero = is
one-more names [] [] t d same all is (suc at) = refl
one-more names [] (y ∷ definitions) t d same all is at = absurd (omega (arith, same))
one-more names (x ∷ tables) [] t d same all is at = absurd (omega (arith, same))
one-more names (x ∷ tables) (y ∷ definitions) t d same all is zero = all zero
one-more names (x ∷ tables) (y ∷ definitions) t d same all is (suc at) = one-more names tables definitions t d (omega (arith, same)) (λ k. all (suc k)) is at

-- one definition more
pub tables-next : (names : Names) (tables next : List Table) (definitions : List Definition) (i : ℕ) (t : Table) (d : Definition) → i < length definitions → d ≡ get_or definitions i d
    → length tables ≡ i → HaveMembers names tables (take i definitions) → either (said t) names ≡ behind_members names (members_of (Some d.kind))
    → next ≡ tables ++ t ∷ [] → HaveMembers names next (take (i + 1) definitions)
tables-next names tables next definitions i t d inside is same all t_is next_is =
    let whole : take (i + 1) definitions ≡ take i definitions ++ d ∷ [] = take_more definitions i d inside ∙ ap (λ y. take i definitions ++ y ∷ []) (sym is) in
    let here = one-more names tables (take i definitions) t d (same ∙ sym (length-take-le i definitions (omega (arith, inside)))) all t_is in
    rw (whole, next_is) here

-- none is left
pub tables-end : (names : Names) (tables : List Table) (definitions : List Definition) (i : ℕ) → length definitions ≤ i → HaveMembers names tables (take i definitions)
    → HaveMembers names tables definitions
tables-end names tables definitions i past all = rw (take_all i definitions past) at all

-- ---- outside of blocks

-- what is visible where no block has begun
visible-outside : (definitions : List Definition) (defined empty : Table) (tables : List Table) (runs_on itself : Option ℕ) → said empty ≡ (λ name. None)
    → said defined ≡ module_names definitions → ((at : ℕ) → either (member tables (Some at)) (said defined) ≡ names_on definitions at)
    → visible_in (record { definitions = definitions; defined = defined; members = tables; runs_on = runs_on; itself = itself; blocks = [] }) empty ≡ outer_names definitions runs_on
visible-outside definitions defined empty tables None itself nothing whole all =
    ap (λ (n : Names). either n (said defined)) nothing ∙ whole
visible-outside definitions defined empty tables (Some at) itself nothing whole all =
    ap (λ (n : Names). either n (either (member tables (Some at)) (said defined))) nothing ∙ all at

pub view-outside : (definitions : List Definition) (defined empty : Table) (tables : List Table) (runs_on itself : Option ℕ) → said empty ≡ (λ name. None)
    → said defined ≡ module_names definitions → ((at : ℕ) → either (member tables (Some at)) (said defined) ≡ names_on definitions at)
    → view_in (record { definitions = definitions; defined = defined; members = tables; runs_on = runs_on; itself = itself; blocks = [] }) empty ≡ outside definitions runs_on itself
view-outside definitions defined empty tables runs_on itself nothing whole all =
    ap (λ (n : Names). record { definitions = definitions; names = n; itself = itself }) (visible-outside definitions defined empty tables runs_on itself nothing whole all)

-- the tables of a module
pub are-members : (definitions : List Definition) (defined : Table) (tables : List Table) → said defined ≡ module_names definitions → HaveMembers (said defined) tables definitions
    → (at : ℕ) → either (member tables (Some at)) (said defined) ≡ names_on definitions at
are-members definitions defined tables whole all at = all at ∙ ap (λ n. behind_members n (members_of (kind_at definitions at))) whole
