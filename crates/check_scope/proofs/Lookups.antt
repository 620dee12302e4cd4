-- What tables say of a name, table by table.
use Rattle.std.proofs.Common.{◌≡◌, ◌≤◌, ℕ, ◌+◌, ◌<◌, List, [], ◌∷◌, ◌++◌, length, get_or, drop, Option, Some, None, suc, refl, sym, ap, ◌∙◌, add-one, drop-cons, Bool, true, false, if◌then◌else◌}
use Rattle.std.proofs.lemmas.List.{drop_all}
use Rattle.std.specs.Option.{option_or}
use mathlib.Core.Path.{fun_ext}
use Rattle.check_scope.specs.internal.Checking.{Around, inside, view_in}
use Rattle.check_scope.specs.Names.{Entry, Names, behind, declaring, listed}
use Rattle.check_scope.specs.internal.Tables.{member, said, said_in}
use Rattle.check_scope.specs.declared.names.Meaning.{Meaning}
use Rattle.check_scope.specs.declared.table.Table.{Table}

pub or-None : {A : Type 0} (o : Option A) → option_or o None ≡ o
or-None (Some x) = refl
or-None None = refl

pub or-assoc : {A : Type 0} (o p q : Option A) → option_or (option_or o p) q ≡ option_or o (option_or p q)
or-assoc (Some x) p q = refl
or-assoc None p q = refl

-- the element at an index comes first of those that are left
pub drop-next : {A : Type 0} (l : List A) (i : ℕ) (x : A) → i < length l → x ≡ get_or l i x → drop i l ≡ x ∷ drop (i + 1) l
drop-next l i x within is = drop-cons l i x within ∙ ap (λ y. y ∷ drop (suc i) l) (sym is) ∙ ap (λ k. x ∷ drop k l) (sym (add-one i))

-- one more table is asked
pub said-next : (tables : List Table) (i : ℕ) (table : Table) (name : List ℕ) (found : Option Meaning) → i < length tables → table ≡ get_or tables i table
    → option_or (said_in (drop i tables) name) found ≡ option_or (said_in (drop (i + 1) tables) name) (option_or (said table name) found)
said-next tables i table name found within is =
    ap (λ left. option_or (said_in left name) found) (drop-next tables i table within is)
    ∙ or-assoc (said_in (drop (i + 1) tables) name) (said table name) found

-- none is left
pub said-end : (tables : List Table) (i : ℕ) (name : List ℕ) (found : Option Meaning) → length tables ≤ i
    → option_or (said_in (drop i tables) name) found ≡ found
said-end tables i name found past = ap (λ left. option_or (said_in left name) found) (drop_all i tables past)

-- what is put under a name, or what was there
pub put : {A : Type 0} (b : Bool) (x : A) (o : Option A) → (if b then Some x else o) ≡ option_or (if b then Some x else None) o
put true x o = refl
put false x o = refl

-- ---- blocks

pub said-append : (tables : List Table) (table : Table) (name : List ℕ) → said_in (tables ++ table ∷ []) name ≡ option_or (said table name) (said_in tables name)
said-append [] table name = sym (or-None (said table name))
said-append (first ∷ tables) table name =
    ap (λ o. option_or o (said first name)) (said-append tables table name) ∙ or-assoc (said table name) (said_in tables name) (said first name)

-- a block in which nothing is declared
pub view-inside : (a : Around) (block empty : Table) → said empty ≡ (λ name. None) → view_in (inside a block) empty ≡ view_in a block
view-inside a block empty is = ap (λ (names : Names). record { definitions = a.definitions; names = names; itself = a.itself }) (fun_ext (λ name.
    ap (λ (n : Names). option_or (n name) (option_or (said_in (a.blocks ++ block ∷ []) name) (option_or (member a.members a.runs_on name) (said a.defined name)))) is
    ∙ ap (λ o. option_or o (option_or (member a.members a.runs_on name) (said a.defined name))) (said-append a.blocks block name)
    ∙ or-assoc (said block name) (said_in a.blocks name) (option_or (member a.members a.runs_on name) (said a.defined name))))

-- a block in which something more is declared
pub view-declaring : (a : Around) (block next : Table) (entries : List Entry) → said next ≡ behind (said block) entries
    → view_in a next ≡ declaring (view_in a block) entries
view-declaring a block next entries is = ap (λ (names : Names). record { definitions = a.definitions; names = names; itself = a.itself }) (fun_ext (λ name.
    ap (λ (n : Names). option_or (n name) (option_or (said_in a.blocks name) (option_or (member a.members a.runs_on name) (said a.defined name)))) is
    ∙ or-assoc (listed entries name) (said block name) (option_or (said_in a.blocks name) (option_or (member a.members a.runs_on name) (said a.defined name)))))
