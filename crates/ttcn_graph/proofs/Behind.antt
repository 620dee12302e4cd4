-- Sites behind declarations and statements, and declarations as they are drawn.
use Rattle.std.proofs.Common.{◌≡◌, sym, ap, ◌∙◌, ℕ, zero, suc, ◌+◌, ◌<◌, List, [], ◌∷◌, ◌++◌, length, get_or, take, arith}
use Rattle.ttcn_syntax.specs.declared.tree.definition.Definition.{Definition}
use Rattle.ttcn_syntax.specs.declared.tree.statement.Statement.{Statement}
use Rattle.check_scope.specs.Names.{Entry}
use Rattle.semantics.specs.Items.{Doing, Item, Name, declarations, site_after}
use Rattle.semantics.specs.Sites.{Site, site_behind, site_with}
use Rattle.ttcn_graph.specs.internal.Drawing.{declared_before, site_before, site_behind_all}

-- before names that were declared
pub before-behind : (entries : List Entry) (site : Site) (n m : ℕ) → m ≡ length entries + n → site_before m (site_behind site entries) ≡ site_before n site
before-behind [] site n m is = let same : m ≡ n = omega (arith, is) in ap (λ k. site_before k site) same
before-behind (entry ∷ entries) site n m is = before-behind entries (site_with site entry) (suc n) m (omega (arith, is))

pub declared-behind : (entries : List Entry) (site : Site) (s : Statement) (n m : ℕ) (rest : List Item) → m ≡ length entries + n
    → declared_before (site_behind site entries) s m rest ≡ declared_before site s n (declarations site s n entries ++ rest)
declared-behind [] site s n m rest is = let same : m ≡ n = omega (arith, is) in ap (λ k. declared_before site s k rest) same
declared-behind (entry ∷ entries) site s n m rest is =
    let next : suc n ≡ n + 1 = omega arith in
    declared-behind entries (site_with site entry) s (suc n) m rest (omega (arith, is))
    ∙ ap (λ k. declared_before site s n (Doing site s (Name n) ∷ (declarations (site_with site entry) s k entries ++ rest))) next

-- ---- statements

-- one statement more
pub behind-next : (definitions : List Definition) (body : List Statement) (site : Site) (j : ℕ) (s : Statement) → j < length body → s ≡ get_or body j s
    → site_behind_all definitions site (take (suc j) body) ≡ site_after definitions (site_behind_all definitions site (take j body)) s
behind-next definitions [] site j s h is = absurd (omega (arith, h))
behind-next definitions (first ∷ body) site zero s h is = ap (site_after definitions site) (sym is)
behind-next definitions (first ∷ body) site (suc j) s h is = behind-next definitions body (site_after definitions site first) j s (omega (arith, h)) is
