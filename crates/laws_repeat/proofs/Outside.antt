-- What is declared further out.
use Rattle.std.proofs.Common.{List, [], ◌∷◌, ◌++◌, append_assoc, refl, ap, ◌∙◌}
use Rattle.check_scope.specs.Names.{Entry}
use Rattle.laws_repeat.specs.Following.{IsOutside}
use Rattle.semantics.specs.Sites.{Site, site_behind, site_with}

pub outside-itself : (declared : List Entry) → IsOutside declared declared
outside-itself declared = ([], refl)

pub outside-both : (one other more : List Entry) → IsOutside one other → IsOutside other more → IsOutside one more
outside-both one other more first next = (next.0 ++ first.0, append_assoc next.0 first.0 one ∙ ap (λ es. next.0 ++ es) first.1 ∙ next.1)

pub outside-one : (declared : List Entry) (e : Entry) → IsOutside declared (e ∷ declared)
outside-one declared e = (e ∷ [], refl)

pub outside-behind : (site : Site) (entries : List Entry) → IsOutside site.declared (site_behind site entries).declared
outside-behind site [] = outside-itself site.declared
outside-behind site (e ∷ entries) =
    outside-both site.declared (e ∷ site.declared) (site_behind (site_with site e) entries).declared (outside-one site.declared e) (outside-behind (site_with site e) entries)
