use Rattle.std.proofs.Common.{◌≡◌, [], ◌∷◌, ◌++◌, sym, ap, subst, ◌∙◌, map, length, get_or, take}
use Rattle.graph_numbers.specs.Lists.{IsPut, lists_of}
use Rattle.graph_items.specs.Standing.{item_of, remaining_of}
use Rattle.graph_sites.specs.Facts.{facts_by}
use Rattle.ttcn_graph.specs.internal.Within.{IsWithin}
use Rattle.ttcn_graph.proofs.FactsKept.{known-put}
use Rattle.ttcn_graph.proofs.ListsKept.{all-within-put, length-map, put-remaining}
use Rattle.ttcn_graph.proofs.cells.Cells.put.Goals as goal

pub invariant_of-self-2 : goal.invariant_of-self-2
invariant_of-self-2 c =
    let sites = lists_of c.self.inside.sites.cells.keys in
    let old = lists_of c.self.inside.items.cells.keys in
    let new = lists_of c.put-put.new.self.cells.keys in
    all-within-put (length sites) old new c.in_ok-put.field-0 c.args.rest c.args.item c.in_ok-put.ensures.put c.self.invariant
    (subst (λ v. IsWithin (length v.0) c.args.item) (sym c.self.view_is) c.requires.site)

pub returns-clause-put : goal.returns-clause-put
returns-clause-put c =
    let sites = lists_of c.self.inside.sites.cells.keys in
    let old = lists_of c.self.inside.items.cells.keys in
    let new = lists_of c.put-put.new.self.cells.keys in
    subst (λ v. IsPut v.1 (map (remaining_of sites) new) c.in_ok-put.field-0 (item_of v.0 c.args.item) c.args.rest) c.self.view_is
    (put-remaining sites old new c.in_ok-put.field-0 c.args.rest c.args.item c.in_ok-put.ensures.put)

pub returns-clause-facts : goal.returns-clause-facts
returns-clause-facts c known kept is =
    let sites = lists_of c.self.inside.sites.cells.keys in
    let old = lists_of c.self.inside.items.cells.keys in
    let new = lists_of c.put-put.new.self.cells.keys in
    let facts = c.self.inside.facts.items in
    let all = c.truncate.ensures.items ∙ ap (take c.len.result) c.in_ok-push.ensures.items
    ∙ ap (λ n. take n (facts ++ c.args.facts ∷ [])) (c.len.ensures ∙ sym (length-map (remaining_of sites) new)) in
    ap (map facts_by) all
    ∙ known-put facts_by known (map (remaining_of sites) old) (map (remaining_of sites) new) c.in_ok-put.field-0 c.args.rest (item_of sites c.args.item)
    (put-remaining sites old new c.in_ok-put.field-0 c.args.rest c.args.item c.in_ok-put.ensures.put) facts c.args.facts
    (subst (λ v. map facts_by v.2 ≡ map known v.1) (sym c.self.view_is) kept)
    (subst (λ v. facts_by c.args.facts ≡ known (item_of v.0 c.args.item ∷ get_or v.1 c.args.rest [])) (sym c.self.view_is) is)
