use Rattle.std.proofs.Common.{ap, sym, ◌∙◌, Bool, ◌||◌, ℕ, List, bytes_eq, is_some}
use Rattle.std.specs.List.{list_any}
use Rattle.semantics.specs.Sites.{is_own}
use Rattle.graph_sites.proofs.Sites.{declared-among}
use Rattle.graph_sites.proofs.here.Here.is_own.Goals as goal

pub returns-then-contains : goal.returns-then-contains
returns-then-contains c =
    let name = c.args.name.now in
    let parameter = ap (λ (f : List ℕ → Bool). f name) (sym c.self.invariant.1) ∙ sym c.contains.ensures ∙ c.if-contains.true in
    c.if-contains.true ∙ sym (ap (λ b. b || list_any (λ entry. bytes_eq entry.0 name) c.self.inside.own) parameter) ∙ ap (λ v. is_own v.0 v.1 name) c.self.view_is

pub returns-else-contains : goal.returns-else-contains
returns-else-contains c =
    let name = c.args.name.now in
    let parameter = ap (λ (f : List ℕ → Bool). f name) (sym c.self.invariant.1) ∙ sym c.contains.ensures ∙ c.if-contains.false in
    c.is_some.ensures ∙ ap is_some c.get.ensures ∙ declared-among c.self.inside.own name
    ∙ sym (ap (λ b. b || list_any (λ entry. bytes_eq entry.0 name) c.self.inside.own) parameter) ∙ ap (λ v. is_own v.0 v.1 name) c.self.view_is
