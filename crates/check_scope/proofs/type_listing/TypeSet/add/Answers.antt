use mathlib.Core.Path.{fun_ext}
use Rattle.std.proofs.Common.{Bool, ◌||◌, ap, ◌∙◌}
use Rattle.std.specs.HashSet.{contains_by}
use Rattle.check_scope.specs.internal.Listings.{lets_pass}
use Rattle.check_scope.specs.Typings.{same_type}
use Rattle.check_scope.proofs.PortTypes.{put-among, put-type, same-either-way}
use Rattle.check_scope.proofs.type_listing.TypeSet.add.Goals as goal

pub returns : goal.returns
returns c =
    let set = c.args.self.now in
    let other = c.in-Some.other in
    rw c.in-Some.is (fun_ext (λ t.
    ap (λ (b : Bool). set.has_unknown || b) (put-type set.types c.insert.new.self other t (c.in_ok-insert.ensures.updates.0 t))
    ∙ put-among set.has_unknown (same_type other t) (contains_by (λ key. same_type t key) set.types)
    ∙ ap (λ (b : Bool). lets_pass set t || b) (same-either-way other t)))
