use Rattle.std.proofs.Common.{ap, ◌∙◌}
use Rattle.check_scope.proofs.PortTypes.{Lists}
use Rattle.check_scope.proofs.type_listing.Listing.lists.Goals as goal

pub returns : goal.returns
returns c = c.lists.ensures ∙ ap (λ (lists : Lists). lists c.args.data_type) c.args.self.now.is_set
