use Rattle.laws_bounds.proofs.Standing.{same-sums}
use Rattle.laws_bounds.proofs.what_is_seen_of_what_is_kept_sums_up_alike.Goals as goal

pub returns : goal.returns
returns g c = λ one other kept stands j whole shrunk sees n. same-sums one other kept stands j whole shrunk sees n
