use Rattle.laws_bounds.proofs.Longer.{least-later, marked-later}
use Rattle.laws_bounds.proofs.as_many_that_are_kept_have_the_same_marks.Goals as goal

pub returns-clause-marks : goal.returns-clause-marks
returns-clause-marks g c = marked-later

pub returns-clause-best : goal.returns-clause-best
returns-clause-best g c = least-later
