use Rattle.search_ordinals.proofs.Runs.{is-run, is-told-run, one-run, run-of, same-ends, same-steps, told-of}
use Rattle.search_ordinals.proofs.laws.ordinals_tell_runs.Goals as goal

pub returns-clause-told : goal.returns-clause-told
returns-clause-told g c = told-of

pub returns-clause-telling : goal.returns-clause-telling
returns-clause-telling g c = run-of

pub returns-clause-is_run : goal.returns-clause-is_run
returns-clause-is_run g c branch graph run told is = (is-run branch graph run told is, is-told-run branch graph run told is)

pub returns-clause-one : goal.returns-clause-one
returns-clause-one g c = one-run

pub returns-clause-ends : goal.returns-clause-ends
returns-clause-ends g c = same-ends

pub returns-clause-steps : goal.returns-clause-steps
returns-clause-steps g c = same-steps
