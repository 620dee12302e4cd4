use Rattle.step_snapshot.proofs.Searched.{found-name, missing-name}
use Rattle.step_snapshot.proofs.slots.place_of.Goals as goal

pub returns-in-Ok-clause-found : goal.returns-in-Ok-clause-found
returns-in-Ok-clause-found c = found-name c.args.names.now c.args.name.now c.in-Ok.place c.in-Ok.ensures.bound c.in-Ok.ensures.ok

pub returns-in-Err-clause-missing : goal.returns-in-Err-clause-missing
returns-in-Err-clause-missing c = missing-name c.args.names.now c.args.name.now c.in-Err.field-0 c.requires c.in-Err.ensures.position
