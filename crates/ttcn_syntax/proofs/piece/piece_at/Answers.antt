use Rattle.ttcn_syntax.proofs.Fronts.{front-is}
use Rattle.ttcn_syntax.proofs.piece.piece_at.Goals as goal

pub returns-clause-some : goal.returns-clause-some
returns-clause-some c = rw c.front.ensures (front-is c.args.rest.now c.requires).some

pub returns-clause-within : goal.returns-clause-within
returns-clause-within c = rw c.front.ensures (front-is c.args.rest.now c.requires).within

pub returns-clause-longest : goal.returns-clause-longest
returns-clause-longest c = rw c.front.ensures (front-is c.args.rest.now c.requires).longest
