use Rattle.laws_types.proofs.Readings.{seen-whole, seen-within, site-fits, site-has}
use Rattle.laws_types.proofs.readings_fit_their_sites.Goals as goal

pub returns-clause-types : goal.returns-clause-types
returns-clause-types c = site-fits

pub returns-clause-all : goal.returns-clause-all
returns-clause-all c = site-has

pub returns-clause-within : goal.returns-clause-within
returns-clause-within c = seen-within

pub returns-clause-whole : goal.returns-clause-whole
returns-clause-whole c = seen-whole
