use Rattle.iocm_seats.proofs.Settled as proof
use Rattle.iocm_seats.proofs.laws.settled_seats_show.Goals as goal

pub returns-clause-views : goal.returns-clause-views
returns-clause-views c = proof.settled_seats_show

pub returns-clause-lives : goal.returns-clause-lives
returns-clause-lives c = proof.settled_seats_live
