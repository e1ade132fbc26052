use Rattle.iocm_seats.proofs.Exchanged as proof
use Rattle.iocm_seats.proofs.laws.exchanged_seats_show.Goals as goal

pub returns-clause-views : goal.returns-clause-views
returns-clause-views c = proof.exchanged_seats_show

pub returns-clause-lives : goal.returns-clause-lives
returns-clause-lives c = proof.exchanged_seats_live
