use Rattle.iocm_plant.proofs.Between as law
use Rattle.iocm_plant.proofs.laws.what_happens_between.Goals as goal

pub returns-clause-same_places : goal.returns-clause-same_places
returns-clause-same_places c = law.same_places_are_kept

pub returns-clause-places : goal.returns-clause-places
returns-clause-places c = law.places_are_kept_on

pub returns-clause-itself : goal.returns-clause-itself
returns-clause-itself c = law.stands_as_it_does

pub returns-clause-on : goal.returns-clause-on
returns-clause-on c = law.stands_on

pub returns-clause-steps : goal.returns-clause-steps
returns-clause-steps c = law.steps_leave_it_standing

pub returns-clause-edits : goal.returns-clause-edits
returns-clause-edits c = law.taken_back_it_stands_as_before

pub returns-clause-still : goal.returns-clause-still
returns-clause-still c = law.can_still_unapply
