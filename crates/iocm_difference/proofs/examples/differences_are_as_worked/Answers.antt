-- Each is computed from a walk over the records.
use Rattle.iocm_difference.proofs.Worked.{one_record, a_renamed_image, all_passes}
use Rattle.iocm_difference.proofs.examples.differences_are_as_worked.Goals as goal

pub returns-clause-one : goal.returns-clause-one
returns-clause-one c = one_record

pub returns-clause-renamed : goal.returns-clause-renamed
returns-clause-renamed c = a_renamed_image

pub returns-clause-all : goal.returns-clause-all
returns-clause-all c = all_passes
