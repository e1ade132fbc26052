-- Marks and counts, rows, blocks and images are as they are worked.
use Rattle.iocm_impact.proofs.Worked.{blocks_as_worked, counts_as_worked, images_as_worked, rows_as_worked}
use Rattle.iocm_impact.proofs.laws.impacts_are_as_worked.Goals as goal

pub returns-clause-counts : goal.returns-clause-counts
returns-clause-counts c = counts_as_worked

pub returns-clause-rows : goal.returns-clause-rows
returns-clause-rows c = rows_as_worked

pub returns-clause-blocks : goal.returns-clause-blocks
returns-clause-blocks c = blocks_as_worked

pub returns-clause-images : goal.returns-clause-images
returns-clause-images c = images_as_worked
