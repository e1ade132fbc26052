use Rattle.iocm_words.proofs.Worked.{words_as_worked, paths_as_worked, images_as_worked}
use Rattle.iocm_words.proofs.laws.words_are_written.Goals as goal

pub returns-clause-words : goal.returns-clause-words
returns-clause-words c = words_as_worked

pub returns-clause-paths : goal.returns-clause-paths
returns-clause-paths c = paths_as_worked

pub returns-clause-images : goal.returns-clause-images
returns-clause-images c = images_as_worked
