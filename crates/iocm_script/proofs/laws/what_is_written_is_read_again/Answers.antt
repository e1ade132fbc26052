use Rattle.iocm_script.proofs.Again.{said_again}
use Rattle.iocm_script.proofs.Splitting.{words_again}
use Rattle.iocm_script.proofs.laws.what_is_written_is_read_again.Goals as goal

pub returns : goal.returns
returns c = record { words = words_again; said = said_again }
