-- What is printed of texts that were read, or weren't.
use Rattle.iocm_answer.proofs.Told.{answers}
use Rattle.iocm_answer.proofs.whole.carry_out.Goals as goal

pub returns : goal.returns
returns g c =
    let read = c.read_answered-given in
    answers read.result read.ensures.text read.ensures.whole read.ensures.whole_others read.ensures.reads
    read.ensures.reads_others read.ensures.stops c.say.ensures.text c.say.ensures.unread c.say.ensures.ends
