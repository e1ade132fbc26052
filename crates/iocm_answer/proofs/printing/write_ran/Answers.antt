-- The answers, how many calls were made, and the table.
use Rattle.iocm_console.proofs.Printing.{writes_then}
use Rattle.iocm_answer.proofs.printing.write_ran.Goals as goal

pub returns : goal.returns
returns g c =
    let first = rw c.deref.ensures.value at c.in_ok-write_answers.ensures in
    writes_then first (writes_then c.in_ok-write_trace.ensures c.write_table.ensures)
