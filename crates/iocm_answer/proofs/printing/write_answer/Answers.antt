-- How many subchannels a change altered, and the table.
use Rattle.std.proofs.Common.{sym, ap}
use Rattle.iocm_console.proofs.Printing.{writes_as, writes_then}
use Rattle.iocm_answer.specs.Answer.{shown}
use Rattle.iocm_answer.proofs.printing.write_answer.Goals as goal

pub returns-in_ok-write_change-in-Changed : goal.returns-in_ok-write_change-in-Changed
returns-in_ok-write_change-in-Changed g c =
    writes_as (writes_then c.in_ok-write_change-in-Changed.ensures c.write_table-in-Changed.ensures)
    (ap (λ a. (shown c.args.manner a).text) (sym c.in-Changed.is))
