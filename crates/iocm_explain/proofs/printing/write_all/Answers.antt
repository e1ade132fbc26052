use Rattle.iocm_console.proofs.Printing.{writes_as, writes_then}
use Rattle.iocm_explain.proofs.Below.{told_in_turn}
use Rattle.iocm_explain.proofs.printing.write_all.Goals as goal

pub returns-in_ok-write_entry-in-len1-up : goal.returns-in_ok-write_entry-in-len1-up
returns-in_ok-write_entry-in-len1-up g c =
    writes_as (writes_then c.in_ok-write_entry-in-len1-up.ensures c.write_below.ensures)
    (told_in_turn c.args.rules.now _ c.in-len1-up.len_at_least)
