-- The table is the report that is asked for.
use Rattle.std.proofs.Common.{◌≡◌, IfOk, subst, sym}
use Rattle.iocm_command.specs.declared.report.Report.{Report}
use Rattle.iocm_console.specs.Shown.{done}
use Rattle.iocm_answer.specs.Answer.{shown}
use Rattle.iocm_answer.specs.Commands.Apply.{reported}
use Rattle.iocm_answer.specs.Manner.{in_form}
use Rattle.iocm_answer.proofs.applying.report.Goals as goal

pub returns-in-Table : goal.returns-in-Table
returns-in-Table c input es s sieve made =
    let m = in_form c.args.form input in
    subst (λ (r : Report). IfOk c.report_table.result
    (λ a. shown m a ≡ done (reported m r c.args.filters.now es s c.args.plant.state)))
    (sym c.in-Table.is) (c.report_table.ensures m es s made)
