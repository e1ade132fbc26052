use Rattle.iocm_command.proofs.Rows.{command_taken}
use Rattle.iocm_command.proofs.program.with_commands.Goals as goal

pub loop-row-preserved : goal.loop-row-preserved
loop-row-preserved c = command_taken _ _ _ c.args.commands.now c.loop-row.row-index _ _ c.in_ok-program.ensures
    c.in_ok-told.ensures.local c.in_ok-told.ensures.app c.loop-row-test.true c.loop-row.invariant
