-- The program so far, with the commands that are left, is the program with all.
use Rattle.std.proofs.Common.{◌≡◌, drop, fold, map}
use Rattle.clap.specs.Words.{app_of}
use Rattle.iocm_command.specs.Program.{seen_row, with_command}
use Rattle.iocm_command.proofs.program.with_commands.Given as goal

abbrev pub invariant-loop-row : goal.invariant-loop-row
invariant-loop-row l = fold with_command (app_of l.program) (map seen_row (drop l.row-index l.commands))
    ≡ fold with_command (app_of l.fn.program) (map seen_row l.commands)
