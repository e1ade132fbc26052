-- The exit statuses of commands.
use Rattle.std.specs.Prelude.{ℕ}
use Rattle.iocm_console.specs.declared.status.Status.{Status}
use Rattle.iocm_console.specs.declared.status.Status.TheVariants.{Done, Refused}

-- the exit status that stands for how a command ended
abbrev pub code_of : Status → ℕ
code_of Done = 0
code_of Refused = 1
