-- The command so far, with the arguments that are left, is the command with all.
use Rattle.std.proofs.Common.{◌≡◌, drop, false, fold, map}
use Rattle.clap.specs.Words.{app_of}
use Rattle.iocm_command.specs.Program.{has_globals, seen_argument, with_argument}
use Rattle.iocm_command.proofs.program.with_arguments.Given as goal

abbrev pub invariant-loop-argument : goal.invariant-loop-argument
invariant-loop-argument l = record {
  local : has_globals l.command ≡ false;
  app : fold with_argument (app_of l.command) (map seen_argument (drop l.argument-index l.arguments))
      ≡ fold with_argument (app_of l.fn.command) (map seen_argument l.arguments);
}
