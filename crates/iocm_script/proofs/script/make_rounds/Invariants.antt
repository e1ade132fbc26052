use Rattle.std.proofs.Common.{◌≡◌, drop}
use Rattle.iocm_script.specs.Scripts.{rounds_of}
use Rattle.iocm_script.proofs.Cutting.{gathered}
use Rattle.iocm_script.proofs.script.make_rounds.Given as goal

abbrev pub invariant-loop-spoken : goal.invariant-loop-spoken
invariant-loop-spoken l = gathered l.rounds.items l.round.items (drop l.spoken-index l.lines) ≡ rounds_of l.lines
