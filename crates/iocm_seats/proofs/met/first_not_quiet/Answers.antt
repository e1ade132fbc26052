use Rattle.std.proofs.Common.{ap, ◌∙◌}
use Rattle.iocm_seats.specs.Settling.{first_busy}
use Rattle.iocm_seats.proofs.Busy.{first_met}
use Rattle.iocm_seats.proofs.met.first_not_quiet.Goals as goal

pub returns : goal.returns
returns c = λ lives changes is. c.first_busy.ensures ∙ ap first_busy is ∙ first_met lives changes
