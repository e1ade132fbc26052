use Rattle.std.proofs.Common.{subst, sym}
use Rattle.iocm_model.specs.Machine.Configuration.{IsKeyed}
use Rattle.iocm_config.proofs.Keyed.{keyed_none}
use Rattle.iocm_config.proofs.config.Config.new.Goals as goal

pub invariant_of-result : goal.invariant_of-result
invariant_of-result g c = subst IsKeyed (sym c.new.ensures.rows) keyed_none
