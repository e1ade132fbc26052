-- Nothing was asked of it.
use Rattle.std.proofs.Common.{None, refl}
use Rattle.iocm_core.proofs.First.{nothing_asked}
use Rattle.iocm_core.proofs.opening.installation.Goals as goal

pub returns-clause-installation : goal.returns-clause-installation
returns-clause-installation c =
    nothing_asked c.args.plant.state
    (record { plant = c.args.plant; journal = c.new.result; stage = None; changes = c.new-2.result })
    c.requires.used (c.new.ensures c.args.plant.state c.requires.used) c.new-2.ensures refl refl
