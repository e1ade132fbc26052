-- What is staged, is so on the machine.
use Rattle.std.proofs.Common.{refl}
use Rattle.iocm_model.specs.Operation.State.{opening_state}
use Rattle.iocm_core.specs.Told.{history_in}
use Rattle.iocm_core.proofs.Kept.{staged_or_none}
use Rattle.iocm_core.proofs.calling.Core.close.Goals as goal

pub settled-requires : goal.settled-requires
settled-requires c = staged_or_none c.self.inside.installation
    (record {
      opening = opening_state c.self.inside.opening.records;
      history = history_in c.self.inside.installation.changes.items c.self.inside.entries.items;
      is = c.self.invariant.installation;
    })
    c.self.inside.installation.stage refl
