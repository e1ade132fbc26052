-- The number is held where the device that has it is kept.
use Rattle.std.proofs.Common.{sym, ap, ◌∙◌}
use Rattle.iocm_model.specs.Machine.Numbering.{device_at}
use Rattle.iocm_numbers.proofs.Taking.{held_is, held_not}
use Rattle.iocm_numbers.proofs.numbers.Numbers.is_held.Goals as goal

pub returns-in-Some : goal.returns-in-Some
returns-in-Some g c = c.is_device_kept.ensures
    ∙ held_is c.args.config.now.records c.args.self.now.numbers c.args.row.now c.are_apart.ensures.apart
    c.in-Some.device
    (sym (c.in-Some.ensures ∙ ap (device_at c.args.self.now.numbers) c.cell_of.ensures))

pub returns-in-None : goal.returns-in-None
returns-in-None g c = held_not c.args.config.now.records c.args.self.now.numbers c.args.row.now
    (sym (c.in-None.ensures ∙ ap (device_at c.args.self.now.numbers) c.cell_of.ensures))
