-- One set more, and behind the last one.
use Rattle.std.proofs.Common.{ℕ, List, sym, ◌∙◌}
use Rattle.iocm_types.specs.declared.place.Place.{Place}
use Rattle.iocm_model.specs.Machine.Numbering.{numbers_from, sets}
use Rattle.iocm_numbers.specs.declared.device_reach.DeviceReach.{DeviceReach}
use Rattle.iocm_numbers.specs.Opening.{numbered}
use Rattle.iocm_numbers.proofs.FirstRows.{set_at, part_more, part_end}
use Rattle.iocm_numbers.proofs.first_numbers.number_subsystem.Goals as goal

abbrev of_set : ℕ → List DeviceReach → ℕ → List (Place × ℕ)
of_set css devices set = numbers_from css set 0 (numbered css set devices)

pub loop-number-preserved : goal.loop-number-preserved
loop-number-preserved g c =
    part_more (of_set c.args.css c.args.devices.now) sets c.loop-number.number c.loop-number.rows.items
    c.number_set.new.rows.items c.in-Some.set
    (set_at c.loop-number.number c.loop-number-test.true) c.in-Some.ensures.value c.in_ok-number_set.ensures
    ∙ c.loop-number.invariant

pub returns : goal.returns
returns g c =
    sym (part_end (of_set c.args.css c.args.devices.now) sets c.loop-number.number c.loop-number.rows.items
    c.loop-number-test.false)
    ∙ c.loop-number.invariant
