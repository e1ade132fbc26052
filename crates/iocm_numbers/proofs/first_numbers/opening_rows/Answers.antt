-- Before the first channel subsystem, one more, and behind the last one.
use Rattle.std.proofs.Common.{◌≡◌, List, ◌++◌, sym, subst, ◌∙◌, arith}
use Rattle.iocm_model.specs.Machine.Numbering.{subsystems}
use Rattle.iocm_numbers.specs.declared.device_reach.DeviceReach.{DeviceReach}
use Rattle.iocm_numbers.specs.Opening.{RiseFrom, numbered, rows_of}
use Rattle.iocm_numbers.proofs.FirstRows.{subsystem_at, part_more, part_end}
use Rattle.iocm_numbers.proofs.FirstPlaces.{gathered, gathered_rise, all_rows}
use Rattle.iocm_numbers.proofs.first_numbers.opening_rows.Goals as goal

pub loop-number-init : goal.loop-number-init
loop-number-init g c = rw c.new-rows.ensures.items (all_rows c.args.config.now.records)

pub number_subsystem-requires : goal.number_subsystem-requires
number_subsystem-requires g c = λ set.
    subst (λ (ds : List DeviceReach). RiseFrom 0 (numbered c.in-Some.css set ds))
    (sym (c.as_slice.ensures.value ∙ c.in_ok-devices.ensures))
    (gathered_rise c.args.config.now.records c.has_own_keys.ensures c.in-Some.css set
    (let same = c.in-Some.ensures.value in omega arith))

pub loop-number-preserved : goal.loop-number-preserved
loop-number-preserved g c =
    part_more (λ css. rows_of css (gathered c.args.config.now.records)) subsystems c.loop-number.number
    c.loop-number.rows.items c.number_subsystem.new.rows.items c.in-Some.css
    (subsystem_at c.loop-number.number c.loop-number-test.true) c.in-Some.ensures.value
    (subst (λ (ds : List DeviceReach).
    c.number_subsystem.new.rows.items ≡ c.loop-number.rows.items ++ rows_of c.in-Some.css ds)
    (c.as_slice.ensures.value ∙ c.in_ok-devices.ensures)
    c.in_ok-number_subsystem.ensures)
    ∙ c.loop-number.invariant

pub returns : goal.returns
returns g c =
    sym (part_end (λ css. rows_of css (gathered c.args.config.now.records)) subsystems c.loop-number.number
    c.loop-number.rows.items c.loop-number-test.false)
    ∙ c.loop-number.invariant
