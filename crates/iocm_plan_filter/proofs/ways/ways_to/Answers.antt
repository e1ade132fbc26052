-- At first there are no keys.
use Rattle.iocm_table.specs.Slots.{rows}
use Rattle.iocm_types.specs.Key.{key_cmp}
use Rattle.iocm_plan_filter.proofs.KeysPut.{none_yet}
use Rattle.iocm_plan_filter.proofs.ways.ways_to.Goals as goal

pub loop-device-init : goal.loop-device-init
loop-device-init c = λ k. none_yet (rows key_cmp c.new-keys.result) k _ c.new-keys.ensures.rows
