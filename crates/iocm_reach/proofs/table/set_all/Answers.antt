-- One channel subsystem more.
use Rattle.std.proofs.Common.{◌∙◌}
use Rattle.iocm_model.specs.Machine.Configuration.{lookup_of}
use Rattle.iocm_reach.proofs.RangeRows.{rows_more}
use Rattle.iocm_reach.proofs.table.set_all.Goals as goal

pub loop-number-preserved : goal.loop-number-preserved
loop-number-preserved g c = record {
  so_far = rows_more (lookup_of c.args.config.now.records) _ c.loop-number.number c.loop-number.table
      c.set_rows.new.table c.in-Some.ensures.value
      c.new-in-loop-number.ensures c.new-in-loop-number-2.ensures c.set_rows.ensures c.loop-number.invariant.so_far;
  long = c.set_rows.ensures.long ∙ c.loop-number.invariant.long;
}
