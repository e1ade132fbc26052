-- The lines of the records so far are written.
use Rattle.std.specs.Map.Iter.{deref_pair}
use Rattle.iocm_model.specs.Machine.Configuration.{lookup_of}
use Rattle.iocm_console.specs.Alike.{ServeFor}
use Rattle.iocm_console.specs.Lines.{celled, record_lines}
use Rattle.iocm_console.specs.Output.{Wrote}
use Rattle.iocm_console.proofs.Rows.{records_in}
use Rattle.iocm_console.proofs.lines.write_rows.Given as goal

abbrev pub invariant-loop-entry : goal.invariant-loop-entry
invariant-loop-entry g l = record {
  wrote : Wrote g.W.Write.contents l.initial.output l.output
      (record_lines l.form l.sieve (lookup_of l.config.records) (celled l.cells) (records_in deref_pair l.yielded));
  near : ServeFor l.near.css l.near.cells.now l.cells;
}
