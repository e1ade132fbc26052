use Rattle.std.proofs.Common.{ap, ◌∙◌, List, map}
use Rattle.std.specs.Map.Iter.{deref_pair}
use Rattle.std.specs.FinMap.{entries}
use Rattle.std.proofs.lemmas.Map.Iter.{iter_end}
use Rattle.iocm_types.specs.declared.key.Key.{Key}
use Rattle.iocm_model.specs.Machine.Record.{Rec}
use Rattle.iocm_model.specs.Machine.Configuration.{lookup_of}
use Rattle.iocm_console.specs.Lines.{celled, record_lines}
use Rattle.iocm_console.proofs.Printing.{writes_as, writes_nothing, writes_then}
use Rattle.iocm_console.proofs.Rows.{near_lines, record_lines_more, record_lines-nil}
use Rattle.iocm_console.proofs.lines.write_rows.Goals as goal

pub loop-entry-init : goal.loop-entry-init
loop-entry-init g c = record { wrote = writes_nothing (record_lines-nil _ _ _ _); near = c.of-near.ensures.near }

pub loop-entry-preserved : goal.loop-entry-preserved
loop-entry-preserved g c = record {
  wrote = writes_as (writes_then c.loop-entry.invariant.wrote (writes_as c.in_ok-write_record.ensures
      (near_lines c.args.form c.args.sieve.now (lookup_of c.args.config.now.records) _ _ c.args.cells.now _
      c.for_record-near.ensures.near c.for_record-near.ensures.css)))
      (record_lines_more c.args.form c.args.sieve.now (lookup_of c.args.config.now.records) (celled c.args.cells.now) deref_pair
      c.loop-entry.yielded (c.in-Some.field-0-0, c.in-Some.entry));
  near = c.for_record-near.ensures.near;
}

pub returns : goal.returns
returns g c =
    let all = iter_end deref_pair (entries c.args.config.now.records) c.loop-entry.yielded
    c.into_iter-entry-iterator.result c.loop-entry.entry-iterator c.next.new.self c.next.result
    (c.into_iter-entry-iterator.ensures.into_iter_gives ∙ c.walk-entry-items.ensures.entries) c.loop-entry.yielded_by
    c.in-None.is c.next.ensures.steps in
    writes_as c.loop-entry.invariant.wrote (ap (λ (es : List (Key × Rec)). record_lines c.args.form c.args.sieve.now
    (lookup_of c.args.config.now.records) (celled c.args.cells.now) (map (λ (e : Key × Rec). e.1) es)) all.0)

pub write_record-requires : goal.write_record-requires
write_record-requires g c = c.for_record-near.ensures.near.alike (lookup_of c.args.config.now.records) c.requires
