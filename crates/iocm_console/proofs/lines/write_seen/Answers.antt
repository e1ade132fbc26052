use Rattle.std.proofs.Common.{sym, ◌∙◌}
use Rattle.iocm_console.specs.Alike.{view_of}
use Rattle.iocm_console.specs.Lines.{subchannel_at}
use Rattle.iocm_console.proofs.Printing.{writes_nothing}
use Rattle.iocm_console.proofs.Rows.{kept_out}
use Rattle.iocm_console.proofs.lines.write_seen.Goals as goal

pub returns-then-not-is_kept-clause-written : goal.returns-then-not-is_kept-clause-written
returns-then-not-is_kept-clause-written g c =
    let id = subchannel_at c.args.image.now c.args.place.now.cell in
    writes_nothing (sym (kept_out c.args.form c.args.sieve.now c.args.lines.now.name id
    (view_of c.args.seen.now c.args.place.now.device) (sym c.is_kept.ensures ∙ c.if-not-is_kept.true)))
