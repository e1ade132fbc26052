-- The undos before the change was accepted tell nothing.
use Rattle.std.proofs.Common.{◌-◌, sym, arith}
use Rattle.std.proofs.lemmas.Option.{slice_get-get_or}
use Rattle.iocm_journal.proofs.Noting.{none_at_all, none_before}
use Rattle.iocm_journal.proofs.undos.undone_since.Goals as goal

pub returns-else-undos-left : goal.returns-else-undos-left
returns-else-undos-left c =
    let i = c.loop-left.invariant in
    sym (none_before c.args.kept.now c.args.undos.now c.args.place c.loop-left.left _ c.requires.order
    (slice_get-get_or c.args.undos.now (c.loop-left.left - 1) _ (omega (arith, i.0, c.loop-left-test.true)))
    c.if-undos-left.false i.1)

pub returns-after-loop-left : goal.returns-after-loop-left
returns-after-loop-left c =
    sym (none_at_all c.args.kept.now c.args.undos.now c.args.place c.loop-left.left c.loop-left-test.false
    c.loop-left.invariant.1)
