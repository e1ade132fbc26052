use Rattle.std.proofs.Common.{◌∙◌, arith, sym}
use Rattle.iocm_words.proofs.Blanks.{end-before_blank, end-behind_other}
use Rattle.iocm_words.proofs.table.without_blanks_behind.Goals as goal
use Rattle.iocm_words.proofs.table.without_blanks_behind.Goals.{then-loop-end-test+else-line-end-eq32}
use Rattle.iocm_words.proofs.table.without_blanks_behind.Goals.{else-loop-end-test}

pub loop-end-preserved : goal.loop-end-preserved
loop-end-preserved c =
    let so_far = c.loop-end.invariant in (
      omega (arith, so_far.0),
      end-before_blank c.args.line.now c.loop-end.end c.loop-end-test.true so_far.0 c.if-line-end-eq32.true ∙ so_far.1,
    )

pub returns : goal.returns
returns c =
    let so_far = c.loop-end.invariant in
    elim c.loop-end-test.branch [
      | then-loop-end-test+else-line-end-eq32 w ↦
          sym (end-behind_other c.args.line.now c.loop-end.end w.loop-end-test.true so_far.0 w.if-line-end-eq32.false)
          ∙ so_far.1
      | else-loop-end-test w ↦ grind (arith, so_far.1, w.loop-end-test.false)
    ]
