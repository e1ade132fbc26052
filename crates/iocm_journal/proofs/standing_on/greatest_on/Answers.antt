use Rattle.std.proofs.Common.{◌≤◌, sym, subst, ◌∙◌, arith}
use Rattle.iocm_journal.proofs.Passing.{none_left}
use Rattle.iocm_journal.proofs.standing_on.greatest_on.Goals as goal

pub returns-clause-last : goal.returns-clause-last
returns-clause-last c =
    let i = c.loop-left.invariant in
    let low : c.loop-left.left ≤ c.if-fits.least = omega (arith, c.loop-left-test.false) in
    sym (none_left c.args.kept.now c.args.changes.now.items c.args.place c.loop-left.left c.args.fits
    (subst (λ n. c.loop-left.left ≤ n) i.0 low)) ∙ i.3
