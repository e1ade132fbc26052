use Rattle.std.proofs.Common.{◌<◌, refl, sym, subst, ◌∙◌}
use Rattle.iocm_activate.specs.Fitting.{is_turned_number}
use Rattle.iocm_activate.proofs.Pairs.{goes_on}
use Rattle.iocm_activate.proofs.turned.are_numbers_turned.Goals as goal

pub loop-i-init : goal.loop-i-init
loop-i-init c = refl

pub loop-i-preserved : goal.loop-i-preserved
loop-i-preserved c =
    goes_on is_turned_number c.args.now.now c.args.was.now c.loop-i.i c.index-now-i.result c.index-was-i.result
    c.loop-i-test.true c.index-now-i.is
    (subst (λ n. c.loop-i.i < n) c.if-now-was.false c.loop-i-test.true) c.index-was-i.is c.loop-i.invariant
    (sym c.is_number_turned.ensures ∙ c.if-not-is_number_turned.false)
