use Rattle.std.proofs.Common.{◌∙◌, subst, sym}
use Rattle.std.proofs.lemmas.Result.{err_from_is_err_and}
use Rattle.iocm_types.specs.Fault.{Gives}
use Rattle.iocm_tree.specs.Trees.{tree_of}
use Rattle.iocm_tree_reader.specs.Views.{seen}
use Rattle.iocm_tree_reader.proofs.Statements.{read_done, read_fails}
use Rattle.iocm_tree_reader.proofs.read.read_tree.Goals as goal

pub returns : goal.returns
returns g c =
    subst (λ r. Gives tree_of c.finish.result r)
    (sym (read_done (seen c.loop-statement.reading) c.args.statements.now c.loop-statement.statement-index
    c.loop-statement-test.false) ∙ c.loop-statement.invariant) c.finish.ensures

pub returns-in_err-reading : goal.returns-in_err-reading
returns-in_err-reading g c =
    let p = err_from_is_err_and c.from_residual.result c.from_residual.ensures.1 in
    rw (p.1, p.2) (read_fails (seen c.loop-statement.reading) c.args.statements.now c.loop-statement.statement-index
    c.statement-item.result _ _ c.loop-statement-test.true c.statement-item.is c.in_err-reading.ensures
    c.loop-statement.invariant)
