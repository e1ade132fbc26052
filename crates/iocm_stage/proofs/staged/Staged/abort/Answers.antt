use Rattle.std.proofs.Common.{sym, subst}
use Rattle.iocm_model.specs.Laws.Trees.{KeepsTheRules}
use Rattle.iocm_stage.proofs.Stages.{kept_at_start}
use Rattle.iocm_stage.proofs.staged.Staged.abort.Goals as goal

pub returns-clause-kept : goal.returns-clause-kept
returns-clause-kept c = subst KeepsTheRules
    (sym (c.perform_all.ensures.state c.requires.before c.requires.is.along.back))
    (kept_at_start c.requires.stage.change c.requires.before c.requires.is.ready)
