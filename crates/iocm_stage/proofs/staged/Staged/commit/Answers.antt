use Rattle.std.proofs.Common.{sym, subst}
use Rattle.iocm_model.specs.Laws.Trees.{KeepsTheRules}
use Rattle.iocm_stage.proofs.Stages.{end_reached, kept_at_end}
use Rattle.iocm_stage.proofs.staged.Staged.commit.Goals as goal

pub returns-clause-state : goal.returns-clause-state
returns-clause-state c t s stage =
    end_reached c.args.self t s c.args.plant.now c.perform_all.new.plant.state stage
    (c.perform_all.ensures.state _ stage.along.forward)

pub returns-clause-kept : goal.returns-clause-kept
returns-clause-kept c = subst KeepsTheRules
    (sym (end_reached c.args.self c.requires.stage c.requires.before c.args.plant.now c.perform_all.new.plant.state
    c.requires.is
    (c.perform_all.ensures.state _ c.requires.is.along.forward)))
    (kept_at_end c.requires.stage.change c.requires.before c.requires.is.ready)
