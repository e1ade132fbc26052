-- As many edits take back what was advanced.
use Rattle.std.proofs.Common.{Some, ap, ◌∙◌}
use Rattle.iocm_stage.proofs.Stages.{how_many_back}
use Rattle.iocm_stage.proofs.staged.Staged.advanced.Goals as goal

pub returns : goal.returns
returns c t s p stage = ap Some (c.len.ensures ∙ c.args.self.now.back.ok.0 ∙ how_many_back c.args.self.now t s p stage)
