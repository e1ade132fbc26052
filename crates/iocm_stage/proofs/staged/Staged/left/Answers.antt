use Rattle.std.proofs.Common.{◌∙◌}
use Rattle.iocm_stage.proofs.Stages.{how_many}
use Rattle.iocm_stage.proofs.staged.Staged.left.Goals as goal

pub returns : goal.returns
returns c t s p stage = c.len.ensures ∙ c.args.self.now.forward.ok.0 ∙ how_many c.args.self.now t s p stage
