-- A table without rows has no reasons.
use Rattle.std.proofs.Common.{ap, ◌∙◌}
use Rattle.std.specs.FinMap.{get}
use Rattle.iocm_offon.specs.UnderKeys.{group_or_none}
use Rattle.iocm_offon.proofs.Grown.{none_under}
use Rattle.iocm_offon.proofs.under_keys.by_object.Goals as goal

pub loop-reason-init : goal.loop-reason-init
loop-reason-init c = λ k. ap (λ m. group_or_none (get m k)) c.new-table.ensures.rows ∙ none_under k
