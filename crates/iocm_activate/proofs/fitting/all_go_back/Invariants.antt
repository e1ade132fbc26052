use Rattle.std.proofs.Common.{reverse}
use Rattle.iocm_tree.specs.Trees.{parts_of, plain_parts}
use Rattle.iocm_activate.specs.Fitting.{gone_back_along, IsOnTheWay}
use Rattle.iocm_activate.proofs.Next.{from}
use Rattle.iocm_activate.proofs.fitting.all_go_back.Given as goal

abbrev pub invariant-loop-part : goal.invariant-loop-part
invariant-loop-part g l = IsOnTheWay
    (gone_back_along (plain_parts (parts_of l.parts.items)) (reverse l.performed) l.initial.plant.state)
    (from l.part-items l.part-index) l.left l.initial.plant l.initial.log l.plant l.log
