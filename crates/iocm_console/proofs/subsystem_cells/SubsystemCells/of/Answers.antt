use Rattle.std.proofs.Common.{◌∙◌}
use Rattle.iocm_console.proofs.subsystem_cells.SubsystemCells.of.Goals as goal

pub returns-clause-near : goal.returns-clause-near
returns-clause-near c = let front = c.without_front.ensures in let back = c.without_back-cells.ensures in
    record { own = back.own ∙ front.own; alike = λ seen all. back.alike seen (front.alike seen all) }
