-- One of those that are left is there where one of all is.
use Rattle.std.proofs.Common.{◌≡◌, drop}
use Rattle.std.specs.FinMap.{contains_key}
use Rattle.std.specs.List.{list_any}
use Rattle.std.specs.Map.{keys_of}
use Rattle.iocm_activate.specs.Cells.{cells_in}
use Rattle.iocm_activate.proofs.written.has_one_of.Given as goal

abbrev pub invariant-loop-cell : goal.invariant-loop-cell
invariant-loop-cell g l =
    list_any (contains_key (cells_in g.K.TableKey.order l.written)) (keys_of (drop l.cell-index l.cell-items))
    ≡ list_any (contains_key (cells_in g.K.TableKey.order l.written)) (keys_of l.cell-items)
