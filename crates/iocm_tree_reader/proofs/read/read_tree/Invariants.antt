use Rattle.std.proofs.Common.{◌≡◌, drop}
use Rattle.iocm_tree_reader.specs.Reading.{nothing_read, read_from}
use Rattle.iocm_tree_reader.specs.Views.{seen}
use Rattle.iocm_tree_reader.proofs.read.read_tree.Given as goal

abbrev pub invariant-loop-statement : goal.invariant-loop-statement
invariant-loop-statement g l =
    read_from (seen l.reading) (drop l.statement-index l.statements) ≡ read_from nothing_read l.statements
