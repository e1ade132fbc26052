-- The rows of the channel subsystems so far say what they have to.
use Rattle.std.proofs.Common.{◌≡◌, ℕ, ◌<◌, length}
use Rattle.iocm_model.specs.Machine.Configuration.{lookup_of}
use Rattle.iocm_reach.specs.Tabled.{IsRowOf}
use Rattle.iocm_reach.proofs.table.set_all.Given as goal

abbrev pub invariant-loop-number : goal.invariant-loop-number
invariant-loop-number g l = record {
  so_far : (css path : ℕ) → css < l.number → path < 256 → IsRowOf (lookup_of l.config.records) css path l.table;
  long : length l.table ≡ length l.fn.table;
}
