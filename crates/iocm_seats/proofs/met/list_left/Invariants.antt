-- The subchannels so far and those of the changes that are left.
use Rattle.std.proofs.Common.{◌≡◌, ◌++◌, drop}
use Rattle.std.specs.Map.{keys_of}
use Rattle.iocm_seats.specs.Settling.{subchannels_left}
use Rattle.iocm_seats.proofs.met.list_left.Given as goal

abbrev pub invariant-loop-change : goal.invariant-loop-change
invariant-loop-change g l =
    keys_of l.listed.items ++ subchannels_left (drop l.change-index l.changes) ≡ subchannels_left l.changes
