-- The devices so far; there are no more than places.
use Rattle.std.proofs.Common.{◌≡◌, ◌≤◌}
use Rattle.std.specs.List.{list_any}
use Rattle.iocm_offon_text.specs.Lines.{count_below, tells}
use Rattle.iocm_offon_text.proofs.devices.told_in.Given as goal

abbrev pub invariant-loop-place : goal.invariant-loop-place
invariant-loop-place l =
    (l.told ≡ count_below l.place (λ n. list_any (tells l.run n) l.ranges)) × (l.told ≤ l.place)
