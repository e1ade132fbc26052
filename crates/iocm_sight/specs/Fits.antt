-- Runs of devices whose numbers and unit addresses there are.
use Rattle.std.specs.Prelude.{ℕ, ◌+◌, ◌<◌, ◌≤◌}

-- so many devices, one at least, from a number and a unit address on
pub record AreDevices (number address count : ℕ) : Type 0 where
  pub some : 0 < count
  pub numbers : number + count ≤ 65536
  pub addresses : address + count ≤ 256
