-- What is told of small changes, computed.
use Rattle.std.proofs.Common.{refl}
use Rattle.std.specs.Fmt.{char_count, digits, padded_integral}
use Rattle.iocm_offon_text.specs.Examples.{OffOnIsToldAsWorked}

pub told_as_worked : OffOnIsToldAsWorked
unfolding digits padded_integral char_count lib.Count.ones
told_as_worked = record {
  channel = refl;
  cuadd = refl;
  link = refl;
  name = refl;
  types = refl;
  addresses = refl;
  part = refl;
  moved = refl;
  exchanged = refl;
  otherwise = refl;
  nothing = refl;
}
