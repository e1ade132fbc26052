-- Reasons and paths as they are worked by hand.
use Rattle.std.proofs.Common.{refl}
use Rattle.std.specs.Fmt.{char_count, digits, padded_integral}
use Rattle.iocm_offon.specs.Examples.{PathsAreToldAsWorked, ReasonsAreAsWorked}

pub reasons_as_worked : ReasonsAreAsWorked
unfolding lib.Count.ones
reasons_as_worked = record {
  channel = refl;
  cuadd = refl;
  no_cuadd = refl;
  link = refl;
  name = refl;
  address = refl;
  moved = refl;
  exchanged = refl;
}

pub paths_as_worked : PathsAreToldAsWorked
unfolding digits padded_integral char_count
paths_as_worked = record { one = refl; two = refl; spanned = refl }
