-- What is said at small changes, computed.
use Rattle.std.proofs.Common.{refl}
use Rattle.iocm_plan.specs.Examples.{WordsAreAsWorked}

pub words_as_worked : WordsAreAsWorked
unfolding lib.Count.ones
words_as_worked = record {
  nothing = refl;
  deleted = refl;
  added = refl;
  image_deleted = refl;
  online = refl;
  offline = refl;
  last_path = refl;
  kept_away = refl;
  kept = refl;
  channel = refl;
  only_channel = refl;
  other_use = refl;
  no_cuadd = refl;
  cuadd = refl;
  no_link = refl;
  one_link = refl;
  order = refl;
  address = refl;
  device_type = refl;
  other_unit = refl;
  other_path = refl;
  other_name = refl;
}
