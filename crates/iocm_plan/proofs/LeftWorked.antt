-- What filters leave of small changes, computed.
use Rattle.std.proofs.Common.{refl}
use Rattle.iocm_plan.specs.LeftExamples.{LeftIsAsWorked}

pub left_as_worked : LeftIsAsWorked
unfolding lib.Count.ones
left_as_worked = record {
  all = refl;
  place = refl;
  other_place = refl;
  name = refl;
  other_name = refl;
  name_before = refl;
  name_after = refl;
  unit_before = refl;
  unit_after = refl;
  other_unit = refl;
  path_before = refl;
  other_path = refl;
  in_range = refl;
  in_no_range = refl;
  lost = refl;
  not_lost = refl;
  not_seen = refl;
}
