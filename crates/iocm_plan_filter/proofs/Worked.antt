-- What filters leave of small configurations, computed.
use Rattle.std.proofs.Common.{◌≡◌, refl}
use Rattle.std.specs.FinMap.{entries, get-entries}
use Rattle.iocm_model.specs.Machine.Configuration.{Configuration, with_keys}
use Rattle.iocm_difference.proofs.Worked.{in_order}
use Rattle.iocm_plan_filter.specs.Examples.{KindsAreAsWorked, LostIsAsWorked, StepsAreAsWorked, before, moved}
use Rattle.iocm_plan_filter.specs.Examples.{moved_2000, with_2000}
use Rattle.iocm_plan_filter.specs.Left.{is_asked}

pub steps_as_worked : StepsAreAsWorked
steps_as_worked = record {
  lpa_leads = refl;
  lpb_leads = refl;
  unit_1000 = refl;
  unit_2000 = refl;
  path_60 = refl;
  path_of_each = refl;
  path_of_another = refl;
  way = refl;
  no_way = refl;
  seen = refl;
  not_seen = refl;
  seen_after = refl;
}

module _ (c d : Configuration) (e : entries c ≡ with_keys with_2000) (f : entries d ≡ with_keys moved_2000) where
  kinds : KindsAreAsWorked c d
  unfolding is_asked
  kinds = record {
    unit_after = simp (get-entries, e, f);
    unit_before = simp (get-entries, e, f);
    no_unit = simp (get-entries, e, f);
    image_after = simp (get-entries, e, f);
    image_never = simp (get-entries, e, f);
    path_before = simp (get-entries, e, f);
    path_after = simp (get-entries, e, f);
    no_path = simp (get-entries, e, f);
    both_kinds = simp (get-entries, e, f);
    one_kind = simp (get-entries, e, f);
    two_values = simp (get-entries, e, f);
    limit = refl;
    unfiltered = refl;
  }

module _ (c : Configuration) (e : entries c ≡ with_keys with_2000) where
  lost : LostIsAsWorked c
  unfolding lib.Count.ones
  lost = record {
    goes = refl;
    comes = refl;
    its_way = simp (get-entries, e);
    on_way = refl;
    in_run = refl;
    other_set = refl;
  }

pub kinds_as_worked : KindsAreAsWorked before moved
kinds_as_worked = kinds before moved (in_order with_2000 tt) (in_order moved_2000 tt)

pub lost_as_worked : LostIsAsWorked before
lost_as_worked = lost before (in_order with_2000 tt)
