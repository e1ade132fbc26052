-- With the configurations exchanged gone and came, added and deleted change places.
use Rattle.std.proofs.Common.{◌≡◌, not, Option, Some, None, refl, ap}
use Rattle.iocm_types.specs.declared.view.View.{View}
use Rattle.iocm_model.proofs.Change.SameViews.{sight_turned}
use Rattle.iocm_plan.specs.Effects.{changed, same}
use Rattle.iocm_plan.specs.Laws.{PlanGoesBack, ObjectsGoBack}

turned_change : (b a : Option View) → changed b a ≡ changed a b
turned_change None None = refl
turned_change None (Some a) = refl
turned_change (Some b) None = refl
turned_change (Some b) (Some a) = ap not (sight_turned (Some b) (Some a))

turned_same : (b a : Option View) → same b a ≡ same a b
turned_same None None = refl
turned_same None (Some a) = refl
turned_same (Some b) None = refl
turned_same (Some b) (Some a) = sight_turned (Some b) (Some a)

pub going_back : PlanGoesBack
going_back b a = record {
  gone_comes = refl;
  come_goes = refl;
  changed_changes = turned_change b a;
  same_is_same = turned_same b a;
}

pub objects_going_back : ObjectsGoBack
objects_going_back c d key = record { added_goes = refl; deleted_comes = refl }
