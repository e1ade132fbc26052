-- Objects and runs at small changes, computed.
use Rattle.std.proofs.Common.{◌≡◌, refl}
use Rattle.std.specs.FinMap.{entries, get-entries}
use Rattle.iocm_model.specs.Machine.Configuration.{Configuration, with_keys}
use Rattle.iocm_examples.specs.BaseDeck.{base}
use Rattle.iocm_difference.proofs.Worked.{in_order}
use Rattle.iocm_plan.specs.MoreExamples.{ObjectsAreAsWorked, RunsAreAsWorked, after, before, changed_deck}

module _ (c d : Configuration) (e : entries c ≡ with_keys base) (f : entries d ≡ with_keys changed_deck) where
  objects : ObjectsAreAsWorked c d
  objects = record {
    device_added = simp (get-entries, e, f);
    device_deleted = simp (get-entries, e, f);
    device_changed = simp (get-entries, e, f);
    device_same = simp (get-entries, e, f);
    path_changed = simp (get-entries, e, f);
    path_same = simp (get-entries, e, f);
    pair = refl;
  }

  in_runs : RunsAreAsWorked c d
  in_runs = record {
    itself = simp (get-entries, e);
    changed = simp (get-entries, e, f);
    in_range = simp (get-entries, e);
    in_no_range = simp e;
  }

pub objects_as_worked : ObjectsAreAsWorked before after
objects_as_worked = objects before after (in_order base tt) (in_order changed_deck tt)

pub runs_as_worked : RunsAreAsWorked before after
runs_as_worked = in_runs before after (in_order base tt) (in_order changed_deck tt)
