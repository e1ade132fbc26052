use Rattle.std.proofs.Common.{refl}
use Rattle.std.specs.Fmt.{char_count, digits, padded_integral}
use Rattle.iocm_columns.specs.Written.{cut_from}
use Rattle.iocm_difference_writer.proofs.Worked.{text_with_old}
use Rattle.iocm_difference_writer.proofs.examples.texts_are_as_worked.Goals as goal

pub returns-clause-together : goal.returns-clause-together
returns-clause-together c = record {
  devices = refl;
  devices_modified = refl;
  other_verbs = refl;
  deleted = refl;
  with_a_gap = refl;
  of_other_sets = refl;
  last_of_many = refl;
  one_too_many = refl;
  any_number_put = refl;
  pairs = refl;
  pairs_deleted = refl;
  of_other_paths = refl;
  of_other_subsystems = refl;
  in_another_order = refl;
  images = refl;
}

pub returns-clause-runs : goal.returns-clause-runs
returns-clause-runs c = refl

pub returns-clause-text : goal.returns-clause-text
unfolding char_count digits padded_integral cut_from
returns-clause-text c = refl

pub returns-clause-old : goal.returns-clause-old
returns-clause-old c = text_with_old

pub returns-clause-starred : goal.returns-clause-starred
returns-clause-starred c = refl
