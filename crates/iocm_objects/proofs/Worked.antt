-- What is told of small changes, computed.
use Rattle.std.proofs.Common.{refl}
use Rattle.std.specs.Fmt.{char_count, digits, padded_integral}
use Rattle.iocm_objects.specs.Examples.{ChangesAreAsWorked, FieldsAreAsWorked}
use Rattle.iocm_objects.specs.MoreExamples.{CountsAreAsWorked, LinesAreAsWorked, RunsAreAsWorked}

pub fields_worked : FieldsAreAsWorked
unfolding digits padded_integral char_count
fields_worked = record {
  carried = refl;
  image = refl;
  limit = refl;
  path = refl;
  access = refl;
  dedicated = refl;
  unit = refl;
  device = refl;
  candidates = refl;
  no_candidate = refl;
}

pub changes_worked : ChangesAreAsWorked
unfolding digits padded_integral char_count
changes_worked = record {
  operands = refl;
  words = refl;
  otherwise = refl;
  image = refl;
  limit = refl;
  other_use = refl;
  online = refl;
  candidates = refl;
  access = refl;
  access_online = refl;
  moved = refl;
  turned = refl;
  links = refl;
  no_links = refl;
  unit = refl;
  device = refl;
  listed = refl;
  unlisted = refl;
  other_list = refl;
  emptied = refl;
  same = refl;
}

pub runs_worked : RunsAreAsWorked
runs_worked = record {
  none = refl;
  joined = refl;
  gap = refl;
  other_set = refl;
  other_change = refl;
  other_unit = refl;
  other_address = refl;
  other_field = refl;
  changed = refl;
  both_addresses = refl;
  units = refl;
}

pub lines_worked : LinesAreAsWorked
unfolding digits padded_integral char_count
lines_worked = record {
  run = refl;
  one = refl;
  changed = refl;
  image = refl;
  otherwise = refl;
}

pub counts_worked : CountsAreAsWorked
counts_worked = record {
  added = refl;
  changed = refl;
  image = refl;
  no_unit = refl;
}
