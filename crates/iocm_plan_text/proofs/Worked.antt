-- Summaries, notes and sections as they are printed by hand.
use Rattle.std.proofs.Common.{refl}
use Rattle.std.specs.Fmt.{char_count, digits, padded_integral}
use Rattle.iocm_plan_text.specs.Examples.{NotesAreAsWorked, SectionsAreAsWorked, SummariesAreAsWorked}
use Rattle.iocm_plan_text.specs.Limits.{limit_line}
use Rattle.iocm_plan_text.specs.Summary.{first_part, next_part, part}

pub summaries_as_worked : SummariesAreAsWorked
unfolding digits padded_integral char_count part first_part next_part
summaries_as_worked = record {
  some = refl;
  filtered = refl;
  same = refl;
  none_left = refl;
}

pub notes_as_worked : NotesAreAsWorked
unfolding digits padded_integral char_count limit_line
notes_as_worked = record {
  most = refl;
  many = refl;
  low = refl;
  limit = refl;
  no_limit = refl;
}

pub sections_as_worked : SectionsAreAsWorked
sections_as_worked = record {
  some = refl;
  none = refl;
  told = refl;
  untold = refl;
}
