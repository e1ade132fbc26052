-- Rows, blocks and totals as they are printed by hand.
use Rattle.std.proofs.Common.{refl}
use Rattle.std.specs.Fmt.{char_count, digits, padded_integral}
use Rattle.iocm_impact_text.specs.Examples.{BlocksAreToldAsWorked, RowsAreToldAsWorked, TotalsAreToldAsWorked}

pub rows_as_worked : RowsAreToldAsWorked
unfolding digits padded_integral char_count lib.Count.ones
rows_as_worked = record {
  changed = refl;
  interrupted = refl;
  gone = refl;
  came = refl;
  lost = refl;
  one = refl;
  same = refl;
  two_marks = refl;
}

pub blocks_as_worked : BlocksAreToldAsWorked
unfolding digits padded_integral char_count lib.Count.ones
blocks_as_worked = record {
  blocks = refl;
  none = refl;
  many = refl;
  all = refl;
  all_few = refl;
}

pub totals_as_worked : TotalsAreToldAsWorked
unfolding digits padded_integral char_count lib.Count.ones
totals_as_worked = record {
  table = refl;
  no_table = refl;
  totals = refl;
  commas = refl;
}
