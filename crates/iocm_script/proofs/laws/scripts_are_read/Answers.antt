-- Each example computes.
use Rattle.std.proofs.Common.{refl}
use Rattle.iocm_types.specs.Each.{each}
use Rattle.iocm_script.proofs.laws.scripts_are_read.Goals as goal

pub returns : goal.returns
unfolding each
returns c = record {
  two_rounds = refl;
  nothing = refl;
  last_sync = refl;
  no_line = refl;
  no_deck = refl;
  any_change = refl;
  fourteen = refl;
  fifteen = refl;
  anew = refl;
  k1_first = refl;
  k2_first = refl;
  least_line = refl;
  k2_before = refl;
  l1_before = refl;
}
