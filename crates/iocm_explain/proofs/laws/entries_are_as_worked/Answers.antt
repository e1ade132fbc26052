use Rattle.std.proofs.Common.{refl}
use Rattle.iocm_explain.specs.Named.{rule_named}
use Rattle.iocm_explain.proofs.laws.entries_are_as_worked.Goals as goal

pub returns : goal.returns
unfolding rule_named
returns c = record {
  entry = refl;
  listed = refl;
  capital = refl;
  small = refl;
  two = refl;
  twice = refl;
  no_word = refl;
  unknown = refl;
  zero_before = refl;
  letter_alone = refl;
  blank_after = refl;
  nothing = refl;
  told_of_two = refl;
}
