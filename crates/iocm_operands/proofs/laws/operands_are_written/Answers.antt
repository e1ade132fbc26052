use Rattle.std.proofs.Common.{refl}
use Rattle.std.specs.Fmt.{char_count, digits, padded_integral}
use Rattle.iocm_operands.proofs.laws.operands_are_written.Goals as goal

pub returns : goal.returns
unfolding char_count digits padded_integral
returns c = record {
  images = refl;
  limits = refl;
  path = refl;
  partition = refl;
  no_access = refl;
  paths = refl;
  ranges = refl;
  links = refl;
  devices = refl;
  units = refl;
  no_names = refl;
}
