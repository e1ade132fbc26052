use Rattle.std.proofs.Common.{refl}
use Rattle.std.specs.Fmt.{char_count, digits, padded_integral}
use Rattle.iocm_console.proofs.laws.refusals_are_as_worked.Goals as goal

pub returns : goal.returns
unfolding char_count digits padded_integral
returns c = record { line = refl; memory = refl; key = refl; subchannel = refl; change = refl }
