use Rattle.std.proofs.Common.{refl}
use Rattle.std.specs.Fmt.{char_count, digits, padded_integral}
use Rattle.iocm_reports.proofs.laws.remark_of_a_subchannel_is_as_worked.Goals as goal

pub returns : goal.returns
unfolding char_count digits padded_integral
returns c = refl
