use Rattle.std.proofs.Common.{refl}
use Rattle.std.specs.Fmt.{char_count, digits, padded_integral}
use Rattle.iocm_answer.proofs.examples.refusals_are_as_worked.Goals as goal

pub returns : goal.returns
unfolding char_count digits padded_integral
returns c =
    record {
      busy = refl;
      not_there = refl;
      broken = refl;
      empty_choose = refl;
      busy_undo = refl;
      stood_on = refl;
      staging = refl;
      no_memory = refl;
    }
