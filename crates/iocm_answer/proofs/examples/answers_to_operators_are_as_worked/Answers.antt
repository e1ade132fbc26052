use Rattle.std.proofs.Common.{refl}
use Rattle.std.specs.Fmt.{digits}
use Rattle.iocm_answer.proofs.examples.answers_to_operators_are_as_worked.Goals as goal

pub returns : goal.returns
unfolding digits
returns c =
    record {
      changed = refl;
      staged = refl;
      left = refl;
      none_left = refl;
      aborted = refl;
      undone = refl;
      redone = refl;
      large = refl;
      shown = refl;
    }
