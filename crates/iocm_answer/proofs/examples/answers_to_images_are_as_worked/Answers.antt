use Rattle.std.proofs.Common.{refl}
use Rattle.std.specs.Fmt.{char_count, digits, padded_integral}
use Rattle.iocm_answer.proofs.examples.answers_to_images_are_as_worked.Goals as goal

pub returns-clause-codes : goal.returns-clause-codes
unfolding digits
returns-clause-codes c =
    record {
      accepted = refl;
      pending = refl;
      busy = refl;
      not_operational = refl;
      started = refl;
      halted = refl;
      cleared = refl;
    }

pub returns-clause-stored : goal.returns-clause-stored
unfolding char_count digits padded_integral
returns-clause-stored c = record { idle = refl; fresh = refl; at_work = refl }

pub returns-clause-events : goal.returns-clause-events
unfolding digits
returns-clause-events c = record { begun = refl; not_begun = refl; ended = refl; not_ended = refl; held = refl }
