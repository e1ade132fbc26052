-- Lines as they are written by hand.
use Rattle.std.proofs.Common.{refl}
use Rattle.std.specs.Fmt.{char_count, digits, padded_integral}
use Rattle.json.specs.Print.{escape_byte}
use Rattle.iocm_lines.specs.Examples.{SubchannelsAsWorked, CountsAsWorked, RefusalsAsWorked, AlteredAsWorked}
use Rattle.iocm_lines.specs.Examples.{AnswersAsWorked}

pub subchannels_as_worked : SubchannelsAsWorked
unfolding char_count digits padded_integral escape_byte
subchannels_as_worked = record { one_online = refl; eight_online = refl; none_online = refl }

pub counts_as_worked : CountsAsWorked
unfolding char_count digits padded_integral escape_byte
counts_as_worked = record { accepted = refl; trace = refl; change = refl; count = refl }

pub refusals_as_worked : RefusalsAsWorked
unfolding char_count digits padded_integral escape_byte
refusals_as_worked = record { at_line = refl; at_node = refl; hostile = refl }

pub altered_as_worked : AlteredAsWorked
unfolding char_count digits padded_integral escape_byte
altered_as_worked = record { other = refl; came = refl; came_and_went = refl }

pub answers_as_worked : AnswersAsWorked
unfolding char_count digits padded_integral escape_byte
answers_as_worked = record {
  code = refl;
  status = refl;
  stored = refl;
  change = refl;
  undone = refl;
  left = refl;
  nothing = refl;
  shown = refl;
  refused = refl;
  refused_at_node = refl;
}
