use Rattle.std.proofs.Common.{refl}
use Rattle.std.specs.Fmt.{char_count, digits, padded_integral}
use Rattle.json.specs.Print.{escape_byte}
use Rattle.iocm_record_lines.proofs.laws.records_are_as_worked.Goals as goal

pub returns : goal.returns
unfolding char_count digits padded_integral escape_byte
returns c = record {
  id = refl;
  resource = refl;
  image = refl;
  limit = refl;
  path = refl;
  unit = refl;
  device = refl;
  online = refl;
  added = refl;
  modified = refl;
  deleted = refl;
  number = refl;
  state = refl;
}
