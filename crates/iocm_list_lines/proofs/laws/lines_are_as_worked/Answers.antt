use Rattle.std.proofs.Common.{refl}
use Rattle.std.specs.Fmt.{char_count, digits, padded_integral}
use Rattle.json.specs.Print.{escape_byte}
use Rattle.iocm_list_lines.specs.Devices.{device_line}
use Rattle.iocm_list_lines.specs.Images.{image_line}
use Rattle.iocm_list_lines.specs.Paths.{path_line}
use Rattle.iocm_list_lines.specs.Units.{unit_line}
use Rattle.iocm_list_lines.proofs.laws.lines_are_as_worked.Goals as goal

pub returns : goal.returns
unfolding char_count digits padded_integral escape_byte device_line image_line path_line unit_line
returns c = record {
  paths = record { each = refl; none = refl; escaped = refl };
  units = record { each = refl; none = refl };
  devices = record { each = refl; alone = refl };
  images = record { each = refl; none = refl };
}
