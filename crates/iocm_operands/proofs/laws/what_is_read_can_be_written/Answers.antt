use Rattle.iocm_operands.proofs.Given.{path_given, number_given, cuadd_given, first_address_given, set_given}
use Rattle.iocm_operands.proofs.Given.{devices_given, units_given, ranges_given}
use Rattle.iocm_operands.proofs.Maxdev.{limits_given}
use Rattle.iocm_operands.proofs.Readings.{candidates_given, partition_given, paths_given, links_given, images_given}
use Rattle.iocm_operands.proofs.laws.what_is_read_can_be_written.Goals as goal

pub returns : goal.returns
returns c = record {
  path = path_given;
  number = number_given;
  cuadd = cuadd_given;
  first_address = first_address_given;
  set = set_given;
  devices = devices_given;
  units = units_given;
  ranges = ranges_given;
  candidates = candidates_given;
  partition = partition_given;
  paths = paths_given;
  links = links_given;
  images = images_given;
  limits = limits_given;
}
