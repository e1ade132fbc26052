use Rattle.iocm_round_trip.proofs.Stated.{id_again, resource_again, chpid_again, cntlunit_again, iodevice_again}
use Rattle.iocm_round_trip.proofs.laws.statements_are_read_as_records.Goals as goal

pub returns : goal.returns
returns c = record {
  id = id_again;
  resource = resource_again;
  chpid = chpid_again;
  cntlunit = cntlunit_again;
  iodevice = iodevice_again;
}
