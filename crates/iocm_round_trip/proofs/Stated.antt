-- Each statement of the canonical deck can be written, and is read as the records that it was
-- written of.
use Rattle.iocm_round_trip.specs.Stating.{ReadsIdAgain, ReadsResourceAgain, ReadsChpidAgain, ReadsCntlunitAgain}
use Rattle.iocm_round_trip.specs.Stating.{ReadsIodeviceAgain}
use Rattle.iocm_round_trip.proofs.Forms.{id_has_no_fault, resource_has_no_fault, chpid_has_no_fault}
use Rattle.iocm_round_trip.proofs.Forms.{cntlunit_has_no_fault, iodevice_has_no_fault}
use Rattle.iocm_round_trip.proofs.Known.{id_can_be_written, resource_can_be_written, chpid_can_be_written}
use Rattle.iocm_round_trip.proofs.Known.{cntlunit_can_be_written, iodevice_can_be_written}
use Rattle.iocm_round_trip.proofs.Records.{id_gives, resource_gives, chpid_gives, cntlunit_gives, iodevice_gives}

pub id_again : ReadsIdAgain
id_again carried are = record
    { written = id_can_be_written carried are; no_fault = id_has_no_fault carried are; is_read = id_gives carried are }

pub resource_again : ReadsResourceAgain
resource_again images limits carried are_images are_limits are = record {
  written = resource_can_be_written images limits carried are_images are_limits are;
  no_fault = resource_has_no_fault images limits carried are_images are_limits are;
  is_read = resource_gives images limits carried are_images are_limits are;
}

pub chpid_again : ReadsChpidAgain
chpid_again p is = record
    { written = chpid_can_be_written p is; no_fault = chpid_has_no_fault p is; is_read = chpid_gives p is }

pub cntlunit_again : ReadsCntlunitAgain
cntlunit_again u is = record
    { written = cntlunit_can_be_written u is; no_fault = cntlunit_has_no_fault u is; is_read = cntlunit_gives u is }

pub iodevice_again : ReadsIodeviceAgain
iodevice_again r is = record
    { written = iodevice_can_be_written r is; no_fault = iodevice_has_no_fault r is; is_read = iodevice_gives r is }
