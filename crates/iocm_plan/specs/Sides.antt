-- The image, and the device, that the code has at hand.
use Rattle.iocm_derive.specs.Sighted.{Sighted}
use Rattle.iocm_model.specs.Machine.Configuration.{Configuration, lookup_of}
use Rattle.iocm_model.specs.Machine.Record.{ImageRecord}
use Rattle.iocm_record.specs.Meaning.{device_of}
use Rattle.iocm_plan.specs.Seen as meaning
use Rattle.iocm_plan.specs.declared.side.Side.{Side}

abbrev pub sighted : Configuration → ImageRecord → Sighted
sighted c i = record { records = c; image = i }

abbrev pub side_of : Side → meaning.Side
side_of s = record {
  records = lookup_of s.config.now.records;
  image = record { css = s.image.css; mif = s.image.mif; name = s.name };
  device = device_of s.device.now;
}
