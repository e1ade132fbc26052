use Rattle.std.proofs.Common.{◌≡◌, ◌+◌, ◌<◌, vec_len}
use Rattle.std.specs.Io.KnownBytes.{Consumes}
use Rattle.iocm_columns.specs.Device.{reader_of, reads_of, IsOpen}
use Rattle.iocm_columns.proofs.device.Device.read_to_end.Given as goal

abbrev pub invariant-loop : goal.invariant-loop
invariant-loop g l = record {
  counted : reads_of l.self ≡ reads_of l.fn.self + l.counter;
  open_yet : IsOpen l.self;
  room : 0 < vec_len l.buffer;
  gathered : Consumes (g.R.Read.remaining (reader_of l.fn.self)) (g.R.Read.remaining (reader_of l.self)) l.bytes.items;
}
