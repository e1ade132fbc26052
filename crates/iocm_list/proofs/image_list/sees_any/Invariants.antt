-- The image sees none of the runs so far, and stays as it is.
use Rattle.std.proofs.Common.{◌≡◌, drop}
use Rattle.std.specs.List.{list_any}
use Rattle.iocm_model.specs.Machine.Configuration.{lookup_of}
use Rattle.iocm_model.specs.Machine.Sight.{sees}
use Rattle.iocm_deck_writer.specs.Device.{Run}
use Rattle.iocm_list.proofs.image_list.sees_any.Given as goal

abbrev pub invariant-loop-run : goal.invariant-loop-run
invariant-loop-run l = let s = l.initial.sight in
    let seen = λ (r : Run). sees (lookup_of s.records) s.image.css s.image.name r.first in record {
      left : list_any seen (drop l.run-index l.runs) ≡ list_any seen l.runs;
      same : l.sight ≡ s;
    }
