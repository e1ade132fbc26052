use Rattle.std.proofs.Common.{◌≡◌, ◌++◌, map, take}
use Rattle.iocm_record_reader.specs.ChpidRecords.{online_to}
use Rattle.iocm_record_reader.proofs.chpid.add_online.Given as goal

abbrev pub invariant-loop-name : goal.invariant-loop-name
invariant-loop-name l = l.records.items ≡ l.initial.records.items
    ++ map (online_to l.css l.path) (take l.name-index l.names)
