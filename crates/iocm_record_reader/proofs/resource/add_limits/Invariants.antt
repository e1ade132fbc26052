use Rattle.std.proofs.Common.{◌≡◌, ◌++◌, map, take}
use Rattle.iocm_model.specs.Machine.Record.{limit}
use Rattle.iocm_record_reader.proofs.resource.add_limits.Given as goal

abbrev pub invariant-loop-limit : goal.invariant-loop-limit
invariant-loop-limit l = l.records.items ≡ l.initial.records.items ++ map limit (take l.limit-index l.limits)
