use Rattle.std.proofs.Common.{take}
use Rattle.iocm_record_reader.proofs.Claiming.{AreIn}
use Rattle.iocm_record_reader.proofs.claimed.Claimed.put_all.Given as goal

-- the set has what it had and the keys of the records so far
abbrev pub invariant-loop-entry : goal.invariant-loop-entry
invariant-loop-entry l = AreIn l.initial.self.keys l.self.keys (take l.entry-index l.earlier) l.earlier
