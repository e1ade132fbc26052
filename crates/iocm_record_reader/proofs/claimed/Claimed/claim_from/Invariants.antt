use Rattle.iocm_record_reader.proofs.Claiming.{IsClaimedTo}
use Rattle.iocm_record_reader.proofs.claimed.Claimed.claim_from.Given as goal

abbrev pub invariant-loop-at : goal.invariant-loop-at
invariant-loop-at l = IsClaimedTo l.fault l.records l.from l.initial.self l.at l.self
