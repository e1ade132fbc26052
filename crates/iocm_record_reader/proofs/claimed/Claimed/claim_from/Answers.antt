-- A key that is new is claimed, and one that is there refuses its record.
use Rattle.std.proofs.Common.{inr, refl}
use Rattle.iocm_record_reader.proofs.Claiming.{claimed_next, claim_refused, all_claimed, first_behind}
use Rattle.iocm_record_reader.proofs.claimed.Claimed.claim_from.Goals as goal

pub returns-then-not-is_new-clause-refused : goal.returns-then-not-is_new-clause-refused
returns-then-not-is_new-clause-refused c = inr (
  refl,
  claim_refused c.args.fault c.args.records.now c.split_at.result.0.now c.args.from c.loop-at.at c.index-rest-0.result
      c.key.result
      c.in_ok-is_new.is_new c.args.self.now c.loop-at.self c.claim.new.self c.loop-at-test.true
      (first_behind c.args.records.now c.split_at.result.1.now c.loop-at.at c.index-rest-0.result
      c.split_at.ensures.back c.index-rest-0.is)
      c.key.ensures c.split_at.ensures.front c.in_ok-is_new.ensures c.if-not-is_new.true c.loop-at.invariant,
)

pub loop-at-preserved : goal.loop-at-preserved
loop-at-preserved c =
    claimed_next c.args.fault c.args.records.now c.split_at.result.0.now c.args.from c.loop-at.at c.index-rest-0.result
    c.key.result
    c.in_ok-is_new.is_new c.args.self.now c.loop-at.self c.claim.new.self c.loop-at-test.true
    (first_behind c.args.records.now c.split_at.result.1.now c.loop-at.at c.index-rest-0.result c.split_at.ensures.back
    c.index-rest-0.is)
    c.key.ensures c.split_at.ensures.front c.in_ok-is_new.ensures c.if-not-is_new.false c.loop-at.invariant

pub returns-clause-claimed : goal.returns-clause-claimed
returns-clause-claimed c =
    all_claimed c.args.fault c.args.records.now c.args.from c.loop-at.at c.args.self.now c.loop-at.self
    c.loop-at-test.false c.loop-at.invariant
