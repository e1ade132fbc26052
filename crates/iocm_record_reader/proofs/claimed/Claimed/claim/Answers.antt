-- How a key comes says how it is claimed.
use Rattle.iocm_record_reader.proofs.Claiming.{noted_claims, put_claims_after, put_claims_if}
use Rattle.iocm_record_reader.proofs.claimed.Claimed.claim.Goals as goal

pub returns-in-InSet : goal.returns-in-InSet
returns-in-InSet c =
    put_claims_if c.put.result c.args.self.now c.put.new.self c.args.earlier.now c.args.key c.in-InSet.ensures
    c.put.ensures.added c.put.ensures.keys c.put.ensures.lasts

pub returns-in-Past : goal.returns-in-Past
returns-in-Past c =
    noted_claims c.args.self.now c.note.new.self c.args.earlier.now c.args.key c.in-Past.ensures c.note.ensures.keys
    c.note.ensures.lasts

pub returns-in_ok-put_all-in-OutOfOrder : goal.returns-in_ok-put_all-in-OutOfOrder
returns-in_ok-put_all-in-OutOfOrder c =
    put_claims_after c.put-in-OutOfOrder.result c.args.self.now c.put_all.new.self c.put-in-OutOfOrder.new.self
    c.args.earlier.now c.args.key
    c.in_ok-put_all-in-OutOfOrder.ensures
    c.put-in-OutOfOrder.ensures.added c.put-in-OutOfOrder.ensures.keys c.put-in-OutOfOrder.ensures.lasts
