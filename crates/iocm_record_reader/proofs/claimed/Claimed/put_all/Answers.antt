-- The keys of all records go into the set one by one.
use Rattle.std.proofs.Common.{refl, subst}
use Rattle.std.proofs.lemmas.List.{take_all}
use Rattle.iocm_record_reader.proofs.Claiming.{AreIn, all_opened, none_in, one_in}
use Rattle.iocm_record_reader.proofs.claimed.Claimed.put_all.Goals as goal

pub loop-entry-init : goal.loop-entry-init
loop-entry-init c = none_in c.args.self.now.keys c.args.earlier.now

pub loop-entry-preserved : goal.loop-entry-preserved
loop-entry-preserved c =
    one_in c.args.self.now.keys c.loop-entry.self.keys c.put.new.self.keys c.args.earlier.now c.loop-entry.entry-index
    c.entry-item.result c.key.result
    c.loop-entry-test.true c.entry-item.is c.key.ensures c.in_ok-put.ensures.keys c.loop-entry.invariant

pub returns : goal.returns
returns c =
    all_opened c.args.self.now _ c.args.earlier.now
    (subst (λ xs. AreIn c.args.self.now.keys c.loop-entry.self.keys xs c.args.earlier.now)
    (take_all c.loop-entry.entry-index c.args.earlier.now c.loop-entry-test.false) c.loop-entry.invariant)
    refl
