-- One key more is put.
use Rattle.iocm_plan_filter.proofs.KeysPut.{one_key_more}
use Rattle.iocm_plan_filter.proofs.keys.put_keys.Goals as goal

pub loop-key-preserved : goal.loop-key-preserved
loop-key-preserved c = λ k. one_key_more k c.args.more.now _ _ _ c.loop-key.key-index c.key-item.result
    c.loop-key-test.true c.key-item.is (c.in_ok-put_key.ensures k) (c.loop-key.invariant k)
