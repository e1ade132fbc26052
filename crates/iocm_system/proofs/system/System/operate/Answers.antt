-- What the caller is after the call that was made under the lock.
use Rattle.iocm_system.proofs.Callers.{ok_made}
use Rattle.iocm_system.proofs.system.System.operate.Goals as goal

pub returns-clause-made : goal.returns-clause-made
returns-clause-made g c =
    ok_made c.make.result c.me.inside.seat c.make.new.me c.args.me.now c.args.call c.me.view_is c.make.ensures.asked
    c.make.ensures.receipt
