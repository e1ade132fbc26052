use Rattle.std.proofs.Common.{eqb-true}
use Rattle.iocm_activate.proofs.Apart.{apart}
use Rattle.iocm_activate.proofs.signature.Signature.is_apart.Goals as goal

pub returns-then-self-other-eq0 : goal.returns-then-self-other-eq0
returns-then-self-other-eq0 c =
    λ is f g own other. apart c.args.self c.args.other f g own other c.if-self-other-eq0.true (eqb-true _ _ is)
