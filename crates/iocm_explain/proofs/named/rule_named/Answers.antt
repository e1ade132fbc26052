use Rattle.iocm_explain.specs.Named.{rule_named}
use Rattle.iocm_explain.proofs.named.rule_named.Goals as goal

pub returns : goal.returns
unfolding rule_named
returns c = c.named_among.ensures
