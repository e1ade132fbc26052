-- What is put or taken away under a key changes no other record.
use Rattle.iocm_reach.proofs.Changed.{was_put, was_taken}
use Rattle.iocm_reach.proofs.laws.changes_can_be_followed.Goals as goal

pub returns : goal.returns
returns c = λ m key table reach. record { put = λ r. was_put m key r table reach; taken = was_taken m key table reach }
