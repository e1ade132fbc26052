-- The records of a configuration have each its own key, and make it again.
use Rattle.std.proofs.Common.{◌≡◌, ◌∙◌, IfOk, ap, subst, sym}
use Rattle.iocm_model.specs.Machine.Configuration.{HasNoKeyTwice, configuration_of}
use Rattle.iocm_answer.proofs.Copied.{own_again, own_apart}
use Rattle.iocm_answer.proofs.copying.copy_of.Goals as goal

pub from_records-requires : goal.from_records-requires
from_records-requires c = subst HasNoKeyTwice (sym c.in_ok-records.ensures)
    (own_apart c.args.config.now.records c.has_own_keys.ensures)

pub returns : goal.returns
returns c = subst (λ due. IfOk c.from_records.result (λ copy. copy.records ≡ due))
    (ap configuration_of c.in_ok-records.ensures ∙ own_again c.args.config.now.records c.has_own_keys.ensures)
    c.from_records.ensures
