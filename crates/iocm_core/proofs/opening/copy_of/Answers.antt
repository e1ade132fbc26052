-- The copies are the records, which give the configuration again.
use Rattle.std.proofs.Common.{sym, ap, subst, ◌∙◌}
use Rattle.std.proofs.lemmas.Result.{IfOk-weaker}
use Rattle.iocm_model.specs.Machine.Configuration.{HasNoKeyTwice, configuration_of}
use Rattle.iocm_core.proofs.Copying.{records_apart, records_again}
use Rattle.iocm_core.proofs.opening.copy_of.Goals as goal

pub from_records-requires : goal.from_records-requires
from_records-requires c =
    subst HasNoKeyTwice (sym c.in_ok-records.ensures) (records_apart c.args.config.now.records c.has_own_keys.ensures)

pub returns : goal.returns
returns c =
    IfOk-weaker c.from_records.result _ _
    (λ copy is. is ∙ ap configuration_of c.in_ok-records.ensures
    ∙ records_again c.args.config.now.records c.has_own_keys.ensures)
    c.from_records.ensures
