use Rattle.std.proofs.Common.{sym, subst}
use Rattle.iocm_model.specs.Machine.Configuration.{Configuration}
use Rattle.iocm_lookup.specs.Indexed.{IsIndexOf}
use Rattle.iocm_plant.proofs.record.put_record.Goals as goal

pub returns-in-Some-clause-index : goal.returns-in-Some-clause-index
returns-in-Some-clause-index c =
    subst (λ (d : Configuration). IsIndexOf d c.relink_record.new.index) (sym c.put.ensures.records)
    c.relink_record.ensures.index

pub returns-in-None-clause-index : goal.returns-in-None-clause-index
returns-in-None-clause-index c =
    subst (λ (d : Configuration). IsIndexOf d c.relink_record.new.index) (sym c.put.ensures.records)
    c.relink_record.ensures.index
