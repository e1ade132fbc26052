use Rattle.std.proofs.Common.{Some, sym, ap, ◌∙◌}
use Rattle.iocm_difference.proofs.SameRecords.{record_is}
use Rattle.iocm_activate.proofs.unchanged.leaves_its_record.Goals as goal

pub returns-in-Some-Some : goal.returns-in-Some-Some
returns-in-Some-Some g c = λ same.
    sym c.in-Some-Some.ensures
    ∙ ap Some (sym (record_is c.in-Some-Some.old.now c.in-Some-Some.new.now (sym c.is_same_record.ensures ∙ same)))
    ∙ c.in-Some-Some.ensures'
