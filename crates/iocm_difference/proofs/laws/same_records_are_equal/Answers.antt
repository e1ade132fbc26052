-- The law is proved of the definitions.
use Rattle.std.proofs.Common.{sym, ap, ◌∙◌}
use Rattle.iocm_difference.specs.Same.{same_record}
use Rattle.iocm_difference.proofs.SameRecords.{record_is, own_record}
use Rattle.iocm_difference.proofs.laws.same_records_are_equal.Goals as goal

pub returns : goal.returns
returns c = λ a b. (record_is a b, λ e. ap (same_record a) (sym e) ∙ own_record a)
