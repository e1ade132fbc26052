-- Tables with nothing in them say the same.
use Rattle.std.proofs.Common.{refl}
use Rattle.iocm_numbers.proofs.Tied.{tied_new}
use Rattle.iocm_numbers.proofs.numbers.Numbers.new.Goals as goal

pub invariant_of-result : goal.invariant_of-result
invariant_of-result g c =
    tied_new c.new.result c.new-2.result c.in_ok-clear_words.field-0.items 24576 c.new.ensures.rows c.new-2.ensures.rows
    refl
    c.in_ok-clear_words.ensures
