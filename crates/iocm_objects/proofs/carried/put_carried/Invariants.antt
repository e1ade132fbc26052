-- The fields so far, with those of the operands that are left, are all.
use Rattle.std.proofs.Common.{◌≡◌, ◌++◌, Some, drop}
use Rattle.std.specs.Option.{option_copied}
use Rattle.iocm_objects.specs.Carried.{bare_words, fields_with}
use Rattle.iocm_objects.proofs.carried.put_carried.Given as goal

abbrev pub invariant-loop-operand : goal.invariant-loop-operand
invariant-loop-operand l =
    l.fields.items ++ fields_with (option_copied l.words) (drop l.operand-index l.carried)
    ≡ l.fn.fields.items ++ fields_with (Some (bare_words l.carried)) l.carried
