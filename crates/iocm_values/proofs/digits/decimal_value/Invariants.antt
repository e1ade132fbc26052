-- The value so far is that of the digits so far, or the largest there is.
use Rattle.std.proofs.Common.{◌≡◌, ◌-◌, ◌^◌, min, take}
use Rattle.iocm_values.specs.Digits.{decimal_value}
use Rattle.iocm_values.proofs.digits.decimal_value.Given as goal

abbrev pub invariant-loop-byte : goal.invariant-loop-byte
invariant-loop-byte l = l.value ≡ min (decimal_value (take l.byte-index l.text)) (2 ^ 64 - 1)
