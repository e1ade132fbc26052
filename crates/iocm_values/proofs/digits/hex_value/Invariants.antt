-- The value so far is that of the digits so far, or the largest there is.
use Rattle.std.proofs.Common.{◌≡◌, ◌-◌, ◌^◌, min, take}
use Rattle.iocm_values.specs.Digits.{hex_value}
use Rattle.iocm_values.proofs.digits.hex_value.Given as goal

abbrev pub invariant-loop-byte : goal.invariant-loop-byte
invariant-loop-byte l = l.value ≡ min (hex_value (take l.byte-index l.text)) (2 ^ 64 - 1)
