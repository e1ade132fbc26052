-- With the bits of the keys that are left it is the signature of all.
use Rattle.std.proofs.Common.{◌≡◌, drop}
use Rattle.std.specs.Map.{keys_of}
use Rattle.iocm_activate.proofs.Signed.{with_bits}
use Rattle.iocm_activate.proofs.signature.bits_of.Given as goal

abbrev pub invariant-loop-cell : goal.invariant-loop-cell
invariant-loop-cell g l =
    with_bits g.K.CellKey.number l.bits (keys_of (drop l.cell-index l.cells))
    ≡ with_bits g.K.CellKey.number 0 (keys_of l.cells)
