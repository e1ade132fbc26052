use Rattle.std.proofs.Common.{◌≤◌, length, subst, sym, ap, ◌∙◌, arith}
use Rattle.std.proofs.lemmas.List.{drop_all}
use Rattle.std.specs.Map.{keys_of}
use Rattle.iocm_activate.specs.Signature.{AreSigned}
use Rattle.iocm_activate.proofs.Signed.{all_signed, with_bits}
use Rattle.iocm_activate.proofs.signature.bits_of.Goals as goal

pub returns : goal.returns
returns g c =
    let past : length c.args.cells.now ≤ c.loop-cell.cell-index = omega (arith, c.loop-cell-test.false) in
    subst (λ bits. AreSigned g.K.CellKey.number bits (keys_of c.args.cells.now))
    (sym c.loop-cell.invariant
    ∙ ap (λ es. with_bits g.K.CellKey.number c.loop-cell.bits (keys_of es))
    (drop_all c.loop-cell.cell-index c.args.cells.now past))
    (all_signed g.K.CellKey.number 0 (keys_of c.args.cells.now))
