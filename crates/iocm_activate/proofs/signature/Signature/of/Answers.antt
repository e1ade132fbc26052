use Rattle.std.proofs.Common.{subst}
use Rattle.std.specs.Map.{keys_of}
use Rattle.iocm_types.specs.declared.place.NumberCell.{NumberCell}
use Rattle.iocm_types.specs.declared.sub_id.SubId.{SubId}
use Rattle.iocm_activate.specs.Signature.{AreSigned, number_in}
use Rattle.iocm_activate.proofs.Signed.{either_set, other_set}
use Rattle.iocm_activate.proofs.signature.Signature.of.Goals as goal

pub returns : goal.returns
returns c = record {
  records = subst (λ cells. AreSigned number_in c.bits_of.result (keys_of cells)) c.cells-3.ensures.entries
      c.bits_of.ensures;
  numbers = λ k d within. either_set _ _ _
      (subst (λ cells. AreSigned (λ (x : NumberCell). x.number) c.bits_of-numbers.result (keys_of cells))
      c.cells.ensures.entries c.bits_of-numbers.ensures k d within);
  lives = λ k d within. other_set _ _ _
      (subst (λ cells. AreSigned (λ (x : SubId). x.number) c.bits_of-lives.result (keys_of cells))
      c.cells-2.ensures.entries c.bits_of-lives.ensures k d within);
}
