-- Names have the order of their numbers.
use Rattle.std.proofs.Common.{◌∙◌}
use Rattle.std.specs.Ordering.{nat_cmp}
use Rattle.iocm_types.proofs.Numbers.{names_by_number}
use Rattle.iocm_types.proofs.name.NameOrd.cmp.Goals as goal

pub returns : goal.returns
returns c =
    c.cmp.ensures ∙ (λ i. nat_cmp (c.number.ensures.number i) (c.number-2.ensures.number i))
    ∙ names_by_number c.args.self.now c.args.other.now c.number.ensures.name c.number-2.ensures.name
