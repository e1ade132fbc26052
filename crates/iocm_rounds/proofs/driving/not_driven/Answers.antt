use Rattle.std.proofs.Common.{List, [], sym, subst}
use Rattle.std.specs.Prelude.{Some}
use Rattle.iocm_system.specs.declared.receipt.Receipt.{Receipt}
use Rattle.iocm_types.specs.declared.rule.Rule.TheVariants as rules
use Rattle.iocm_rounds.specs.Rounds.{IsImage, IsOffice}
use Rattle.iocm_rounds.proofs.Rounds.{no_image, no_office}
use Rattle.iocm_rounds.proofs.driving.not_driven.Goals as goal

pub returns-clause-a : goal.returns-clause-a
returns-clause-a g c calls = subst
    (λ (rs : List Receipt). IsImage calls c.args.seats.a c.args.seats.a rs (Some rules.M1)) (sym c.new.ensures.items)
    (no_image calls c.args.seats.a)

pub returns-clause-b : goal.returns-clause-b
returns-clause-b g c calls = subst
    (λ (rs : List Receipt). IsImage calls c.args.seats.b c.args.seats.b rs (Some rules.M1)) (sym c.new-2.ensures.items)
    (no_image calls c.args.seats.b)

pub returns-clause-office : goal.returns-clause-office
returns-clause-office g c p q =
    subst (λ (rs : List Receipt).
    IsOffice p q c.args.seats.worker c.args.seats.worker rs c.new-4.result.items (Some rules.M1))
    (sym c.new-3.ensures.items)
    (subst (λ (rs : List Receipt). IsOffice p q c.args.seats.worker c.args.seats.worker [] rs (Some rules.M1))
    (sym c.new-4.ensures.items)
    (no_office p q c.args.seats.worker))
