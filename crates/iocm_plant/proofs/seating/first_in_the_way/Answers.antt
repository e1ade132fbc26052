use Rattle.std.proofs.Common.{map, sym, ap, ◌∙◌}
use Rattle.iocm_model.specs.Change.Refusal.{first_not_quiet}
use Rattle.iocm_seats.specs.declared.view_change.ViewChange.{ViewChange}
use Rattle.iocm_plant.specs.declared.quiet.Quiet.{Quiet}
use Rattle.iocm_plant.specs.InTheWay.{first_in_the_way}
use Rattle.iocm_plant.proofs.seating.first_in_the_way.Goals as goal

pub returns-in-Wanted : goal.returns-in-Wanted
returns-in-Wanted c = λ lives changes is. c.first_not_quiet.ensures lives changes is
    ∙ sym (ap (λ (q : Quiet).
    first_in_the_way q (first_not_quiet lives (map (λ (ch : ViewChange). ch.subchannel) changes))) c.in-Wanted.is)

pub returns-in-Whatever : goal.returns-in-Whatever
returns-in-Whatever c = λ lives changes is.
    sym (ap (λ (q : Quiet). first_in_the_way q
    (first_not_quiet lives (map (λ (ch : ViewChange). ch.subchannel) changes))) c.in-Whatever.is)
