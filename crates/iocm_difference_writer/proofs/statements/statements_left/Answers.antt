use Rattle.std.proofs.Common.{◌∙◌, map, ap}
use Rattle.iocm_deck_writer.specs.Canonical.{canonical}
use Rattle.iocm_difference_writer.proofs.statements.statements_left.Goals as goal

pub returns : goal.returns
returns g c = c.in_ok-statements.ensures
    ∙ ap canonical (ap (map (λ k. k.now)) c.deref.ensures.value ∙ c.in_ok-records.ensures)
