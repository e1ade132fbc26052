-- The changes of the cells that were noted are all.
use Rattle.std.proofs.Common.{ap, ◌∙◌, map}
use Rattle.std.proofs.lemmas.Result.{IfOk-weaker}
use Rattle.std.specs.FinMap.{find}
use Rattle.iocm_types.specs.Place.{cell_cmp}
use Rattle.iocm_numbers.specs.NumberChanges.{change_from}
use Rattle.iocm_numbers.proofs.ChangedCells.{changes_are}
use Rattle.iocm_numbers.proofs.numbers.Numbers.list_changes.Goals as goal

pub returns : goal.returns
returns g c = IfOk-weaker c.changes_from.result _ _
    (λ changes all n was. changes_are n c.args.self.now.numbers c.args.freed.now c.args.given.now
    c.in_ok-holders.holders.items changes.items c.are_apart.ensures.apart was
    (λ x. c.in_ok-holders.ensures.first x ∙ ap (find cell_cmp x) c.in_ok-noted.ensures) c.in_ok-holders.ensures.order
    (all ∙ ap (λ rows. map (change_from c.args.self.now.numbers) rows) c.as_slice.ensures.value)) c.changes_from.ensures
