-- One more is under its key.
use Rattle.std.proofs.Common.{◌∷◌, [], ◌++◌, ap, ◌∙◌}
use Rattle.std.specs.FinMap.{get, insert, remove}
use Rattle.iocm_types.specs.Key.{key_cmp}
use Rattle.iocm_table.specs.Slots.{rows}
use Rattle.iocm_offon.specs.UnderKeys.{group_or_none}
use Rattle.iocm_offon.proofs.Grown.{grown}
use Rattle.iocm_offon.proofs.under_keys.put_under.Goals as goal

pub returns : goal.returns
returns c = λ k.
    ap (λ m. group_or_none (get m k)) (c.put.ensures.rows
    ∙ (λ j. insert ((c.in_ok-room.ensures.rows ∙ c.take_group-group.ensures.rows) j) c.args.reason.object
    ((c.in_ok-push.ensures.items ∙ ap (λ rs. rs ++ c.args.reason ∷ []) (c.group.view_is ∙ c.take_group-group.ensures.group)) j)))
    ∙ grown (rows key_cmp c.args.table.now) c.args.reason k
