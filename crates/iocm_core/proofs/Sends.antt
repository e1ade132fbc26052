-- A core and an entry of its trace may be sent to another thread, and so may each of their parts.
-- Above this crate `core_send` and `entry_send` are named.
use denote.Param.Send.{IsSend, view_send, sendable}
use denote.Param.SendFields.{declared_send}
use Rattle.std.proofs.Crossing.{crosses}
use Rattle.std.proofs.MapsCrossing as maps
use Rattle.std.specs.contracts.alloc.Global as heap
use Rattle.std.specs.contracts.impls.GlobalAllocator.TheImpl as heap_impl
use Rattle.iocm_tree.proofs.tree.Tree.TheLaws.TheKnot as knot
use Rattle.iocm_tree.proofs.edit.Edit.TheSendSync as edit
use Rattle.iocm_tree.specs.contracts.tree.Tree as Tree
use Rattle.iocm_tree.specs.contracts.edit.Edit as Edit
use Rattle.iocm_activate.proofs.effect.Effect.TheSendSync as effect
use Rattle.iocm_activate.specs.contracts.effect.Effect as Effect
use Rattle.iocm_activate.proofs.effects.Effects.TheSendSync as effects
use Rattle.iocm_activate.specs.contracts.effects.Effects as Effects
use Rattle.iocm_activate.specs.contracts.done.Done as Done
use Rattle.iocm_journal.specs.contracts.journal.Journal as Journal
use Rattle.iocm_journal.specs.contracts.journal.Journal.TheInside as journal_inside
use Rattle.iocm_journal.specs.contracts.kept.Kept as Kept
use Rattle.iocm_journal.specs.contracts.kept.Undone as Undone
use Rattle.iocm_journal.specs.contracts.undos.Undo as Undo
use Rattle.iocm_plant.proofs.touched.Touched.TheSendSync as touched
use Rattle.iocm_plant.specs.contracts.touched.Touched as Touched
use Rattle.iocm_stage.specs.contracts.staged.Staged as Staged
use Rattle.iocm_plant.proofs.plant.Plant.TheSendSync as plant
use Rattle.iocm_config.proofs.config.Config.TheSendSync as config
use Rattle.iocm_core.specs.contracts.call.Call as Call
use Rattle.iocm_core.specs.contracts.calling.Core as Core
use Rattle.iocm_core.specs.contracts.calling.Core.TheInside as inside
use Rattle.iocm_core.specs.contracts.installation.Installation as Installation
use Rattle.iocm_core.specs.contracts.trace.Entry as Entry
use Rattle.iocm_types.proofs.answer.Answer.TheSendSync as answer

pub tree_send : IsSend (Tree.the_row heap.the_row heap_impl.ghosts)
tree_send = search (edit.the_send, maps.crosses, crosses, knot.crosses, sendable) depth 60 fits 20000

edit_send : IsSend (Edit.the_row heap.the_row heap_impl.ghosts)
edit_send = search (edit.the_send, crosses, sendable) depth 20

effect_send : IsSend Effect.the_row
effect_send = effect.the_send

effects_send : IsSend Effects.the_row
effects_send = effects.the_send

touched_send : IsSend Touched.the_row
touched_send = touched.the_send

kept_send : IsSend Kept.the_row
kept_send =
    declared_send Kept.the_type (
      tree_send,
      (search (touched_send, crosses, sendable) depth 20, (search sendable depth 20, (search sendable depth 20, tt))),
    )

undone_send : IsSend Undone.the_row
undone_send = declared_send Undone.the_type (search sendable depth 20, (tree_send, tt))

undo_send : IsSend Undo.the_row
undo_send = declared_send Undo.the_type (search sendable depth 20, (search sendable depth 20, tt))

journal_send : IsSend Journal.the_row
journal_send =
    view_send _ _ _ _ _
    (declared_send journal_inside.the_type (
      search (kept_send, crosses, sendable) depth 20,
      (
        search sendable depth 20,
        (search (undone_send, crosses, sendable) depth 20, (search (undo_send, crosses, sendable) depth 20, tt)),
      ),
    ))

done_send : IsSend Done.the_row
done_send = declared_send Done.the_type
    (tree_send, (effect_send, (search (touched_send, crosses, sendable) depth 20, tt)))

staged_send : IsSend Staged.the_row
staged_send =
    declared_send Staged.the_type (
      done_send,
      (search (edit_send, crosses, sendable) depth 20, (search (edit_send, crosses, sendable) depth 20, tt)),
    )

installation_send : IsSend Installation.the_row
installation_send =
    declared_send Installation.the_type (
      plant.the_send,
      (
        journal_send,
        (search (staged_send, crosses, sendable) depth 20, (effects_send, tt)),
      ),
    )

pub call_send : IsSend Call.the_row
call_send = search (tree_send, crosses, sendable) depth 60 fits 20000

pub entry_send : IsSend Entry.the_row
entry_send = declared_send Entry.the_type (call_send, (answer.the_send, tt))

pub core_send : IsSend Core.the_row
core_send =
    view_send _ _ _ _ _
    (declared_send inside.the_type (
      installation_send,
      (
        search (config.the_send, crosses, sendable) depth 20,
        (search (entry_send, crosses, sendable) depth 20, (search sendable depth 20, tt)),
      ),
    ))
