use Rattle.iocm_activate.specs.OnlyEdit.{LivesIfSeen}
use Rattle.iocm_activate.proofs.OnlyEdit.{each_of}
use Rattle.iocm_activate.proofs.only_edit.list_lives.Goals as goal

pub live_now-live-requires : goal.live_now-live-requires
live_now-live-requires c =
    each_of (LivesIfSeen c.args.plant.now.state.lives) c.args.changes.now c.loop-change.change-index
    c.change-item.result
    c.requires c.loop-change-test.true c.change-item.is
