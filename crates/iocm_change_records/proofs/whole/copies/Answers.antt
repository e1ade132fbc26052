-- One more record has its copy behind the others.
use Rattle.std.proofs.Common.{◌≡◌, [], ◌∷◌, ◌++◌}
use Rattle.std.proofs.lemmas.List.{take_more}
use Rattle.iocm_change_records.proofs.whole.copies.Goals as goal

pub loop-entry-preserved : goal.loop-entry-preserved
loop-entry-preserved g c =
    let copied : c.in_ok-copy_in.field-0 ≡ c.entry-item.result = c.in_ok-copy_in.ensures in
    let pushed : c.push.new.self.items ≡ c.loop-entry.copies.items ++ c.in_ok-copy_in.field-0 ∷ [] =
    c.in_ok-push.ensures.items in
    rw (
      take_more c.args.records.now c.loop-entry.entry-index c.entry-item.result c.loop-entry-test.true,
      ← c.entry-item.is,
      ← copied,
      ← c.loop-entry.invariant,
    ) pushed
