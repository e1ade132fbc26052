use Rattle.std.proofs.Common.{ap, ◌∙◌}
use Rattle.std.specs.FinMap.{insert}
use Rattle.iocm_types.specs.Key.{key_cmp}
use Rattle.iocm_table.specs.Slots.{rows}
use Rattle.iocm_record.specs.Meaning.{path_of}
use Rattle.iocm_reports.specs.Gathered.{Pairs, pair_of}
use Rattle.iocm_reports.proofs.ListedPairs.{one_more_name}
use Rattle.iocm_reports.proofs.deck.list_images.Goals as goal

pub loop-name-preserved : goal.loop-name-preserved
loop-name-preserved c =
    let p = path_of c.args.path.now in
    c.put-before.ensures.rows
    ∙ ap (λ (m : Pairs). insert m (pair_of p c.name-item.result) tt) (c.in_ok-room.ensures.rows ∙ c.loop-name.invariant)
    ∙ one_more_name (rows key_cmp c.args.listed.now) p c.as_slice-name-items.result.now c.loop-name.name-index
    c.name-item.result c.loop-name-test.true c.name-item.is
