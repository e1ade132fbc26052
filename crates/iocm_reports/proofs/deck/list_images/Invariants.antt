-- The pairs of the names so far are added.
use Rattle.std.proofs.Common.{◌≡◌, map, take}
use Rattle.iocm_types.specs.Key.{key_cmp}
use Rattle.iocm_table.specs.Slots.{rows}
use Rattle.iocm_record.specs.Meaning.{path_of}
use Rattle.iocm_reports.specs.Gathered.{pair_of, with_pairs}
use Rattle.iocm_reports.proofs.deck.list_images.Given as goal

abbrev pub invariant-loop-name : goal.invariant-loop-name
invariant-loop-name l = rows key_cmp l.listed
    ≡ with_pairs (rows key_cmp l.initial.listed) (map (pair_of (path_of l.path)) (take l.name-index l.name-items))
