-- The pairs so far, with those of the records that are left, are those of all records.
use Rattle.std.proofs.Common.{◌≡◌, map}
use Rattle.std.specs.FinMap.{empty}
use Rattle.iocm_types.specs.Key.{key_cmp}
use Rattle.iocm_table.specs.Slots.{rows}
use Rattle.iocm_model.specs.Machine.Configuration.{records_of}
use Rattle.iocm_reports.specs.Deck.{pairs_listed}
use Rattle.iocm_reports.specs.Gathered.{with_pairs}
use Rattle.iocm_reports.proofs.deck.pairs_listed.Given as goal

abbrev pub invariant-loop-entry : goal.invariant-loop-entry
invariant-loop-entry l = with_pairs (rows key_cmp l.listed) (pairs_listed (map (λ row. row.1) l.entry-iterator))
    ≡ with_pairs empty (pairs_listed (records_of l.config.records))
