use Rattle.std.proofs.Common.{◌≡◌, ◌++◌, map, take}
use Rattle.std.specs.List.{flat_map}
use Rattle.iocm_deck_writer.specs.Canonical.{id_statements}
use Rattle.iocm_deck_writer.proofs.statements.put_ids.Given as goal

abbrev pub invariant-loop-entry : goal.invariant-loop-entry
invariant-loop-entry g l =
    l.statements.items ≡ l.fn.statements.items
    ++ flat_map id_statements (map (λ k. k.now) (take l.entry-index l.records))
