-- The records so far, and those that are left.
use Rattle.std.proofs.Common.{◌≡◌, ◌++◌, map}
use Rattle.iocm_deck_writer.proofs.deck.records_in.Given as goal

abbrev pub invariant-loop-entry : goal.invariant-loop-entry
invariant-loop-entry g l =
    map (λ k. k.now) l.records.items ++ map (λ row. row.1) l.entry-iterator
    ≡ map (λ row. row.1) l.initial.entry-iterator
