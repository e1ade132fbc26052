-- What is cut so far, in front of what the rest gives, is what the whole text gives.
use Rattle.std.proofs.Common.{◌≡◌, ◌≤◌, drop, map, slice_range}
use Rattle.iocm_statements.specs.Pieces.{pieces_of, pieces_from}
use Rattle.iocm_statements.proofs.Cutting.{with_front}
use Rattle.iocm_statements.proofs.split.pieces.Given as goal

abbrev pub invariant-loop-index : goal.invariant-loop-index
invariant-loop-index l = record {
  cut : with_front (map (λ k. k.now) l.pieces.items) (slice_range l.text l.from l.index)
      (pieces_from l.nesting (drop l.index l.text)) ≡ pieces_of l.text;
  begun : l.from ≤ l.index;
  depth : l.nesting.depth ≤ l.index;
}
