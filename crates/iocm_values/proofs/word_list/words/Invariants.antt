-- The words so far, in front of those of the rest, are those of the whole text.
use Rattle.std.proofs.Common.{◌≡◌, ◌≤◌, ◌++◌, drop, map, slice_range}
use Rattle.iocm_values.specs.Words.{words, words_from}
use Rattle.iocm_values.proofs.word_list.words.Given as goal

abbrev pub invariant-loop-index : goal.invariant-loop-index
invariant-loop-index l = record {
  found : map (λ k. k.now) l.found.items
      ++ words_from l.nesting (slice_range l.text l.from l.index) (drop l.index l.text) ≡ words l.text;
  begun : l.from ≤ l.index;
  depth : l.nesting.depth ≤ l.index;
}
