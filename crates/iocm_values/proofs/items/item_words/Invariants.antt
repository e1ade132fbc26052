-- From what was read so far, and the rest, come the words of the whole text.
use Rattle.std.proofs.Common.{◌≡◌, ◌≤◌, drop, map, slice_range}
use Rattle.iocm_values.specs.ItemWords.{item_words, item_words_from}
use Rattle.iocm_values.proofs.items.item_words.Given as goal

abbrev pub invariant-loop-index : goal.invariant-loop-index
invariant-loop-index l = record {
  found : item_words_from (map (λ k. k.now) l.found.items) l.lists.items l.nesting (slice_range l.text l.from l.index)
      (drop l.index l.text)
      ≡ item_words l.text;
  begun : l.from ≤ l.index;
  depth : l.nesting.depth ≤ l.index;
}
