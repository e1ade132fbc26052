-- What the words so far ask for, with what those ask for that are left, is what all ask for.
use Rattle.std.proofs.Common.{◌≡◌, drop, map}
use Rattle.iocm_values.specs.Reading.{every, after_front}
use Rattle.iocm_filter.proofs.reading.read_words.Given as goal

abbrev pub invariant-loop-word : goal.invariant-loop-word
invariant-loop-word g l =
    after_front l.found.items (every g.T.AskedWord.asked (map (λ w. w.now) (drop l.word-index l.words)))
    ≡ every g.T.AskedWord.asked (map (λ w. w.now) l.words)
