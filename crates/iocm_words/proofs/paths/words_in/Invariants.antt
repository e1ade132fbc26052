use Rattle.std.proofs.Common.{◌≡◌, take}
use Rattle.iocm_words.specs.Paths as meaning
use Rattle.iocm_words.proofs.paths.words_in.Given as goal

-- the paths so far that are of the channel subsystem
abbrev pub invariant-loop-linked : goal.invariant-loop-linked
invariant-loop-linked l = l.words.items ≡ meaning.words_in (take l.linked-index l.paths) l.css
