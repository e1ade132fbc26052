-- What is written so far, with what is left, is all.
use Rattle.std.proofs.Common.{◌≡◌, ◌++◌, ℕ, List, length}
use Rattle.std.specs.Fmt.{HasWritten, IsPlainFormatter}
use Rattle.iocm_filter.specs.Note.{names_text}
use Rattle.iocm_filter.proofs.note.NamesDisplay.fmt.Given as goal

abbrev pub invariant-loop-rest : goal.invariant-loop-rest
invariant-loop-rest g l = IsPlainFormatter l.initial.f → (front : List ℕ)
    × ((front ++ names_text l.rest ≡ names_text l.initial.rest)
    × HasWritten g.W.Write.write_str_gives l.initial.f front l.f)

abbrev pub decreases-loop-rest : goal.decreases-loop-rest
decreases-loop-rest g l = length l.rest
