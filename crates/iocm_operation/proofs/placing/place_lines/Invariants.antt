use Rattle.std.proofs.Common.{◌≡◌, ◌++◌, drop}
use Rattle.iocm_operation.specs.Placing.{places_of_hands}
use Rattle.iocm_operation.proofs.placing.place_lines.Given as goal

-- the places so far, and those of the lines that are left, are all places
abbrev pub invariant-loop-line : goal.invariant-loop-line
invariant-loop-line l =
    l.initial.places.items ++ places_of_hands l.lines l.initial.left ≡ l.places.items
    ++ places_of_hands (drop l.line-index l.lines) l.left
