-- Lines that say a number, in decimal. Bytes by their codes: 10 ends a line.
use Rattle.std.specs.Prelude.{ℕ, false, List, [], ◌∷◌, ◌++◌, codes}
use Rattle.std.specs.Fmt.{digits}

-- how many records an accepted configuration has
abbrev pub accepted_line : ℕ → List ℕ
accepted_line count = (codes "accepted " ++ digits 10 false count) ++ 10 ∷ []

-- that the first change was made, and how many subchannels it altered
abbrev pub changed_line : ℕ → List ℕ
changed_line altered = (codes "change 1 altered " ++ digits 10 false altered) ++ 10 ∷ []
