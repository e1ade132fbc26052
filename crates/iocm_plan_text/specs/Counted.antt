-- Counts of objects as they are told. 115 is the letter s.
use Rattle.std.specs.Prelude.{ℕ, ◌==◌, if◌then◌else◌, List, [], ◌∷◌, ◌++◌, codes}
use Rattle.std.specs.Fmt.{decimal}
use Rattle.iocm_objects.specs.declared.counts.ObjectKind.{ObjectKind}
use Rattle.iocm_objects.specs.declared.counts.ObjectKind.TheVariants as kind
use Rattle.iocm_words.specs.Words.{grouped}

abbrev pub number_text : ℕ → List ℕ
number_text count = grouped (decimal count)

abbrev pub plural : ℕ → List ℕ
plural count = if count == 1 then [] else 115 ∷ []

abbrev pub counted_text : ℕ → List ℕ → List ℕ
counted_text count word = (number_text count ++ word) ++ plural count

-- an ID and what RESOURCE carries along are there once
abbrev pub kind_text : ObjectKind → ℕ → List ℕ
kind_text kind.Id count = codes "id"
kind_text kind.Resource count = codes "resource"
kind_text kind.Image count = counted_text count (codes " image")
kind_text kind.Limit count = counted_text count (codes " limit")
kind_text kind.Path count = counted_text count (codes " path")
kind_text kind.Unit count = counted_text count (codes " control unit")
kind_text kind.Device count = counted_text count (codes " device")
