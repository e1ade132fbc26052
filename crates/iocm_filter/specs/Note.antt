-- What is said if a deck hasn't what filters ask for.
use Rattle.std.specs.Prelude.{ℕ, ◌==◌, ◌&&◌, nat_le, length, if◌then◌else◌, Option, None, Some, List, [], ◌∷◌, ◌++◌}
use Rattle.std.specs.Prelude.{codes}
use Rattle.iocm_types.specs.Print.{hex1, hex2, hex4}
use Rattle.iocm_filter.specs.declared.meant.ImageWord.TheVariants.{Place, Named}
use Rattle.iocm_filter.specs.declared.notes.Asked.{Asked}
use Rattle.iocm_filter.specs.declared.notes.Asked.TheVariants.{Image, Unit, Path, Device}

-- the channel subsystem of a path, if there is one
abbrev pub css_text : Option ℕ → List ℕ
css_text (Some css) = hex1 css ++ codes "."
css_text None = []

-- the numbers of devices from the first to the last
abbrev pub last_text : ℕ → ℕ → List ℕ
last_text first last = if first == last then hex4 first else hex4 first ++ (codes "-" ++ hex4 last)

-- what it is, and the word that asks for it: path 0.50, or 50 of each channel subsystem; device 1003 of
-- subchannel set 0, or 1.1000-10FF of another one
abbrev pub asked_text : Asked → List ℕ
asked_text (Image (Named name)) = codes "image " ++ name
asked_text (Image (Place i)) = codes "image " ++ (hex1 i.css ++ (codes "." ++ hex1 i.mif))
asked_text (Unit number) = codes "control unit " ++ hex4 number
asked_text (Path p) = codes "path " ++ (css_text p.css ++ hex2 p.path)
asked_text (Device r) = codes "device "
    ++ (if r.set == 0 then last_text r.first r.last else hex1 r.set ++ (codes "." ++ last_text r.first r.last))

-- names in a row: A; A and B; A, B and C
abbrev pub behind_name : List (List ℕ) → List ℕ
behind_name [] = []
behind_name (m ∷ []) = codes " and "
behind_name (m ∷ n ∷ more) = codes ", "

abbrev pub names_text : List (List ℕ) → List ℕ
names_text [] = []
names_text (n ∷ more) = n ++ (behind_name more ++ names_text more)

-- which images the deck has: all, if they are 15 at the most
abbrev pub there_text : Asked → List (List ℕ) → List ℕ
there_text (Image word) names =
    if nat_le 1 (length names) && nat_le (length names) 15 then codes ": it has " ++ names_text names else []
there_text _ names = []

-- the note of a deck in this file, whose images have these names
abbrev pub note_text : Asked → List ℕ → List (List ℕ) → List ℕ
note_text asked deck names =
    codes "note: there is no " ++ (asked_text asked ++ (codes " in " ++ (deck ++ there_text asked names)))
