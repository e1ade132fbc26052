-- The tables in which the numbers stand in memory: by place, by number cell, and a bit for each
-- number that is given away.
use Rattle.std.specs.Prelude.{◌≡◌, ℕ, ◌+◌, ◌*◌, ◌<◌, ◌||◌, List, length, map, is_some}
use Rattle.std.specs.FinMap.{find, contains_key}
use Rattle.iocm_types.specs.declared.place.Place.{Place}
use Rattle.iocm_types.specs.declared.place.NumberCell.{NumberCell}
use Rattle.iocm_types.specs.Place.{place_cmp, cell_cmp}
use Rattle.iocm_table.specs.Slots.{Stored, rows}
use Rattle.iocm_model.specs.Machine.Numbering.{cells_of}
use Rattle.iocm_numbers.specs.Bits.{is_bit_set}
use Rattle.iocm_numbers.specs.Numbered.{cell_at, HasNoNumberTwice, HasSmallDevices}

-- the number cells of rows of numbers, each with its device
abbrev pub cells_in : List (Place × ℕ) → List (NumberCell × ℕ)
cells_in rows = map (λ row. (cell_at row.0 row.1, row.0.device)) rows

-- the bit of a number: 65,536 for each channel subsystem and set
abbrev pub bit_of : ℕ → ℕ → ℕ → ℕ
bit_of css set number = (css * 4 + set) * 65536 + number

-- the bits of new words are those of old ones with the numbers of these rows
abbrev pub AreNotedToo : List (Place × ℕ) → List ℕ → List ℕ → Type 0
AreNotedToo rows old new = (css set number : ℕ) → css < 6 → set < 4 → number < 65536
    → is_bit_set new (bit_of css set number)
    ≡ (is_bit_set old (bit_of css set number)
    || is_some (find cell_cmp (record { css = css; set = set; number = number }) (cells_in rows)))

-- the words in which a number is noted that is given away
abbrev pub all_words : ℕ
all_words = 24576

-- the three tables of the numbers say the same: the places with their numbers, the number cells
-- with their devices, and the bits of the numbers that are given away
pub record AreTied (places : Stored Place ℕ) (cells : Stored NumberCell ℕ) (words : List ℕ) : Type 0 where
  pub same : rows cell_cmp cells ≡ cells_of (rows place_cmp places)
  pub apart : HasNoNumberTwice (rows place_cmp places)
  pub small : HasSmallDevices (rows place_cmp places)
  pub whole : length words ≡ all_words
  pub bits : (css set number : ℕ) → css < 6 → set < 4 → number < 65536
      → is_bit_set words (bit_of css set number)
      ≡ contains_key (rows cell_cmp cells) (record { css = css; set = set; number = number })
