-- What the lines of a deck are, and which are refused.
use Rattle.std.specs.Prelude.{ℕ, Bool, not, ◌&&◌, List, length, nat_le, nat_lt, if◌then◌else◌, Result, Ok, Err}
use Rattle.std.specs.List.{list_all}
use Rattle.std.specs.Str.Lines.{lines}
use Rattle.iocm_types.specs.declared.fault.Fault.{Fault}
use Rattle.iocm_types.specs.declared.rule.Rule.TheVariants.{L1, L2}
use Rattle.iocm_types.specs.Each.{each}
use Rattle.iocm_types.specs.Fault.{at}
use Rattle.iocm_columns.specs.declared.card.Card.{Card}

-- a byte of printable ASCII, 20 to 7E hexadecimal
abbrev pub is_printable : ℕ → Bool
is_printable b = nat_le 32 b && nat_le b 126

-- a line as a card, unless a byte of it is not printable (L1) or it has more than 80 bytes (L2), in
-- this order
abbrev pub card_of : ℕ → List ℕ → Result Card Fault
card_of line bytes =
    if not (list_all is_printable bytes) then Err (at L1 line)
    else (if nat_lt 80 (length bytes) then Err (at L2 line) else Ok (record { line = line; bytes = bytes }))

-- all lines of a deck as cards, counted from 1, or the first fault; a line ends at LF, or CR LF, or
-- the end
abbrev pub cards_of : List ℕ → Result (List Card) Fault
cards_of text = each card_of 1 (lines text)
