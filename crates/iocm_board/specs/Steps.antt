-- What the steps on the word tell the seat that makes them.
use Rattle.std.specs.Prelude.{◌≡◌, ℕ, ◌≤◌, true, List, ◌++◌, length}
use mathlib.Core.Option.{Option, none, some}
use Rattle.atomic_table.specs.Table.{Me, Step}
use Rattle.iocm_core.specs.Seen as seen
use Rattle.iocm_core.specs.declared.trace.Entry.{Entry}
use Rattle.iocm_board.specs.declared.view.Made.{Made}
use Rattle.iocm_board.specs.declared.view.View.{View}
use Rattle.iocm_board.specs.Names.{is_whole}
use Rattle.iocm_board.specs.Receipts.{numbered}
use Rattle.iocm_board.specs.Views.{sees, adds}

-- a seat looks, and finds so many calls: at least what it had seen, and the length of the list, if
-- it keeps that
abbrev pub Looks : View → ℕ → View → Type 0
Looks v n w = (v.seen ≤ n) × (w ≡ sees v n) × (v.keeps ≡ true → n ≡ length v.list)

-- the entry that was published is in the view
abbrev pub IsAdded : Option Entry → View → View → Type 0
IsAdded none v w = ⊥
IsAdded (some e) v w = w ≡ adds v e

-- a seat publishes the entry of which the step was told, where it finds just the count that it
-- wants to find
abbrev pub Publishes : Step Entry → View → ℕ → View → Type 0
Publishes s v n w = (n ≡ s.first) × (v.seen ≤ n) × IsAdded s.said v w

-- receipts are those of all entries since the board was made, each at its number, once: these
-- entries stand behind those of the board's core
abbrev pub TellAll : seen.Core → List Made → List Entry → Type 0
TellAll origin receipts list = (since : List Entry) × (list ≡ origin.entries ++ since)
    × (receipts ≡ numbered (length origin.entries) since)

-- the receipts of a seat with the list tell all, if it is whole
abbrev pub HasAll : View → Type 0
HasAll v = is_whole v.names ≡ true → TellAll v.origin v.receipts v.list

-- a seat compares its receipts with the list, and is as before
abbrev pub Compares : View → ℕ → View → Type 0
Compares v n w = (w ≡ v) × HasAll v

-- a seat steps, and holds no slot
abbrev pub Alone : (View → ℕ → View → Type 0) → Me Entry View → ℕ → Me Entry View → Type 0
Alone tells v n w = tells v.0 n w.0 × (w.1 ≡ v.1)
