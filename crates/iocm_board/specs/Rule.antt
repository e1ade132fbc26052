-- The board's rule: what holds of its word and of the views of all seats, between any two steps.
use Rattle.std.specs.Prelude.{◌≡◌, ℕ, ◌+◌, ◌<◌, ◌≤◌, true, List, [], ◌∷◌, ◌++◌, length, map}
use Rattle.std.specs.List.{AllByRecursion}
use mathlib.Core.Option.{some}
use lib.ListN.{get_elem?}
use Rattle.atomic_table.specs.Table.{State}
use Rattle.iocm_core.specs.Seen as seen
use Rattle.iocm_core.specs.declared.trace.Entry.{Entry}
use Rattle.iocm_board.specs.declared.view.Borne.{Borne}
use Rattle.iocm_board.specs.declared.view.Made.{Made}
use Rattle.iocm_board.specs.declared.view.View.{View}
use Rattle.iocm_board.specs.Names.{Name, NamesKept}
use Rattle.iocm_board.specs.Receipts.{entries_of, names_of, made_by}

-- the names that each seat bears
abbrev pub all_names : List View → List (List Borne)
all_names views = map (λ v. v.names) views

-- what holds of the view of one seat, where the calls since the board was made are these, each with
-- the name under which it was made
pub record Fits (run : seen.Core) (keeper : ℕ) (since : List (Entry × Name)) (at : ℕ) (v : View) : Type 0 where
  -- a seat that isn't spent knows the core with which the board was made
  pub origin : v.live ≡ true → v.origin ≡ run
  -- no seat has seen more calls than there are
  pub below : v.seen ≤ length run.entries + length since
  -- one seat keeps the list of all entries
  pub list : v.keeps ≡ true → (at ≡ keeper) × (v.list ≡ run.entries ++ entries_of since)
  -- its receipts are the entries under its names, each below what it has seen
  pub receipts : v.receipts ≡ made_by v.names (length run.entries) since
  pub seen : AllByRecursion (λ (m : Made). m.number < v.seen) v.receipts

-- the word is the number of all entries, each view fits, and names are kept
pub record Kept (run : seen.Core) (words : List ℕ) (views : List View) : Type 0 where
  pub keeper : ℕ
  pub since : List (Entry × Name)
  pub word : words ≡ (length run.entries + length since) ∷ []
  pub fits : (at : ℕ) (v : View) → get_elem? views at ≡ some v → Fits run keeper since at v
  pub names : NamesKept (all_names views) (names_of since)

abbrev pub Holds : seen.Core → State Entry View → Type 0
Holds run s = Kept run s.words s.views
