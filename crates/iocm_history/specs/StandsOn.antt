-- Which changes stand on a change, and so have to be undone before it.
use Rattle.std.specs.Prelude.{ℕ, nat_lt, max, fold, map, filter, Bool, true, false, ◌&&◌, not}
use Rattle.std.specs.Prelude.{if◌then◌else◌, Option, None, Some, List, [], ◌∷◌, ◌++◌}
use Rattle.iocm_model.specs.Operation.State.{State}
use Rattle.iocm_history.specs.Change.{Change, effect_of_change, share_a_cell}
use Rattle.iocm_history.specs.Fits.{fits}
use Rattle.iocm_history.specs.MarkedEntry.{Act, change, undoing, Mark, kept, MarkedEntry, is_change, change_at}

-- a change and its number
abbrev pub Numbered : Type 0
Numbered = ℕ × Change

-- the entries since a change
abbrev pub since : ℕ → List MarkedEntry → List MarkedEntry
since n [] = []
since n (l ∷ ls) = if is_change n l.act then [] else l ∷ since n ls

-- the changes that count among entries
abbrev pub change_and : Mark → Act → List Numbered → List Numbered
change_and kept (change n c) further = (n, c) ∷ further
change_and _ _ further = further

abbrev pub changes_in : List MarkedEntry → List Numbered
changes_in [] = []
changes_in (l ∷ ls) = change_and l.mark l.act (changes_in ls)

-- the numbers of the changes whose undo stands among entries
abbrev pub undo_and : Act → List ℕ → List ℕ
undo_and (undoing n) further = n ∷ further
undo_and _ further = further

abbrev pub undos_in : List MarkedEntry → List ℕ
undos_in [] = []
undos_in (l ∷ ls) = undo_and l.act (undos_in ls)

-- whether a change counts
abbrev pub is_kept : Mark → Bool
is_kept kept = true
is_kept _ = false

abbrev pub counts : ℕ → List MarkedEntry → Bool
counts n [] = false
counts n (l ∷ ls) = if is_change n l.act then is_kept l.mark else counts n ls

-- the earlier changes that were undone since a change and don't count again
abbrev pub undone_since : ℕ → List MarkedEntry → List ℕ
undone_since n ls = filter (λ m. nat_lt m n && not (counts m ls)) (undos_in (since n ls))

abbrev pub numbers_of : List Numbered → List ℕ
numbers_of changes = map (λ (d : Numbered). d.0) changes

-- the changes that stand on a change. If it fits: the later ones that wrote a cell that it wrote.
-- If it doesn't: all later ones, and the earlier ones that were undone since
abbrev pub standing_on : ℕ → Change → List MarkedEntry → Bool → List ℕ
standing_on n c ls true =
    numbers_of (filter (λ (d : Numbered). share_a_cell (effect_of_change c) (effect_of_change d.1))
    (changes_in (since n ls)))
standing_on n c ls false = numbers_of (changes_in (since n ls)) ++ undone_since n ls

-- the greatest of some numbers
abbrev pub greatest : List ℕ → Option ℕ
greatest [] = None
greatest (m ∷ ms) = Some (fold max m ms)

-- the greatest change that stands on the change of a number, as the state is now
abbrev pub greatest_on : ℕ → Option Change → List MarkedEntry → State → Option ℕ
greatest_on n (Some c) ls s = greatest (standing_on n c ls (fits c s))
greatest_on n None ls s = None

abbrev pub stands_on : ℕ → List MarkedEntry → State → Option ℕ
stands_on n ls s = greatest_on n (change_at n ls) ls s
