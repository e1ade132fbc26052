-- Lines with the places of their calls in the trace, which receipts tell.
use Rattle.std.specs.Prelude.{◌≡◌, ℕ, List, [], ◌∷◌, ◌++◌, map, Option, None, Some}
use Rattle.iocm_board.specs.declared.view.Made.{Made}
use Rattle.iocm_script.specs.declared.line.Line.{Line}
use Rattle.iocm_script.specs.declared.said.Said.{Said}
use Rattle.iocm_system.specs.declared.receipt.Receipt.{Receipt}
use Rattle.iocm_operation.specs.declared.placed.Placed.{Placed}
use Rattle.iocm_operation.specs.declared.placing.Hands.{Hands}
use Rattle.iocm_operation.specs.Marks.{Marked, chosen, those_of}
use Rattle.iocm_operation.specs.Saying.{actor_of}

-- a line takes the first of some places, if there is one, and the lines after it have the others
abbrev pub taking_place : ℕ → List ℕ → (List ℕ → List Placed) → List Placed
taking_place line [] behind = behind []
taking_place line (k ∷ ks) behind = record { line = line; number = k } ∷ behind ks

-- each line takes the next of the places that its actor has
abbrev pub places_by : List Line → (p q a b : List ℕ) → List Placed
places_by [] p q a b = []
places_by (l ∷ ls) p q a b = chosen (actor_of l.said)
    (taking_place l.line p (λ rest. places_by ls rest q a b)) (taking_place l.line q (λ rest. places_by ls p rest a b))
    (taking_place l.line a (λ rest. places_by ls p q rest b)) (taking_place l.line b (λ rest. places_by ls p q a rest))

-- the places that receipts name
abbrev pub numbers : List Receipt → List ℕ
numbers rs = map (λ (r : Receipt). r.number) rs

abbrev pub places_for : List Line → (p q a b : List Receipt) → List Placed
places_for ls p q a b = places_by ls (numbers p) (numbers q) (numbers a) (numbers b)

abbrev pub places_of_hands : List Line → Hands → List Placed
places_of_hands ls h = places_for ls h.p.now h.q.now h.a.now h.b.now

-- those of one actor, of receipts that are marked
abbrev pub numbers_of : ℕ → Marked → List ℕ
numbers_of n ms = map (λ (m : Made). m.number) (those_of n ms)

-- the lines of all rounds with their places
abbrev pub places_of : List (List Line) → List Marked → List Placed
places_of (ls ∷ rounds) (ms ∷ parts) =
    places_by ls (numbers_of 0 ms) (numbers_of 1 ms) (numbers_of 2 ms) (numbers_of 3 ms) ++ places_of rounds parts
places_of _ _ = []

-- what a line is given
abbrev pub given_place : ℕ → Option ℕ → List Placed
given_place line None = []
given_place line (Some k) = record { line = line; number = k } ∷ []

-- the first of receipts is taken off, if there is one
abbrev pub AreCut : List Receipt → Option ℕ → List Receipt → Type 0
AreCut old None new = (old ≡ []) × (new ≡ [])
AreCut old (Some k) new = (r : Receipt) × (old ≡ r ∷ new) × (r.number ≡ k)

-- a line that says this takes a place, if there is one for it; the lines after it have what is
-- left
abbrev pub Takes : Said → Hands → Option ℕ → Hands → Type 0
Takes said old taken left =
    (line : ℕ) (rest : List Line)
    → places_of_hands (record { line = line; said = said } ∷ rest) old
    ≡ given_place line taken ++ places_of_hands rest left

-- the lines with their places are one more, if there is a place for the line
abbrev pub Places : Line → Hands → Hands → List Placed → List Placed → Type 0
Places l old left places more =
    (rest : List Line) → places ++ places_of_hands (l ∷ rest) old ≡ more ++ places_of_hands rest left
