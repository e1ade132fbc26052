-- Receipts: the calls of a seat, each with its number in the trace.
use Rattle.std.specs.Prelude.{ℕ, suc, cond, nat_lt, List, [], ◌∷◌, map}
use Rattle.iocm_core.specs.declared.trace.Entry.{Entry}
use Rattle.iocm_board.specs.declared.view.Borne.{Borne}
use Rattle.iocm_board.specs.declared.view.Made.{Made}
use Rattle.iocm_board.specs.Names.{Name, bears}

abbrev pub made : ℕ → Entry → Made
made n e = record { number = n; entry = e }

-- entries with the names under which they were made: the entries, and the names
abbrev pub entries_of : List (Entry × Name) → List Entry
entries_of since = map (λ s. s.0) since

abbrev pub names_of : List (Entry × Name) → List Name
names_of since = map (λ s. s.1) since

-- the receipts for the entries that were made under some names, the first entry having this number
abbrev pub made_by : List Borne → ℕ → List (Entry × Name) → List Made
made_by bs k [] = []
made_by bs k (s ∷ ss) = cond (bears bs s.1) (made k s.0 ∷ made_by bs (suc k) ss) (made_by bs (suc k) ss)

-- a receipt for each entry, the first having this number
abbrev pub numbered : ℕ → List Entry → List Made
numbered k [] = []
numbered k (e ∷ es) = made k e ∷ numbered (suc k) es

-- receipts with one more, before the first that has a greater number
abbrev pub put_in : Made → List Made → List Made
put_in m [] = m ∷ []
put_in m (x ∷ xs) = cond (nat_lt m.number x.number) (m ∷ x ∷ xs) (x ∷ put_in m xs)

-- the receipts of both, by their numbers
abbrev pub merged : List Made → List Made → List Made
merged [] ys = ys
merged (x ∷ xs) ys = put_in x (merged xs ys)
