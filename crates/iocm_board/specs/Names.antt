-- Names of seats. A name is a list of numbers: the first seat bears the empty one, and the name
-- that a seat lends is its own first name with the count of those lent before at the end.
use Rattle.std.specs.Prelude.{◌≡◌, ℕ, zero, suc, ◌<◌, ◌==◌, Bool, true, false}
use Rattle.std.specs.Prelude.{cond, ◌&&◌, ◌||◌, ◌⊎◌, List, [], ◌∷◌, ◌++◌}
use mathlib.Core.Option.{some}
use lib.ListN.{get_elem?}
use Rattle.iocm_board.specs.declared.view.Borne.{Borne}

abbrev pub Name : Type 0
Name = List ℕ

-- two names are the same
abbrev pub same : Name → Name → Bool
same [] [] = true
same (x ∷ xs) (y ∷ ys) = (x == y) && same xs ys
same _ _ = false

-- the name that is lent after so many others
abbrev pub child : Name → ℕ → Name
child p k = p ++ k ∷ []

-- a name is among those borne
abbrev pub bears : List Borne → Name → Bool
bears [] n = false
bears (b ∷ bs) n = same b.name n || bears bs n

-- at least one name is borne
abbrev pub BearsSome : List Borne → Type 0
BearsSome bs = (c : Borne) × (cs : List Borne) × (bs ≡ c ∷ cs)

-- how many names were lent in a name that is borne
abbrev pub lent : List Borne → Name → ℕ
lent [] n = 0
lent (b ∷ bs) n = cond (same b.name n) b.lent (lent bs n)

-- one more name is lent in the first
abbrev pub lend : List Borne → List Borne
lend [] = []
lend (b ∷ bs) = record { name = b.name; lent = suc b.lent } ∷ bs

-- the name that is lent next
abbrev pub next_of : List Borne → Name
next_of [] = []
next_of (b ∷ bs) = child b.name b.lent

-- a name of which nothing was lent, alone
abbrev pub fresh : Name → List Borne
fresh n = record { name = n; lent = 0 } ∷ []

-- the first so many names that were lent in a name are borne
abbrev pub are_home : List Borne → Name → ℕ → Bool
are_home bs p zero = true
are_home bs p (suc k) = bears bs (child p k) && are_home bs p k

-- all that were lent in these names are borne
abbrev pub all_home : List Borne → List Borne → Bool
all_home bs [] = true
all_home bs (c ∷ cs) = are_home bs c.name c.lent && all_home bs cs

-- a seat is whole: it bears the first name, and every name that was lent in one that it bears
abbrev pub is_whole : List Borne → Bool
is_whole bs = bears bs [] && all_home bs bs

-- the seat of a number bears a name, where each seat bears these names
abbrev pub BearsAt : List (List Borne) → ℕ → Name → Type 0
BearsAt all i n = (bs : List Borne) × (get_elem? all i ≡ some bs) × (bears bs n ≡ true)

-- a name was lent by a seat in a name that it bears
abbrev pub WasLent : List (List Borne) → Name → Type 0
WasLent all n = (i : ℕ) × (bs : List Borne) × (p : Name) × (k : ℕ) × (get_elem? all i ≡ some bs)
    × (bears bs p ≡ true) × (n ≡ child p k) × (k < lent bs p)

-- no name is borne by two seats; each is the first, or was lent; and the names under which calls
-- were made are borne
pub record NamesKept (all : List (List Borne)) (used : List Name) : Type 0 where
  pub apart : (i j : ℕ) (n : Name) → BearsAt all i n → BearsAt all j n → i ≡ j
  pub grown : (i : ℕ) (n : Name) → BearsAt all i n → (n ≡ []) ⊎ WasLent all n
  pub borne : (k : ℕ) (n : Name) → get_elem? used k ≡ some n → (i : ℕ) × BearsAt all i n
