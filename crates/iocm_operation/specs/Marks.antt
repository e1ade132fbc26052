-- Receipts with the numbers of the actors whose they are.
use Rattle.std.specs.Prelude.{ℕ, zero, suc, ◌≤◌, ◌==◌, List, [], ◌∷◌, map, filter}
use Rattle.iocm_board.specs.declared.view.Made.{Made}

abbrev pub Marked : Type 0
Marked = List (ℕ × Made)

abbrev pub all_of : Marked → List Made
all_of ms = map (λ (m : ℕ × Made). m.1) ms

abbrev pub those_of : ℕ → Marked → List Made
those_of n ms = all_of (filter (λ (m : ℕ × Made). m.0 == n) ms)

-- the numbers of receipts rise, from at least the one number and below the other
abbrev pub MadeRise : ℕ → List Made → ℕ → Type 0
MadeRise from [] below = from ≤ below
MadeRise from (m ∷ ms) below = (from ≤ m.number) × MadeRise (suc m.number) ms below

-- the first, second, third or else the fourth
abbrev pub chosen : {A : Type 0} → ℕ → A → A → A → A → A
chosen zero p q a b = p
chosen (suc zero) p q a b = q
chosen (suc (suc zero)) p q a b = a
chosen _ p q a b = b

-- what each of the four actors has, and nobody else
abbrev pub of_actor : {A : Type 0} → ℕ → List A → List A → List A → List A → List A
of_actor zero p q a b = p
of_actor (suc zero) p q a b = q
of_actor (suc (suc zero)) p q a b = a
of_actor (suc (suc (suc zero))) p q a b = b
of_actor _ p q a b = []
