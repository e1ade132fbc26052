-- Lists that are read item by item, up to the first fault.
use Rattle.std.specs.Prelude.{ℕ, ◌+◌, List, [], ◌∷◌, ◌++◌, Result, Ok}
use Rattle.iocm_types.specs.declared.fault.Fault.{Fault}
use Rattle.iocm_types.specs.Fault.{◌>>=◌}

-- what each item gives, in order, or the first fault; read is told the item's place, counted from i
unfoldable pub each : {A B : Type 0} → (ℕ → A → Result B Fault) → ℕ → List A → Result (List B) Fault
each read i [] = Ok []
each read i (x ∷ xs) = read i x >>= λ y. each read (i + 1) xs >>= λ ys. Ok (y ∷ ys)

-- what was gathered, with what the rest gives behind it
abbrev pub after_front : {B : Type 0} → List B → Result (List B) Fault → Result (List B) Fault
after_front front rest = rest >>= λ ys. Ok (front ++ ys)
