-- What readers give in steps: each step is told of what the one before it gave.
use Rattle.std.proofs.Common.{ℕ, ◌+◌, List, [], ◌∷◌, All, Result, Ok, Err}
use Rattle.std.proofs.lemmas.List.Elements.{All-nil, All-cons, All-head, All-tail}
use Rattle.std.specs.Result.{IfOk}
use Rattle.iocm_types.specs.declared.fault.Fault.{Fault}
use Rattle.iocm_types.specs.Each.{each}
use Rattle.iocm_types.specs.Fault.{◌>>=◌}

-- whatever the first step gives
pub whichever : {A B : Type 0} (P : B → Type 0) (read : Result A Fault) (next : A → Result B Fault)
    → ((x : A) → IfOk (next x) P) → IfOk (read >>= next) P
whichever P (Err e) next each = tt
whichever P (Ok x) next each = each x

-- what the first step gives is such that the next one gives it
pub in_turn : {A B : Type 0} (P : A → Type 0) (Q : B → Type 0) (read : Result A Fault) (next : A → Result B Fault)
    → IfOk read P → ((x : A) → P x → IfOk (next x) Q) → IfOk (read >>= next) Q
in_turn P Q (Err e) next first each = tt
in_turn P Q (Ok x) next first each = each x first

-- so it is item by item
pub each_gives : {A B : Type 0} (P : A → Type 0) (Q : B → Type 0) (read : ℕ → A → Result B Fault)
    → ((place : ℕ) (x : A) → P x → IfOk (read place x) Q) → (place : ℕ) (xs : List A) → All P xs
    → IfOk (each read place xs) (All Q)
unfolding each
each_gives P Q read gives place [] are = All-nil Q
each_gives P Q read gives place (x ∷ xs) are =
    in_turn Q (All Q) (read place x) _ (gives place x (All-head P x xs are)) (λ y is.
    in_turn (All Q) (All Q) (each read (place + 1) xs) _
    (each_gives P Q read gives (place + 1) xs (All-tail P x xs are)) (λ ys more.
    All-cons Q y ys is more))
