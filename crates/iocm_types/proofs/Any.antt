-- The steps of a loop that looks for an item that passes a test.
use Rattle.std.proofs.Common.{◌≡◌, ℕ, ◌+◌, ◌<◌, ◌≤◌, Bool, true, false, List, length, get_or, drop, refl}
use Rattle.std.proofs.Math.ListN.{drop_of_length-le}
use Rattle.std.specs.List.{list_any}
use Rattle.iocm_types.proofs.Lists.{drop-item}

-- an item that doesn't pass leaves the answer to the rest
pub any_goes_on : {A : Type 0} (p : A → Bool) (xs : List A) (i : ℕ) (x : A)
    → i < length xs → x ≡ get_or xs i x → p x ≡ false → list_any p (drop i xs) ≡ list_any p (drop (i + 1) xs)
any_goes_on p xs i x within item is = rw (drop-item xs i x within item, is) refl

-- an item that passes is enough
pub any_stops : {A : Type 0} (p : A → Bool) (xs : List A) (i : ℕ) (x : A)
    → i < length xs → x ≡ get_or xs i x → p x ≡ true → list_any p (drop i xs) ≡ true
any_stops p xs i x within item is = rw (drop-item xs i x within item, is) refl

-- at the end none has passed
pub any_done : {A : Type 0} (p : A → Bool) (xs : List A) (i : ℕ) → length xs ≤ i → list_any p (drop i xs) ≡ false
any_done p xs i past = rw (drop_of_length-le xs past) refl

pub ruleset any_steps = (any_goes_on, any_stops, any_done)
