-- The steps of a loop that looks for the first item that passes a test.
use Rattle.std.proofs.Common.{◌≡◌, ℕ, ◌+◌, ◌<◌, ◌≤◌, Bool, true, false, List, None, Some, length, get_or, drop, refl}
use Rattle.std.proofs.Math.ListN.{drop_of_length-le}
use Rattle.std.specs.List.{find}
use Rattle.iocm_types.proofs.Lists.{drop-item}

-- an item that doesn't pass leaves the answer to the rest
pub find_goes_on : {A : Type 0} (p : A → Bool) (xs : List A) (i : ℕ) (x : A)
    → i < length xs → x ≡ get_or xs i x → p x ≡ false → find p (drop i xs) ≡ find p (drop (i + 1) xs)
find_goes_on p xs i x within item is = rw (drop-item xs i x within item, is) refl

-- an item that passes is the first
pub find_stops : {A : Type 0} (p : A → Bool) (xs : List A) (i : ℕ) (x : A)
    → i < length xs → x ≡ get_or xs i x → p x ≡ true → find p (drop i xs) ≡ Some x
find_stops p xs i x within item is = rw (drop-item xs i x within item, is) refl

-- at the end none has passed
pub find_done : {A : Type 0} (p : A → Bool) (xs : List A) (i : ℕ) → length xs ≤ i → find p (drop i xs) ≡ None
find_done p xs i past = rw (drop_of_length-le xs past) refl

pub ruleset find_steps = (find_goes_on, find_stops, find_done)
