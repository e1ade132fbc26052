-- The steps of loops that look for an item by what it looks like.
use Rattle.std.proofs.Common.{◌≡◌, ℕ, ◌+◌, ◌<◌, ◌≤◌, Bool, true, false, List, length, get_or, drop, map, refl}
use Rattle.std.proofs.Math.ListN.{drop_of_length-le}
use Rattle.std.proofs.lemmas.List.{drop_more}
use Rattle.std.specs.List.{list_any}

-- an item that doesn't pass leaves the answer to the rest
pub any_goes_on : {X A : Type 0} (look : X → A) (p : A → Bool) (xs : List X) (i : ℕ) (d : X)
    → i < length xs → p (look (get_or xs i d)) ≡ false
    → list_any p (map look (drop i xs)) ≡ list_any p (map look (drop (i + 1) xs))
any_goes_on look p xs i d within is = rw (drop_more xs i d within, is) refl

-- an item that passes is enough
pub any_stops : {X A : Type 0} (look : X → A) (p : A → Bool) (xs : List X) (i : ℕ) (d : X)
    → i < length xs → p (look (get_or xs i d)) ≡ true → list_any p (map look (drop i xs)) ≡ true
any_stops look p xs i d within is = rw (drop_more xs i d within, is) refl

-- at the end none has passed
pub any_done : {X A : Type 0} (look : X → A) (p : A → Bool) (xs : List X) (i : ℕ) → length xs ≤ i
    → list_any p (map look (drop i xs)) ≡ false
any_done look p xs i past = rw (drop_of_length-le xs past) refl

pub ruleset any_steps = (any_goes_on, any_stops, any_done)
