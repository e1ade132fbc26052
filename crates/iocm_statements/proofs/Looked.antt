-- The steps of a loop that reads a list item by item, where contracts see how the items look.
use Rattle.std.proofs.Common.{◌≡◌, ℕ, ◌+◌, ◌<◌, ◌≤◌, List, [], ◌∷◌, ◌++◌, length, get_or, drop, map, Result, Ok, Err}
use Rattle.std.proofs.Common.{refl}
use Rattle.std.proofs.Math.ListN.{drop_of_length-le}
use Rattle.std.proofs.lemmas.List.{append-nil, drop_more}
use Rattle.iocm_types.specs.declared.fault.Fault.{Fault}
use Rattle.iocm_types.specs.Each.{each, after_front}
use Rattle.iocm_types.proofs.Each.{front_grows}

-- an item that is read goes to what was gathered
pub each_goes_on : {X A B : Type 0} (look : X → A) (read : ℕ → A → Result B Fault) (front : List B) (xs : List X)
    (i : ℕ) (d : X) (y : B)
    → i < length xs → read i (look (get_or xs i d)) ≡ Ok y
    → after_front front (each read i (map look (drop i xs)))
    ≡ after_front (front ++ y ∷ []) (each read (i + 1) (map look (drop (i + 1) xs)))
unfolding each
each_goes_on look read front xs i d y within is =
    rw (drop_more xs i d within, is) (front_grows front (y ∷ []) (each read (i + 1) (map look (drop (i + 1) xs))))

-- an item that is refused is the answer
pub each_fails : {X A B : Type 0} (look : X → A) (read : ℕ → A → Result B Fault) (front : List B) (xs : List X) (i : ℕ)
    (d : X) (f : Fault)
    → i < length xs → read i (look (get_or xs i d)) ≡ Err f
    → after_front front (each read i (map look (drop i xs))) ≡ Err f
unfolding each
each_fails look read front xs i d f within is = rw (drop_more xs i d within, is) refl

-- at the end what was gathered is the answer
pub each_done : {X A B : Type 0} (look : X → A) (read : ℕ → A → Result B Fault) (front : List B) (xs : List X) (i : ℕ)
    → length xs ≤ i → after_front front (each read i (map look (drop i xs))) ≡ Ok front
unfolding each
each_done look read front xs i past = rw (drop_of_length-le xs past, append-nil front) refl

pub ruleset each_steps = (each_goes_on, each_fails, each_done)
