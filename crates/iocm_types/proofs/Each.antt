-- The steps of a loop that reads a list item by item: what was gathered, with what the rest gives,
-- is what all gives.
use Rattle.std.proofs.Common.{◌≡◌, ℕ, ◌+◌, ◌<◌, ◌≤◌, List, [], ◌∷◌, ◌++◌, length, get_or, drop, Result, Ok, Err, refl}
use Rattle.std.proofs.Common.{sym, ap, append_assoc}
use Rattle.std.proofs.Math.ListN.{drop_of_length-le}
use Rattle.std.proofs.lemmas.List.{append-nil}
use Rattle.iocm_types.specs.declared.fault.Fault.{Fault}
use Rattle.iocm_types.specs.Fault.{◌>>=◌}
use Rattle.iocm_types.specs.Each.{each, after_front}
use Rattle.iocm_types.proofs.Lists.{drop-item}

-- items behind what was gathered are in front of what the rest gives
pub front_grows : {B : Type 0} (front ys : List B) (rest : Result (List B) Fault)
    → after_front front (rest >>= λ zs. Ok (ys ++ zs)) ≡ after_front (front ++ ys) rest
front_grows front ys (Ok zs) = ap Ok (sym (append_assoc front ys zs))
front_grows front ys (Err e) = refl

-- an item that is read goes to what was gathered
pub each_goes_on : {A B : Type 0} (read : ℕ → A → Result B Fault) (front : List B) (xs : List A) (i : ℕ) (x : A) (y : B)
    → i < length xs → x ≡ get_or xs i x → read i x ≡ Ok y
    → after_front front (each read i (drop i xs)) ≡ after_front (front ++ y ∷ []) (each read (i + 1) (drop (i + 1) xs))
unfolding each
each_goes_on read front xs i x y within item is =
    rw (drop-item xs i x within item, is) (front_grows front (y ∷ []) (each read (i + 1) (drop (i + 1) xs)))

-- an item that is refused is the answer
pub each_fails : {A B : Type 0} (read : ℕ → A → Result B Fault) (front : List B) (xs : List A) (i : ℕ) (x : A)
    (f : Fault)
    → i < length xs → x ≡ get_or xs i x → read i x ≡ Err f
    → after_front front (each read i (drop i xs)) ≡ Err f
unfolding each
each_fails read front xs i x f within item is = rw (drop-item xs i x within item, is) refl

-- at the end what was gathered is the answer
pub each_done : {A B : Type 0} (read : ℕ → A → Result B Fault) (front : List B) (xs : List A) (i : ℕ)
    → length xs ≤ i → after_front front (each read i (drop i xs)) ≡ Ok front
unfolding each
each_done read front xs i past = rw (drop_of_length-le xs past, append-nil front) refl

pub ruleset each_steps = (each_goes_on, each_fails, each_done)
