-- The place of the first item that passes a test.
use Rattle.std.proofs.Common.{◌≡◌, ℕ, ◌<◌, ◌≤◌, Bool, true, false, not, cond, nat_lt, None, Some, List, length, refl}
use Rattle.std.proofs.Common.{sym, arith}
use Rattle.std.specs.List.{position, position_or_len}
use Rattle.std.proofs.lemmas.List.Sums.{prefix_len-le-length}
use borrow.Author.Tests.{ltb-true, ltb-false}

pub found_there : (n len i : ℕ) (e : Bool) → nat_lt n len ≡ e → cond e (Some n) None ≡ Some i → (i ≡ n) × (n < len)
found_there n len i true is same = (cc, ltb-true n len is)
found_there n len i false is same = cc

found_nowhere : (n len : ℕ) (e : Bool) → nat_lt n len ≡ e → cond e (Some n) None ≡ None → len ≤ n
found_nowhere n len true is same = cc
found_nowhere n len false is same = ltb-false n len is

-- the place that was found
pub place_found : (p : ℕ → Bool) (xs : List ℕ) (i : ℕ) → position p xs ≡ Some i → position_or_len p xs ≡ i
place_found p xs i found =
    let place = position_or_len p xs in
    sym (found_there place (length xs) i (nat_lt place (length xs)) refl found).0

-- where none was found, the place is the end
pub place_of_none : (p : ℕ → Bool) (xs : List ℕ) → position p xs ≡ None → position_or_len p xs ≡ length xs
place_of_none p xs none =
    let place = position_or_len p xs in
    let past = found_nowhere place (length xs) (nat_lt place (length xs)) refl none in
    omega (arith, prefix_len-le-length (λ x. not (p x)) xs)

pub ruleset places = (place_found, place_of_none)
