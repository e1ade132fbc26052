-- The steps of a loop that compares two words byte by byte.
use Rattle.std.proofs.Common.{◌≡◌, ℕ, ◌+◌, ◌<◌, ◌≤◌, true, false, List, length, get_or, drop, refl}
use Rattle.std.proofs.Math.ListN.{drop_of_length-le}
use Rattle.std.proofs.lemmas.List.{drop_more}
use Rattle.std.specs.Prelude.{nat_eq}
use Rattle.std.specs.Str.{bytes_eq}

-- behind equal bytes the rests tell
pub same_goes_on : (xs ys : List ℕ) (i d e : ℕ) → i < length xs → i < length ys
    → nat_eq (get_or xs i d) (get_or ys i e) ≡ true
    → bytes_eq (drop (i + 1) xs) (drop (i + 1) ys) ≡ bytes_eq (drop i xs) (drop i ys)
same_goes_on xs ys i d e in_xs in_ys same = rw (drop_more xs i d in_xs, drop_more ys i e in_ys, same) refl

-- bytes that differ tell
pub same_ends : (xs ys : List ℕ) (i d e : ℕ) → i < length xs → i < length ys
    → nat_eq (get_or xs i d) (get_or ys i e) ≡ false
    → bytes_eq (drop i xs) (drop i ys) ≡ false
same_ends xs ys i d e in_xs in_ys other = rw (drop_more xs i d in_xs, drop_more ys i e in_ys, other) refl

-- at the end of both they are the same
pub same_at_end : (xs ys : List ℕ) (i : ℕ) → length xs ≤ i → length ys ≤ i
    → bytes_eq (drop i xs) (drop i ys) ≡ true
same_at_end xs ys i past_xs past_ys = rw (drop_of_length-le xs past_xs, drop_of_length-le ys past_ys) refl

pub ruleset same_steps = (same_goes_on, same_ends, same_at_end)
