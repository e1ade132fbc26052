-- Numbers of which each is greater than the one before.
use Rattle.std.specs.Prelude.{ℕ, ◌&&◌, nat_lt, Bool, true, List, [], ◌∷◌}

-- the first is greater than this one, and each further one greater than the one before
abbrev pub do_rise_above : ℕ → List ℕ → Bool
do_rise_above n [] = true
do_rise_above n (x ∷ xs) = nat_lt n x && do_rise_above x xs

abbrev pub do_rise : List ℕ → Bool
do_rise [] = true
do_rise (x ∷ xs) = do_rise_above x xs
