-- The numbers of all paths, from one on.
use Rattle.std.proofs.Common.{◌≡◌, ℕ, ◌+◌, ◌<◌, ◌≤◌, [], ◌∷◌, drop, length, arith}
use Rattle.std.proofs.lemmas.List.{drop_all}
use Rattle.std.proofs.lemmas.List.FromFn.{length-range_with_len}
use Rattle.iocm_types.proofs.Lists.{drop-range}
use Rattle.iocm_sight.specs.Counts.{path_numbers}

pub from_path : (n : ℕ) → n < 256 → drop n path_numbers ≡ n ∷ drop (n + 1) path_numbers
unfolding path_numbers
from_path n within = drop-range 256 n within

pub none_left : (n : ℕ) → 256 ≤ n → drop n path_numbers ≡ []
unfolding path_numbers
none_left n past =
    let long = length-range_with_len 0 256 in
    let within : length path_numbers ≤ n = omega arith in drop_all n path_numbers within

pub ruleset path_steps = (from_path, none_left)
