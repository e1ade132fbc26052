-- The steps of a loop that takes the least of what the items of a list give, and what need not be
-- taken.
use Rattle.std.proofs.Common.{◌≡◌, ℕ, ◌+◌, ◌<◌, ◌≤◌, Option, List, length, get_or, drop, sym, ap}
use Rattle.std.proofs.Math.ListN.{drop_of_length-le}
use Rattle.iocm_types.specs.declared.key.Key.{Key}
use Rattle.iocm_types.proofs.Lists.{drop-item}
use Rattle.iocm_lookup.specs.Among.{lesser, least_of}

module _ {A : Type 0} (gives : A → Option Key) (xs : List A) (i : ℕ) (least : Option Key) where
  -- one item more
  pub least_goes_on : (x : A) → i < length xs → x ≡ get_or xs i x
      → least_of gives (lesser least (gives x)) (drop (i + 1) xs) ≡ least_of gives least (drop i xs)
  least_goes_on x within item = sym (ap (least_of gives least) (drop-item xs i x within item))

  -- at the end all were taken
  pub least_done : length xs ≤ i → least_of gives least (drop i xs) ≡ least
  least_done past = ap (least_of gives least) (drop_of_length-le xs past)

pub ruleset least_steps = (least_goes_on, least_done)
