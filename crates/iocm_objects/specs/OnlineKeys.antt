-- Where the keys are by which a path is online.
use Rattle.std.specs.Prelude.{ℕ, Bool, false, ◌==◌, ◌&&◌, ◌||◌, nat_lt, List, codes}
use Rattle.iocm_types.specs.declared.key.Key.{Key}
use Rattle.iocm_types.specs.declared.key.Key.TheVariants as key

-- a key behind all of them
abbrev pub is_past : ℕ → ℕ → Key → Bool
is_past css p (key.Online own q name) = nat_lt css own || (css == own && nat_lt p q)
is_past css p _ = false

-- the name that is behind all others
abbrev pub greatest : List ℕ
greatest = codes "ZZZZZZZZ"
