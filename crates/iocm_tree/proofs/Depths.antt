-- The deepest of some parts, counted up to a limit.
use Rattle.std.proofs.Common.{◌≡◌, ℕ, max, min, nat_cmp, arith, rules}
use Rattle.std.specs.Ordering.{ord_max}

-- one more part
pub deepest_more : (most deepest one rest : ℕ)
    → max (max deepest (min most one)) (min most rest) ≡ max deepest (min most (max one rest))
deepest_more most deepest one rest = omega arith

-- the greater of two numbers, as code finds it
pub greater : (a b : ℕ) → ord_max nat_cmp a b ≡ max a b
greater a b = grind (arith, rules)
