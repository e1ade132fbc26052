-- What a test that holds tells.
use Rattle.std.proofs.Common.{◌≡◌, Bool, true, false, ◌&&◌, Option, None, Some, is_some, T, refl}

-- the first of two that hold
pub first_holds : (a b : Bool) → T (a && b) → T a
first_holds true b h = tt
first_holds false b h = h

-- the second of two that hold
pub second_holds : (a b : Bool) → T (a && b) → T b
second_holds true b h = h
second_holds false b h = absurd h

-- two that hold
pub both_hold : (a b : Bool) → T a → T b → T (a && b)
both_hold true b h k = k
both_hold false b h k = h

-- what is not there is none
pub absent : {A : Type 0} (o : Option A) → is_some o ≡ false → o ≡ None
absent None e = refl
absent (Some x) e = cc

-- what is there has a value
pub present : {A : Type 0} (o : Option A) → is_some o ≡ true → (x : A) × (o ≡ Some x)
present None e = cc
present (Some x) e = (x, refl)
