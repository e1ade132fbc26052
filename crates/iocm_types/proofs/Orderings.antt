-- What the result of a comparison tells.
use Rattle.std.proofs.Common.{◌≡◌, ℕ, T, refl, sym, ap, ◌∙◌}
use Rattle.std.specs.Ordering.{nat_cmp, is_lt}
use Rattle.std.specs.declared.cmp.Ordering.{Ordering}
use Rattle.std.specs.declared.cmp.Ordering.TheVariants.{Less, Equal, Greater}
use Rattle.std.specs.Cmp.{nat_cmp_total, tied_itself}

-- a result that passes the test for less is less
pub less_is : (r : Ordering) → T (is_lt r) → r ≡ Less
less_is Less h = refl
less_is Equal h = absurd h
less_is Greater h = absurd h

-- equal numbers tie
pub ties : (a b : ℕ) → a ≡ b → nat_cmp a b ≡ Equal
ties a b e = ap (nat_cmp a) (sym e) ∙ tied_itself nat_cmp_total a
