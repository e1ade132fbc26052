-- When indices are the same, and when they aren't.
use Rattle.std.proofs.Common.{◌≡◌, ℕ, zero, suc, Bool, true, false, nat_eq, eqb-true, eq-eqb, ne_eqb, refl, sym, ap}
use Rattle.std.proofs.Common.{◌∙◌, arith}

pub number_itself : (n : ℕ) → nat_eq n n ≡ true
number_itself n = eq-eqb n n refl

pub numbers_are : (m n : ℕ) → nat_eq m n ≡ true → m ≡ n
numbers_are m n e = eqb-true m n e

pub zero_other : (n : ℕ) → nat_eq zero (suc n) ≡ false
zero_other n = ne_eqb zero (suc n) (λ e. absurd (omega arith))

pub other_zero : (n : ℕ) → nat_eq (suc n) zero ≡ false
other_zero n = ne_eqb (suc n) zero (λ e. absurd (omega arith))

pub next_same : (m n : ℕ) → nat_eq (suc m) (suc n) ≡ nat_eq m n
next_same m n = by (nat_eq m n) refl
  where
    less : suc m ≡ suc n → m ≡ n
    less e = omega arith

    by : (b : Bool) → nat_eq m n ≡ b → nat_eq (suc m) (suc n) ≡ nat_eq m n
    by true is = eq-eqb (suc m) (suc n) (ap suc (eqb-true m n is)) ∙ sym is
    by false is = ne_eqb (suc m) (suc n) (λ e. let bad : false ≡ true = sym is ∙ eq-eqb m n (less e) in cc) ∙ sym is
