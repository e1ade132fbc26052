-- A test of two lists tells whether they are equal.
use Rattle.std.proofs.Common.{◌≡◌, ◌↔◌, ℕ, Bool, true, false, nat_eq, List, [], ◌∷◌, refl, sym, subst, IsTrue}
use Rattle.std.proofs.lemmas.Bool.{eq-eqb}
use Rattle.std.specs.Cmp.Lexicographic.{pointwise, same_text}
use Rattle.iocm_derive.proofs.units_view.are_same.Goals as goal

own_numbers : (xs : List ℕ) → pointwise nat_eq xs xs ≡ true
own_numbers [] = refl
own_numbers (x ∷ xs) = rw (eq-eqb x x refl) (own_numbers xs)

-- lists that a test tells apart differ
told_apart : (xs ys : List ℕ) → pointwise nat_eq xs ys ≡ false → xs ≡ ys → ⊥
told_apart xs ys differ same = let yes = subst (λ (zs : List ℕ). pointwise nat_eq xs zs ≡ true) same (own_numbers xs) in
    cc

told : (b : Bool) (xs ys : List ℕ) → b ≡ pointwise nat_eq xs ys → IsTrue b ↔ (xs ≡ ys)
told true xs ys is = (λ _. same_text xs ys is, λ _. refl)
told false xs ys is = (λ no. cc, λ same. absurd (told_apart xs ys (sym is) same))

pub returns-in_default : goal.returns-in_default
returns-in_default c = told c.eq-in_default.result c.args.units.now c.args.others.now c.eq-in_default.ensures
