-- Names, and those that a seat bears.
use Rattle.std.proofs.Common.{◌≡◌, ◌≤◌, ◌==◌, ℕ, suc, List, [], ◌∷◌, ◌++◌, length, Bool, true, false, true≢false, cond}
use Rattle.std.proofs.Common.{◌&&◌, ◌||◌, refl, sym, ap, ◌∙◌, ⊎_elim, arith}
use Rattle.std.proofs.lemmas.Bool.{eq-eqb}
use Rattle.std.proofs.lemmas.Bool.Decides.{nat_tests}
use Rattle.iocm_board.specs.declared.view.Borne.{Borne}
use Rattle.iocm_board.specs.Names.{Name, same, child, bears, lent, lend, fresh}
use Rattle.iocm_board.proofs.Lists.{either_true, left_true}

both_true : (a b : Bool) → (a && b) ≡ true → (a ≡ true) × (b ≡ true)
both_true true b e = (refl, e)
both_true false b e = absurd (true≢false (sym e))

pub all_true : (a b : Bool) → (a && b) ≡ true → (a ≡ true) × (b ≡ true)
all_true a b e = both_true a b e

equal_numbers : (x y : ℕ) → (x == y) ≡ true → x ≡ y
equal_numbers x y e = grind (arith, nat_tests)

number_equals : (x : ℕ) → (x == x) ≡ true
number_equals x = eq-eqb x x refl

pub same_refl : (p : Name) → same p p ≡ true
same_refl [] = refl
same_refl (x ∷ xs) = ap (λ b. b && same xs xs) (number_equals x) ∙ same_refl xs

pub same_true : (p q : Name) → same p q ≡ true → p ≡ q
same_true [] [] e = refl
same_true [] (y ∷ ys) e = absurd (true≢false (sym e))
same_true (x ∷ xs) [] e = absurd (true≢false (sym e))
same_true (x ∷ xs) (y ∷ ys) e =
    let b = both_true (x == y) (same xs ys) e in
    λ i. equal_numbers x y b.0 i ∷ same_true xs ys b.1 i

pub child_not_nil : (p : Name) (k : ℕ) → child p k ≡ [] → ⊥
child_not_nil [] k e = let h = ap length e in omega arith
child_not_nil (x ∷ xs) k e = let h = ap length e in omega arith

first : Name → ℕ
first [] = 0
first (x ∷ xs) = x

behind : Name → Name
behind [] = []
behind (x ∷ xs) = xs

pub child_injective : (p q : Name) (k l : ℕ) → child p k ≡ child q l → (p ≡ q) × (k ≡ l)
unfolding first behind
child_injective [] [] k l e = (refl, ap first e)
child_injective [] (y ∷ ys) k l e = absurd (child_not_nil ys l (sym (ap behind e)))
child_injective (x ∷ xs) [] k l e = absurd (child_not_nil xs k (ap behind e))
child_injective (x ∷ xs) (y ∷ ys) k l e =
    let r = child_injective xs ys k l (ap behind e) in
    ((λ i. ap first e i ∷ r.0 i), r.1)

or_assoc : (a b c : Bool) → (a || (b || c)) ≡ ((a || b) || c)
or_assoc true b c = refl
or_assoc false b c = refl

pub bears_append : (bs cs : List Borne) (n : Name) → bears (bs ++ cs) n ≡ (bears bs n || bears cs n)
bears_append [] cs n = refl
bears_append (b ∷ bs) cs n =
    ap (λ x. same b.name n || x) (bears_append bs cs n) ∙ or_assoc (same b.name n) (bears bs n) (bears cs n)

pub bears_lend : (bs : List Borne) (n : Name) → bears (lend bs) n ≡ bears bs n
bears_lend [] n = refl
bears_lend (b ∷ bs) n = refl

grows : (t : Bool) (bs cs : List Borne) (k : ℕ) (p : Name) → ((t || bears bs p) ≡ true)
    → (bears bs p ≡ true → lent (bs ++ cs) p ≡ lent bs p) → cond t k (lent (bs ++ cs) p) ≡ cond t k (lent bs p)
grows true bs cs k p e rec = refl
grows false bs cs k p e rec = rec e

pub lent_left : (bs cs : List Borne) (p : Name) → bears bs p ≡ true → lent (bs ++ cs) p ≡ lent bs p
lent_left [] cs p e = absurd (true≢false (sym e))
lent_left (b ∷ bs) cs p e = grows (same b.name p) bs cs b.lent p e (λ h. lent_left bs cs p h)

stays : (t : Bool) (bs cs : List Borne) (k : ℕ) (p : Name) → ((t || bears bs p) ≡ false)
    → (bears bs p ≡ false → lent (bs ++ cs) p ≡ lent cs p) → cond t k (lent (bs ++ cs) p) ≡ lent cs p
stays true bs cs k p e rec = absurd (true≢false e)
stays false bs cs k p e rec = rec e

pub lent_right : (bs cs : List Borne) (p : Name) → bears bs p ≡ false → lent (bs ++ cs) p ≡ lent cs p
lent_right [] cs p e = refl
lent_right (b ∷ bs) cs p e = stays (same b.name p) bs cs b.lent p e (λ h. lent_right bs cs p h)

more_lent : (t : Bool) (k m : ℕ) → cond t k m ≤ cond t (suc k) m
more_lent true k m = omega arith
more_lent false k m = omega arith

pub lent_lend : (b : Borne) (bs : List Borne) (p : Name) → lent (b ∷ bs) p ≤ lent (lend (b ∷ bs)) p
lent_lend b bs p = more_lent (same b.name p) b.lent (lent bs p)

-- what was lent of the first name
pub lent_first : (b : Borne) (bs : List Borne) → lent (b ∷ bs) b.name ≡ b.lent
lent_first b bs = ap (λ t. cond t b.lent (lent bs b.name)) (same_refl b.name)

pub bears_first : (b : Borne) (bs : List Borne) → bears (b ∷ bs) b.name ≡ true
bears_first b bs = left_true (same b.name b.name) (bears bs b.name) (same_refl b.name)

pub fresh_bears : (n m : Name) → bears (fresh n) m ≡ true → n ≡ m
fresh_bears n m e = ⊎_elim (λ (h : same n m ≡ true). same_true n m h)
    (λ (h : false ≡ true). absurd (true≢false (sym h))) (either_true (same n m) false e)
