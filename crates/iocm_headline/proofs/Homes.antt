-- All names that were lent come home.
use Rattle.std.proofs.Common.{◌≡◌, ℕ, zero, suc, true, false, List, [], ◌∷◌, ◌++◌, ◌&&◌, ◌||◌, refl, ap, ◌∙◌, subst}
use Rattle.std.proofs.Common.{append_assoc}
use Rattle.std.proofs.Math.Bool.{or-true}
use Rattle.std.proofs.lemmas.Bool.{eq-eqb}
use Rattle.iocm_board.specs.declared.view.Borne.{Borne}
use Rattle.iocm_board.specs.Names.{Name, same, bears, child, fresh, lend, all_home, is_whole}
use Rattle.iocm_headline.specs.Splitting.{after_all}

same_itself : (p : Name) → same p p ≡ true
same_itself [] = refl
same_itself (x ∷ xs) = ap (λ b. b && same xs xs) (eq-eqb x x refl) ∙ same_itself xs

bears_later : (before after : List Borne) (n : Name) → bears after n ≡ true → bears (before ++ after) n ≡ true
bears_later [] after n is = is
bears_later (b ∷ bs) after n is = ap (λ x. same b.name n || x) (bears_later bs after n is) ∙ or-true (same b.name n)

-- the name with which one begins is borne at the end, also where further ones stand before
begins_home : (n : ℕ) (p : Name) → bears (after_all n (fresh p)) p ≡ true
begins_home zero p = ap (λ b. b || false) (same_itself p)
begins_home (suc n) p = ap (λ b. b || bears (after_all n (fresh (child p 0))) p) (same_itself p)

later_home : (before : List Borne) (n : ℕ) (p : Name) → bears (before ++ after_all n (fresh p)) p ≡ true
later_home before n p = bears_later before (after_all n (fresh p)) p (begins_home n p)

-- each name that was lent is home, where further ones stand before
all_are : (before : List Borne) (n : ℕ) (p : Name)
    → all_home (before ++ after_all n (fresh p)) (after_all n (fresh p)) ≡ true
all_are before zero p = refl
all_are before (suc n) p =
    let one : List Borne = lend (fresh p) in
    let rest : List Borne = after_all n (fresh (child p 0)) in
    subst (λ (bs : List Borne). all_home bs (one ++ rest) ≡ true) (append_assoc before one rest)
    (ap (λ b. (b && true) && all_home ((before ++ one) ++ rest) rest) (later_home (before ++ one) n (child p 0))
    ∙ all_are (before ++ one) n (child p 0))

pub all_come_home : (n : ℕ) → is_whole (after_all n (fresh [])) ≡ true
all_come_home n =
    ap (λ b. b && all_home (after_all n (fresh [])) (after_all n (fresh []))) (begins_home n [])
    ∙ all_are [] n []
