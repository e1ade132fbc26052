-- Lists of which one item after the other is written.
use Rattle.std.proofs.Common.{◌≡◌, ◌≢◌, ◌∙◌, ℕ, ◌+◌, ◌<◌, Bool, true, false, nat_eq, List, length, get_or, set, refl}
use Rattle.std.proofs.Common.{sym, subst, ap, arith, get_or-set_other, get_or-set_same}
use Rattle.std.proofs.lemmas.Bool.{eqb-true, eqb-false}

-- the items of these numbers were right up to one that is written: now it is, too
pub right_more : {A : Type 0} (In : ℕ → Type 0) (at : ℕ → ℕ) (right : ℕ → A) (xs : List A) (d x : A) (place k : ℕ)
    → place ≡ at k → place < length xs → ((m : ℕ) → m ≢ k → at m ≢ place)
    → ((m : ℕ) → In m → m < k → get_or xs (at m) d ≡ right m) → x ≡ right k
    → (m : ℕ) → In m → m < k + 1 → get_or (set xs place x) (at m) d ≡ right m
right_more {A} In at right xs d x place k here within apart before is m holds low = by (nat_eq m k) refl
  where
    by : (b : Bool) → nat_eq m k ≡ b → get_or (set xs place x) (at m) d ≡ right m
    by true tie =
        let same : m ≡ k = eqb-true m k tie in
        ap (λ (i : ℕ). get_or (set xs place x) i d) (ap at same ∙ sym here) ∙ get_or-set_same xs place x d within ∙ is
        ∙ ap right (sym same)
    by false tie =
        let other : m ≢ k = eqb-false m k tie in
        get_or-set_other xs place (at m) x d (apart m other) ∙ before m holds (omega arith)

-- what holds of the numbers up to one holds of it, too
pub valid_more : (P : ℕ → Type 0) (k : ℕ) → ((m : ℕ) → 0 < m → m < k → P m) → P k → (m : ℕ) → 0 < m → m < k + 1 → P m
valid_more P k before is m above low = by (nat_eq m k) refl
  where
    by : (b : Bool) → nat_eq m k ≡ b → P m
    by true tie = subst P (sym (eqb-true m k tie)) is
    by false tie =
        let other : m ≢ k = eqb-false m k tie in
        before m above (omega arith)
