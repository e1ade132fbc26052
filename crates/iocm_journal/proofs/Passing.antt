-- The last place that passes a test.
use Rattle.std.proofs.Common.{◌≡◌, ◌⊎◌, inl, inr, ℕ, zero, suc, ◌+◌, ◌<◌, ◌≤◌, Bool, true, false, ◌&&◌, cond, eqb}
use Rattle.std.proofs.Common.{nat_lt}
use Rattle.std.proofs.Common.{List, Option, Some, None, length, refl, sym, ap, ◌∙◌, arith}
use Rattle.std.proofs.lemmas.Bool.{eqb-true, eq-eqb, le-ltb}
use Rattle.iocm_activate.specs.declared.effect.Effect.{Effect}
use Rattle.iocm_journal.specs.Standing.{is_on, last_passing, share_at, stands_at}
use Rattle.iocm_journal.specs.declared.kept.Kept.{Kept}

-- a place passes, and no later one; or none passes
abbrev pub IsLastPassing : (ℕ → Bool) → ℕ → Option ℕ → Type 0
IsLastPassing passes n (Some at) = (at < n) × (passes at ≡ true) × ((k : ℕ) → at < k → k < n → passes k ≡ false)
IsLastPassing passes n None = (k : ℕ) → k < n → passes k ≡ false

below_or_last : (k n : ℕ) → k < suc n → (k < n) ⊎ (k ≡ n)
below_or_last k n low = by (eqb k n) refl
  where
    by : (b : Bool) → eqb k n ≡ b → (k < n) ⊎ (k ≡ n)
    by true is = inr (eqb-true k n is)
    by false is =
        inl (let apart = (λ (same : k ≡ n). let yes : true ≡ false = sym (eq-eqb k n same) ∙ is in
        absurd (cc_false yes)) in less k n low apart)
      where
        cc_false : true ≡ false → ⊥
        cc_false e = cc

        less : (k n : ℕ) → k < suc n → (k ≡ n → ⊥) → k < n
        less k n low apart = omega (arith, apart)

one_longer : (passes : ℕ → Bool) (n : ℕ) (o : Option ℕ) → passes n ≡ false → IsLastPassing passes n o
    → IsLastPassing passes (suc n) o
one_longer passes n (Some at) is rest =
    (omega (arith, rest.0), rest.1, λ k more less. by k more (below_or_last k n less))
  where
    by : (k : ℕ) → at < k → (k < n) ⊎ (k ≡ n) → passes k ≡ false
    by k more (inl low) = rest.2 k more low
    by k more (inr same) = ap passes same ∙ is
one_longer passes n None is rest = λ k less. by k (below_or_last k n less)
  where
    by : (k : ℕ) → (k < n) ⊎ (k ≡ n) → passes k ≡ false
    by k (inl low) = rest k low
    by k (inr same) = ap passes same ∙ is

pub last_passing_is : (passes : ℕ → Bool) (n : ℕ) → IsLastPassing passes n (last_passing passes n)
last_passing_is passes zero = λ k low. absurd (omega (arith, low))
last_passing_is passes (suc n) = by (passes n) refl (last_passing_is passes n)
  where
    by : (b : Bool) → passes n ≡ b → IsLastPassing passes n (last_passing passes n)
        → IsLastPassing passes (suc n) (cond b (Some n) (last_passing passes n))
    by true is rest = (omega arith, is, λ k more less. absurd (omega (arith, more, less)))
    by false is rest = one_longer passes n (last_passing passes n) is rest

-- on a change that fits stands none of the changes up to it; on one that doesn't, none of none
pub none_left : (ks : List Kept) (fs : List Effect) (place n : ℕ) (fits : Bool) → n ≤ cond fits (place + 1) 0
    → last_passing (is_on ks fs place fits) n ≡ None
none_left ks fs place zero fits low = refl
none_left ks fs place (suc n) false low = absurd (omega (arith, low))
none_left ks fs place (suc n) true low =
    ap (λ b. cond (b && (stands_at ks n && share_at fs place n)) (Some n) (last_passing (is_on ks fs place true) n))
    (le-ltb place n (omega (arith, low)))
    ∙ none_left ks fs place n true (omega (arith, low))

-- the same is found in the same list
pub found_same : (fs : List Effect) (place : ℕ) (fits : Bool) {ks vs : List Kept} → ks ≡ vs
    → last_passing (is_on vs fs place fits) (length vs) ≡ last_passing (is_on ks fs place fits) (length ks)
found_same fs place fits same = sym (ap (λ xs. last_passing (is_on xs fs place fits) (length xs)) same)

-- ---- what stands on a change that fits would stand on it if it didn't

on_either_by : (later stands shares undone : Bool) → (later && (stands && shares)) ≡ true
    → cond later stands undone ≡ true
on_either_by true true shares undone on = refl
on_either_by true false shares undone on = cc
on_either_by false stands shares undone on = cc

on_either : (ks : List Kept) (fs : List Effect) (place at : ℕ) → is_on ks fs place true at ≡ true
    → is_on ks fs place false at ≡ true
on_either ks fs place at on = on_either_by (nat_lt place at) (stands_at ks at) (share_at fs place at) _ on

none_passes : (p q : ℕ → Bool) → ((k : ℕ) → p k ≡ true → q k ≡ true) → (n : ℕ) → last_passing q n ≡ None
    → last_passing p n ≡ None
none_passes p q more zero none = refl
none_passes p q more (suc n) none = by (q n) (p n) refl refl none (none_passes p q more n)
  where
    by : (b d : Bool) → q n ≡ b → p n ≡ d → cond b (Some n) (last_passing q n) ≡ None
        → (last_passing q n ≡ None → last_passing p n ≡ None)
        → cond d (Some n) (last_passing p n) ≡ None
    by true d is are none rest = cc
    by false true is are none rest = let bad : false ≡ true = sym is ∙ more n are in cc
    by false false is are none rest = rest none

pub none_on_either : (ks : List Kept) (fs : List Effect) (place n : ℕ) → last_passing (is_on ks fs place false) n ≡ None
    → (fits : Bool) → last_passing (is_on ks fs place fits) n ≡ None
none_on_either ks fs place n none true =
    none_passes (is_on ks fs place true) (is_on ks fs place false) (on_either ks fs place) n none
none_on_either ks fs place n none false = none
