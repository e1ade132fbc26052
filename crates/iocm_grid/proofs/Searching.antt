-- What is found first in what is made of the items of a list, one after the other.
use Rattle.std.proofs.Common.{◌≡◌, ℕ, zero, suc, ◌+◌, ◌≤◌, Bool, true, false, cond, ◌||◌, T, List, [], ◌∷◌, ◌++◌}
use Rattle.std.proofs.Common.{Option, None, Some, slice_get, option_and_then, refl, ap, ◌∙◌, arith}
use Rattle.std.specs.List.{list_any}
use Rattle.std.specs.Option.{option_or}
use Rattle.std.specs.Ordering.{eq_by_cmp}
use Rattle.std.specs.declared.cmp.Ordering.{Ordering}
use Rattle.std.specs.FinMap.{find}
use Rattle.iocm_grid.specs.Gridded.{each_from}

-- a question that a list answers by its front, and else by the rest
pub record IsSearch {W U : Type 0} (ask : List W → Option U) : Type 0 where
  pub nothing : ask [] ≡ None
  pub front_first : (front rest : List W) → ask (front ++ rest) ≡ option_or (ask front) (ask rest)

or_none : {U : Type 0} (o : Option U) → option_or o None ≡ o
or_none None = refl
or_none (Some u) = refl

module _ {W U Y : Type 0} {ask : List W → Option U} (s : IsSearch ask) (f : ℕ → Y → List W) where
  -- nothing is found where it is in no part
  pub none_from : (n : ℕ) (ys : List Y) → ((m : ℕ) (y : Y) → n ≤ m → ask (f m y) ≡ None) → ask (each_from f n ys) ≡ None
  none_from n [] none = s.nothing
  none_from n (y ∷ ys) none = s.front_first (f n y) (each_from f (n + 1) ys)
      ∙ ap (λ r. option_or r (ask (each_from f (n + 1) ys))) (none n y (omega arith))
      ∙ none_from (n + 1) ys (λ m z more. none m z (omega arith))

  -- what can be in one part alone is found there
  pub found_from : (i k n : ℕ) (ys : List Y) → n + k ≡ i → ((m : ℕ) (y : Y) → (m ≡ i → T false) → ask (f m y) ≡ None)
      → ask (each_from f n ys) ≡ option_and_then (λ y. ask (f i y)) (slice_get ys k)
  found_from i k n [] is apart = s.nothing
  found_from i zero n (y ∷ ys) is apart =
      let here : n ≡ i = omega arith in
      s.front_first (f n y) (each_from f (n + 1) ys)
      ∙ ap (option_or (ask (f n y))) (none_from (n + 1) ys (λ m z more. apart m z (λ e. absurd (omega arith))))
      ∙ or_none (ask (f n y)) ∙ ap (λ m. ask (f m y)) here
  found_from i (suc k) n (y ∷ ys) is apart = s.front_first (f n y) (each_from f (n + 1) ys)
      ∙ ap (λ r. option_or r (ask (each_from f (n + 1) ys))) (apart n y (λ e. absurd (omega arith)))
      ∙ found_from i k (n + 1) ys (omega arith) apart

-- the value under a key
either_first : {X : Type 0} (b : Bool) (v : X) (r s : Option X) → r ≡ s → cond b (Some v) r ≡ cond b (Some v) s
either_first b v r s e = ap (cond b (Some v)) e

or_of : {X : Type 0} (b : Bool) (v : X) (r s : Option X)
    → cond b (Some v) (option_or r s) ≡ option_or (cond b (Some v) r) s
or_of true v r s = refl
or_of false v r s = refl

module _ {K X : Type 0} (R : K → K → Ordering) (q : K) where
  find_append : (es fs : List (K × X)) → find R q (es ++ fs) ≡ option_or (find R q es) (find R q fs)
  find_append [] fs = refl
  find_append (e ∷ es) fs = either_first (eq_by_cmp R q e.0) e.1 _ _ (find_append es fs)
      ∙ or_of (eq_by_cmp R q e.0) e.1 (find R q es) (find R q fs)

  pub finding : IsSearch (λ (es : List (K × X)). find R q es)
  finding = record { nothing = refl; front_first = find_append }

-- whether a test passes
abbrev pub if_any : {W : Type 0} → (W → Bool) → List W → Option (Unit {0})
if_any p ws = cond (list_any p ws) (Some tt) None

module _ {W : Type 0} (p : W → Bool) where
  any_at : (b : Bool) (vs ws : List W) → if_any p (vs ++ ws) ≡ option_or (if_any p vs) (if_any p ws)
      → cond (b || list_any p (vs ++ ws)) (Some tt) None
      ≡ option_or (cond (b || list_any p vs) (Some tt) None) (if_any p ws)
  any_at true vs ws e = refl
  any_at false vs ws e = e

  any_append : (vs ws : List W) → if_any p (vs ++ ws) ≡ option_or (if_any p vs) (if_any p ws)
  any_append [] ws = refl
  any_append (v ∷ vs) ws = any_at (p v) vs ws (any_append vs ws)

  pub asking : IsSearch (if_any p)
  asking = record { nothing = refl; front_first = any_append }
