-- A whole seat bears every name that any seat bears.
use Rattle.std.proofs.Common.{◌≡◌, ◌⊎◌, ◌<◌, ◌≤◌, ℕ, zero, suc, List, [], ◌∷◌, length, length-append, Bool, true, false}
use Rattle.std.proofs.Common.{true≢false, cond, ◌||◌, inl, inr, refl, sym, ap, ◌∙◌, subst, arith}
use mathlib.Core.Option.{some}
use native.Mathlib.Decide.{ℕ_discrete}
use lib.ListN.{get_elem?}
use Rattle.iocm_board.specs.declared.view.Borne.{Borne}
use Rattle.iocm_board.specs.Names.{Name, same, bears, child, lent, are_home, all_home, is_whole, BearsAt, WasLent}
use Rattle.iocm_board.specs.Names.{NamesKept}
use Rattle.iocm_board.proofs.Lists.{one_there}
use Rattle.iocm_board.proofs.SameNames.{all_true, same_true}

home_if : (bs : List Borne) (p : Name) (k j : ℕ) → bears bs (child p j) ≡ true → (k < j → bears bs (child p k) ≡ true)
    → k < suc j → Dec (k ≡ j) → bears bs (child p k) ≡ true
home_if bs p k j one rec low (yes e) = subst (λ i. bears bs (child p i) ≡ true) (sym e) one
home_if bs p k j one rec low (no ne) = rec (let apart = ne in omega arith)

home_below : (bs : List Borne) (p : Name) (m k : ℕ) → are_home bs p m ≡ true → k < m → bears bs (child p k) ≡ true
home_below bs p zero k home low = absurd (omega arith)
home_below bs p (suc j) k home low =
    let t = all_true (bears bs (child p j)) (are_home bs p j) home in
    home_if bs p k j t.0 (λ h. home_below bs p j k t.1 h) low (ℕ_discrete k j)

home_first : (t : Bool) (bs : List Borne) (q p : Name) (m l k : ℕ) (rest : Bool) → (t ≡ true → q ≡ p)
    → are_home bs q m ≡ true → (t || rest) ≡ true → k < cond t m l
    → (rest ≡ true → k < l → bears bs (child p k) ≡ true) → bears bs (child p k) ≡ true
home_first true bs q p m l k rest same_name home has low rec =
    subst (λ x. bears bs (child x k) ≡ true) (same_name refl) (home_below bs q m k home low)
home_first false bs q p m l k rest same_name home has low rec = rec has low

pub home_at : (bs cs : List Borne) (p : Name) (k : ℕ) → all_home bs cs ≡ true → bears cs p ≡ true → k < lent cs p
    → bears bs (child p k) ≡ true
home_at bs [] p k home has low = absurd (true≢false (sym has))
home_at bs (c ∷ cs) p k home has low =
    let t = all_true (are_home bs c.name c.lent) (all_home bs cs) home in
    home_first (same c.name p) bs c.name p c.lent (lent cs p) k (bears cs p) (same_true c.name p) t.0 has low
    (λ h l. home_at bs cs p k t.1 h l)

module _ (all : List (List Borne)) (used : List Name) (id : ℕ) (bs : List Borne) (kept : NamesKept all used)
    (here : get_elem? all id ≡ some bs) (whole : is_whole bs ≡ true) where
  parent_first : (n : Name) → (n ≡ []) ⊎ WasLent all n → ((w : WasLent all n) → bears bs w.2 ≡ true) → bears bs n ≡ true
  parent_first n (inl e) rec = subst (λ m. bears bs m ≡ true) (sym e) (all_true (bears bs []) (all_home bs bs) whole).0
  parent_first n (inr w) rec =
      let parent = rec w in
      let one : id ≡ w.0 = kept.apart id w.0 w.2 (bs, here, parent) (w.1, w.4, w.5) in
      let is : w.1 ≡ bs = one_there all id w.1 bs (subst (λ k. get_elem? all k ≡ some w.1) (sym one) w.4) here in
      subst (λ m. bears bs m ≡ true) (sym w.6)
      (home_at bs bs w.2 w.3 (all_true (bears bs []) (all_home bs bs) whole).1 parent
      (subst (λ cs. w.3 < lent cs w.2) is w.7))

  whole_up_to : (bound : ℕ) (n : Name) (j : ℕ) → length n ≤ bound → BearsAt all j n → bears bs n ≡ true
  whole_up_to zero n j short at =
      parent_first n (kept.grown j n at)
      (λ w. let l = ap length w.6 ∙ length-append w.2 (w.3 ∷ []) in absurd (omega (arith, l, short)))
  whole_up_to (suc bound) n j short at =
      parent_first n (kept.grown j n at)
      (λ w. let l = ap length w.6
      ∙ length-append w.2 (w.3 ∷ []) in whole_up_to bound w.2 w.0 (omega (arith, l, short)) (w.1, w.4, w.5))

  pub whole_all : (n : Name) (j : ℕ) → BearsAt all j n → bears bs n ≡ true
  whole_all n j at = whole_up_to (length n) n j (omega arith) at
