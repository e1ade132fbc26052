-- A name is lent to a new seat.
use Rattle.std.proofs.Common.{◌≡◌, ◌≢◌, ◌⊎◌, ◌<◌, ℕ, suc, List, [], ◌∷◌, ◌++◌, length, set, true, inl, inr, sym, ◌∙◌}
use Rattle.std.proofs.Common.{subst, ⊎_elim, arith}
use mathlib.Core.Option.{some}
use lib.ListN.{get_elem?}
use native.Mathlib.Decide.{ℕ_discrete}
use Rattle.atomic_table.proofs.Lists.{at_longer, at_set, set_here, set_else}
use Rattle.iocm_board.specs.declared.view.Borne.{Borne}
use Rattle.iocm_board.specs.Names.{Name, bears, child, fresh, lend, lent, BearsAt, WasLent, NamesKept}
use Rattle.iocm_board.proofs.Lists.{at_end, at_below, one_there, length_set}
use Rattle.iocm_board.proofs.SameNames.{fresh_bears, bears_first, lent_first, lent_lend}
use Rattle.iocm_board.proofs.Names.{next_is_new}

module _ (all : List (List Borne)) (used : List Name) (id : ℕ) (b : Borne) (bs : List Borne) (kept : NamesKept all used)
    (here : get_elem? all id ≡ some (b ∷ bs)) where
  abbrev new : Name
  new = child b.name b.lent

  abbrev then : List (List Borne)
  then = set all id (lend (b ∷ bs)) ++ fresh new ∷ []

  there : get_elem? then id ≡ some (lend (b ∷ bs))
  there = at_longer (set all id (lend (b ∷ bs))) (fresh new ∷ []) id (lend (b ∷ bs))
      (set_here all id (lend (b ∷ bs)) (at_below all id (b ∷ bs) here))

  elsewhere : (i : ℕ) (cs : List Borne) → i ≢ id → get_elem? all i ≡ some cs → get_elem? then i ≡ some cs
  elsewhere i cs ne e = at_longer (set all id (lend (b ∷ bs))) (fresh new ∷ []) i cs
      (set_else all id i (lend (b ∷ bs)) ne ∙ e)

  forth_if : (i : ℕ) (n : Name) → BearsAt all i n → Dec (i ≡ id) → BearsAt then i n
  forth_if i n at (yes e) =
      let is : at.0 ≡ b ∷ bs = one_there all id at.0 (b ∷ bs) (subst (λ k. get_elem? all k ≡ some at.0) e at.1) here in (
        lend (b ∷ bs),
        subst (λ k. get_elem? then k ≡ some (lend (b ∷ bs))) (sym e) there,
        subst (λ cs. bears cs n ≡ true) is at.2,
      )
  forth_if i n at (no ne) = (at.0, elsewhere i at.0 ne at.1, at.2)

  forth : (i : ℕ) (n : Name) → BearsAt all i n → BearsAt then i n
  forth i n at = forth_if i n at (ℕ_discrete i id)

  lent_if : (n : Name) (w : WasLent all n) → Dec (w.0 ≡ id) → WasLent then n
  lent_if n w (yes e) =
      let is : w.1 ≡ b ∷ bs = one_there all id w.1 (b ∷ bs) (subst (λ k. get_elem? all k ≡ some w.1) e w.4) here in
      let low : w.3 < lent (b ∷ bs) w.2 = subst (λ cs. w.3 < lent cs w.2) is w.7 in
      let more = lent_lend b bs w.2 in
      (id, lend (b ∷ bs), w.2, w.3, there, subst (λ cs. bears cs w.2 ≡ true) is w.5, w.6, omega (arith, low, more))
  lent_if n w (no ne) = (w.0, w.1, w.2, w.3, elsewhere w.0 w.1 ne w.4, w.5, w.6, w.7)

  back : (i : ℕ) (n : Name) → BearsAt then i n → BearsAt all i n ⊎ ((i ≡ length all) × (new ≡ n))
  back i n at = ⊎_elim
      (λ (old : get_elem? (set all id (lend (b ∷ bs))) i ≡ some at.0). inl (⊎_elim
      (λ (t : (i ≡ id) × (lend (b ∷ bs) ≡ at.0)).
      subst (λ k. BearsAt all k n) (sym t.0) (b ∷ bs, here, subst (λ cs. bears cs n ≡ true) (sym t.1) at.2))
      (λ (t : (i ≢ id) × (get_elem? all i ≡ some at.0)). (at.0, t.1, at.2))
      (at_set all id i (lend (b ∷ bs)) at.0 old)))
      (λ (t : (i ≡ length (set all id (lend (b ∷ bs)))) × (fresh new ≡ at.0)).
      inr (t.0 ∙ length_set all id (lend (b ∷ bs)), fresh_bears new n (subst (λ cs. bears cs n ≡ true) (sym t.1) at.2)))
      (at_end (set all id (lend (b ∷ bs))) (fresh new) at.0 i at.1)

  unborne : (i : ℕ) (n : Name) → BearsAt all i n → new ≡ n → ⊥
  unborne i n at e = next_is_new all used id b bs kept here i (subst (λ m. BearsAt all i m) (sym e) at)

  pub names_split : NamesKept then used
  names_split =
      record {
        apart = λ i j n x y. ⊎_elim
            (λ (a : BearsAt all i n). ⊎_elim
            (λ (c : BearsAt all j n). kept.apart i j n a c)
            (λ (t : (j ≡ length all) × (new ≡ n)). absurd (unborne i n a t.1))
            (back j n y))
            (λ (s : (i ≡ length all) × (new ≡ n)). ⊎_elim
            (λ (c : BearsAt all j n). absurd (unborne j n c s.1))
            (λ (t : (j ≡ length all) × (new ≡ n)). s.0 ∙ sym t.0)
            (back j n y))
            (back i n x);
        grown = λ i n x. ⊎_elim
            (λ (a : BearsAt all i n).
            ⊎_elim (λ (e : n ≡ []). inl e) (λ (w : WasLent all n). inr (lent_if n w (ℕ_discrete w.0 id)))
            (kept.grown i n a))
            (λ (s : (i ≡ length all) × (new ≡ n)).
            let one : lent (lend (b ∷ bs)) b.name ≡ suc b.lent =
            lent_first (record { name = b.name; lent = suc b.lent }) bs in
            inr (id, lend (b ∷ bs), b.name, b.lent, there, bears_first b bs, sym s.1, omega (arith, one)))
            (back i n x);
        borne = λ k n e. let at = kept.borne k n e in (at.0, forth at.0 n at.1);
      }

  -- the new name is none under which a call was made
  pub new_is_unused : (k : ℕ) (n : Name) → get_elem? used k ≡ some n → new ≡ n → ⊥
  new_is_unused k n e same = let at = kept.borne k n e in unborne at.0 n at.1 same
