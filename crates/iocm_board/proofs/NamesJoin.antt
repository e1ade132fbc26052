-- The names of one seat come to another.
use Rattle.std.proofs.Common.{◌≡◌, ◌≢◌, ◌⊎◌, ◌<◌, ℕ, List, [], ◌++◌, set, true, false, true≢false, inl, inr, refl, sym}
use Rattle.std.proofs.Common.{ap, ◌∙◌, subst, ⊎_elim}
use mathlib.Core.Option.{some}
use lib.ListN.{get_elem?}
use native.Mathlib.Decide.{ℕ_discrete}
use Rattle.atomic_table.proofs.Lists.{at_set, set_here, set_else}
use Rattle.iocm_board.specs.declared.view.Borne.{Borne}
use Rattle.iocm_board.specs.Names.{Name, bears, lent, BearsAt, WasLent, NamesKept}
use Rattle.iocm_board.proofs.Lists.{at_below, one_there, either_true, left_true, right_true, which}
use Rattle.iocm_board.proofs.SameNames.{bears_append, lent_left, lent_right}

module _
    (all : List (List Borne)) (used : List Name) (id other : ℕ) (xs ys : List Borne) (kept : NamesKept all used)
    (here : get_elem? all id ≡ some xs)
    (yonder : get_elem? all other ≡ some ys) (apart : other ≢ id)
  where
    abbrev then : List (List Borne)
    then = set (set all id (xs ++ ys)) other []

    there : get_elem? then id ≡ some (xs ++ ys)
    there = set_else (set all id (xs ++ ys)) other id [] (λ e. apart (sym e))
        ∙ set_here all id (xs ++ ys) (at_below all id xs here)

    elsewhere : (i : ℕ) (cs : List Borne) → i ≢ id → i ≢ other → get_elem? all i ≡ some cs → get_elem? then i ≡ some cs
    elsewhere i cs ne no_other e =
        set_else (set all id (xs ++ ys)) other i [] no_other ∙ set_else all id i (xs ++ ys) ne ∙ e

    joined : (n : Name) → (bears xs n ≡ true) ⊎ (bears ys n ≡ true) → bears (xs ++ ys) n ≡ true
    joined n h = bears_append xs ys n
        ∙ ⊎_elim (λ (l : bears xs n ≡ true). left_true (bears xs n) (bears ys n) l)
        (λ (r : bears ys n ≡ true). right_true (bears xs n) (bears ys n) r) h

    -- who bears a name afterwards bore it before, or has it from the other
    back : (i : ℕ) (n : Name) → BearsAt then i n → BearsAt all i n ⊎ ((i ≡ id) × BearsAt all other n)
    back i n at = ⊎_elim
        (λ (t : (i ≡ other) × ([] ≡ at.0)). absurd (true≢false (sym (subst (λ cs. bears cs n ≡ true) (sym t.1) at.2))))
        (λ (t : (i ≢ other) × (get_elem? (set all id (xs ++ ys)) i ≡ some at.0)). ⊎_elim
        (λ (s : (i ≡ id) × (xs ++ ys ≡ at.0)).
        ⊎_elim
        (λ (l : bears xs n ≡ true). inl (subst (λ k. BearsAt all k n) (sym s.0) (xs, here, l)))
        (λ (r : bears ys n ≡ true). inr (s.0, (ys, yonder, r)))
        (either_true (bears xs n) (bears ys n)
        (sym (bears_append xs ys n) ∙ subst (λ cs. bears cs n ≡ true) (sym s.1) at.2)))
        (λ (s : (i ≢ id) × (get_elem? all i ≡ some at.0)). inl (at.0, s.1, at.2))
        (at_set all id i (xs ++ ys) at.0 t.1))
        (at_set (set all id (xs ++ ys)) other i [] at.0 at.1)

    -- the other bears none
    none_left : (n : Name) → BearsAt then other n → ⊥
    none_left n at = ⊎_elim
        (λ (t : (other ≡ other) × ([] ≡ at.0)). true≢false (sym (subst (λ cs. bears cs n ≡ true) (sym t.1) at.2)))
        (λ (t : (other ≢ other) × (get_elem? (set all id (xs ++ ys)) other ≡ some at.0)). t.0 refl)
        (at_set (set all id (xs ++ ys)) other other [] at.0 at.1)

    forth_if : (i : ℕ) (n : Name) → BearsAt all i n → Dec (i ≡ id) → Dec (i ≡ other) → (j : ℕ) × BearsAt then j n
    forth_if i n at (yes e) d =
        let is : at.0 ≡ xs = one_there all id at.0 xs (subst (λ k. get_elem? all k ≡ some at.0) e at.1) here in
        (id, (xs ++ ys, there, joined n (inl (subst (λ cs. bears cs n ≡ true) is at.2))))
    forth_if i n at (no ne) (yes e) =
        let is : at.0 ≡ ys = one_there all other at.0 ys (subst (λ k. get_elem? all k ≡ some at.0) e at.1) yonder in
        (id, (xs ++ ys, there, joined n (inr (subst (λ cs. bears cs n ≡ true) is at.2))))
    forth_if i n at (no ne) (no no_other) = (i, (at.0, elsewhere i at.0 ne no_other at.1, at.2))

    not_both : (n : Name) → bears ys n ≡ true → bears xs n ≡ false
    not_both n r = ⊎_elim
        (λ (l : bears xs n ≡ true). absurd (apart (kept.apart other id n (ys, yonder, r) (xs, here, l))))
        (λ (l : bears xs n ≡ false). l)
        (which (bears xs n))

    lent_if : (n : Name) (w : WasLent all n) → Dec (w.0 ≡ id) → Dec (w.0 ≡ other) → WasLent then n
    lent_if n w (yes e) d =
        let is : w.1 ≡ xs = one_there all id w.1 xs (subst (λ k. get_elem? all k ≡ some w.1) e w.4) here in
        let l = subst (λ cs. bears cs w.2 ≡ true) is w.5 in (
          id,
          xs ++ ys,
          w.2,
          w.3,
          there,
          joined w.2 (inl l),
          w.6,
          subst (λ m. w.3 < m) (ap (λ cs. lent cs w.2) is ∙ sym (lent_left xs ys w.2 l)) w.7,
        )
    lent_if n w (no ne) (yes e) =
        let is : w.1 ≡ ys = one_there all other w.1 ys (subst (λ k. get_elem? all k ≡ some w.1) e w.4) yonder in
        let r = subst (λ cs. bears cs w.2 ≡ true) is w.5 in (
          id,
          xs ++ ys,
          w.2,
          w.3,
          there,
          joined w.2 (inr r),
          w.6,
          subst (λ m. w.3 < m) (ap (λ cs. lent cs w.2) is ∙ sym (lent_right xs ys w.2 (not_both w.2 r))) w.7,
        )
    lent_if n w (no ne) (no no_other) = (w.0, w.1, w.2, w.3, elsewhere w.0 w.1 ne no_other w.4, w.5, w.6, w.7)

    apart_if : (i j : ℕ) (n : Name) → BearsAt then i n → BearsAt then j n
        → BearsAt all i n ⊎ ((i ≡ id) × BearsAt all other n) → BearsAt all j n ⊎ ((j ≡ id) × BearsAt all other n)
        → i ≡ j
    apart_if i j n x y (inl a) (inl b) = kept.apart i j n a b
    apart_if i j n x y (inl a) (inr t) =
        absurd (none_left n (subst (λ k. BearsAt then k n) (kept.apart i other n a t.1) x))
    apart_if i j n x y (inr s) (inl b) =
        absurd (none_left n (subst (λ k. BearsAt then k n) (kept.apart j other n b s.1) y))
    apart_if i j n x y (inr s) (inr t) = s.0 ∙ sym t.0

    grown_if : (n : Name) → (n ≡ []) ⊎ WasLent all n → (n ≡ []) ⊎ WasLent then n
    grown_if n (inl e) = inl e
    grown_if n (inr w) = inr (lent_if n w (ℕ_discrete w.0 id) (ℕ_discrete w.0 other))

    pub names_join : NamesKept then used
    names_join =
        record {
          apart = λ i j n x y. apart_if i j n x y (back i n x) (back j n y);
          grown = λ i n x. ⊎_elim
              (λ (a : BearsAt all i n). grown_if n (kept.grown i n a))
              (λ (s : (i ≡ id) × BearsAt all other n). grown_if n (kept.grown other n s.1))
              (back i n x);
          borne = λ k n e. let at = kept.borne k n e in
              forth_if at.0 n at.1 (ℕ_discrete at.0 id) (ℕ_discrete at.0 other);
        }

    pub names_apart : (n : Name) → bears ys n ≡ true → bears xs n ≡ false
    names_apart = not_both
