-- Which seats bear which names, where a seat comes that bears none, and where a call is published.
use Rattle.std.proofs.Common.{◌≡◌, ℕ, List, [], ◌∷◌, ◌++◌, length, true, false, true≢false, inl, inr, sym, ap, ◌∙◌}
use Rattle.std.proofs.Common.{subst, ⊎_elim, arith}
use mathlib.Core.Option.{some}
use lib.ListN.{get_elem?}
use Rattle.atomic_table.proofs.Lists.{at_longer}
use Rattle.iocm_board.specs.declared.view.Borne.{Borne}
use Rattle.iocm_board.specs.Names.{Name, bears, child, lent, BearsAt, WasLent, NamesKept}
use Rattle.iocm_board.proofs.Lists.{at_end, one_there}
use Rattle.iocm_board.proofs.SameNames.{child_not_nil, child_injective, lent_first, bears_first}

off : false ≡ true → ⊥
off e = true≢false (sym e)

-- a name lent next is new
pub next_is_new : (all : List (List Borne)) (used : List Name) (id : ℕ) (b : Borne) (bs : List Borne)
    → NamesKept all used → get_elem? all id ≡ some (b ∷ bs)
    → (i : ℕ) → BearsAt all i (child b.name b.lent) → ⊥
next_is_new all used id b bs kept here i at = ⊎_elim
    (λ (nil : child b.name b.lent ≡ []). child_not_nil b.name b.lent nil)
    (λ (w : WasLent all (child b.name b.lent)).
    let parts = child_injective b.name w.2 b.lent w.3 w.6 in
    let mine : BearsAt all id w.2 = (b ∷ bs, here, subst (λ p. bears (b ∷ bs) p ≡ true) parts.0 (bears_first b bs)) in
    let theirs : BearsAt all w.0 w.2 = (w.1, w.4, w.5) in
    let one = kept.apart id w.0 w.2 mine theirs in
    let is : w.1 ≡ b ∷ bs = one_there all id w.1 (b ∷ bs) (subst (λ k. get_elem? all k ≡ some w.1) (sym one) w.4)
    here in
    let many : lent w.1 w.2 ≡ b.lent =
    ap (λ x. lent x w.2) is ∙ ap (λ p. lent (b ∷ bs) p) (sym parts.0) ∙ lent_first b bs in
    let low = w.7 in
    let k = parts.1 in
    omega (arith, many, low, k))
    (kept.grown i (child b.name b.lent) at)

bears_longer : (all more : List (List Borne)) (i : ℕ) (n : Name) → BearsAt all i n → BearsAt (all ++ more) i n
bears_longer all more i n at = (at.0, at_longer all more i at.0 at.1, at.2)

lent_longer : (all more : List (List Borne)) (n : Name) → WasLent all n → WasLent (all ++ more) n
lent_longer all more n w = (w.0, w.1, w.2, w.3, at_longer all more w.0 w.1 w.4, w.5, w.6, w.7)

-- a seat that bears no name comes
pub names_idle : (all : List (List Borne)) (used : List Name) → NamesKept all used → NamesKept (all ++ [] ∷ []) used
names_idle all used kept =
    record {
      apart = λ i j n a b. kept.apart i j n (back i n a) (back j n b);
      grown = λ i n a. ⊎_elim (λ e. inl e) (λ w. inr (lent_longer all ([] ∷ []) n w)) (kept.grown i n (back i n a));
      borne = λ k n e. let at = kept.borne k n e in (at.0, bears_longer all ([] ∷ []) at.0 n at.1);
    }
  where
    back : (i : ℕ) (n : Name) → BearsAt (all ++ [] ∷ []) i n → BearsAt all i n
    back i n at = ⊎_elim
        (λ (e : get_elem? all i ≡ some at.0). (at.0, e, at.2))
        (λ (t : (i ≡ length all) × ([] ≡ at.0)). absurd (off (subst (λ bs. bears bs n ≡ true) (sym t.1) at.2)))
        (at_end all [] at.0 i at.1)

-- a call was published under a name that is borne
pub names_publish : (all : List (List Borne)) (used : List Name) (i : ℕ) (n : Name) → NamesKept all used
    → BearsAt all i n → NamesKept all (used ++ n ∷ [])
names_publish all used i n kept at =
    record {
      apart = kept.apart;
      grown = kept.grown;
      borne = λ k m e. ⊎_elim
          (λ (old : get_elem? used k ≡ some m). kept.borne k m old)
          (λ (t : (k ≡ length used) × (n ≡ m)). (i, subst (λ p. BearsAt all i p) t.1 at))
          (at_end used n m k e);
    }
