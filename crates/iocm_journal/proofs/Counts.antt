-- How many changes stand, when one is kept, undone or redone.
use Rattle.std.proofs.Common.{◌≡◌, ℕ, zero, suc, ◌+◌, ◌-◌, ◌≤◌, true, false, cond, Some, List, [], ◌∷◌, ◌++◌}
use Rattle.std.proofs.Common.{get_or, set, sym, ap, ◌∙◌, arith}
use Rattle.std.proofs.lemmas.List.Sums.{sum_by-set, sum_by_push}
use Rattle.std.proofs.lemmas.Option.{slice_get_within}
use Rattle.std.specs.List.{slice_get}
use Rattle.iocm_journal.specs.Journaled.{count_standing}
use Rattle.iocm_journal.specs.Moving.{no_more, again}
use Rattle.iocm_journal.specs.Standing.{stands_at}
use Rattle.iocm_journal.specs.declared.kept.Kept.{Kept}
use Rattle.iocm_journal.proofs.Places.{stands_item, stands_low}

-- one change counts as 1 where it stands
abbrev counted : Kept → ℕ
counted k = cond k.stands 1 0

-- an item that is there is the one that is read
read : {A : Type 0} (xs : List A) (n : ℕ) (x : A) → slice_get xs n ≡ Some x → get_or xs n x ≡ x
read [] n x is = cc
read (y ∷ xs) zero x is = cc
read (y ∷ xs) (suc n) x is = read xs n x is

count_set : (ks : List Kept) (place : ℕ) (k x : Kept) → slice_get ks place ≡ Some k
    → count_standing (set ks place x) + counted k ≡ count_standing ks + counted x
count_set ks place k x at_k = ap (λ z. count_standing (set ks place x) + counted z) (sym (read ks place k at_k))
    ∙ sum_by-set counted ks place x k (slice_get_within ks place k at_k)

count_less : (ks : List Kept) (place n : ℕ) (k : Kept) → slice_get ks place ≡ Some k → k.stands ≡ true
    → count_standing (set ks place (no_more n k)) + 1 ≡ count_standing ks
count_less ks place n k at_k on =
    let changed = count_set ks place k (no_more n k) at_k in let one : counted k ≡ 1 = ap (λ b. cond b 1 0) on in
    omega (arith, changed, one)

count_again : (ks : List Kept) (place : ℕ) (k : Kept) → slice_get ks place ≡ Some k → k.stands ≡ false
    → count_standing (set ks place (again k)) ≡ count_standing ks + 1
count_again ks place k at_k off =
    let changed = count_set ks place k (again k) at_k in let none : counted k ≡ 0 = ap (λ b. cond b 1 0) off in
    omega (arith, changed, none)

pub count_accepted : (ks : List Kept) (k : Kept) → k.stands ≡ true
    → count_standing (ks ++ k ∷ []) ≡ count_standing ks + 1
count_accepted ks k on = sum_by_push counted ks k ∙ ap (λ b. count_standing ks + cond b 1 0) on

-- where one stands, some do
some_stand : (ks : List Kept) (place : ℕ) → stands_at ks place ≡ true → 1 ≤ count_standing ks
some_stand ks place stands =
    let l = stands_low ks place stands in let less = count_less ks place 0 l.0 l.1 l.2 in omega (arith, less)

-- ---- a number of those that stand, when one of them is undone, or another redone

module _ {ks vs : List Kept} (same : ks ≡ vs) (standing : ℕ) (is : standing ≡ count_standing ks) (place : ℕ) where
  counts : standing ≡ count_standing vs
  counts = is ∙ ap count_standing same

  pub stands_one : stands_at vs place ≡ true → 1 ≤ standing
  stands_one stands = let some = some_stand vs place stands in let all = counts in omega (arith, some, all)

  pub stands_less : (n : ℕ) (k : Kept) → slice_get vs place ≡ Some k → stands_at vs place ≡ true
      → standing - 1 ≡ count_standing (set ks place (no_more n k))
  stands_less n k at_k stands =
      let less = count_less vs place n k at_k (sym (stands_item vs place k at_k) ∙ stands) in
      let all = counts in
      let left : standing - 1 ≡ count_standing (set vs place (no_more n k)) = omega (arith, all, less) in
      left ∙ sym (ap (λ xs. count_standing (set xs place (no_more n k))) same)

  pub stands_more : (k : Kept) → slice_get vs place ≡ Some k → stands_at vs place ≡ false
      → standing + 1 ≡ count_standing (set ks place (again k))
  stands_more k at_k undone =
      ap (λ n. n + 1) counts ∙ sym (count_again vs place k at_k (sym (stands_item vs place k at_k) ∙ undone))
      ∙ sym (ap (λ xs. count_standing (set xs place (again k))) same)
