-- How many rows there are: no more than there can be subchannels, and one more or less after a
-- change.
use Rattle.std.proofs.Common.{◌≡◌, ℕ, zero, suc, ◌+◌, ◌-◌, ◌*◌, ◌<◌, ◌≤◌, Bool, true, false, cond, not, T, List, []}
use Rattle.std.proofs.Common.{◌∷◌, Option, None, Some, is_some, length, refl, sym, ap, ◌∙◌, arith}
use Rattle.std.specs.List.{AllByRecursion}
use Rattle.std.specs.Ordering.{eq_by_cmp, nat_cmp, ordering_then, MatchOrdering}
use Rattle.std.specs.Cmp.{ranks}
use Rattle.std.specs.declared.cmp.Ordering.{Ordering}
use Rattle.std.specs.declared.cmp.Ordering.TheVariants.{Less, Equal, Greater}
use Rattle.std.specs.FinMap.{get, len, entries, insert, remove, contains_key, find, is_sorted, entries_sorted}
use Rattle.std.specs.FinMap.{get-entries, get-empty, len-entries, len-insert, len-remove, empty_of_len}
use Rattle.std.specs.FinMap.Entries.{below_all}
use Rattle.iocm_types.specs.declared.sub_id.SubId.{SubId}
use Rattle.iocm_types.specs.SubId.{sub_id_cmp}
use Rattle.iocm_types.specs.KeyOrder.{sub_ids_total}
use Rattle.iocm_types.proofs.Tests.{first_holds, second_holds}
use Rattle.iocm_types.proofs.Orderings.{less_is}
use Rattle.iocm_grid.specs.Gridded.{Rows, IsInRange}
use Rattle.iocm_grid.proofs.Looking.{tied}

-- a number for each subchannel, in their order
rank : SubId → ℕ
rank x = x.image.css * 4194304 + x.image.mif * 262144 + x.set * 65536 + x.number

rises_by : (a b : SubId) → IsInRange a → IsInRange b → (p q r s : Ordering)
    → MatchOrdering p (a.image.css < b.image.css) (a.image.css ≡ b.image.css) (b.image.css < a.image.css)
    → MatchOrdering q (a.image.mif < b.image.mif) (a.image.mif ≡ b.image.mif) (b.image.mif < a.image.mif)
    → MatchOrdering r (a.set < b.set) (a.set ≡ b.set) (b.set < a.set)
    → MatchOrdering s (a.number < b.number) (a.number ≡ b.number) (b.number < a.number)
    → ordering_then (ordering_then p q) (ordering_then r s) ≡ Less → rank a + 1 ≤ rank b
unfolding rank
rises_by a b in_a in_b Less q r s by_css by_mif by_set by_number is =
    let mif = in_a.mif in let set = in_a.set in let number = in_a.number in omega arith
rises_by a b in_a in_b Greater q r s by_css by_mif by_set by_number is = cc
rises_by a b in_a in_b Equal Less r s by_css by_mif by_set by_number is =
    let set = in_a.set in let number = in_a.number in omega arith
rises_by a b in_a in_b Equal Greater r s by_css by_mif by_set by_number is = cc
rises_by a b in_a in_b Equal Equal Less s by_css by_mif by_set by_number is = let number = in_a.number in omega arith
rises_by a b in_a in_b Equal Equal Greater s by_css by_mif by_set by_number is = cc
rises_by a b in_a in_b Equal Equal Equal Less by_css by_mif by_set by_number is = omega arith
rises_by a b in_a in_b Equal Equal Equal Equal by_css by_mif by_set by_number is = cc
rises_by a b in_a in_b Equal Equal Equal Greater by_css by_mif by_set by_number is = cc

rises : (a b : SubId) → IsInRange a → IsInRange b → sub_id_cmp a b ≡ Less → rank a + 1 ≤ rank b
rises a b in_a in_b less = rises_by a b in_a in_b (nat_cmp a.image.css b.image.css) (nat_cmp a.image.mif b.image.mif)
    (nat_cmp a.set b.set) (nat_cmp a.number b.number)
    (ranks a.image.css b.image.css) (ranks a.image.mif b.image.mif) (ranks a.set b.set) (ranks a.number b.number) less

highest : (x : SubId) → IsInRange x → rank x + 1 ≤ 25165824
unfolding rank
highest x is = let css = is.css in let mif = is.mif in let set = is.set in let number = is.number in omega arith

more_by : (is_new : Bool) (c d : ℕ) → cond (not is_new) c (c + 1) ≡ d → c + cond is_new 1 0 ≡ d
more_by true c d e = e
more_by false c d e = omega arith

less_by : (was : Bool) (c d : ℕ) → cond was (c - 1) c ≡ d → c - cond was 1 0 ≡ d
less_by true c d e = e
less_by false c d e = omega arith

module _ {X : Type 0} where
  abbrev InRange : SubId × X → Type 0
  InRange e = IsInRange e.0

  above_all : (x : SubId) → IsInRange x → (es : List (SubId × X)) → T (below_all sub_id_cmp x es)
      → AllByRecursion InRange es
      → AllByRecursion (λ e. rank x + 1 ≤ rank e.0) es
  above_all x is [] below all = tt
  above_all x is (e ∷ es) below all =
      (rises x e.0 is all.0 (less_is _ (first_holds _ _ below)), above_all x is es (second_holds _ _ below) all.1)

  -- rows in order are no more than the ranks from the first one on
  few_from : (low : ℕ) (es : List (SubId × X)) → T (is_sorted sub_id_cmp es) → AllByRecursion InRange es
      → AllByRecursion (λ e. low ≤ rank e.0) es → low ≤ 25165824 → length es + low ≤ 25165824
  few_from low [] sorted all above most = omega arith
  few_from low (e ∷ es) sorted all above most =
      let next = few_from (rank e.0 + 1) es (second_holds _ _ sorted) all.1
      (above_all e.0 all.0 es (first_holds _ _ sorted) all.1) (highest e.0 all.0) in
      let here = above.0 in omega arith

  from_zero : (es : List (SubId × X)) → AllByRecursion (λ e. 0 ≤ rank e.0) es
  from_zero [] = tt
  from_zero (e ∷ es) = (omega arith, from_zero es)

  -- what holds of each key that is found holds of each entry
  later : (b : Bool) (v : X) (r : Option X) → is_some r ≡ true → is_some (cond b (Some v) r) ≡ true
  later true v r is = refl
  later false v r is = is

  each_key : (P : SubId → Type 0) (es : List (SubId × X)) → ((x : SubId) → is_some (find sub_id_cmp x es) ≡ true → P x)
      → AllByRecursion (λ e. P e.0) es
  each_key P [] holds = tt
  each_key P (e ∷ es) holds = (
    holds e.0 (ap (λ b. is_some (cond b (Some e.1) (find sub_id_cmp e.0 es))) (tied e.0)),
    each_key P es (λ x is. holds x (later (eq_by_cmp sub_id_cmp x e.0) e.1 _ is)),
  )

  pub few_rows : (rows : Rows X) → ((x : SubId) → contains_key rows x ≡ true → IsInRange x) → len rows ≤ 25165824
  few_rows rows in_range =
      let all = each_key IsInRange (entries rows) (λ x is. in_range x (ap is_some (get-entries rows x) ∙ is)) in
      let few = few_from 0 (entries rows) (entries_sorted rows) all (from_zero (entries rows)) (omega arith) in
      let counted = len-entries rows in omega arith

  -- a row more, and a row less
  module _ (rows : Rows X) (x : SubId) (before : Option X) (is : before ≡ get rows x) (c : ℕ)
      (counted : c ≡ len rows) where
    pub counted_in : (row : X) (is_new : Bool) → is_some before ≡ not is_new
        → c + cond is_new 1 0 ≡ len (insert rows x row)
    counted_in row is_new new = more_by is_new c _
        (ap (λ d. cond (not is_new) d (d + 1)) counted
        ∙ ap (λ b. cond b (len rows) (len rows + 1)) (sym new ∙ ap is_some is)
        ∙ sym (len-insert sub_ids_total rows x row))

    pub counted_out : (was : Bool) → was ≡ is_some before → c - cond was 1 0 ≡ len (remove rows x)
    counted_out was had = less_by was c _
        (ap (λ d. cond was (d - 1) d) counted ∙ ap (λ b. cond b (len rows - 1) (len rows)) (had ∙ ap is_some is)
        ∙ sym (len-remove sub_ids_total rows x))

    -- there is a row to be taken off where one was there
    pub one_at_least : (was : Bool) → was ≡ is_some before → cond was 1 0 ≤ c
    one_at_least was had = by was c had counted
      where
        by : (b : Bool) (n : ℕ) → b ≡ is_some before → n ≡ len rows → cond b 1 0 ≤ n
        by false n had_b is_n = omega arith
        by true (suc n) had_b is_n = omega arith
        by true zero had_b is_n =
            let none : get rows x ≡ None = ap (λ m. get m x) (empty_of_len rows (sym is_n)) ∙ get-empty sub_id_cmp x in
            let bad : true ≡ false = had_b ∙ ap is_some (is ∙ none) in cc

-- what is counted anew with nothing added
pub same_with : (c d : ℕ) → c + 0 ≡ d → c ≡ d
same_with c d e = omega arith

pub same_without : (c d : ℕ) → c - 0 ≡ d → c ≡ d
same_without c d e = omega arith
