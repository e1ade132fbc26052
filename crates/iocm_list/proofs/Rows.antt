-- The rows of the records of a kind that pass a test, one record after the other.
use Rattle.std.proofs.Common.{◌≡◌, Bool, true, false, cond, Option, None, Some, List, [], ◌∷◌, ◌++◌, map, filter}
use Rattle.std.proofs.Common.{append_assoc, refl, sym, ap, ◌∙◌}
use Rattle.std.specs.List.{cons_option, filter_map}
use Rattle.iocm_model.specs.Machine.Record.{Rec}

module _ {A B : Type 0} (as_one : Rec → Option A) (test : A → Bool) (row : A → B) where
  -- the rows of those that pass
  abbrev pub rows : List Rec → List B
  rows rs = map row (filter test (filter_map as_one rs))

  pub rows_more : (r : Rec) (rs : List Rec) → rows (r ∷ rs) ≡ rows (r ∷ []) ++ rows rs
  rows_more r rs = by (as_one r)
    where
      passing : (b : Bool) (x : A) (xs : List A)
          → map row (cond b (x ∷ xs) xs) ≡ map row (cond b (x ∷ []) []) ++ map row xs
      passing true x xs = refl
      passing false x xs = refl

      by : (o : Option A) → map row (filter test (cons_option o (filter_map as_one rs)))
          ≡ map row (filter test (cons_option o [])) ++ rows rs
      by None = refl
      by (Some x) = passing (test x) x (filter test (filter_map as_one rs))

  -- the rows of one
  pub one_row : (x : A) → cond (test x) (row x ∷ []) [] ≡ map row (cond (test x) (x ∷ []) [])
  one_row x = by (test x)
    where
      by : (b : Bool) → cond b (row x ∷ []) [] ≡ map row (cond b (x ∷ []) [])
      by true = refl
      by false = refl

  -- a walk over records: with the rows of those that are left, the rows so far are all
  pub next_row : (front next : List B) (r : Rec) (left before : List Rec) (all : List B) → next ≡ front ++ rows (r ∷ [])
      → before ≡ r ∷ left → front ++ rows before ≡ all → next ++ rows left ≡ all
  next_row front next r left before all put steps known = ap (λ (l : List B). l ++ rows left) put
      ∙ append_assoc front (rows (r ∷ [])) (rows left)
      ∙ ap (λ (l : List B). front ++ l) (sym (rows_more r left) ∙ ap rows (sym steps)) ∙ known
