-- The number cells of a channel subsystem stand together, from its first one on.
use Rattle.std.proofs.Common.{◌≡◌, ◌==◌, ◌<◌, ◌≤◌, ℕ, Bool, true, false, cond, nat_le, List, [], ◌∷◌, ◌++◌, refl, sym}
use Rattle.std.proofs.Common.{ap, ◌∙◌, arith}
use Rattle.std.proofs.lemmas.Bool.Decides.{nat_tests}
use Rattle.std.specs.Cmp.{ranks}
use Rattle.std.specs.FinMap.{FinMap, entries, entries_sorted}
use Rattle.std.specs.FinMap.Entries.{is_sorted-where_key}
use Rattle.std.specs.Ordering.{nat_cmp, ordering_then, MatchOrdering}
use Rattle.std.specs.declared.cmp.Ordering.{Ordering}
use Rattle.std.specs.declared.cmp.Ordering.TheVariants.{Less, Equal, Greater}
use Rattle.iocm_types.specs.declared.place.NumberCell.{NumberCell}
use Rattle.iocm_types.specs.Place.{cell_cmp}
use Rattle.iocm_numbers.specs.Numbered.{cells_from}
use Rattle.iocm_seats.specs.Taken.{cells_in}
use Rattle.iocm_seats.proofs.Everywhere.{of_any, of_passing}
use Rattle.iocm_seats.proofs.Taken.{cells_in-more, other_css}
use Rattle.iocm_seats.proofs.Together.{StandTogether, together}

-- a cell that is none of a channel subsystem is of another
another_css : (css : ℕ) (e : NumberCell × ℕ) → cells_in css (e ∷ []) ≡ [] → (e.0.css == css) ≡ false
another_css css e nothing = by (e.0.css == css) nothing
  where
    by : (b : Bool) → cond b (e ∷ []) [] ≡ [] → b ≡ false
    by true is = cc
    by false is = refl

-- a cell that is before another isn't of a later channel subsystem
pub css_rises : (c d : NumberCell) → cell_cmp c d ≡ Less → c.css ≤ d.css
css_rises c d less = by (nat_cmp c.css d.css) (ranks c.css d.css) less
  where
    by : (o : Ordering) → MatchOrdering o (c.css < d.css) (c.css ≡ d.css) (d.css < c.css)
        → ordering_then o (ordering_then (nat_cmp c.set d.set) (nat_cmp c.number d.number)) ≡ Less → c.css ≤ d.css
    by Less is less = omega (arith, is)
    by Equal is less = omega (arith, is)
    by Greater is less = cc

module _ (css : ℕ) where
  -- a cell that isn't of an earlier channel subsystem
  abbrev IsFrom : NumberCell × ℕ → Type 0
  IsFrom e = nat_le css e.0.css ≡ true

  -- and one that isn't of this one, of which none is left then
  abbrev pub IsPast : NumberCell × ℕ → Type 0
  IsPast e = cells_in css (e ∷ []) ≡ []

  -- behind a cell of a later channel subsystem are no others
  past_rises : (d e : NumberCell × ℕ) → IsFrom d → IsFrom e → IsPast d → cell_cmp d.0 e.0 ≡ Less → IsPast e
  past_rises d e from is_from past less =
      let other = another_css css d past in
      let rises = css_rises d.0 e.0 less in
      other_css css e (grind (arith, nat_tests))

  -- the cells of earlier channel subsystems are none of this one
  pub all_cells : (es : List (NumberCell × ℕ)) → cells_in css (cells_from css es) ≡ cells_in css es
  all_cells [] = refl
  all_cells (e ∷ es) = by (nat_le css e.0.css) refl (all_cells es)
    where
      by : (b : Bool) → nat_le css e.0.css ≡ b → cells_in css (cells_from css es) ≡ cells_in css es
          → cells_in css (cond b (e ∷ cells_from css es) (cells_from css es)) ≡ cells_in css (e ∷ es)
      by true is rest = cells_in-more css e (cells_from css es) ∙ ap (λ xs. cells_in css (e ∷ []) ++ xs) rest
          ∙ sym (cells_in-more css e es)
      by false is rest = rest ∙ ap (λ xs. xs ++ cells_in css es) (sym (other_css css e (grind (arith, nat_tests))))
          ∙ sym (cells_in-more css e es)

  pub cells_together : (m : FinMap cell_cmp ℕ) → StandTogether IsPast (cells_in css) (cells_from css (entries m))
  cells_together m = together cell_cmp (cells_in css) refl (cells_in-more css) IsFrom IsPast (λ e from past. past)
      past_rises (cells_from css (entries m))
      (is_sorted-where_key cell_cmp (λ c. nat_le css c.css) (entries m) (entries_sorted m))
      (of_passing IsFrom (λ e. nat_le css e.0.css) (entries m)
      (of_any (λ e. nat_le css e.0.css ≡ true → IsFrom e) (λ e is. is) (entries m)))
