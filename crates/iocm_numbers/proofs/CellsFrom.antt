-- From the first number cell of a channel subsystem on are those of it and of the ones after it.
use Rattle.std.proofs.Common.{◌≡◌, ◌<◌, ℕ, zero, suc, true, nat_le, List, refl, sym, ap, arith}
use Rattle.std.proofs.lemmas.Bool.Decides.{nat_tests}
use Rattle.std.proofs.lemmas.List.Elements.{filter_agree}
use Rattle.std.specs.Cmp.{nat_cmp_is, ranks}
use Rattle.std.specs.Ordering.{is_le, nat_cmp, ordering_then, MatchOrdering}
use Rattle.std.specs.declared.cmp.Ordering.{Ordering}
use Rattle.std.specs.declared.cmp.Ordering.TheVariants.{Less, Equal, Greater}
use Rattle.iocm_types.specs.declared.place.NumberCell.{NumberCell}
use Rattle.iocm_types.specs.Place.{cell_cmp}
use Rattle.iocm_table.specs.Slots.{rows_from}
use Rattle.iocm_numbers.specs.Numbered.{cells_from}

-- no number is before 0
zero_first : (n : ℕ) → is_le (nat_cmp 0 n) ≡ true
zero_first zero = refl
zero_first (suc n) = ap is_le (sym (nat_cmp_is 0 (suc n) Less (omega arith)))

-- also where what comes next decides a tie
zero_first_then : (n : ℕ) (s : Ordering) → is_le s ≡ true → is_le (ordering_then (nat_cmp 0 n) s) ≡ true
zero_first_then zero s le = le
zero_first_then (suc n) s le = ap (λ r. is_le (ordering_then r s)) (sym (nat_cmp_is 0 (suc n) Less (omega arith)))

-- before the first cell of a channel subsystem are those of the channel subsystems before it
first_of : (css : ℕ) (c : NumberCell)
    → is_le (cell_cmp (record { css = css; set = 0; number = 0 }) c) ≡ nat_le css c.css
first_of css c = by (nat_cmp css c.css) (ranks css c.css)
  where
    rest : Ordering
    rest = ordering_then (nat_cmp 0 c.set) (nat_cmp 0 c.number)

    within : is_le rest ≡ true
    within = zero_first_then c.set (nat_cmp 0 c.number) (zero_first c.number)

    by : (o : Ordering) → MatchOrdering o (css < c.css) (css ≡ c.css) (c.css < css)
        → is_le (ordering_then o rest) ≡ nat_le css c.css
    by Less less = grind (arith, nat_tests)
    by Equal same = rw within (grind (arith, nat_tests))
    by Greater more = grind (arith, nat_tests)

pub rows_are_cells : (css : ℕ) (es : List (NumberCell × ℕ))
    → rows_from cell_cmp (record { css = css; set = 0; number = 0 }) es ≡ cells_from css es
rows_are_cells css es = filter_agree _ _ (λ (e : NumberCell × ℕ). first_of css e.0) es
