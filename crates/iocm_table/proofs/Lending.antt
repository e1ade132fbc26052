-- What is written through the loan of a slot, as a change of the rows.
use Rattle.std.proofs.Common.{◌≡◌, ℕ, ◌+◌, ◌-◌, false, Option, None, Some, is_some, refl, sym, ap, ◌∙◌, arith}
use Rattle.std.specs.Option.{option_flatten}
use Rattle.std.specs.Cmp.{IsTotalOrder}
use Rattle.std.specs.declared.cmp.Ordering.{Ordering}
use Rattle.std.specs.BTreeMap.{BTreeMap, get_by, WritesThrough}
use Rattle.std.specs.FinMap.{IsAntisymmetric}
use Rattle.iocm_table.specs.Slots.{Stored, AreCounted}
use Rattle.iocm_table.specs.Lent.{IsChangedAt, IsUnchanged}
use Rattle.iocm_table.proofs.Lookups.{seen_of}
use Rattle.iocm_table.proofs.Writing.{counted_in, counted_out, rows_put, rows_taken, rows_untaken}

-- what is counted anew with nothing added, or with nothing taken off
same_with : (c d : ℕ) → c + 0 ≡ d → c ≡ d
same_with c d e = omega arith

same_without : (c d : ℕ) → c - 0 ≡ d → c ≡ d
same_without c d e = omega arith

module _ {K X : Type 0} {R S : K → K → Ordering} (same : ◌≡◌ {A = K → K → Ordering} R S) (o : IsTotalOrder R)
    (exact : IsAntisymmetric R)
    (m n : BTreeMap K (Option X)) (t : Stored K X) (is : seen_of m ≡ t) (key : K) (c : ℕ)
    (counted : AreCounted R m c) where
  -- a row that is there is written over
  pub row_changed : (row w : X) → Some (Some row) ≡ get_by (R key) m → WritesThrough R (R key) m (Some w) n
      → IsChangedAt S t key (seen_of n) w
  row_changed row w found through = record {
    rows = rows_put same o exact m n t is key counted.rise through.4 w (through.3 (ap is_some (sym found)));
    places = through.1 ∙ ap (λ v. v.places) is;
  }

  pub row_still_counted : (row w : X) → Some (Some row) ≡ get_by (R key) m → WritesThrough R (R key) m (Some w) n
      → AreCounted R n c
  row_still_counted row w found through = record {
    rise = through.4;
    counted = same_with c _ (counted_in o exact m n key counted.rise through.4 w (Some row) false c
        (through.3 (ap is_some (sym found))) found refl counted.counted);
  }

  -- an empty slot stays empty
  pub none_changed : Some None ≡ get_by (R key) m → WritesThrough R (R key) m None n → IsUnchanged S t (seen_of n)
  none_changed found through = record {
    rows = rows_taken same o exact m n t is key counted.rise through.4 (through.3 (ap is_some (sym found)))
        ∙ sym (rows_untaken same o exact m t is key counted.rise (sym (ap option_flatten found)));
    places = through.1 ∙ ap (λ v. v.places) is;
  }

  pub none_still_counted : Some None ≡ get_by (R key) m → WritesThrough R (R key) m None n → AreCounted R n c
  none_still_counted found through = record {
    rise = through.4;
    counted = same_without c _
        (counted_out o exact m n key counted.rise through.4 None false c (through.3 (ap is_some (sym found))) found refl
        counted.counted);
  }
