-- What is written through the loan of a slot, as a change of the rows.
use Rattle.std.proofs.Common.{◌≡◌, ℕ, ◌+◌, ◌-◌, Bool, true, false, cond, not, Option, None, Some, OnSome, is_some, refl}
use Rattle.std.proofs.Common.{sym, ap, subst, ◌∙◌}
use Rattle.std.specs.Option.{option_flatten}
use Rattle.std.specs.Ordering.{eq_by_cmp}
use Rattle.std.specs.FinMap.{get, len, insert, remove, contains_key, get-insert, get-remove}
use Rattle.iocm_types.specs.declared.sub_id.SubId.{SubId}
use Rattle.iocm_types.specs.SubId.{sub_id_cmp}
use Rattle.iocm_types.specs.KeyOrder.{sub_ids_total, sub_ids_exact}
use Rattle.iocm_grid.specs.Levels.{Levels, slot_at, written}
use Rattle.iocm_grid.specs.Gridded.{Gridded, Rows, IsInRange, IsCounted, gridded, rows_in, places_in}
use Rattle.iocm_grid.specs.Lent.{IsChangedAt, IsUnchanged}
use Rattle.iocm_grid.proofs.Looking.{row_at, equal_is}
use Rattle.iocm_grid.proofs.Writing.{put_in, taken_out, untaken, places_after}
use Rattle.iocm_grid.proofs.Counting.{counted_in, counted_out, same_with, same_without}

-- what holds where something is there holds of what is there
pub given : {B P : Type 0} (r : Option B) (b : B) → r ≡ Some b → OnSome r P → P
given None b is holds = cc
given (Some x) b is holds = holds

-- rows stay rows of subchannels
module _ {X : Type 0} (rows : Rows X) (x : SubId)
    (in_range : (q : SubId) → contains_key rows q ≡ true → IsInRange q) where
  range_in : IsInRange x → (row : X) (q : SubId) → contains_key (insert rows x row) q ≡ true → IsInRange q
  range_in in_x row q has = by (eq_by_cmp sub_id_cmp q x) refl
    where
      by : (b : Bool) → eq_by_cmp sub_id_cmp q x ≡ b → IsInRange q
      by true is = subst IsInRange (sym (sub_ids_exact q x (equal_is _ is))) in_x
      by false is = in_range q
          (sym (ap is_some (get-insert sub_ids_total rows x row q ∙ ap (λ b. cond b (Some row) (get rows q)) is)) ∙ has)

  range_out : (q : SubId) → contains_key (remove rows x) q ≡ true → IsInRange q
  range_out q has = by (eq_by_cmp sub_id_cmp q x) refl
    where
      by : (b : Bool) → eq_by_cmp sub_id_cmp q x ≡ b → IsInRange q
      by true is =
          let bad : false ≡ true =
          sym (ap is_some (get-remove sub_ids_total rows x q ∙ ap (λ b. cond b None (get rows q)) is)) ∙ has in cc
      by false is = in_range q
          (sym (ap is_some (get-remove sub_ids_total rows x q ∙ ap (λ b. cond b None (get rows q)) is)) ∙ has)

module _ {X : Type 0} (levels now : Levels X) (x : SubId) (in_x : IsInRange x) (old : Option X)
    (found : slot_at levels x ≡ Some old) (count : ℕ) (is : IsCounted levels count) where
  there : is_some (slot_at levels x) ≡ true
  there = ap is_some found

  pub had_row : old ≡ get (rows_in levels) x
  had_row = sym (row_at levels x ∙ ap option_flatten found)

  -- a row is written
  pub row_written : (w : X) → now ≡ written levels x (Some w) → rows_in now ≡ insert (rows_in levels) x w
  row_written w is_now = ap rows_in is_now ∙ put_in levels x in_x there w

  pub row_counted : (w : X) (is_new : Bool) → is_some old ≡ not is_new → now ≡ written levels x (Some w)
      → IsCounted now (count + cond is_new 1 0)
  row_counted w is_new new is_now = record {
    counted = counted_in (rows_in levels) x old had_row count is.counted w is_new new
        ∙ ap len (sym (row_written w is_now));
    in_range = λ q has. range_in (rows_in levels) x is.in_range in_x w q
        (ap (λ rows. contains_key rows q) (sym (row_written w is_now)) ∙ has);
  }

  -- a slot is emptied
  pub row_taken : now ≡ written levels x None → rows_in now ≡ remove (rows_in levels) x
  row_taken is_now = ap rows_in is_now ∙ taken_out levels x in_x there

  pub taken_counted : (was : Bool) → was ≡ is_some old → now ≡ written levels x None
      → IsCounted now (count - cond was 1 0)
  taken_counted was had is_now = record {
    counted = counted_out (rows_in levels) x old had_row count is.counted was had ∙ ap len (sym (row_taken is_now));
    in_range = λ q has. range_out (rows_in levels) x is.in_range q
        (ap (λ rows. contains_key rows q) (sym (row_taken is_now)) ∙ has);
  }

  -- places stay
  pub places_stay : (w : Option X) → now ≡ written levels x w → places_in now ≡ places_in levels
  places_stay w is_now = ap places_in is_now ∙ places_after levels x w

-- a row that is lent is written over; an empty slot stays empty
module _ {X : Type 0} (levels now : Levels X) (x : SubId) (in_x : IsInRange x) (g : Gridded X)
    (seen : gridded levels ≡ g) (count : ℕ) (is : IsCounted levels count) where
  pub lent_changed : (row w : X) → slot_at levels x ≡ Some (Some row) → now ≡ written levels x (Some w)
      → IsChangedAt g x (gridded now) w
  lent_changed row w found is_now = record {
    rows = row_written levels now x in_x (Some row) found count is w is_now
        ∙ ap (λ (h : Gridded X). insert h.rows x w) seen;
    places = places_stay levels now x in_x (Some row) found count is (Some w) is_now
        ∙ ap (λ (h : Gridded X). h.places) seen;
  }

  pub lent_counted : (row w : X) → slot_at levels x ≡ Some (Some row) → now ≡ written levels x (Some w)
      → IsCounted now count
  lent_counted row w found is_now =
      let more = row_counted levels now x in_x (Some row) found count is w false refl is_now in
      record { counted = same_with count _ more.counted; in_range = more.in_range }

  pub none_changed : slot_at levels x ≡ Some None → now ≡ written levels x None → IsUnchanged g (gridded now)
  none_changed found is_now = record {
    rows = row_taken levels now x in_x None found count is is_now ∙ sym (untaken levels x (ap option_flatten found))
        ∙ ap (λ (h : Gridded X). h.rows) seen;
    places = places_stay levels now x in_x None found count is None is_now ∙ ap (λ (h : Gridded X). h.places) seen;
  }

  pub none_counted : slot_at levels x ≡ Some None → now ≡ written levels x None → IsCounted now count
  none_counted found is_now =
      let less = taken_counted levels now x in_x None found count is false refl is_now in
      record { counted = same_without count _ less.counted; in_range = less.in_range }
