-- The machine at opening: its seats show what is seen and have fresh live records.
use Rattle.std.proofs.Common.{◌≡◌, Bool, true, false, cond, List, [], ◌∷◌, map, Option, Some, None, refl, sym, ap}
use Rattle.std.proofs.Common.{subst, ◌∙◌}
use Rattle.std.specs.Option.{option_map}
use Rattle.std.specs.Ordering.{eq_by_cmp}
use Rattle.std.specs.FinMap.{get, find, from_entries, same_map, get-from_entries}
use Rattle.iocm_types.specs.declared.naming.Naming.{Naming}
use Rattle.iocm_types.specs.declared.sub_id.SubId.{SubId}
use Rattle.iocm_types.specs.declared.view.View.{View}
use Rattle.iocm_types.specs.SubId.{sub_id_cmp}
use Rattle.iocm_types.specs.KeyOrder.{sub_ids_total, sub_ids_exact}
use Rattle.iocm_table.specs.Slots.{Stored}
use Rattle.iocm_model.specs.Machine.Configuration.{Configuration, IsKeyed}
use Rattle.iocm_model.specs.Machine.Numbering.{Numbering, AreNumbersOf, opening}
use Rattle.iocm_model.specs.Machine.View.{views}
use Rattle.iocm_model.specs.Operation.Orders.{fresh}
use Rattle.iocm_model.specs.Operation.State.{fresh_row, opening_state}
use Rattle.iocm_model.proofs.Numbers.Opening.{opening_are_numbers}
use Rattle.iocm_lookup.specs.Indexed.{IsIndexOf}
use Rattle.iocm_seats.specs.declared.seat.Seat.{Seat}
use Rattle.iocm_seats.specs.Seated.{Seats, views_seated, lives_seated, fresh_seat}
use Rattle.iocm_seats.proofs.Settled.{view_in, live_in, view_seated, live_seated}
use Rattle.iocm_plant.specs.Operating.{IsOperating, state_of}

turned : {X Y : Type 0} (f : X → Y) (b : Bool) (x : X) (o : Option X)
    → cond b (Some (f x)) (option_map f o) ≡ option_map f (cond b (Some x) o)
turned f true x o = refl
turned f false x o = refl

abbrev seat_of : View → Seat
seat_of v = record { view = v; live = fresh v.pim }

find_seat : (x : SubId) (rows : List (SubId × View))
    → find sub_id_cmp x (map fresh_seat rows) ≡ option_map seat_of (find sub_id_cmp x rows)
find_seat x [] = refl
find_seat x (row ∷ rows) = ap (cond (eq_by_cmp sub_id_cmp x row.0) (Some (seat_of row.1))) (find_seat x rows)
    ∙ turned seat_of (eq_by_cmp sub_id_cmp x row.0) row.1 (find sub_id_cmp x rows)

find_live : (x : SubId) (rows : List (SubId × View))
    → find sub_id_cmp x (map fresh_row rows) ≡ option_map (λ (v : View). fresh v.pim) (find sub_id_cmp x rows)
find_live x [] = refl
find_live x (row ∷ rows) = ap (cond (eq_by_cmp sub_id_cmp x row.0) (Some (fresh row.1.pim))) (find_live x rows)
    ∙ turned (λ (v : View). fresh v.pim) (eq_by_cmp sub_id_cmp x row.0) row.1 (find sub_id_cmp x rows)

view_of_seat : (o : Option View) → view_in (option_map seat_of o) ≡ o
view_of_seat None = refl
view_of_seat (Some v) = refl

live_of_seat : (o : Option View) → live_in (option_map seat_of o) ≡ option_map (λ (v : View). fresh v.pim) o
live_of_seat None = refl
live_of_seat (Some v) = refl

module _ (rows : List (SubId × View)) (seats : Seats) (is : seats ≡ from_entries (map fresh_seat rows)) where
  seat_at : (x : SubId) → get seats x ≡ option_map seat_of (find sub_id_cmp x rows)
  seat_at x = ap (λ (m : Seats). get m x) is ∙ get-from_entries sub_ids_total (map fresh_seat rows) x ∙ find_seat x rows

  -- they show what is seen
  pub fresh_seats_show : views_seated seats ≡ from_entries rows
  fresh_seats_show = same_map sub_ids_total sub_ids_exact _ _ (λ x.
      view_seated seats x ∙ ap view_in (seat_at x) ∙ view_of_seat (find sub_id_cmp x rows)
      ∙ sym (get-from_entries sub_ids_total rows x))

  -- and have fresh live records
  pub fresh_seats_live : lives_seated seats ≡ from_entries (map fresh_row rows)
  fresh_seats_live = same_map sub_ids_total sub_ids_exact _ _ (λ x.
      live_seated seats x ∙ ap live_in (seat_at x) ∙ live_of_seat (find sub_id_cmp x rows) ∙ sym (find_live x rows)
      ∙ sym (get-from_entries sub_ids_total (map fresh_row rows) x))

module _ (c : Configuration) (n : Numbering) (index : Stored Naming (Unit {0})) (seats : Seats) (keyed : IsKeyed c)
    (first : n ≡ opening c)
    (indexed : IsIndexOf c index)
    (is : seats ≡ from_entries (map fresh_seat (views c n))) where
  pub opens : IsOperating c n index seats
  opens = record {
    keyed = keyed;
    numbered = subst (AreNumbersOf c) (sym first) (opening_are_numbers c);
    indexed = indexed;
    seated = fresh_seats_show (views c n) seats is;
  }

  pub opening_is : state_of c n seats ≡ opening_state c
  opening_is = λ i. record {
    config = c;
    numbers = first i;
    lives = (fresh_seats_live (views c n) seats is ∙ (λ j. from_entries (map fresh_row (views c (first j))))) i;
  }
