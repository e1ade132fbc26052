-- Seats that are settled by all changes: they show what is seen afterwards, and have the live
-- records after the edit.
use Rattle.std.proofs.Common.{◌≡◌, Bool, true, false, cond, not, List, [], ◌∷◌, ◌++◌, map, Option, Some, None, is_some}
use Rattle.std.proofs.Common.{refl, sym, ap, ◌∙◌}
use Rattle.std.specs.List.{fold}
use Rattle.std.specs.Option.{option_map, option_eq}
use Rattle.std.specs.FinMap.{get, contains_key, entries, entries_sorted, from_entries, same_map}
use Rattle.iocm_types.specs.declared.live.Live.{Live}
use Rattle.iocm_types.specs.declared.sub_id.SubId.{SubId}
use Rattle.iocm_types.specs.declared.view.View.{View}
use Rattle.iocm_types.specs.SubId.{sub_id_cmp}
use Rattle.iocm_types.specs.KeyOrder.{sub_ids_total, sub_ids_exact}
use Rattle.iocm_model.specs.Operation.State.{Lives, Views}
use Rattle.iocm_model.specs.Change.Edit.{same_view}
use Rattle.iocm_model.specs.Change.Maps.{differing}
use Rattle.iocm_model.proofs.Maps.Cells.{in_differing}
use Rattle.iocm_model.proofs.Change.Lives.{left_at, lives_after_edit_at, same_keeps}
use Rattle.iocm_model.proofs.Change.SameViews.{sight_is}
use Rattle.iocm_seats.specs.declared.seat.Seat.{Seat}
use Rattle.iocm_seats.specs.Seated.{Seats, views_seated, lives_seated}
use Rattle.iocm_seats.specs.Changes.{view_change, changes_between}
use Rattle.iocm_seats.specs.Settling.{seat_after, settled, settled_all, SettledSeatsShow, SettledSeatsLive}
use Rattle.iocm_seats.proofs.Maps.{get_turned, sorted_apart, get_written}

-- what is seen at a seat, and its live record
abbrev pub view_in : Option Seat → Option View
view_in o = option_map (λ (s : Seat). s.view) o

abbrev pub live_in : Option Seat → Option Live
live_in o = option_map (λ (s : Seat). s.live) o

pub view_seated : (seats : Seats) (x : SubId) → get (views_seated seats) x ≡ view_in (get seats x)
view_seated seats x = get_turned sub_id_cmp (λ (s : Seat). s.view) sub_ids_total seats x

pub live_seated : (seats : Seats) (x : SubId) → get (lives_seated seats) x ≡ live_in (get seats x)
live_seated seats x = get_turned sub_id_cmp (λ (s : Seat). s.live) sub_ids_total seats x

-- a list that is turned is gone through as the list
pub fold_turned : {A B C : Type 0} (f : C → B → C) (h : A → B) (z : C) (xs : List A)
    → fold f z (map h xs) ≡ fold (λ (y : C) (x : A). f y (h x)) z xs
fold_turned f h z [] = refl
fold_turned f h z (x ∷ xs) = fold_turned f h (f z (h x)) xs

-- the seat of a subchannel once all changes are settled
seat_left : (seats : Seats) (w : Views) (kept : Lives) (x : SubId)
    → get (settled_all kept seats (changes_between (views_seated seats) w)) x
    ≡ cond (not (option_eq same_view (get (views_seated seats) x) (get w x)))
    (seat_after (get seats x) (get w x) (get kept x)) (get seats x)
seat_left seats w kept x =
    let v = views_seated seats in
    let all = from_entries {R = sub_id_cmp} (entries v ++ entries w) in
    ap (λ (m : Seats). get m x)
    (fold_turned (settled kept) (view_change (get v) (get w)) seats (differing same_view v w))
    ∙ get_written sub_ids_total sub_ids_exact (λ (k : SubId) (o : Option Seat). seat_after o (get w k) (get kept k))
    seats (differing same_view v w)
    (sorted_apart sub_id_cmp (λ (y : SubId). not (option_eq same_view (get v y) (get w y))) (entries all)
    (entries_sorted all)) x
    ∙ ap (λ b. cond b (seat_after (get seats x) (get w x) (get kept x)) (get seats x))
    (in_differing sub_ids_total sub_ids_exact same_view v w x)

-- where nothing is seen afterwards, no live record is needed
pub none_needed : (old : Option Seat) (new : Option View) (kept brought : Option Live) → is_some new ≡ false
    → seat_after old new kept ≡ seat_after old new brought
none_needed old None kept brought none = refl
none_needed old (Some w) kept brought none = cc

view_after : (old : Option Seat) (new : Option View) (kept : Option Live) → view_in (seat_after old new kept) ≡ new
view_after old None kept = refl
view_after old (Some w) kept = refl

shown_by : (b : Bool) (old : Option Seat) (new : Option View) (kept : Option Live)
    → option_eq same_view (view_in old) new ≡ b
    → view_in (cond (not b) (seat_after old new kept) old) ≡ new
shown_by true old new kept same = sight_is (view_in old) new same
shown_by false old new kept other = view_after old new kept

live_after : (old : Option Seat) (new : Option View) (kept : Option Live)
    → option_eq same_view (view_in old) new ≡ false
    → live_in (seat_after old new kept) ≡ left_at (view_in old) new kept (live_in old)
live_after old None kept other = refl
live_after old (Some w) kept other = rw other refl

pub both_there : (old : Option Seat) → is_some (live_in old) ≡ is_some (view_in old)
both_there None = refl
both_there (Some s) = refl

-- a subchannel at which something is seen has a seat
pub seated_by_view : (seats : Seats) (x : SubId) (seen : Option View) → seen ≡ get (views_seated seats) x
    → is_some seen ≡ true → contains_key seats x ≡ true
seated_by_view seats x seen is some = by (get seats x) (is ∙ view_seated seats x)
  where
    by : (o : Option Seat) → seen ≡ view_in o → is_some o ≡ true
    by None h = sym (ap is_some h) ∙ some
    by (Some s) h = refl

lived_by : (b : Bool) (old : Option Seat) (new : Option View) (kept : Option Live)
    → option_eq same_view (view_in old) new ≡ b
    → live_in (cond (not b) (seat_after old new kept) old) ≡ left_at (view_in old) new kept (live_in old)
lived_by true old new kept same = sym (same_keeps (view_in old) new kept (live_in old) same (both_there old))
lived_by false old new kept other = live_after old new kept other

pub settled_seats_show : SettledSeatsShow
settled_seats_show seats w kept = same_map sub_ids_total sub_ids_exact _ _ (λ x.
    view_seated (settled_all kept seats (changes_between (views_seated seats) w)) x
    ∙ ap view_in (seat_left seats w kept x)
    ∙ ap (λ v. view_in (cond (not (option_eq same_view v (get w x))) (seat_after (get seats x) (get w x) (get kept x))
    (get seats x))) (view_seated seats x)
    ∙ shown_by (option_eq same_view (view_in (get seats x)) (get w x)) (get seats x) (get w x) (get kept x) refl)

pub settled_seats_live : SettledSeatsLive
settled_seats_live seats w kept = same_map sub_ids_total sub_ids_exact _ _ (λ x.
    live_seated (settled_all kept seats (changes_between (views_seated seats) w)) x
    ∙ ap live_in (seat_left seats w kept x)
    ∙ ap (λ v. live_in (cond (not (option_eq same_view v (get w x))) (seat_after (get seats x) (get w x) (get kept x))
    (get seats x))) (view_seated seats x)
    ∙ lived_by (option_eq same_view (view_in (get seats x)) (get w x)) (get seats x) (get w x) (get kept x) refl
    ∙ (λ i. left_at (sym (view_seated seats x) i) (get w x) (get kept x) (sym (live_seated seats x) i))
    ∙ sym (lives_after_edit_at (views_seated seats) w kept (lives_seated seats) x))
