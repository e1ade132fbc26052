-- Seats of which those that are altered are exchanged: they show what is seen now, and have the
-- live records after the edit.
use Rattle.std.proofs.Common.{◌≡◌, Bool, true, false, cond, not, ◌&&◌, List, [], ◌∷◌, Option, Some, None, is_some, T}
use Rattle.std.proofs.Common.{refl, sym, ap, ◌∙◌}
use Rattle.std.specs.List.{fold}
use Rattle.std.specs.Option.{option_eq}
use Rattle.std.specs.Ordering.{eq_by_cmp}
use Rattle.std.specs.FinMap.{get, remove, find, from_sorted, is_sorted, same_map, get-insert, get-from_sorted}
use Rattle.iocm_types.specs.declared.live.Live.{Live}
use Rattle.iocm_types.specs.declared.sub_id.SubId.{SubId}
use Rattle.iocm_types.specs.declared.view.View.{View}
use Rattle.iocm_types.specs.SubId.{sub_id_cmp}
use Rattle.iocm_types.specs.KeyOrder.{sub_ids_total, sub_ids_exact}
use Rattle.iocm_types.proofs.Entries.{not_found}
use Rattle.iocm_types.proofs.Found.{same_key}
use Rattle.iocm_types.proofs.Tests.{first_holds, second_holds, absent}
use Rattle.iocm_model.specs.Operation.State.{Views, is_among}
use Rattle.iocm_model.specs.Change.Edit.{same_view, lives_after_edit}
use Rattle.iocm_model.proofs.Change.Lives.{left_at, lives_after_edit_at, same_keeps}
use Rattle.iocm_model.proofs.Change.SameViews.{sight_is}
use Rattle.iocm_seats.specs.declared.seat.Seat.{Seat}
use Rattle.iocm_seats.specs.Seated.{Seats, views_seated, lives_seated}
use Rattle.iocm_seats.specs.Exchange.{seat_given, given, exchanged, IsExchange, ExchangedSeatsShow, ExchangedSeatsLive}
use Rattle.iocm_seats.proofs.Maps.{get_without}
use Rattle.iocm_seats.proofs.Settled.{view_in, live_in, view_seated, live_seated, both_there}

-- the seat of a subchannel once seats are given: with the live record that is given for it and what
-- is seen there, if both are there
abbrev seat_with : Option Live → Option View → Option Seat → Option Seat
seat_with (Some l) (Some v) o = Some (record { view = v; live = l })
seat_with (Some l) None o = o
seat_with None v o = o

one_given : (x : SubId) (l : Live) (o : Option View) (m : Seats) (q : SubId)
    → get (seat_given m x l o) q ≡ cond (eq_by_cmp sub_id_cmp q x) (seat_with (Some l) o (get m q)) (get m q)
one_given x l None m q = by (eq_by_cmp sub_id_cmp q x)
  where
    by : (b : Bool) → get m q ≡ cond b (get m q) (get m q)
    by true = refl
    by false = refl
one_given x l (Some v) m q = get-insert sub_ids_total m x (record { view = v; live = l }) q

given_by : (w : Views) (row : SubId × Live) (rest : Option Live) (o : Option Seat) (q : SubId) (b : Bool)
    → eq_by_cmp sub_id_cmp q row.0 ≡ b
    → (b ≡ true → rest ≡ None)
    → seat_with rest (get w q) (cond b (seat_with (Some row.1) (get w row.0) o) o)
    ≡ seat_with (cond b (Some row.1) rest) (get w q) o
given_by w row rest o q true tied none =
    let same : q ≡ row.0 = same_key sub_id_cmp sub_ids_exact q row.0 tied in
    ap (λ r. seat_with r (get w q) (seat_with (Some row.1) (get w row.0) o)) (none refl)
    ∙ ap (λ z. seat_with (Some row.1) (get w z) o) (sym same)
given_by w row rest o q false other none = refl

get_given : (w : Views) (m : Seats) (rows : List (SubId × Live)) → T (is_sorted sub_id_cmp rows) → (q : SubId)
    → get (fold (given w) m rows) q ≡ seat_with (find sub_id_cmp q rows) (get w q) (get m q)
get_given w m [] up q = refl
get_given w m (row ∷ rows) up q =
    get_given w (given w m row) rows (second_holds _ _ up) q
    ∙ ap (seat_with (find sub_id_cmp q rows) (get w q)) (one_given row.0 row.1 (get w row.0) m q)
    ∙ given_by w row (find sub_id_cmp q rows) (get m q) q (eq_by_cmp sub_id_cmp q row.0) refl
    (λ tied. ap (λ k. find sub_id_cmp k rows) (same_key sub_id_cmp sub_ids_exact q row.0 tied)
    ∙ not_found sub_id_cmp row.0 rows (first_holds _ _ up))

-- the seat of a subchannel once seats are exchanged
seat_exchanged : (seats : Seats) (w : Views) (out : List SubId) (back : List (SubId × Live))
    → T (is_sorted sub_id_cmp back) → (x : SubId)
    → get (exchanged w seats out back) x
    ≡ seat_with (find sub_id_cmp x back) (get w x) (cond (is_among x out) None (get seats x))
seat_exchanged seats w out back up x = get_given w (fold remove seats out) back up x
    ∙ ap (seat_with (find sub_id_cmp x back) (get w x)) (get_without sub_ids_total sub_ids_exact seats out x)

-- at one subchannel: old its seat, new what is seen now, k the live record that is given
module _ (old : Option Seat) where
  shown_at : (b : Bool) (new : Option View) (k : Option Live) (out : Bool) → option_eq same_view (view_in old) new ≡ b
      → out ≡ (not b && is_some (view_in old)) → is_some k ≡ (not b && is_some new)
      → view_in (seat_with k new (cond out None old)) ≡ new
  shown_at true new k out same goes comes =
      ap (λ (o : Option Live). view_in (seat_with o new (cond out None old))) (absent k comes)
      ∙ ap (λ t. view_in (cond t None old)) goes ∙ sight_is (view_in old) new same
  shown_at false None (Some l) out other goes comes = absurd (no comes)
    where
      no : true ≡ false → ⊥
      no e = cc
  shown_at false None None out other goes comes = ap (λ t. view_in (cond t None old)) goes ∙ emptied old
    where
      emptied : (o : Option Seat) → view_in (cond (is_some (view_in o)) None o) ≡ None
      emptied None = refl
      emptied (Some s) = refl
  shown_at false (Some v) (Some l) out other goes comes = refl
  shown_at false (Some v) None out other goes comes = absurd (no comes)
    where
      no : false ≡ true → ⊥
      no e = cc

  lived_at : (b : Bool) (new : Option View) (k : Option Live) (out : Bool) → option_eq same_view (view_in old) new ≡ b
      → out ≡ (not b && is_some (view_in old)) → is_some k ≡ (not b && is_some new)
      → live_in (seat_with k new (cond out None old)) ≡ left_at (view_in old) new k (live_in old)
  lived_at true new k out same goes comes =
      ap (λ (o : Option Live). live_in (seat_with o new (cond out None old))) (absent k comes)
      ∙ ap (λ t. live_in (cond t None old)) goes
      ∙ sym (same_keeps (view_in old) new k (live_in old) same (both_there old))
  lived_at false None (Some l) out other goes comes = absurd (no comes)
    where
      no : true ≡ false → ⊥
      no e = cc
  lived_at false None None out other goes comes = ap (λ t. live_in (cond t None old)) goes ∙ emptied old
    where
      emptied : (o : Option Seat) → live_in (cond (is_some (view_in o)) None o) ≡ None
      emptied None = refl
      emptied (Some s) = refl
  lived_at false (Some v) (Some l) out other goes comes = rw other refl
  lived_at false (Some v) None out other goes comes = absurd (no comes)
    where
      no : false ≡ true → ⊥
      no e = cc

-- the live record that is given
found_given : (back : List (SubId × Live)) → T (is_sorted sub_id_cmp back) → (x : SubId)
    → get (from_sorted {R = sub_id_cmp} back) x ≡ find sub_id_cmp x back
found_given back up x = get-from_sorted sub_id_cmp back x up

module _ (seats : Seats) (w : Views) (out : List SubId) (back : List (SubId × Live))
    (h : IsExchange (views_seated seats) w out back) (x : SubId) where
  goes_at : is_among x out
      ≡ (not (option_eq same_view (view_in (get seats x)) (get w x)) && is_some (view_in (get seats x)))
  goes_at = h.out_exactly x ∙ ap (λ v. not (option_eq same_view v (get w x)) && is_some v) (view_seated seats x)

  comes_at : is_some (find sub_id_cmp x back)
      ≡ (not (option_eq same_view (view_in (get seats x)) (get w x)) && is_some (get w x))
  comes_at = h.back_exactly x
      ∙ ap (λ v. not (option_eq same_view v (get w x)) && is_some (get w x)) (view_seated seats x)

  pub view_there : get (views_seated (exchanged w seats out back)) x ≡ get w x
  view_there = view_seated (exchanged w seats out back) x ∙ ap view_in (seat_exchanged seats w out back h.apart x)
      ∙ shown_at (get seats x) (option_eq same_view (view_in (get seats x)) (get w x)) (get w x)
      (find sub_id_cmp x back) (is_among x out) refl goes_at comes_at

  pub live_there : get (lives_seated (exchanged w seats out back)) x
      ≡ get (lives_after_edit (views_seated seats) w (from_sorted back) (lives_seated seats)) x
  live_there = live_seated (exchanged w seats out back) x ∙ ap live_in (seat_exchanged seats w out back h.apart x)
      ∙ lived_at (get seats x) (option_eq same_view (view_in (get seats x)) (get w x)) (get w x)
      (find sub_id_cmp x back) (is_among x out) refl goes_at comes_at
      ∙ (λ i. left_at (sym (view_seated seats x) i) (get w x) (sym (found_given back h.apart x) i)
      (sym (live_seated seats x) i))
      ∙ sym (lives_after_edit_at (views_seated seats) w (from_sorted back) (lives_seated seats) x)

pub exchanged_seats_show : ExchangedSeatsShow
exchanged_seats_show seats w out back h = same_map sub_ids_total sub_ids_exact _ _ (view_there seats w out back h)

pub exchanged_seats_live : ExchangedSeatsLive
exchanged_seats_live seats w out back h = same_map sub_ids_total sub_ids_exact _ _ (live_there seats w out back h)
