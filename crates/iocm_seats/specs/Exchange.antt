-- Seats that are exchanged: those of altered subchannels go, and those of given live records come,
-- with what is seen there now.
use Rattle.std.specs.Prelude.{◌≡◌, ◌&&◌, not, T, Option, None, Some, List, fold, is_some}
use Rattle.std.specs.Option.{option_eq, unwrap_or}
use Rattle.std.specs.FinMap.{get, insert, remove, find, from_sorted, is_sorted}
use Rattle.iocm_types.specs.declared.live.Live.{Live}
use Rattle.iocm_types.specs.declared.sub_id.SubId.{SubId}
use Rattle.iocm_types.specs.declared.view.View.{View}
use Rattle.iocm_types.specs.SubId.{sub_id_cmp}
use Rattle.iocm_model.specs.Operation.State.{Lives, Views, is_among}
use Rattle.iocm_model.specs.Change.Edit.{same_view, lives_after_edit}
use Rattle.iocm_seats.specs.Seated.{Seats, views_seated, lives_seated}

-- a row with the live record that its subchannel has, if it has one
abbrev pub met : Lives → SubId × Live → SubId × Live
met lives row = (row.0, unwrap_or (get lives row.0) row.1)

-- the seats with one more, if anything is seen at its subchannel
abbrev pub seat_given : Seats → SubId → Live → Option View → Seats
seat_given seats x l None = seats
seat_given seats x l (Some v) = insert seats x (record { view = v; live = l })

abbrev pub given : Views → Seats → SubId × Live → Seats
given w seats row = seat_given seats row.0 row.1 (get w row.0)

-- the seats without those at these subchannels, and with those of these live records, each with
-- what is seen there
abbrev pub exchanged : Views → Seats → List SubId → List (SubId × Live) → Seats
exchanged w seats out back = fold (given w) (fold remove seats out) back

-- what is exchanged where what is seen changes: the seats that are there and altered go, and each
-- that is altered and has a view afterwards comes with a live record
pub record IsExchange (v w : Views) (out : List SubId) (back : List (SubId × Live)) : Type 0 where
  pub out_exactly : (x : SubId) → is_among x out ≡ (not (option_eq same_view (get v x) (get w x)) && is_some (get v x))
  pub back_exactly : (x : SubId)
      → is_some (find sub_id_cmp x back) ≡ (not (option_eq same_view (get v x) (get w x)) && is_some (get w x))
  pub apart : T (is_sorted sub_id_cmp back)

-- seats that are so exchanged show the new views, and have the live records after an edit that
-- brings these
abbrev pub ExchangedSeatsShow : Type 0
ExchangedSeatsShow = (seats : Seats) (w : Views) (out : List SubId) (back : List (SubId × Live))
    → IsExchange (views_seated seats) w out back
    → views_seated (exchanged w seats out back) ≡ w

abbrev pub ExchangedSeatsLive : Type 0
ExchangedSeatsLive = (seats : Seats) (w : Views) (out : List SubId) (back : List (SubId × Live))
    → IsExchange (views_seated seats) w out back
    → lives_seated (exchanged w seats out back)
    ≡ lives_after_edit (views_seated seats) w (from_sorted back) (lives_seated seats)
