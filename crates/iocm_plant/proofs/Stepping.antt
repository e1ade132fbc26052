-- A step at a subchannel: its seat has the live record that the step leaves.
use Rattle.std.proofs.Common.{◌≡◌, Bool, true, false, cond, Option, Some, None, refl, sym, ap, subst, ◌∙◌}
use Rattle.std.specs.Option.{option_map, option_zip, OnSome}
use Rattle.std.specs.Ordering.{eq_by_cmp}
use Rattle.std.specs.FinMap.{get, insert, same_map, get-insert}
use Rattle.iocm_types.specs.declared.live.Live.{Live}
use Rattle.iocm_types.specs.declared.sub_id.SubId.{SubId}
use Rattle.iocm_types.specs.SubId.{sub_id_cmp}
use Rattle.iocm_types.specs.KeyOrder.{sub_ids_total, sub_ids_exact}
use Rattle.iocm_types.proofs.Found.{same_key}
use Rattle.iocm_model.specs.Operation.Step.{Step, subchannel_in, live_after_step, lives_after_step, after_step}
use Rattle.iocm_seats.specs.declared.seat.Seat.{Seat}
use Rattle.iocm_seats.specs.Lent.{IsChangedAt}
use Rattle.iocm_seats.specs.Seated.{Seats, Seated, views_seated, lives_seated}
use Rattle.iocm_seats.proofs.Settled.{view_in, live_in, view_seated, live_seated}
use Rattle.iocm_plant.specs.declared.plant.Plant.TheInside.{Inside}
use Rattle.iocm_plant.specs.Operating.{Operating, IsOperating, state_of}
use Rattle.iocm_plant.proofs.Inside.{AreOperating, state_in, operating_in}

-- the loan of a seat that is there has ended
pub changed_seat : {B : Type 0} (lent : Option B) (seat : B) → lent ≡ Some seat
    → (t : Seated) (x : SubId) (u : Seated) (s : Seat)
    → OnSome lent (IsChangedAt t x u s) → IsChangedAt t x u s
changed_seat lent seat is t x u s changed = subst (λ o. OnSome o (IsChangedAt t x u s)) is changed

-- view and live record of a seat that is there, together
zipped : (o : Option Seat) → option_zip (view_in o) (live_in o) ≡ option_map (λ (s : Seat). (s.view, s.live)) o
zipped None = refl
zipped (Some s) = refl

-- a seat with another live record
abbrev seat_with : Seat → Live → Seat
seat_with s l = record { view = s.view; live = l }

module _ (seats : Seats) (x : SubId) (s : Seat) (l : Live) (here : get seats x ≡ Some s) where
  -- the seats with this one changed
  abbrev with_live : Seats
  with_live = insert seats x (seat_with s l)

  -- at each subchannel the same view
  seen_by : (b : Bool) (q : SubId) → eq_by_cmp sub_id_cmp q x ≡ b
      → view_in (cond b (Some (seat_with s l)) (get seats q)) ≡ view_in (get seats q)
  seen_by true q tied = sym
      (ap (λ z. view_in (get seats z)) (same_key sub_id_cmp sub_ids_exact q x tied) ∙ ap view_in here)
  seen_by false q other = refl

  -- the same is seen
  pub seen_as_before : views_seated with_live ≡ views_seated seats
  seen_as_before = same_map sub_ids_total sub_ids_exact _ _ (λ q.
      view_seated with_live q ∙ ap view_in (get-insert sub_ids_total seats x (seat_with s l) q)
      ∙ seen_by (eq_by_cmp sub_id_cmp q x) q refl ∙ sym (view_seated seats q))

  -- and the same live record, but at this one
  lived_by : (b : Bool) (q : SubId)
      → live_in (cond b (Some (seat_with s l)) (get seats q)) ≡ cond b (Some l) (live_in (get seats q))
  lived_by true q = refl
  lived_by false q = refl

  -- the live record is the new one
  pub lives_now : lives_seated with_live ≡ insert (lives_seated seats) x l
  lives_now = same_map sub_ids_total sub_ids_exact _ _ (λ q.
      live_seated with_live q ∙ ap live_in (get-insert sub_ids_total seats x (seat_with s l) q)
      ∙ lived_by (eq_by_cmp sub_id_cmp q x) q
      ∙ ap (cond (eq_by_cmp sub_id_cmp q x) (Some l)) (sym (live_seated seats q))
      ∙ sym (get-insert sub_ids_total (lives_seated seats) x l q))

-- ---- a subchannel that isn't there

-- the tables with other seats
abbrev pub with_seats : Inside → Seated → Inside
with_seats p t = record p { seats = t }

-- what is there at a subchannel
subchannel_is : (p : Inside) → AreOperating p → (x : SubId)
    → subchannel_in (state_in p) x ≡ option_map (λ (s : Seat). (s.view, s.live)) (get p.seats.seats x)
subchannel_is p before x =
    (λ i. option_zip ((ap (λ v. get v x) (sym before.seated) ∙ view_seated p.seats.seats x) i)
    (live_seated p.seats.seats x i))
    ∙ zipped (get p.seats.seats x)

-- what has a place is as it was
room_still : {old : Operating} (p : Inside) (t : Seated) → operating_in p ≡ old → t.places ≡ p.seats.places
    → (operating_in (with_seats p t)).room ≡ old.room
room_still p t is same =
    (λ i. record (operating_in p).room { subchannels = same i }) ∙ ap (λ (k : Operating). k.room) is

-- a subchannel isn't there, and the seats stay as they are
pub record FoundNone (old : Operating) (p : Inside) (x : SubId) (t : Seated) : Type 0 where
  pub is : operating_in p ≡ old
  pub before : AreOperating p
  pub none : get p.seats.seats x ≡ None
  pub same_seats : t.seats ≡ p.seats.seats
  pub same_places : t.places ≡ p.seats.places

module _ {old : Operating} {p : Inside} {x : SubId} {t : Seated} (w : FoundNone old p x t) where
  -- nothing is at it
  pub none_there : subchannel_in old.state x ≡ None
  none_there = ap (λ (k : Operating). subchannel_in k.state x) (sym w.is)
      ∙ subchannel_is p w.before x ∙ ap (option_map (λ (s : Seat). (s.view, s.live))) w.none

  -- what always holds holds still
  pub still_operating : AreOperating (with_seats p t)
  still_operating = subst (IsOperating p.config.records p.numbers.numbers p.index) (sym w.same_seats) w.before

  -- a step changes nothing
  pub state_still : (step : Step) → state_in (with_seats p t) ≡ after_step x step old.state
  state_still step = ap (state_of p.config.records p.numbers.numbers) w.same_seats
      ∙ ap (λ (k : Operating). k.state) w.is
      ∙ sym (ap (λ o. record old.state { lives = lives_after_step x step o old.state.lives }) none_there)

  -- and no place is lost
  pub same_room : (operating_in (with_seats p t)).room ≡ old.room
  same_room = room_still p t w.is w.same_places

-- ---- a subchannel that is there

-- the seat of a subchannel has got another live record
pub record FoundSeat (old : Operating) (p : Inside) (x : SubId) (s : Seat) (l : Live) (t : Seated) : Type 0 where
  pub is : operating_in p ≡ old
  pub before : AreOperating p
  pub here : get p.seats.seats x ≡ Some s
  pub changed : IsChangedAt p.seats x t (seat_with s l)

module _ {old : Operating} {p : Inside} {x : SubId} {s : Seat} {l : Live} {t : Seated}
    (w : FoundSeat old p x s l t) where
  -- its view and its live record are at it
  pub one_there : subchannel_in old.state x ≡ Some (s.view, s.live)
  one_there = ap (λ (k : Operating). subchannel_in k.state x) (sym w.is)
      ∙ subchannel_is p w.before x ∙ ap (option_map (λ (s : Seat). (s.view, s.live))) w.here

  -- what always holds holds again
  pub operating_after : AreOperating (with_seats p t)
  operating_after = record {
    keyed = w.before.keyed;
    numbered = w.before.numbered;
    indexed = w.before.indexed;
    seated = ap views_seated w.changed.seats ∙ seen_as_before p.seats.seats x s l w.here ∙ w.before.seated;
  }

  -- where the live record is the one that a step leaves, the state is the one after it
  pub state_after_step : (step : Step) → l ≡ live_after_step step s.view s.live
      → state_in (with_seats p t) ≡ after_step x step old.state
  state_after_step step left =
      let lives : lives_seated t.seats
      ≡ lives_after_step x step (subchannel_in old.state x) (lives_seated p.seats.seats) =
      ap lives_seated w.changed.seats ∙ lives_now p.seats.seats x s l w.here
      ∙ ap (insert (lives_seated p.seats.seats) x) left
      ∙ sym (ap (λ o. lives_after_step x step o (lives_seated p.seats.seats)) one_there) in
      (λ i. record (state_in p) { lives = lives i })
      ∙ (λ i. record (w.is i).state
      { lives = lives_after_step x step (subchannel_in old.state x) (w.is i).state.lives })

  -- and no place is lost
  pub room_as_before : (operating_in (with_seats p t)).room ≡ old.room
  room_as_before = room_still p t w.is w.changed.places
