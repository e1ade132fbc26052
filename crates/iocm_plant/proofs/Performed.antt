-- What an edit does that is performed: the state is the one that the definition gives, and what is
-- made of it takes it back.
use Rattle.std.proofs.Common.{◌≡◌, ℕ, false, not, ◌&&◌, List, Some, is_some, refl, sym, ap, subst, ◌∙◌}
use Rattle.std.specs.List.Sorted.{IsStrictlySortedBy}
use Rattle.std.specs.Option.{option_eq}
use Rattle.std.specs.FinMap.{get, contains_key, from_sorted, retain_keys}
use Rattle.iocm_types.specs.declared.place.Place.{Place}
use Rattle.iocm_types.specs.declared.sub_id.SubId.{SubId}
use Rattle.iocm_types.specs.SubId.{sub_id_cmp}
use Rattle.iocm_types.specs.KeyOrder.{sub_ids_total, sub_ids_exact}
use Rattle.iocm_model.specs.Machine.Configuration.{Configuration, IsKeyed}
use Rattle.iocm_model.specs.Machine.Numbering.{Numbering, AreNumbersOf}
use Rattle.iocm_model.specs.Change.Edit.{Action, Edit, same_view, config_after, state_after, altered_by, is_altered}
use Rattle.iocm_model.specs.Change.Edit.{lives_after_edit}
use Rattle.iocm_model.specs.Change.Inverse.{inverse_of, freed_numbers}
use Rattle.iocm_model.specs.Change.Maps.{differing}
use Rattle.iocm_model.specs.Change.Refusal.{is_number_taken}
use Rattle.iocm_model.specs.Change.Renumbering.{numbers_after}
use Rattle.iocm_model.specs.Operation.State.{Lives, views_of, views_in, is_among}
use Rattle.iocm_model.proofs.Change.RunsGoBack.{keyed_after}
use Rattle.iocm_model.proofs.Maps.Cells.{in_differing}
use Rattle.iocm_model.proofs.Numbers.Apart.{numbers_after_are_numbers}
use Rattle.iocm_lookup.specs.Indexed.{IsIndexOf}
use Rattle.iocm_numbers.specs.NumberChanges as numbers
use Rattle.iocm_numbers.specs.Numbered.{HasRoom, KeepsRoom}
use Rattle.iocm_numbers.specs.PutBack.{HaveRoom}
use Rattle.iocm_numbers.proofs.Exchanging.{rows_have_room}
use Rattle.iocm_seats.specs.Changes.{changes_between}
use Rattle.iocm_seats.specs.Seated.{SeatsHavePlaces, KeepsPlaces, views_seated, lives_seated}
use Rattle.iocm_seats.specs.Settling.{settled_all}
use Rattle.iocm_seats.proofs.Ordered.{differing_rise}
use Rattle.iocm_seats.proofs.Settled.{settled_seats_show, settled_seats_live}
use Rattle.iocm_tree.specs.Carried.{Carried, AreInOrder}
use Rattle.iocm_plant.specs.declared.following.Followed.{Followed}
use Rattle.iocm_plant.specs.declared.plant.Plant.TheInside.{Inside}
use Rattle.iocm_plant.specs.declared.touched.Applied.{Applied}
use Rattle.iocm_plant.specs.declared.touched.Touched.{Touched}
use Rattle.iocm_plant.specs.Following.{TellsAll, seen_changes}
use Rattle.iocm_plant.specs.Operating.{Operating, room_of}
use Rattle.iocm_plant.specs.Performing.{HasMadeOrder, Performs, made_of}
use Rattle.iocm_plant.specs.TakingBack.{CanUnapply, HasRoomFor, TakesBack}
use Rattle.iocm_plant.proofs.Altered.{met_at_sorted, met_at_retained, left_at, left_sorted}
use Rattle.iocm_plant.proofs.Exchanged.{WasExchanged, back_has_key, back_has_namings}
use Rattle.iocm_plant.proofs.Inside.{AreOperating, state_in, operating_in, sound_state}
use Rattle.iocm_plant.proofs.Placed.{numbers_placed, kept_have_places}

-- ---- the configuration and the numbers

-- the configuration is the one after an edit's action, and the numbers are those after the edit
pub record HasChanged (e : Edit) (p : Inside) (d : Configuration) (m : Numbering) : Type 0 where
  pub before : AreOperating p
  pub changed : d ≡ config_after e.action p.config.records
  pub renumbered : m ≡ numbers_after d e.places p.numbers.numbers

module _ {e : Edit} {p : Inside} {d : Configuration} {m : Numbering} (w : HasChanged e p d m) where
  -- the numbers are those by the definition
  pub numbers_new : m ≡ (state_after e (state_in p)).numbers
  numbers_new = w.renumbered ∙ ap (λ k. numbers_after k e.places p.numbers.numbers) w.changed

  -- what is seen is what is seen after the edit
  pub seen_new : views_of d m ≡ views_in (state_after e (state_in p))
  seen_new = λ i. views_of (w.changed i) (numbers_new i)

  -- it is seen differently at the subchannels that the edit alters
  pub altered_are : differing same_view (views_seated p.seats.seats) (views_of d m) ≡ altered_by e (state_in p)
  altered_are = λ i. differing same_view (w.before.seated i) (seen_new i)

  -- and at no other
  pub is_altered_at : (x : SubId) → is_among x (differing same_view (views_seated p.seats.seats) (views_of d m))
      ≡ is_altered (state_in p) (state_after e (state_in p)) x
  is_altered_at x = in_differing sub_ids_total sub_ids_exact same_view (views_seated p.seats.seats) (views_of d m) x
      ∙ (λ i. not (option_eq same_view (get (w.before.seated i) x) (get (seen_new i) x)))

  -- what is told of it
  pub told_altered : seen_changes d m p.seats.seats
      ≡ changes_between (views_in (state_in p)) (views_in (state_after e (state_in p)))
  told_altered = λ i. changes_between (w.before.seated i) (seen_new i)

  -- and of the numbers
  pub told_numbers : numbers.changes_between p.numbers.numbers m
      ≡ numbers.changes_between p.numbers.numbers (state_after e (state_in p)).numbers
  told_numbers = ap (numbers.changes_between p.numbers.numbers) numbers_new

-- ---- the numbers and the seats

-- a record was exchanged in the tables by an edit's action, and the numbers and the seats have
-- followed: this is told of it, and whatever had a place has one still
pub record HaveFollowed (e : Edit) (again : Action) (p q : Inside) (f : Followed) : Type 0 where
  pub before : AreOperating p
  pub exchanged : WasExchanged e.action again p.config q.config p.index q.index
  pub numbers : q.numbers.numbers ≡ numbers_after q.config.records e.places p.numbers.numbers
  pub seats : q.seats.seats
      ≡ settled_all e.lives p.seats.seats (seen_changes q.config.records q.numbers.numbers p.seats.seats)
  pub told : TellsAll q.config.records p.numbers.numbers q.numbers.numbers p.seats.seats f
  pub have_numbers : (place : Place) (number : ℕ) → get p.numbers.numbers place ≡ Some number
      → HasRoom p.numbers place number
  pub number_room : KeepsRoom p.numbers q.numbers
  pub have_seats : SeatsHavePlaces p.seats
  pub seat_room : KeepsPlaces p.seats q.seats

module _ {e : Edit} {again : Action} {p q : Inside} {f : Followed} (w : HaveFollowed e again p q f) where
  -- the configuration and the numbers are those after the edit
  has_changed : HasChanged e p q.config.records q.numbers.numbers
  has_changed = record { before = w.before; changed = w.exchanged.there; renumbered = w.numbers }

  -- the state is the one that the definition gives
  pub state_now : state_in q ≡ state_after e (state_in p)
  state_now =
      let lives : lives_seated q.seats.seats ≡ (state_after e (state_in p)).lives =
      ap lives_seated w.seats ∙ settled_seats_live p.seats.seats (views_of q.config.records q.numbers.numbers) e.lives
      ∙ (λ i. lives_after_edit (w.before.seated i) (seen_new has_changed i) e.lives (lives_seated p.seats.seats)) in
      λ i. record { config = w.exchanged.there i; numbers = numbers_new has_changed i; lives = lives i }

  -- and what always holds holds again
  pub operating_now : is_number_taken q.config.records p.numbers.numbers e.places ≡ false
      → IsIndexOf q.config.records q.index → AreOperating q
  operating_now free indexed = record {
    keyed = subst IsKeyed (sym w.exchanged.there) (keyed_after e.action p.config.records w.before.keyed);
    numbered = subst (AreNumbersOf q.config.records) (sym w.numbers)
        (numbers_after_are_numbers p.config.records q.config.records e.places p.numbers.numbers w.before.numbered free);
    indexed = indexed;
    seated = ap views_seated w.seats
        ∙ settled_seats_show p.seats.seats (views_of q.config.records q.numbers.numbers) e.lives;
  }

  -- the subchannels that were altered
  abbrev altered : List SubId
  altered = differing same_view (views_seated p.seats.seats) (views_of q.config.records q.numbers.numbers)

  -- they are in order
  altered_rise : IsStrictlySortedBy sub_id_cmp altered
  altered_rise = differing_rise sub_id_cmp same_view (views_seated p.seats.seats)
      (views_of q.config.records q.numbers.numbers)

  -- what is made of it stands in order
  pub made_order : HasMadeOrder f
  made_order = record {
    kept_in_order = subst AreInOrder (sym w.told.altered.settled.kept_are)
        (met_at_sorted (lives_seated p.seats.seats) (get (views_seated p.seats.seats))
        (get (views_of q.config.records q.numbers.numbers)) altered altered_rise);
    meets_in_order = left_sorted (views_seated p.seats.seats) (views_of q.config.records q.numbers.numbers)
        f.told.meets.items w.told.altered.settled.meets_are;
  }

  -- the live records that altered subchannels had are those that the definition keeps
  kept_retained : from_sorted f.told.kept.items
      ≡ retain_keys (lives_seated p.seats.seats) (is_altered (state_in p) (state_after e (state_in p)))
  kept_retained = ap from_sorted w.told.altered.settled.kept_are
      ∙ met_at_retained (lives_seated p.seats.seats) (get (views_seated p.seats.seats))
      (get (views_of q.config.records q.numbers.numbers)) altered
      (is_altered (state_in p) (state_after e (state_in p))) altered_rise (is_altered_at has_changed)

  -- the numbers that were freed are those by the definition
  freed_are : f.renumbered.freed.items ≡ freed_numbers p.numbers.numbers (state_after e (state_in p)).numbers
  freed_are = w.told.freed ∙ ap (freed_numbers p.numbers.numbers) (numbers_new has_changed)

  -- what is made of it is the inverse by the definition
  inverse_is : (made_of again f).edit ≡ inverse_of e (state_in p)
  inverse_is = λ i. record { action = w.exchanged.back i; places = freed_are i; lives = kept_retained i }

  -- and takes it back
  takes_back : TakesBack (made_of again f) q.config.records q.numbers.numbers
  takes_back = record {
    edit = e;
    state = state_in p;
    sound = sound_state p w.before;
    is_config = w.exchanged.there;
    is_numbers = numbers_new has_changed;
    action = w.exchanged.back;
    places = freed_are;
    lives = λ x. ap (λ (l : Lives). contains_key l x) kept_retained;
    frees = w.told.given;
    meets = λ x. ap (is_among x) w.told.altered.settled.meets_are
        ∙ left_at (lives_seated p.seats.seats) (get (views_seated p.seats.seats))
        (get (views_of q.config.records q.numbers.numbers)) altered x
        ∙ (λ i. is_altered_at has_changed x i && is_some (get (seen_new has_changed i) x));
  }

  -- what it brings has places
  has_room : HasRoomFor (made_of again f) (room_of q.config q.numbers q.index q.seats)
  has_room = record {
    key = back_has_key w.exchanged;
    namings = back_has_namings w.exchanged;
    numbers = numbers_placed q.numbers (room_of q.config q.numbers q.index q.seats) refl refl f.renumbered.freed.items
        (subst (HaveRoom q.numbers) (sym w.told.freed) (rows_have_room q.numbers q.numbers.numbers p.numbers.numbers
        (λ place number has. w.number_room place number (w.have_numbers place number has))));
    subchannels = kept_have_places p.seats q.seats.places (from_sorted f.told.kept.items)
        (is_altered (state_in p) (state_after e (state_in p)))
        kept_retained w.have_seats w.seat_room;
  }

  -- an edit was performed, with what is made and told of it
  pub performs : (a : Applied) → a.inverse ≡ made_of again f → a.touched ≡ f.told.touched
      → Performs e (operating_in p) a (operating_in q)
  performs a inverse touched = record {
    state = state_now;
    inverse = ap (λ (k : Carried). k.edit) inverse ∙ inverse_is;
    back = subst (λ (k : Carried). CanUnapply k (operating_in q)) (sym inverse)
        (record { back = takes_back; room = has_room });
    numbers = ap (λ (t : Touched). t.numbers.items) touched ∙ w.told.cells ∙ told_numbers has_changed;
    subchannels = ap (λ (t : Touched). t.subchannels.items) touched ∙ w.told.altered.subchannels
        ∙ told_altered has_changed;
  }

-- the same of an edit and a machine that are given otherwise
pub performs_as : {e x : Edit} {p q : Operating} {a : Applied} {r : Operating} → e ≡ x → p ≡ q → Performs e p a r
    → Performs x q a r
performs_as {e} {x} {p} {q} {a} {r} same is made =
    subst (λ (k : Edit × Operating). Performs k.0 k.1 a r) (λ i. (same i, is i)) made
