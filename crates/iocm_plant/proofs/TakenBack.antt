-- What an edit does that takes another one back: the configuration and the numbers are those from
-- before that one, and of the seats those that are altered are exchanged.
use Rattle.std.proofs.Common.{◌≡◌, ℕ, Bool, true, false, cond, not, ◌&&◌, List, map, Option, Some, None, is_some, refl}
use Rattle.std.proofs.Common.{sym, ap, subst, ◌∙◌}
use Rattle.std.specs.List.{AllByRecursion}
use Rattle.std.specs.Map.{keys_of}
use Rattle.std.specs.Option.{option_eq}
use Rattle.std.specs.FinMap.{get, contains_key, from_sorted, retain_keys, get-from_sorted}
use Rattle.std.specs.FinMap.Entries.{is_some-find}
use Rattle.iocm_types.specs.declared.live.Live.{Live}
use Rattle.iocm_types.specs.declared.place.Place.{Place}
use Rattle.iocm_types.specs.declared.sub_id.SubId.{SubId}
use Rattle.iocm_types.specs.SubId.{sub_id_cmp}
use Rattle.iocm_types.specs.KeyOrder.{sub_ids_total, sub_ids_exact}
use Rattle.iocm_model.specs.Machine.Configuration.{Configuration, IsKeyed}
use Rattle.iocm_model.specs.Machine.Numbering.{Numbering, AreNumbersOf}
use Rattle.iocm_model.specs.Operation.State.{State, Lives, Views, views_of, views_in, seen_in}
use Rattle.iocm_model.specs.Change.Edit.{Action, Edit, config_after, state_after, same_view, is_altered}
use Rattle.iocm_model.specs.Change.Edit.{lives_after_edit}
use Rattle.iocm_model.specs.Change.Inverse.{inverse_of, freed_numbers}
use Rattle.iocm_model.specs.Change.Renumbering.{numbers_after}
use Rattle.iocm_model.proofs.Change.EditsGoBack.{config_back}
use Rattle.iocm_model.proofs.Change.SameViews.{sight_turned}
use Rattle.iocm_model.proofs.Maps.Cells.{get_retained}
use Rattle.iocm_model.proofs.Numbers.Back.{renumbering_goes_back}
use Rattle.iocm_lookup.specs.Indexed.{IsIndexOf}
use Rattle.iocm_numbers.specs.Exchange as numbers
use Rattle.iocm_numbers.specs.Numbered.{HasRoom, HasSameRoom}
use Rattle.iocm_numbers.specs.PutBack.{FitIn, HaveRoom}
use Rattle.iocm_numbers.proofs.Exchanging.{exchange_leads, rows_fit_in, changes_agree, agree_both_ways, rows_have_room}
use Rattle.iocm_seats.specs.Seated.{Seats, HasPlace, views_seated, lives_seated, SeatsHavePlaces}
use Rattle.iocm_seats.specs.Exchange as seats
use Rattle.iocm_seats.specs.Exchange.{met, IsExchange}
use Rattle.iocm_seats.proofs.Exchanged.{exchanged_seats_show, exchanged_seats_live}
use Rattle.iocm_tree.specs.declared.edit.Parts.{Parts}
use Rattle.iocm_tree.specs.Carried.{Carried, HasOrder, action_of, carried_of}
use Rattle.iocm_plant.specs.declared.plant.Plant.TheInside.{Inside}
use Rattle.iocm_plant.specs.Operating.{HasPlaceIn, Operating, room_of}
use Rattle.iocm_plant.specs.TakingBack.{TakesBack, CanUnapply, HasRoomFor}
use Rattle.iocm_plant.proofs.Exchanged.{WasExchanged, back_has_key, back_has_namings}
use Rattle.iocm_plant.proofs.Inside.{AreOperating, state_in, operating_in, sound_state}
use Rattle.iocm_plant.proofs.RowsMet.{met_are_retained}
use Rattle.iocm_plant.proofs.Placed.{numbers_placed, kept_placed, kept_have_places}

-- an edit by its parts
abbrev pub edit_of : Action → List (Place × ℕ) → List (SubId × Live) → List (Place × ℕ) → List (SubId × Live) → Carried
edit_of action places kept frees meets =
    record {
      edit = record { action = action; places = places; lives = from_sorted kept };
      frees = frees;
      meets = keys_of meets;
    }

-- something is kept where the test passes and something is there
some_by : (b : Bool) (o : Option Live) → is_some (cond b o None) ≡ (b && is_some o)
some_by true o = refl
some_by false o = refl

-- ---- before it is performed

-- the parts of an edit, in order, that can be performed without memory on the tables of a machine
pub record CanBePerformed {A : Type 0} (parts : Parts A) (p : Inside) : Type 0 where
  pub before : AreOperating p
  pub can : CanUnapply (carried_of parts) (operating_in p)
  pub order : HasOrder parts

module _ {A : Type 0} {parts : Parts A} {p : Inside} (w : CanBePerformed parts p) where
  -- the numbers that are there
  abbrev n : Numbering
  n = p.numbers.numbers

  -- the edit that is taken back, and the state from before it
  abbrev taken : Edit
  taken = w.can.back.edit

  -- the state from before that edit
  abbrev first : State
  first = w.can.back.state

  -- the configuration is the one from before
  config_is : config_after (action_of parts.action) p.config.records ≡ first.config
  config_is = ap (λ a. config_after a p.config.records) w.can.back.action
      ∙ ap (config_after (inverse_of taken first).action) w.can.back.is_config
      ∙ config_back taken.action first.config w.can.back.sound.keyed

  -- a device that has a number there and here has the same
  agree : numbers.Agree n first.numbers
  agree = agree_both_ways first.numbers n
      (subst (numbers.Agree first.numbers) (sym w.can.back.is_numbers)
      (changes_agree (state_after taken first).config taken.places first.numbers))

  -- what it brings is what the other one freed
  places_are : parts.places.items ≡ freed_numbers first.numbers n
  places_are = w.can.back.places ∙ ap (freed_numbers first.numbers) (sym w.can.back.is_numbers)

  -- the numbers are those from before
  numbers_are : numbers.exchanged n parts.frees.items parts.places.items ≡ first.numbers
  numbers_are = (λ i. numbers.exchanged n (w.can.back.frees i) (places_are i)) ∙ exchange_leads n first.numbers agree

  -- what it brings fits in
  pub fit : FitIn (numbers.without_rows n parts.frees.items) parts.places.items
  fit = subst (λ rows. FitIn (numbers.without_rows n parts.frees.items) rows) (sym places_are)
      (subst (λ rows. FitIn (numbers.without_rows n rows) (freed_numbers first.numbers n)) (sym w.can.back.frees)
      (rows_fit_in n first.numbers agree w.can.back.sound.numbered.apart))

  -- and the subchannels that come have places
  pub come_to_places : AllByRecursion (λ (row : SubId × Live). HasPlace p.seats row.0) parts.kept.items
  come_to_places = kept_placed p.seats.places parts.kept.items w.order.kept_rise w.can.room.subchannels

  -- the numbers are those from before by the definition, too
  renumbered : numbers_after (config_after (action_of parts.action) p.config.records) parts.places.items n
      ≡ first.numbers
  renumbered = (λ i. numbers_after (config_is i) (w.can.back.places i) (w.can.back.is_numbers i))
      ∙ renumbering_goes_back first.config (state_after taken first).config taken.places first.numbers
      w.can.back.sound.numbered

  -- what is seen is what was seen after the other one
  seen_before : views_seated p.seats.seats ≡ views_in (state_after taken first)
  seen_before = w.before.seated ∙ (λ i. views_of (w.can.back.is_config i) (w.can.back.is_numbers i))

-- ---- once it is performed

-- the parts of an edit were performed without memory on the tables of a machine: its record, its
-- numbers and its seats were exchanged, and the places are as they were
pub record WasUnapplied {A : Type 0} (parts : Parts A) (again : Action) (p q : Inside) : Type 0 where
  pub here : CanBePerformed parts p
  pub exchanged : WasExchanged (action_of parts.action) again p.config q.config p.index q.index
  pub numbers : q.numbers.numbers ≡ numbers.exchanged p.numbers.numbers parts.frees.items parts.places.items
  pub number_room : HasSameRoom q.numbers p.numbers
  pub have_numbers : (place : Place) (number : ℕ) → get p.numbers.numbers place ≡ Some number
      → HasRoom p.numbers place number
  pub seats : q.seats.seats
      ≡ seats.exchanged (views_of q.config.records q.numbers.numbers) p.seats.seats (keys_of parts.meets.items)
      parts.kept.items
  pub seat_room : q.seats.places ≡ p.seats.places
  pub have_seats : SeatsHavePlaces p.seats

-- the edit that takes it back: what it found in place of what it brought
abbrev pub way_back : {A : Type 0} → Parts A → Action → Seats → Carried
way_back parts again seats =
    edit_of again parts.frees.items (map (met (lives_seated seats)) parts.meets.items) parts.places.items
    parts.kept.items

module _ {A : Type 0} {parts : Parts A} {again : Action} {p q : Inside} (w : WasUnapplied parts again p q) where
  -- the edit takes another one back
  abbrev back : TakesBack (carried_of parts) p.config.records p.numbers.numbers
  back = w.here.can.back

  -- the state from before that one
  abbrev s : State
  s = back.state

  -- and the one that it left
  abbrev t : State
  t = state_after back.edit back.state

  -- the edit that is performed
  abbrev e : Edit
  e = (carried_of parts).edit

  -- the state in which it is
  abbrev u : State
  u = state_in p

  -- what is seen afterwards
  abbrev now : Views
  now = views_of q.config.records q.numbers.numbers

  -- the configuration is the one from before that one
  config_now : q.config.records ≡ s.config
  config_now = w.exchanged.there ∙ config_is w.here

  -- and so are the numbers
  numbers_now : q.numbers.numbers ≡ s.numbers
  numbers_now = w.numbers ∙ numbers_are w.here

  -- and what is seen
  seen_now : now ≡ views_in s
  seen_now = λ i. views_of (config_now i) (numbers_now i)

  -- those that are altered are exchanged
  exchange : IsExchange (views_seated p.seats.seats) now (keys_of parts.meets.items) parts.kept.items
  exchange = record {
    out_exactly = λ x. back.meets x ∙ (λ i. not (sight_turned (seen_in s x) (seen_in t x) i) && is_some (seen_in t x))
        ∙ sym (λ i. not (option_eq same_view (get (seen_before w.here i) x) (get (seen_now i) x))
        && is_some (get (seen_before w.here i) x));
    back_exactly = λ x. sym (ap is_some (get-from_sorted sub_id_cmp parts.kept.items x w.here.order.kept_rise))
        ∙ back.lives x
        ∙ ap is_some (get_retained sub_ids_total sub_ids_exact s.lives (is_altered s t) x)
        ∙ some_by (is_altered s t x) (get s.lives x)
        ∙ (λ i. not (sight_turned (seen_in s x) (seen_in t x) i) && back.sound.lived x i)
        ∙ sym (λ i. not (option_eq same_view (get (seen_before w.here i) x) (get (seen_now i) x))
        && is_some (get (seen_now i) x));
    apart = w.here.order.kept_rise;
  }

  -- the numbers are those by the definition
  numbers_new : q.numbers.numbers ≡ (state_after e u).numbers
  numbers_new = numbers_now ∙ sym (renumbered w.here)

  -- the state is the one that the definition gives
  pub state_now : state_in q ≡ state_after e u
  state_now =
      let lives : lives_seated q.seats.seats
      ≡ lives_after_edit (views_seated p.seats.seats) now (from_sorted parts.kept.items)
      (lives_seated p.seats.seats) =
      ap lives_seated w.seats ∙ exchanged_seats_live p.seats.seats now (keys_of parts.meets.items) parts.kept.items
      exchange in
      let numbers : q.numbers.numbers
      ≡ numbers_after (config_after (action_of parts.action) p.config.records) parts.places.items
      p.numbers.numbers =
      numbers_now ∙ sym (renumbered w.here) in
      λ i. record {
        config = w.exchanged.there i;
        numbers = numbers i;
        lives = (lives ∙ (λ j. lives_after_edit (w.here.before.seated j) (views_of (w.exchanged.there j) (numbers j))
            (from_sorted parts.kept.items)
            (lives_seated p.seats.seats))) i;
      }

  -- and what always holds holds again
  pub operating_now : IsIndexOf q.config.records q.index → AreOperating q
  operating_now index = record {
    keyed = subst IsKeyed (sym config_now) back.sound.keyed;
    numbered = subst (λ (k : Configuration × Numbering). AreNumbersOf k.0 k.1)
        (sym (λ i. (config_now i, numbers_now i))) back.sound.numbered;
    indexed = index;
    seated = ap views_seated w.seats
        ∙ exchanged_seats_show p.seats.seats now (keys_of parts.meets.items) parts.kept.items exchange;
  }

  -- ---- the edit that takes this back

  -- what is seen is what is seen after the edit
  seen_new : now ≡ views_in (state_after e u)
  seen_new = λ i. views_of (w.exchanged.there i) (numbers_new i)

  -- its live records are those of the subchannels that were altered
  lives_are : from_sorted (map (met (lives_seated p.seats.seats)) parts.meets.items)
      ≡ retain_keys (lives_seated p.seats.seats) (is_altered u (state_after e u))
  lives_are = met_are_retained (lives_seated p.seats.seats) parts.meets.items (is_altered u (state_after e u))
      (λ x. is_some (seen_in u x)) w.here.order.meets_rise
      (λ x. exchange.out_exactly x
      ∙ (λ i. not (option_eq same_view (get (w.here.before.seated i) x) (get (seen_new i) x))
      && is_some (get (w.here.before.seated i) x)))
      (sound_state p w.here.before).lived

  -- it brings the numbers that this one freed
  freed_are : parts.frees.items ≡ freed_numbers p.numbers.numbers (state_after e u).numbers
  freed_are = back.frees ∙ ap (freed_numbers p.numbers.numbers) (sym (renumbered w.here))

  -- it is the inverse by the definition
  pub inverse_is : (way_back parts again p.seats.seats).edit ≡ inverse_of e u
  inverse_is = λ i. record { action = w.exchanged.back i; places = freed_are i; lives = lives_are i }

  -- and takes back
  takes_back : TakesBack (way_back parts again p.seats.seats) q.config.records q.numbers.numbers
  takes_back = record {
    edit = e;
    state = u;
    sound = sound_state p w.here.before;
    is_config = w.exchanged.there;
    is_numbers = numbers_new;
    action = w.exchanged.back;
    places = freed_are;
    lives = λ x. ap (λ (l : Lives). contains_key l x) lives_are;
    frees = places_are w.here ∙ ap (λ k. freed_numbers k p.numbers.numbers) (sym numbers_now);
    meets = λ x. sym (is_some-find sub_id_cmp x parts.kept.items) ∙ exchange.back_exactly x
        ∙ (λ i. not (option_eq same_view (get (w.here.before.seated i) x) (get (seen_new i) x))
        && is_some (get (seen_new i) x));
  }

  -- what it brings has places
  has_room : HasRoomFor (way_back parts again p.seats.seats) (room_of q.config q.numbers q.index q.seats)
  has_room = record {
    key = back_has_key w.exchanged;
    namings = back_has_namings w.exchanged;
    numbers = numbers_placed p.numbers (room_of q.config q.numbers q.index q.seats) w.number_room.same_places
        w.number_room.same_cells parts.frees.items
        (subst (HaveRoom p.numbers) (sym back.frees)
        (rows_have_room p.numbers s.numbers p.numbers.numbers w.have_numbers));
    subchannels = kept_have_places p.seats q.seats.places
        (from_sorted (map (met (lives_seated p.seats.seats)) parts.meets.items))
        (is_altered u (state_after e u))
        lives_are w.have_seats (λ x has. subst (λ ps. HasPlaceIn sub_id_cmp ps x) (sym w.seat_room) has);
  }

  -- and it can be performed without memory
  pub can_go_back : CanUnapply (way_back parts again p.seats.seats) (operating_in q)
  can_go_back = record { back = takes_back; room = has_room }

-- an edit by its parts, on a machine by its tables
pub by_parts : {i j : Carried} {p q : Operating} → i ≡ j → p ≡ q → CanUnapply j q → CanUnapply i p
by_parts {i} {j} {p} {q} same is can =
    subst (λ (k : Carried). CanUnapply k p) (sym same) (subst (CanUnapply j) (sym is) can)
