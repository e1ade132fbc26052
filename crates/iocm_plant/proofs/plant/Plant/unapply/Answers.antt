use Rattle.std.proofs.lemmas.List.{with_items_is, length-map}
use Rattle.std.proofs.Common.{◌≡◌, ℕ, List, map, length, sym, ap, subst, ◌∙◌}
use Rattle.std.specs.Map.{keys_of}
use Rattle.std.specs.Vec.{with_items}
use Rattle.std.specs.List.{AllByRecursion}
use Rattle.iocm_types.specs.declared.live.Live.{Live}
use Rattle.iocm_types.specs.declared.place.Place.{Place}
use Rattle.iocm_types.specs.declared.sub_id.SubId.{SubId}
use Rattle.iocm_types.specs.Key.{key_cmp}
use Rattle.iocm_types.specs.Naming.{naming_cmp}
use Rattle.iocm_model.specs.Operation.State.{views_of}
use Rattle.iocm_model.specs.Change.Edit.{action_key, state_after}
use Rattle.iocm_model.specs.Change.Inverse.{inverse_of}
use Rattle.iocm_numbers.specs.Exchange as numbers
use Rattle.iocm_numbers.specs.PutBack.{FitIn}
use Rattle.iocm_seats.specs.Exchange as seats
use Rattle.iocm_seats.specs.Exchange.{met}
use Rattle.iocm_seats.specs.Seated.{lives_seated, HasPlace}
use Rattle.iocm_tree.specs.Carried.{Carried, AreInOrder, action_of}
use Rattle.iocm_plant.specs.declared.plant.Plant.TheInside.{Inside}
use Rattle.iocm_plant.specs.Operating.{HasPlaceIn, KeepsPlaces}
use Rattle.iocm_plant.specs.TakingBack.{CanUnapply}
use Rattle.iocm_plant.proofs.Inside.{operating_in}
use Rattle.iocm_plant.proofs.ReachKept.{was_reach}
use Rattle.iocm_plant.proofs.RowsMet.{met_sorted}
use Rattle.iocm_plant.proofs.TakenBack.{CanBePerformed, WasUnapplied, way_back, by_parts, edit_of, fit, come_to_places}
use Rattle.iocm_plant.proofs.TakenBack.{operating_now, state_now}
use Rattle.iocm_plant.proofs.TakenBack.{inverse_is, can_go_back}
use Rattle.iocm_plant.proofs.plant.Plant.unapply.Goals as goal
use Rattle.iocm_plant.proofs.plant.Plant.unapply.Goals.{After-into_parts-action, After-exchange-2, After-from_parts}

-- the parts of the edit can be performed on the tables
performable : (c : After-into_parts-action) → CanBePerformed c.into_parts-action.result c.self.inside
performable c = record {
  before = c.self.invariant.0;
  can = by_parts c.into_parts-action.ensures.value c.self.view_is c.requires;
  order = c.into_parts-action.ensures.order;
}

-- the tables after it
abbrev now : After-exchange-2 → Inside
now c = record {
  config = c.exchange_record-action.new.config;
  numbers = c.exchange.new.self;
  index = c.exchange_record-action.new.index;
  seats = c.exchange-2.new.seats;
  reach = c.renew.new.self;
}

-- they were performed
unapplied : (c : After-exchange-2) → CanBePerformed c.into_parts-action.result c.self.inside
    → WasUnapplied c.into_parts-action.result (action_of c.exchange_record-action.result) c.self.inside (now c)
unapplied c here = record {
  here = here;
  exchanged = record {
    keyed = c.self.invariant.0.keyed;
    indexed = c.self.invariant.0.indexed;
    placed = c.has_places.ensures;
    there = c.exchange_record-action.ensures.config;
    back = c.exchange_record-action.ensures.back;
    key = subst (λ ps. HasPlaceIn key_cmp ps (action_key (action_of c.into_parts-action.result.action)))
        (sym c.exchange_record-action.ensures.keys) here.can.room.key;
    namings = subst (KeepsPlaces naming_cmp c.self.inside.index.places) (sym c.exchange_record-action.ensures.namings)
        (λ k h. h);
  };
  numbers = c.exchange.ensures.numbers
      ∙ (λ i. numbers.exchanged c.self.inside.numbers.numbers (c.as_slice.ensures.value i)
      (c.as_slice-2.ensures.value i));
  number_room = c.exchange.ensures.room;
  have_numbers = c.have_room.ensures;
  seats = c.exchange-2.ensures.seats
      ∙ (λ i. seats.exchanged (views_of c.exchange_record-action.new.config.records c.exchange.new.self.numbers)
      c.self.inside.seats.seats
      (keys_of (c.as_mut_slice.ensures.value i)) (c.as_slice-3.ensures.value i));
  seat_room = c.exchange-2.ensures.places;
  have_seats = c.has_places-2.ensures;
}

-- the rows that are left have met the live records that were there
rows_met : (c : After-exchange-2)
    → c.exchange-2.new.out ≡ map (met (lives_seated c.self.inside.seats.seats)) c.into_parts-action.result.meets.items
rows_met c = c.exchange-2.ensures.out
    ∙ ap (map (met (lives_seated c.self.inside.seats.seats))) c.as_mut_slice.ensures.value

meets_now : (c : After-exchange-2) → (with_items c.into_parts-action.result.meets c.exchange-2.new.out).items
    ≡ map (met (lives_seated c.self.inside.seats.seats)) c.into_parts-action.result.meets.items
meets_now c = with_items_is c.into_parts-action.result.meets c.exchange-2.new.out (ap length (rows_met c)
    ∙ length-map c.into_parts-action.result.meets.items (met (lives_seated c.self.inside.seats.seats))
    ∙ sym c.into_parts-action.result.meets.ok.0)
    ∙ rows_met c

-- the edit that is given is the way back
gives : (c : After-from_parts) → (with_items c.into_parts-action.result.meets c.exchange-2.new.out).items
    ≡ map (met (lives_seated c.self.inside.seats.seats)) c.into_parts-action.result.meets.items
    → c.from_parts.result ≡ way_back c.into_parts-action.result (action_of c.exchange_record-action.result)
    c.self.inside.seats.seats
gives c is = c.from_parts.ensures
    ∙ ap (λ (ms : List (SubId × Live)). edit_of (action_of c.exchange_record-action.result)
    c.into_parts-action.result.frees.items ms c.into_parts-action.result.places.items
    c.into_parts-action.result.kept.items) is

pub renew-requires : goal.renew-requires
renew-requires c = was_reach (action_of c.into_parts-action.result.action) c.key-key.result c.self.inside.config.records
    c.exchange_record-action.new.config.records (c.key-key.ensures
    ∙ sym (ap (λ (k : Carried). action_key k.edit.action) c.into_parts-action.ensures.value))
    c.exchange_record-action.ensures.config
    c.self.inside.reach c.self.invariant.1

pub exchange-requires-clause-fit : goal.exchange-requires-clause-fit
exchange-requires-clause-fit c =
    subst (λ (rows : List (Place × ℕ) × List (Place × ℕ)).
    FitIn (numbers.without_rows c.self.inside.numbers.numbers rows.0) rows.1)
    (sym (λ i. (c.as_slice.ensures.value i, c.as_slice-2.ensures.value i)))
    (fit (performable (goal.at.exchange-requires-clause-fit c).After-into_parts-action))

pub exchange-requires-2-clause-places : goal.exchange-requires-2-clause-places
exchange-requires-2-clause-places c =
    subst (AllByRecursion (λ (row : SubId × Live). HasPlace c.self.inside.seats row.0)) (sym c.as_slice-3.ensures.value)
    (come_to_places (performable (goal.at.exchange-requires-2-clause-places c).After-into_parts-action))

pub from_parts-requires : goal.from_parts-requires
from_parts-requires c = record {
  kept_rise = subst AreInOrder (sym (meets_now (goal.at.from_parts-requires c).After-exchange-2))
      (met_sorted (lives_seated c.self.inside.seats.seats) c.into_parts-action.result.meets.items
      c.into_parts-action.ensures.order.meets_rise);
  meets_rise = c.into_parts-action.ensures.order.kept_rise;
}

pub invariant_of-self : goal.invariant_of-self
invariant_of-self c =
    let at = goal.at.invariant_of-self c in (
      operating_now (unapplied at.After-exchange-2 (performable at.After-into_parts-action))
          c.exchange_record-action.ensures.index,
      c.renew.ensures,
    )

pub returns-clause-state : goal.returns-clause-state
returns-clause-state c =
    let at = goal.at.returns-clause-state c in
    state_now (unapplied at.After-exchange-2 (performable at.After-into_parts-action))
    ∙ (λ i. state_after (c.into_parts-action.ensures.value i).edit (c.self.view_is i).state)

pub returns-clause-inverse : goal.returns-clause-inverse
returns-clause-inverse c =
    let at = goal.at.returns-clause-inverse c in
    ap (λ (k : Carried). k.edit) (gives at.After-from_parts (meets_now at.After-exchange-2))
    ∙ inverse_is (unapplied at.After-exchange-2 (performable at.After-into_parts-action))
    ∙ (λ i. inverse_of (c.into_parts-action.ensures.value i).edit (c.self.view_is i).state)

pub returns-clause-back : goal.returns-clause-back
returns-clause-back c =
    let at = goal.at.returns-clause-back c in
    subst (λ (k : Carried). CanUnapply k (operating_in (now at.After-exchange-2)))
    (sym (gives at.After-from_parts (meets_now at.After-exchange-2)))
    (can_go_back (unapplied at.After-exchange-2 (performable at.After-into_parts-action)))
