use Rattle.std.proofs.Common.{◌≡◌, List, Option, is_some, sym, ap, subst, ◌∙◌}
use Rattle.std.specs.FinMap.{get}
use Rattle.std.specs.Option.{option_copied}
use Rattle.iocm_types.specs.declared.key.Key.{Key}
use Rattle.iocm_types.specs.declared.refused.Refused.{Refused}
use Rattle.iocm_types.specs.Key.{key_cmp}
use Rattle.iocm_types.specs.Naming.{naming_cmp}
use Rattle.iocm_model.specs.Machine.Configuration.{Configuration}
use Rattle.iocm_model.specs.Machine.Record.{Rec}
use Rattle.iocm_model.specs.Change.Refusal.{refusal_by_key}
use Rattle.iocm_model.specs.Change.Edit.{action_key, config_after, record_after}
use Rattle.iocm_model.specs.Change.Inverse.{action_back}
use Rattle.iocm_affected.specs.Affected.{AreAllAffected}
use Rattle.iocm_tree.specs.Carried.{Carried, carried_of, action_of}
use Rattle.iocm_plant.specs.declared.plant.Plant.TheInside.{Inside}
use Rattle.iocm_plant.specs.Following.{following_refusal}
use Rattle.iocm_plant.specs.Operating.{Operating, HasPlaceIn, KeepsPlaces}
use Rattle.iocm_plant.specs.Refusing.{Hinders, refusal_when}
use Rattle.iocm_plant.proofs.Exchanged.{WasExchanged, back_has_key, back_has_namings, config_as_before}
use Rattle.iocm_plant.proofs.Inside.{AreAsBefore, state_as_before, operating_as_before}
use Rattle.iocm_plant.proofs.Performed.{HaveFollowed, made_order, operating_now, performs, performs_as}
use Rattle.iocm_plant.proofs.ReachKept.{was_reach, was_reach_there}
use Rattle.iocm_plant.proofs.Refused.{refusal_is, none_taken}
use Rattle.iocm_plant.proofs.plant.Plant.perform.Goals as goal
use Rattle.iocm_plant.proofs.plant.Plant.perform.Goals.{After-exchange_known-back, After-change_back, In-Ok}

-- the record was exchanged
exchanged : (c : After-exchange_known-back)
    → WasExchanged (action_of c.into_parts-action.result.action) (action_of c.exchange_known-back.result)
    c.self.inside.config c.exchange_known-back.new.config c.self.inside.index c.exchange_known-back.new.index
exchanged c =
    let action = action_of c.into_parts-action.result.action in
    let same = c.in_ok-at.ensures.config in
    record {
      keyed = c.self.invariant.0.keyed;
      indexed = c.self.invariant.0.indexed;
      placed = c.has_places.ensures;
      there = c.exchange_known-back.ensures.config ∙ ap (config_after action) same;
      back = c.exchange_known-back.ensures.back
          ∙ ap (λ (k : Configuration).
          action_back (action_key action) (get k (action_key action)) (record_after action)) same;
      key = subst (λ (x : List Key × Carried). HasPlaceIn key_cmp x.0 (action_key x.1.edit.action))
          (sym (λ i. (c.exchange_known-back.ensures.keys i, c.into_parts-action.ensures.value i)))
          c.in_ok-at.ensures.key;
      namings = subst (KeepsPlaces naming_cmp c.self.inside.index.places) (sym c.exchange_known-back.ensures.namings)
          c.in_ok-at.ensures.same_namings;
    }

-- the key isn't in the way
there : (c : After-exchange_known-back)
    → refusal_by_key c.args.edit.edit.action
    (is_some (get c.self.inside.config.records (action_key c.args.edit.edit.action)))
    ≡ refusal_by_key c.args.edit.edit.action (is_some (option_copied c.get-before.result))
there c = ap (λ (o : Option Rec). refusal_by_key c.args.edit.edit.action (is_some o))
    (ap (get c.self.inside.config.records) (sym c.key-key.ensures) ∙ sym c.get-before.ensures)

-- why numbers and seats don't follow is why the edit is refused
refusal : (c : After-exchange_known-back)
    → following_refusal c.exchange_known-back.new.config.records c.self.inside.numbers.numbers
    c.self.inside.seats.seats c.key-key.result c.into_parts-action.result.places.items c.args.quiet
    ≡ refusal_when c.args.quiet c.args.edit.edit c.args.self.now.state
refusal c = refusal_is (carried_of c.into_parts-action.result).edit c.args.edit.edit c.self.inside c.args.self.now.state
    c.self.invariant.0
    c.exchange_known-back.new.config.records (exchanged c).there
    (ap (λ (k : Carried). k.edit) c.into_parts-action.ensures.value)
    (ap (λ (p : Operating). p.state) c.self.view_is) c.key-key.result c.key-key.ensures
    (there c ∙ sym c.key_refusal.ensures ∙ c.in_default.is) c.args.quiet

-- the tables once numbers and seats have followed
abbrev now : In-Ok → Inside
now c = record {
  config = c.exchange_known-back.new.config;
  numbers = c.follow.new.numbers;
  index = c.exchange_known-back.new.index;
  seats = c.follow.new.seats;
  reach = c.renew.new.self;
}

-- they have followed
followed : (c : In-Ok) → WasExchanged (action_of c.into_parts-action.result.action)
    (action_of c.exchange_known-back.result)
    c.self.inside.config c.exchange_known-back.new.config c.self.inside.index c.exchange_known-back.new.index
    → HaveFollowed (carried_of c.into_parts-action.result).edit (action_of c.exchange_known-back.result)
    c.self.inside (now c) c.in-Ok.followed
followed c x = record {
  before = c.self.invariant.0;
  exchanged = x;
  numbers = c.in-Ok.ensures.numbers;
  seats = c.in-Ok.ensures.seats;
  told = c.in-Ok.ensures.told;
  have_numbers = c.have_room.ensures;
  number_room = c.in-Ok.ensures.room;
  have_seats = c.has_places-2.ensures;
  seat_room = c.in-Ok.ensures.subchannels_placed;
}

-- the tables once the record was changed back
abbrev then : After-change_back → Inside
then c = record {
  config = c.change_back.new.config;
  numbers = c.follow.new.numbers;
  index = c.change_back.new.index;
  seats = c.follow.new.seats;
  reach = c.renew.new.self;
}

-- they are as they were
as_before : (c : After-change_back)
    → WasExchanged (action_of c.into_parts-action.result.action) (action_of c.exchange_known-back.result)
    c.self.inside.config c.exchange_known-back.new.config c.self.inside.index c.exchange_known-back.new.index
    → AreAsBefore c.self.inside (then c)
as_before c x = record {
  same_config = config_as_before x c.change_back.new.config.records c.change_back.ensures.config;
  same_numbers = c.in-Err.ensures.same_numbers;
  same_seats = c.in-Err.ensures.same_seats;
}

-- the configuration is that after the edit's action
after : (c : After-exchange_known-back)
    → c.exchange_known-back.new.config.records ≡ config_after c.args.edit.edit.action c.self.inside.config.records
after c = (exchanged c).there
    ∙ ap (λ (k : Carried). config_after k.edit.action c.self.inside.config.records) c.into_parts-action.ensures.value

pub renew-requires : goal.renew-requires
renew-requires c = was_reach c.args.edit.edit.action c.key-key.result c.self.inside.config.records
    c.exchange_known-back.new.config.records
    c.key-key.ensures (after (goal.at.renew-requires c).After-exchange_known-back) c.self.inside.reach
    c.self.invariant.1

pub renew-requires-in-Err : goal.renew-requires-in-Err
renew-requires-in-Err c =
    let at = goal.at.renew-requires-in-Err c in
    was_reach_there c.args.edit.edit.action c.key-key.result c.self.inside.config.records
    c.exchange_known-back.new.config.records
    c.key-key.ensures (after at.After-exchange_known-back) c.change_back.new.config.records
    (as_before at.After-change_back (exchanged at.After-exchange_known-back)).same_config c.renew.new.self
    c.renew.ensures

pub follow-requires-clause-changed : goal.follow-requires-clause-changed
follow-requires-clause-changed c =
    let after = after (goal.at.follow-requires-clause-changed c).After-exchange_known-back in
    record {
      before = c.self.inside.config.records;
      keyed = c.self.invariant.0.keyed;
      numbered = c.self.invariant.0.numbered;
      seated = c.self.invariant.0.seated;
      affected = subst (λ (k : Configuration).
          AreAllAffected c.self.inside.config.records k c.in_ok-at.at.affected.places.items
          c.in_ok-at.at.affected.images.items) (sym after) c.in_ok-at.ensures.affected;
      cells_are = c.in_ok-at.ensures.cells;
    }

pub applied-requires : goal.applied-requires
applied-requires c =
    let at = goal.at.applied-requires c in
    made_order (followed at.In-Ok (exchanged at.After-exchange_known-back))

pub invariant_of-self-in-Ok : goal.invariant_of-self-in-Ok
invariant_of-self-in-Ok c =
    let at = goal.at.invariant_of-self-in-Ok c in (
      operating_now (followed at.In-Ok (exchanged at.After-exchange_known-back))
          (none_taken c.exchange_known-back.new.config.records c.self.inside.numbers.numbers c.self.inside.seats.seats
          c.key-key.result
          c.into_parts-action.result.places.items c.args.quiet c.in-Ok.ensures.clear)
          c.exchange_known-back.ensures.index,
      c.renew.ensures,
    )

pub returns-in-Ok-clause-accepted : goal.returns-in-Ok-clause-accepted
returns-in-Ok-clause-accepted c =
    sym (refusal (goal.at.returns-in-Ok-clause-accepted c).After-exchange_known-back) ∙ c.in-Ok.ensures.clear

pub returns-in-Ok-clause-performs : goal.returns-in-Ok-clause-performs
returns-in-Ok-clause-performs c =
    let at = goal.at.returns-in-Ok-clause-performs c in
    performs_as (ap (λ (k : Carried). k.edit) c.into_parts-action.ensures.value) c.self.view_is
    (performs (followed at.In-Ok (exchanged at.After-exchange_known-back)) c.applied.result c.applied.ensures.inverse
    c.applied.ensures.touched)

pub change_back-requires-clause-key : goal.change_back-requires-clause-key
change_back-requires-clause-key c =
    back_has_key (exchanged (goal.at.change_back-requires-clause-key c).After-exchange_known-back)

pub change_back-requires-clause-namings : goal.change_back-requires-clause-namings
change_back-requires-clause-namings c =
    back_has_namings (exchanged (goal.at.change_back-requires-clause-namings c).After-exchange_known-back)

pub invariant_of-self-in-Err : goal.invariant_of-self-in-Err
invariant_of-self-in-Err c =
    let at = goal.at.invariant_of-self-in-Err c in (
      operating_as_before (as_before at.After-change_back (exchanged at.After-exchange_known-back)) c.self.invariant.0
          c.change_back.ensures.index,
      c.renew-in-Err.ensures,
    )

pub returns-clause-refused : goal.returns-clause-refused
returns-clause-refused c = subst (λ (r : Option Refused). Hinders r c.in-Err.obstacle)
    (refusal (goal.at.returns-clause-refused c).After-exchange_known-back) c.in-Err.ensures.refused

pub returns-clause-same : goal.returns-clause-same
returns-clause-same c =
    let at = goal.at.returns-clause-same c in
    state_as_before (as_before at.After-change_back (exchanged at.After-exchange_known-back))
    ∙ ap (λ (p : Operating). p.state) c.self.view_is
