use Rattle.std.proofs.Common.{sym, ap, subst, ◌∙◌}
use Rattle.std.specs.Option.{option_copied_mut}
use Rattle.iocm_types.specs.declared.live.Live.{Live}
use Rattle.iocm_model.specs.Operation.Orders as orders
use Rattle.iocm_model.specs.Operation.Step as step
use Rattle.iocm_model.specs.Operation.Step.{ends_function}
use Rattle.iocm_seats.specs.Lent.{IsChangedAt}
use Rattle.iocm_plant.proofs.Between.{same_places_are_kept}
use Rattle.iocm_plant.proofs.Stepping.{FoundNone, FoundSeat, changed_seat, none_there, still_operating, state_still}
use Rattle.iocm_plant.proofs.Stepping.{same_room, one_there}
use Rattle.iocm_plant.proofs.Stepping.{operating_after, state_after_step, room_as_before}
use Rattle.iocm_plant.proofs.plant.Plant.device_end.Goals as goal
use Rattle.iocm_plant.proofs.plant.Plant.device_end.Goals.{In_default, After-set_live}

-- the subchannel isn't there
none : (c : In_default) → FoundNone c.args.self.now c.self.inside c.args.subchannel c.get_mut.follows.lender-at-none
none c = record {
  is = c.self.view_is;
  before = c.self.invariant.0;
  none = sym c.get_mut.ensures.value ∙ ap option_copied_mut c.in_default.is;
  same_seats = c.get_mut.follows.holds-at-none.seats;
  same_places = c.get_mut.follows.holds-at-none.places;
}

-- its seat got that
seat : (c : After-set_live)
    → FoundSeat c.args.self.now c.self.inside c.args.subchannel c.in-Some.seat.now c.device_end-answer.new.live
    (c.get_mut.follows.lender c.set_live.new.self)
seat c = record {
  is = c.self.view_is;
  before = c.self.invariant.0;
  here = sym c.get_mut.ensures.value ∙ ap option_copied_mut c.in-Some.is;
  changed = subst (IsChangedAt c.self.inside.seats c.args.subchannel (c.get_mut.follows.lender c.set_live.new.self))
      c.set_live.ensures
      (changed_seat c.get_mut.result c.in-Some.seat c.in-Some.is c.self.inside.seats c.args.subchannel
      (c.get_mut.follows.lender c.set_live.new.self) c.set_live.new.self
      (c.get_mut.follows.holds c.set_live.new.self));
}

pub invariant_of-self : goal.invariant_of-self
invariant_of-self c = (still_operating (none (goal.at.invariant_of-self c).In_default), c.self.invariant.1)

pub returns-in_default-clause-answer : goal.returns-in_default-clause-answer
returns-in_default-clause-answer c =
    sym (ap ends_function (none_there (none (goal.at.returns-in_default-clause-answer c).In_default)))

pub returns-in_default-clause-state : goal.returns-in_default-clause-state
returns-in_default-clause-state c =
    state_still (none (goal.at.returns-in_default-clause-state c).In_default) step.device_end

pub returns-in_default-clause-room : goal.returns-in_default-clause-room
returns-in_default-clause-room c = same_room (none (goal.at.returns-in_default-clause-room c).In_default)

pub invariant_of-self-2 : goal.invariant_of-self-2
invariant_of-self-2 c = (operating_after (seat (goal.at.invariant_of-self-2 c).After-set_live), c.self.invariant.1)

pub returns-clause-answer : goal.returns-clause-answer
returns-clause-answer c =
    c.device_end-answer.ensures.answer ∙ ap (λ (l : Live). orders.is_busy l.phase) c.live-record.ensures
    ∙ sym (ap ends_function (one_there (seat (goal.at.returns-clause-answer c).After-set_live)))

pub returns-clause-state : goal.returns-clause-state
returns-clause-state c = state_after_step (seat (goal.at.returns-clause-state c).After-set_live) step.device_end
    (c.device_end-answer.ensures.left ∙ ap orders.live_after_device_end c.live-record.ensures)

pub returns-clause-room : goal.returns-clause-room
returns-clause-room c = room_as_before (seat (goal.at.returns-clause-room c).After-set_live)

pub returns-in_default-clause-kept : goal.returns-in_default-clause-kept
returns-in_default-clause-kept c = same_places_are_kept _ _ (returns-in_default-clause-room c)

pub returns-clause-kept : goal.returns-clause-kept
returns-clause-kept c = same_places_are_kept _ _ (returns-clause-room c)
