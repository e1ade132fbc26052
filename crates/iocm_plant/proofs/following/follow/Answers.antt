use Rattle.std.proofs.Common.{◌≡◌, ℕ, false, List, Option, sym, ap, subst, ◌∙◌}
use Rattle.iocm_types.specs.declared.place.Place.{Place}
use Rattle.iocm_types.specs.declared.refused.Refused.{Refused}
use Rattle.iocm_model.specs.Change.Refusal.{is_number_taken}
use Rattle.iocm_model.specs.Change.Renumbering.{numbers_after}
use Rattle.iocm_numbers.specs.Exchange.{exchanged, without_rows}
use Rattle.iocm_numbers.specs.PutBack.{FitIn, HaveRoom}
use Rattle.iocm_numbers.specs.Renumbering.{Rise}
use Rattle.iocm_plant.specs.Refusing.{Hinders}
use Rattle.iocm_plant.proofs.Follows.{rise_of, was_renumbered}
use Rattle.iocm_plant.proofs.Renumbered.{WereRenumbered, were_before, freed_have_room, freed_fit_in, exchanged_back}
use Rattle.iocm_plant.proofs.Renumbered.{seats_are_in_the_way}
use Rattle.iocm_plant.proofs.following.follow.Goals as goal
use Rattle.iocm_plant.proofs.following.follow.Goals.{In_ok-renumbered}

-- the numbers have followed
renumbered : (c : In_ok-renumbered)
    → WereRenumbered c.args.config.now.records c.args.brought.places.items c.args.numbers.now c.renumber.new.self
    c.in_ok-renumbered.renumbered.freed.items c.in_ok-renumbered.renumbered.given.items
renumbered c = record {
  apart = c.are_apart.ensures.apart;
  have_room = c.have_room.ensures;
  now = c.in_ok-renumbered.ensures.numbers
      ∙ ap (λ (rows : List (Place × ℕ)). numbers_after c.args.config.now.records rows c.args.numbers.now.numbers)
      c.as_slice-3.ensures.value;
  gone = c.in_ok-renumbered.ensures.freed;
  come = c.in_ok-renumbered.ensures.given;
  room = c.in_ok-renumbered.ensures.room;
}

-- none that comes along was taken
none_taken : (c : In_ok-renumbered)
    → is_number_taken c.args.config.now.records c.args.numbers.now.numbers c.args.brought.places.items ≡ false
none_taken c = sym (c.in_ok-is_taken.ensures.taken
    ∙ ap (is_number_taken c.args.config.now.records c.args.numbers.now.numbers) c.as_slice.ensures.value)
    ∙ c.if-branch.false

pub renumber-requires-clause-rise : goal.renumber-requires-clause-rise
renumber-requires-clause-rise c =
    subst Rise (sym c.as_slice-2.ensures.value) (rise_of c.args.at.affected.places.items c.requires.places)

pub follow_numbers-requires-clause-changed : goal.follow_numbers-requires-clause-changed
follow_numbers-requires-clause-changed c =
    let at = (goal.at.follow_numbers-requires-clause-changed c).In_ok-renumbered in
    was_renumbered c.args.config.now.records c.args.numbers.now.numbers c.args.seats.now.seats c.args.at
    c.requires.changed
    c.args.brought.places.items c.renumber.new.self.numbers (renumbered at).now (none_taken at)
    c.in_ok-renumbered.renumbered.given.items (renumbered at).come

pub exchange-requires-clause-room : goal.exchange-requires-clause-room
exchange-requires-clause-room c = subst (HaveRoom c.renumber.new.self) (sym c.as_slice-in-Err-2.ensures.value)
    (freed_have_room (renumbered (goal.at.exchange-requires-clause-room c).In_ok-renumbered))

pub exchange-requires-clause-fit : goal.exchange-requires-clause-fit
exchange-requires-clause-fit c =
    subst (λ (rows : List (Place × ℕ) × List (Place × ℕ)).
    FitIn (without_rows c.renumber.new.self.numbers rows.0) rows.1)
    (sym (λ i. (c.as_slice-in-Err.ensures.value i, c.as_slice-in-Err-2.ensures.value i)))
    (freed_fit_in (renumbered (goal.at.exchange-requires-clause-fit c).In_ok-renumbered))

pub returns-in-Ok-clause-told : goal.returns-in-Ok-clause-told
returns-in-Ok-clause-told c = record {
  freed = c.in_ok-renumbered.ensures.freed;
  given = c.in_ok-renumbered.ensures.given;
  cells = c.in-Ok.ensures.cells c.args.numbers.now.numbers
      (were_before (renumbered (goal.at.returns-in-Ok-clause-told c).In_ok-renumbered));
  altered = c.in-Ok.ensures.told;
}

pub returns-in-Err-clause-refused : goal.returns-in-Err-clause-refused
returns-in-Err-clause-refused c =
    let at = (goal.at.returns-in-Err-clause-refused c).In_ok-renumbered in
    subst (λ (r : Option Refused). Hinders r c.in-Err.obstacle)
    (seats_are_in_the_way c.args.config.now.records c.args.numbers.now.numbers c.renumber.new.self.numbers
    c.args.seats.now.seats c.args.brought.key
    c.args.brought.places.items c.args.brought.quiet (renumbered at).now (none_taken at)) c.in-Err.ensures.refused

pub returns-in-Err-clause-same_numbers : goal.returns-in-Err-clause-same_numbers
returns-in-Err-clause-same_numbers c = c.exchange.ensures.numbers
    ∙ (λ i. exchanged c.renumber.new.self.numbers (c.as_slice-in-Err.ensures.value i)
    (c.as_slice-in-Err-2.ensures.value i))
    ∙ exchanged_back (renumbered (goal.at.returns-in-Err-clause-same_numbers c).In_ok-renumbered)
