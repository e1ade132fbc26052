use Rattle.std.proofs.Common.{List, map, sym, subst, ◌∙◌}
use Rattle.std.specs.FinMap.{get}
use Rattle.iocm_model.specs.Change.Refusal.{first_not_quiet}
use Rattle.iocm_seats.specs.declared.view_change.ViewChange.{ViewChange}
use Rattle.iocm_model.specs.Change.Edit.{same_view}
use Rattle.iocm_model.specs.Change.Maps.{differing}
use Rattle.iocm_model.specs.Operation.State.{views_of}
use Rattle.iocm_seats.specs.Seated.{lives_seated, views_seated}
use Rattle.iocm_seats.specs.Settling.{AreSeen}
use Rattle.iocm_plant.specs.Seating.{TellsOfSettling}
use Rattle.iocm_plant.specs.Refusing.{Hinders, refusal_by_quiet}
use Rattle.iocm_plant.proofs.Follows.{all_seen}
use Rattle.iocm_plant.proofs.following.follow_numbers.Goals as goal

pub seat-requires-clause-seen : goal.seat-requires-clause-seen
seat-requires-clause-seen c =
    let seen = views_seated c.args.seats.now.seats in
    let now = views_of c.args.config.now.records c.args.numbers.now.numbers in
    subst (AreSeen seen) (sym (c.as_slice-2.ensures.value ∙ c.in_ok-changes.ensures.changes))
    (all_seen seen (get now) (differing same_view seen now))

pub returns-in-Ok-clause-told : goal.returns-in-Ok-clause-told
returns-in-Ok-clause-told c = record {
  settled = subst (λ (chs : List ViewChange).
      TellsOfSettling c.args.seats.now.seats chs c.in-Ok.seated.kept.items c.in-Ok.seated.meets.items)
      (c.as_slice-2.ensures.value ∙ c.in_ok-changes.ensures.changes) c.in-Ok.ensures.told;
  subchannels = c.in_ok-changes.ensures.changes;
}

pub returns-clause-refused : goal.returns-clause-refused
returns-clause-refused c = subst (λ (chs : List ViewChange). Hinders (refusal_by_quiet c.args.brought.quiet
    (first_not_quiet (lives_seated c.args.seats.now.seats) (map (λ (ch : ViewChange). ch.subchannel) chs)))
    c.in-Err.obstacle)
    (c.as_slice-2.ensures.value ∙ c.in_ok-changes.ensures.changes) c.in-Err.ensures.refused
