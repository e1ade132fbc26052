-- The subchannel that is in the way of an edit.
use Rattle.std.specs.Prelude.{List, map, Option, None}
use Rattle.iocm_types.specs.declared.refused.Refused.{Refused}
use Rattle.iocm_types.specs.declared.sub_id.SubId.{SubId}
use Rattle.iocm_model.specs.Change.Refusal.{first_not_quiet}
use Rattle.iocm_seats.specs.declared.view_change.ViewChange.{ViewChange}
use Rattle.iocm_seats.specs.Seated.{Seats, lives_seated}
use Rattle.iocm_plant.specs.declared.quiet.Quiet.{Quiet}
use Rattle.iocm_plant.specs.declared.quiet.Quiet.TheVariants.{Wanted, Whatever}
use Rattle.iocm_plant.specs.Refusing.{refusal_by_quiet}

-- the first that isn't quiet, where the altered subchannels have to be quiet
abbrev pub first_in_the_way : Quiet → Option SubId → Option SubId
first_in_the_way Wanted found = found
first_in_the_way Whatever found = None

-- why seats aren't settled by these changes: a subchannel that has to be quiet isn't
abbrev pub settling_refusal : Seats → List ViewChange → Quiet → Option Refused
settling_refusal seats changes quiet =
    refusal_by_quiet quiet (first_not_quiet (lives_seated seats) (map (λ (ch : ViewChange). ch.subchannel) changes))
