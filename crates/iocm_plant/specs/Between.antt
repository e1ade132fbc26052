-- What may happen between an edit and the edit that takes it back: whatever leaves the
-- configuration, the numbers and the places as they are.
use Rattle.std.specs.Prelude.{◌≡◌}
use Rattle.iocm_types.specs.declared.sub_id.SubId.{SubId}
use Rattle.iocm_model.specs.Operation.State.{IsSound, HasConfigAndNumbersOf}
use Rattle.iocm_model.specs.Operation.Step.{Step, after_step}
use Rattle.iocm_model.specs.Change.Edit.{Edit, state_after}
use Rattle.iocm_model.specs.Change.Inverse.{inverse_of}
use Rattle.iocm_model.specs.Laws.Runs.{HasSameKeys}
use Rattle.iocm_tree.specs.Carried.{Carried}
use Rattle.iocm_plant.specs.Operating.{Room, Operating, KeepsRoom}
use Rattle.iocm_plant.specs.TakingBack.{CanUnapply}

-- no place is lost where the places are the same, nor in two steps of which neither loses one
abbrev pub SamePlacesAreKept : Type 0
SamePlacesAreKept = (old new : Room) → new ≡ old → KeepsRoom old new

abbrev pub PlacesAreKeptOn : Type 0
PlacesAreKeptOn = (a b c : Room) → KeepsRoom a b → KeepsRoom b c → KeepsRoom a c

-- a machine stands as before: it has the configuration and the numbers from then, and no place was
-- lost; its live records are its own
pub record StandsAsBefore (before now : Operating) : Type 0 where
  pub state : HasConfigAndNumbersOf now.state before.state
  pub room : KeepsRoom before.room now.room

-- a sound machine stands as it does, and as it did where it stood so in between
abbrev pub StandsAsItDoes : Type 0
StandsAsItDoes = (p : Operating) → IsSound p.state → StandsAsBefore p p

abbrev pub StandsOn : Type 0
StandsOn = (p q r : Operating) → StandsAsBefore p q → StandsAsBefore q r → StandsAsBefore p r

-- orders and events leave it standing
abbrev pub StepsLeaveItStanding : Type 0
StepsLeaveItStanding = (x : SubId) (step : Step) (p q : Operating)
    → IsSound p.state → q.state ≡ after_step x step p.state → q.room ≡ p.room → StandsAsBefore p q

-- an edit that takes another one back can do so still where the machine stands as it did
abbrev pub CanStillUnapply : Type 0
CanStillUnapply = (i : Carried) (p q : Operating) → CanUnapply i p → StandsAsBefore p q → CanUnapply i q

-- an edit was performed, and later taken back by its inverse, with the live records that were kept
-- or any others of the same subchannels. The machines are those before the edit, after it, when it
-- is taken back, and after that
pub record WasTakenBack (e i : Edit) (before done standing undone : Operating) : Type 0 where
  pub sound : IsSound before.state
  pub performed : done.state ≡ state_after e before.state
  pub room_kept : KeepsRoom before.room done.room
  pub stands : StandsAsBefore done standing
  pub inverse : i ≡ record (inverse_of e before.state) { lives = i.lives }
  pub lives : HasSameKeys i.lives (inverse_of e before.state).lives
  pub taken_back : undone.state ≡ state_after i standing.state
  pub same_room : undone.room ≡ standing.room

-- the machine stands as before it then
abbrev pub TakenBackItStandsAsBefore : Type 0
TakenBackItStandsAsBefore = (e i : Edit) (p q r t : Operating) → WasTakenBack e i p q r t → StandsAsBefore p t
