-- One edit of a machine, and its way back directly after it: the whole machine is as it was.
use Rattle.std.specs.Prelude.{◌≡◌}
use Rattle.iocm_model.specs.Operation.State.{IsSound}
use Rattle.iocm_model.specs.Change.Edit.{Edit, state_after}
use Rattle.iocm_model.specs.Change.Inverse.{inverse_of}
use Rattle.iocm_tree.specs.Carried.{Carried}
use Rattle.iocm_plant.specs.Operating.{Operating, KeepsRoom}

-- an edit was performed, as `apply` and `force` do it: what takes it back, and the machine before
-- it and after it; no place was lost
pub record WasPerformed (e : Edit) (back : Carried) (before after : Operating) : Type 0 where
  pub state : after.state ≡ state_after e before.state
  pub inverse : back.edit ≡ inverse_of e before.state
  pub room : KeepsRoom before.room after.room

-- an edit was unapplied: what takes that back, and the machine before it and after it
pub record WasUnapplied (i back : Carried) (before after : Operating) : Type 0 where
  pub state : after.state ≡ state_after i.edit before.state
  pub inverse : back.edit ≡ inverse_of i.edit before.state
  pub room : after.room ≡ before.room

-- a machine is as before an edit in all but the places that the edit made; none is lost
pub record IsAsBefore (before between after : Operating) : Type 0 where
  pub whole : after ≡ record before { room = between.room }
  pub room : KeepsRoom before.room after.room

-- an edit that is performed and then unapplied leaves it so, whatever the edit and the machine are
abbrev pub PerformedEditsGoBackWhole : Type 0
PerformedEditsGoBackWhole = (e : Edit) (i back : Carried) (p q r : Operating)
    → IsSound p.state → WasPerformed e i p q → WasUnapplied i back q r → IsAsBefore p q r

-- one that is unapplied and then unapplied again leaves the same machine
abbrev pub UnappliedEditsGoBackWhole : Type 0
UnappliedEditsGoBackWhole = (i j back : Carried) (p q r : Operating)
    → IsSound p.state → WasUnapplied i j p q → WasUnapplied j back q r → r ≡ p
