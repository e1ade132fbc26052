-- What is kept of edits that were performed: what each changed, and the edits that take them back.
use Rattle.std.specs.Prelude.{◌≡◌, List, [], ◌∷◌, ◌++◌, map}
use Rattle.iocm_types.specs.declared.key.Key.{Key}
use Rattle.iocm_model.specs.Operation.State.{State, views_in}
use Rattle.iocm_model.specs.Change.Edit.{Edit, action_key, state_after}
use Rattle.iocm_model.specs.Change.Inverse.{inverse_of}
use Rattle.iocm_model.specs.Change.Runs.{state_after_all}
use Rattle.iocm_numbers.specs.declared.number_change.NumberChange.{NumberChange}
use Rattle.iocm_numbers.specs.NumberChanges as numbers
use Rattle.iocm_seats.specs.declared.view_change.ViewChange.{ViewChange}
use Rattle.iocm_seats.specs.Changes as views
use Rattle.iocm_tree.specs.Carried.{Carried}
use Rattle.iocm_plant.specs.Operating.{Operating}
use Rattle.iocm_plant.specs.TakingBack.{CanUnapply}
use Rattle.iocm_plant.specs.declared.touched.Applied.{Applied}

-- of an edit that was performed: the edit that takes it back, the number cells that changed, and
-- the subchannels that were altered
pub record Told : Type 0 where
  pub inverse : Edit
  pub numbers : List NumberChange
  pub subchannels : List ViewChange

abbrev pub told_of : Edit → State → Told
told_of e s = let t = state_after e s in record {
  inverse = inverse_of e s;
  numbers = numbers.changes_between s.numbers t.numbers;
  subchannels = views.changes_between (views_in s) (views_in t);
}

-- of edits, one after the other
abbrev pub told_of_all : List Edit → State → List Told
told_of_all [] s = []
told_of_all (e ∷ es) s = told_of e s ∷ told_of_all es (state_after e s)

-- what is kept in memory of an edit
abbrev pub told_in : Applied → Told
told_in a = record {
  inverse = a.inverse.edit;
  numbers = a.touched.numbers.items;
  subchannels = a.touched.subchannels.items;
}

-- edits led to a state, and what is kept in memory tells what each of them did
pub record HaveLedTo (done : List Applied) (s : State) : Type 0 where
  pub before : State
  pub edits : List Edit
  pub told : map told_in done ≡ told_of_all edits before
  pub now : s ≡ state_after_all edits before

-- the key of an edit
abbrev pub key_of_edit : Edit → Key
key_of_edit e = action_key e.action

-- the edits that take these back, in the order in which they do so: that of the last one first
abbrev pub way_back : List Applied → List Carried
way_back [] = []
way_back (a ∷ ds) = way_back ds ++ (a.inverse ∷ [])

-- edits that can be unapplied on a machine, one after the other, and lead to a state
abbrev pub LeadsTo : List Carried → State → Operating → Type 0
LeadsTo [] s p = p.state ≡ s
LeadsTo (i ∷ is) s p = CanUnapply i p × ((q : Operating) → q.state ≡ state_after i.edit p.state → q.room ≡ p.room
    → LeadsTo is s q)

-- the edits that were performed last can be taken back, to some state
pub record CanTakeBack (done : List Applied) (p : Operating) : Type 0 where
  pub state : State
  pub leads : LeadsTo (way_back done) state p
