-- Whether edits that take others back do so in a state. Each has to undo just what the other one
-- did, number cell by number cell and view by view.
use Rattle.std.specs.Prelude.{◌≡◌, ◌==◌, Bool, ◌&&◌, not, if◌then◌else◌, Option, None, Some, List, [], ◌∷◌, reverse}
use Rattle.std.specs.Option.{option_eq, option_and_then}
use Rattle.std.specs.Ordering.{eq_by_cmp}
use Rattle.std.specs.Cmp.Lexicographic.{pointwise}
use Rattle.iocm_types.specs.Place.{cell_cmp}
use Rattle.iocm_types.specs.SubId.{sub_id_cmp}
use Rattle.iocm_model.specs.Operation.State.{State, views_in}
use Rattle.iocm_model.specs.Change.Edit.{Edit, same_view, state_after}
use Rattle.iocm_model.specs.Change.Tree.{ChangeTree, Parts, leaf, none, part}
use Rattle.iocm_history.specs.Fits.{is_barred}
use Rattle.iocm_numbers.specs.declared.number_change.NumberChange.{NumberChange}
use Rattle.iocm_numbers.specs.NumberChanges as numbers
use Rattle.iocm_seats.specs.declared.view_change.ViewChange.{ViewChange}
use Rattle.iocm_seats.specs.Changes as views
use Rattle.iocm_plant.specs.Operating.{Operating, KeepsRoom}
use Rattle.iocm_plant.specs.declared.touched.Touched.{Touched}
use Rattle.iocm_activate.specs.Told.{way_back, LeadsTo}
use Rattle.iocm_activate.specs.Walked.{WereKept}
use Rattle.iocm_activate.specs.declared.log.Log.{Log}

-- one change is the other turned round: at the same cell, from what was there after that one to
-- what was there before it
abbrev pub is_turned_number : NumberChange → NumberChange → Bool
is_turned_number now was = eq_by_cmp cell_cmp now.cell was.cell
    && (option_eq ◌==◌ now.before was.after && option_eq ◌==◌ now.after was.before)

abbrev pub is_turned_view : ViewChange → ViewChange → Bool
is_turned_view now was = eq_by_cmp sub_id_cmp now.subchannel was.subchannel
    && (option_eq same_view now.before was.after && option_eq same_view now.after was.before)

-- an edit did just what another one did, turned round
abbrev pub is_turned : Touched → Touched → Bool
is_turned now was = pointwise is_turned_number now.numbers.items was.numbers.items
    && pointwise is_turned_view now.subchannels.items was.subchannels.items

-- the state that an edit leaves, if it can be performed there, be the subchannels quiet or not. Its
-- changes have to be those of another one turned round
abbrev pub gone_back : Edit → Touched → State → Option State
gone_back e was s = let t = state_after e s in
    if not (is_barred e s)
    && pointwise is_turned_number (numbers.changes_between s.numbers t.numbers) was.numbers.items
    && pointwise is_turned_view (views.changes_between (views_in s) (views_in t)) was.subchannels.items
    then Some t else None

-- the same of a part of a node, which is to be an edit
abbrev pub part_gone_back : ChangeTree → Touched → State → Option State
part_gone_back (leaf e) was s = gone_back e was s
part_gone_back _ was s = None

-- the same of the parts of a node, one after the other, each with the edit that it takes back
abbrev pub gone_back_along : Parts → List Touched → State → Option State
gone_back_along none ds s = Some s
gone_back_along (part p ps) [] s = None
gone_back_along (part p ps) (d ∷ ds) s = option_and_then (gone_back_along ps ds) (part_gone_back p d s)

-- a walk along them went all the way, or not
abbrev pub way_gone : Bool → State → Option State
way_gone went s = if went then Some s else None

-- in the middle of the way: some parts went back, each with its own. How far all of them go is how
-- far the rest goes from here. What was done can be taken back, and so can what was done before it
pub record IsOnTheWay (whole : Option State) (rest : Parts) (left : List Touched) (before : Operating) (old : Log)
    (now : Operating) (log : Log) : Type 0 where
  pub further : whole ≡ gone_back_along rest (reverse left) now.state
  pub back : (s : State) → LeadsTo (way_back old.done.items) s before → LeadsTo (way_back log.done.items) s now
  pub room : KeepsRoom before.room now.room
  pub kept : WereKept log now.state
