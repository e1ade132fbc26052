-- What an activation gives: the edits that were performed, and the tree that takes them back.
use Rattle.std.specs.Prelude.{◌≡◌, List, [], ◌∷◌, map, Option, None, Some, Ok, Err}
use Rattle.iocm_types.specs.declared.refused.Refused.{Refused}
use Rattle.iocm_model.specs.Operation.State.{State}
use Rattle.iocm_model.specs.Change.Edit.{Edit}
use Rattle.iocm_model.specs.Change.Meaning.{Outcome, meaning}
use Rattle.iocm_model.specs.Change.Tree.{ChangeTree}
use Rattle.iocm_tree.specs.Carried.{Carried}
use Rattle.iocm_tree.specs.Trees.{CarriedTree, CarriedParts, leaf, row, none, part}
use Rattle.iocm_plant.specs.Operating.{Operating}
use Rattle.iocm_plant.specs.declared.touched.Applied.{Applied}
use Rattle.iocm_plant.specs.declared.touched.Touched.{Touched}
use Rattle.iocm_activate.specs.Told.{Told, LeadsTo}

-- the edits that a tree performs, and why it is refused
abbrev pub edits_of : Outcome → List Edit
edits_of (Ok r) = r.edits
edits_of (Err why) = []

abbrev pub refusal_in : Outcome → Option Refused
refusal_in (Ok r) = None
refusal_in (Err why) = Some why

-- the edits that a change tree means in a state; none, if it is refused there
abbrev pub edits_meant : ChangeTree → State → List Edit
edits_meant p s = edits_of (meaning p s)

-- edits as the parts of a node
abbrev pub leaves_from : List Carried → CarriedParts
leaves_from [] = none
leaves_from (i ∷ is) = part (leaf i) (leaves_from is)

-- a tree is one Row of edits that can be unapplied on a machine, one after the other, without
-- memory, and lead to a state
pub record IsWayBack (t : CarriedTree) (s : State) (p : Operating) : Type 0 where
  pub edits : List Carried
  pub shape : t ≡ row (leaves_from edits)
  pub leads : LeadsTo edits s p

-- what each of these edits did
abbrev pub touched_in : List Applied → List Touched
touched_in done = map (λ (a : Applied). a.touched) done

-- what was told of an edit, but for the edit that takes it back
abbrev pub IsToldBy : Touched → Told → Type 0
IsToldBy d t = (d.numbers.items ≡ t.numbers) × (d.subchannels.items ≡ t.subchannels)

-- the same of edits, in their order
abbrev pub AreToldBy : List Touched → List Told → Type 0
AreToldBy [] [] = Unit {0}
AreToldBy (d ∷ ds) (t ∷ ts) = IsToldBy d t × AreToldBy ds ts
AreToldBy _ _ = ⊥
