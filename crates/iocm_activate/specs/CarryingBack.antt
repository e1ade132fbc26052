-- An inverse tree that is carried out because the change fits.
use Rattle.std.specs.Prelude.{◌≡◌, Bool, true, false, ◌&&◌, List, [], ◌∷◌, Ok}
use Rattle.iocm_model.specs.Operation.State.{State}
use Rattle.iocm_model.specs.Change.Edit.{Edit}
use Rattle.iocm_model.specs.Change.InverseTree.{inverse_tree, TakesBack}
use Rattle.iocm_model.specs.Change.Meaning.{meaning}
use Rattle.iocm_model.specs.Change.Tree.{ChangeTree}
use Rattle.iocm_history.specs.Fits.{fits}
use Rattle.iocm_plant.specs.declared.touched.Applied.{Applied}
use Rattle.iocm_plant.specs.declared.touched.Touched.{Touched}
use Rattle.iocm_activate.specs.Done.{edits_meant, AreToldBy}
use Rattle.iocm_activate.specs.Fitting.{is_turned}
use Rattle.iocm_activate.specs.Told.{told_of_all}

-- each of some edits did just what another one did, turned round; the others are in the order in
-- which they are taken back, and there may be more of them
abbrev pub are_turned_back : List Applied → List Touched → Bool
are_turned_back [] ds = true
are_turned_back (a ∷ done) [] = false
are_turned_back (a ∷ done) (d ∷ ds) = is_turned a.touched d && are_turned_back done ds

-- an inverse tree was carried out. Each change of which it is the inverse tree, and of whose edits
-- this was told, fitted before. The tree that is given takes the edits back
pub record WentBack (t : ChangeTree) (performed : List Touched) (before after : State) (redo : ChangeTree) : Type
    0 where
  pub means : meaning t before ≡ Ok (record { state = after; edits = edits_meant t before })
  pub inverse : redo ≡ inverse_tree (edits_meant t before) before
  pub takes_back : TakesBack redo (edits_meant t before) before
  pub fitted : (es : List Edit) (s : State) → t ≡ inverse_tree es s → AreToldBy performed (told_of_all es s)
      → fits (record { edits = es; from = s }) before ≡ true
