-- The trees that decks and change decks give: the conditions under which a tree is written and read
-- again.
use Rattle.std.specs.Prelude.{◌≡◌, ◌≤◌, ◌<◌, ℕ, true, List}
use Rattle.iocm_types.specs.declared.key.Key.{Key}
use Rattle.iocm_types.specs.declared.key.Key.TheVariants as key
use Rattle.iocm_types.specs.Name.{is_name}
use Rattle.iocm_model.specs.Change.Edit.{Action, add, delete, modify}
use Rattle.iocm_model.specs.Change.Tree.{depth_of, leaves_of, most_depth, most_leaves}
use Rattle.iocm_model.specs.Machine.Record.{Rec, online, key_of}
use Rattle.iocm_operands.specs.Again.{IsPath}
use Rattle.iocm_round_trip.specs.Given.{IsGiven}
use Rattle.iocm_tree.specs.Carried.{Carried, bare}
use Rattle.iocm_tree.specs.Trees.{CarriedTree, CarriedParts, leaf, row, group, choose, none, part, plain_tree}
use Rattle.iocm_tree_writer.specs.Leaves.{IsDeckRecord}

-- an image's place: a channel subsystem 0 to 5, and a MIF image ID 1 to F there
pub record IsImagePlace (css mif : ℕ) : Type 0 where
  pub subsystem : css < 6
  pub some : 1 ≤ mif
  pub most : mif ≤ 15

-- a limit's place: a channel subsystem 0 to 5, and a subchannel set 0 to 3 of it
pub record IsLimitPlace (css set : ℕ) : Type 0 where
  pub subsystem : css < 6
  pub within : set < 4

-- a device's place: a subchannel set 0 to 3, and a device number of it
pub record IsDevicePlace (set number : ℕ) : Type 0 where
  pub within : set ≤ 3
  pub last : number < 65536

-- a path, and the name of an image
pub record IsPair (css number : ℕ) (name : List ℕ) : Type 0 where
  pub path : IsPath (record { css = css; path = number })
  pub named : is_name name ≡ true

-- a key whose numbers are those of a machine
abbrev pub IsGivenKey : Key → Type 0
IsGivenKey key.Id = Unit {0}
IsGivenKey key.Resource = Unit {0}
IsGivenKey (key.Image css mif) = IsImagePlace css mif
IsGivenKey (key.Limit css set) = IsLimitPlace css set
IsGivenKey (key.Path css number) = IsPath (record { css = css; path = number })
IsGivenKey (key.Unit number) = number ≤ 65534
IsGivenKey (key.Device set number) = IsDevicePlace set number
IsGivenKey (key.Online css number name) = IsPair css number name

-- a record that is added: one of a deck, or that a path is online to an image
abbrev pub IsGivenRecord : Rec → Type 0
IsGivenRecord (online o) = IsPair o.css o.path o.name
IsGivenRecord r = IsGiven r

-- one that is modified; no Online record is, for all of it is its key
abbrev pub IsModified : Rec → Type 0
IsModified (online o) = ⊥
IsModified r = IsGiven r

abbrev pub IsGivenAction : Action → Type 0
IsGivenAction (add r) = IsGivenRecord r
IsGivenAction (delete k) = IsGivenKey k
IsGivenAction (modify r) = IsModified r

-- a record of which each action is such: it may be added, its key may be deleted and, unless it is
-- an Online record, it may be modified
pub record IsOfDecks (r : Rec) : Type 0 where
  pub added : IsGivenAction (add r)
  pub deleted : IsGivenAction (delete (key_of r))
  pub modified : IsDeckRecord r → IsGivenAction (modify r)

-- an edit with which nothing comes along, and that carries no room
pub record IsGivenEdit (c : Carried) : Type 0 where
  pub action : IsGivenAction c.edit.action
  pub alone : bare c.edit.action ≡ c

abbrev mutual
  -- a tree of such edits
  pub IsGivenTree : CarriedTree → Type 0
  IsGivenTree (leaf c) = IsGivenEdit c
  IsGivenTree (row ps) = AreGivenParts ps
  IsGivenTree (group ps) = AreGivenParts ps
  IsGivenTree (choose ps) = AreGivenParts ps

  pub AreGivenParts : CarriedParts → Type 0
  AreGivenParts none = Unit {0}
  AreGivenParts (part p ps) = IsGivenTree p × AreGivenParts ps

-- such a tree within the limits
pub record IsTreeOfDecks (t : CarriedTree) : Type 0 where
  pub given : IsGivenTree t
  pub depth : depth_of (plain_tree t) ≤ most_depth
  pub leaves : leaves_of (plain_tree t) ≤ most_leaves
