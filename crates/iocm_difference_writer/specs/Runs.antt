-- Runs: actions that follow each other in a difference and are written together. Own.
use Rattle.std.specs.Prelude.{ℕ, ◌+◌, ◌==◌, ◌&&◌, nat_lt, Bool, true, false, List, [], ◌∷◌, ◌++◌, length, map}
use Rattle.std.specs.Prelude.{if◌then◌else◌}
use Rattle.std.specs.Ordering.{is_lt}
use Rattle.iocm_types.specs.declared.key.Key.{Key}
use Rattle.iocm_types.specs.declared.key.Key.TheVariants as key
use Rattle.iocm_types.specs.Key.{key_cmp}
use Rattle.iocm_model.specs.Change.Edit.{Action, add, delete, modify}
use Rattle.iocm_model.specs.Machine.Record.{key_of}
use Rattle.iocm_tree.specs.Carried.{Carried}

-- the actions of edits
abbrev pub action_in : Carried → Action
action_in e = e.edit.action

abbrev pub actions_in : List Carried → List Action
actions_in edits = map action_in edits

-- the most devices that one statement names
abbrev pub most_devices : ℕ
most_devices = 4096

-- two pairs of a path and an image that it is online to, with the same path
abbrev pub of_one_path : Key → Key → Bool
of_one_path (key.Online css path name) (key.Online its_css its_path its_name) = (css == its_css) && (path == its_path)
of_one_path _ _ = false

-- the other pair of the path, behind the one in the order of keys
abbrev pub is_next_pair : Key → Key → Bool
is_next_pair last next = of_one_path last next && is_lt (key_cmp last next)

-- records that are put with one verb: devices, and pairs of one path
abbrev pub are_put_together : Key → Key → Bool
are_put_together (key.Device set number) (key.Device its_set its_number) = true
are_put_together last next = is_next_pair last next

-- what is deleted in one statement: devices of one set whose numbers follow each other, as many as
-- it may name, and pairs of one path
abbrev pub are_deleted_together : ℕ → Key → Key → Bool
are_deleted_together count (key.Device set number) (key.Device its_set its_number) =
    nat_lt count most_devices && (its_set == set) && (its_number == number + 1)
are_deleted_together count last next = is_next_pair last next

-- whether an action goes with a run of so many, by the last one of the run
abbrev pub goes_with : ℕ → Action → Action → Bool
goes_with count (add last) (add next) = are_put_together (key_of last) (key_of next)
goes_with count (modify last) (modify next) = are_put_together (key_of last) (key_of next)
goes_with count (delete last) (delete next) = are_deleted_together count last next
goes_with count _ _ = false

-- a run so far, its last action, and what follows it: an action that goes with the run makes it
-- longer, another one begins a run
abbrev pub runs_from : List Action → Action → List Action → List (List Action)
runs_from run last [] = run ∷ []
runs_from run last (a ∷ actions) =
    if goes_with (length run) last a then runs_from (run ++ a ∷ []) a actions
    else run ∷ runs_from (a ∷ []) a actions

-- the runs of actions, as long as can be
abbrev pub runs : List Action → List (List Action)
runs [] = []
runs (a ∷ actions) = runs_from (a ∷ []) a actions
