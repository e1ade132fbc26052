-- The difference of two configurations: the actions that lead from one to the other, in an order
-- that alters few subchannels for a while only.
use Rattle.std.specs.Prelude.{ℕ, ◌==◌, Bool, true, false, Option, None, Some, List, [], ◌∷◌, filter, if◌then◌else◌}
use Rattle.std.specs.List.{filter_map, flat_map}
use Rattle.std.specs.FinMap.{get}
use Rattle.iocm_types.specs.declared.key.Key.{Key}
use Rattle.iocm_types.specs.declared.key.Key.TheVariants.{Image, Device, Online}
use Rattle.iocm_model.specs.Machine.Record.{Rec, key_of}
use Rattle.iocm_model.specs.Machine.Configuration.{Configuration}
use Rattle.iocm_model.specs.Change.Edit.{Action, add, delete, modify}
use Rattle.iocm_model.specs.Change.Maps.{differing}
use Rattle.iocm_difference.specs.Same.{same_record}

-- what leads the record of a key from this to that: nothing where neither is there, or where both
-- are the same
abbrev pub action_between : Key → Option Rec → Option Rec → Option Action
action_between key None None = None
action_between key None (Some new) = Some (add new)
action_between key (Some old) None = Some (delete key)
action_between key (Some old) (Some new) = if same_record old new then None else Some (modify new)

-- the ends between which subchannels come and go: images, devices, and the pairs of a path and an
-- image that it is online to
abbrev pub is_end : Key → Bool
is_end (Image css mif) = true
is_end (Device set number) = true
is_end (Online css path name) = true
is_end _ = false

-- the pass of an action. Ends go first and come last: while what lies between changes, subchannels
-- that go are gone, and those that come are not there yet. Between the ends, all is in place before
-- the ends that stay are modified, and what goes is there until then. So subchannels that stay keep
-- a way. Of the orders that were tried, this one altered the fewest for a while. An online pair is
-- all key, so it is never modified.
abbrev pub pass_of : Action → ℕ
pass_of (delete key) = if is_end key then 0 else 3
pass_of (add r) = if is_end (key_of r) then 4 else 1
pass_of (modify r) = if is_end (key_of r) then 2 else 1

-- the actions of a pass, in their order
abbrev pub in_pass : List Action → ℕ → List Action
in_pass actions pass = filter (λ a. pass_of a == pass) actions

-- actions pass by pass
abbrev pub by_passes : List Action → List Action
by_passes actions = flat_map (in_pass actions) (0 ∷ 1 ∷ 2 ∷ 3 ∷ 4 ∷ [])

-- what leads from one configuration to another, in the order of keys
abbrev pub actions_between : Configuration → Configuration → List Action
actions_between c d = filter_map (λ key. action_between key (get c key) (get d key)) (differing same_record c d)

-- the difference of two configurations: what leads from one to the other, pass by pass, each in the
-- order of keys
abbrev pub difference : Configuration → Configuration → List Action
difference c d = by_passes (actions_between c d)
