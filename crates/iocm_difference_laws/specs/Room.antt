-- When each device has room after the change of a difference.
use Rattle.std.specs.Prelude.{◌≡◌, ◌≤◌, ◌==◌, ℕ, Ok, List, map, filter, length}
use Rattle.iocm_types.specs.declared.key.Key.TheVariants.{Limit}
use Rattle.iocm_model.specs.Machine.Configuration.{Configuration, IsKeyed, lookup_of, devices_of}
use Rattle.iocm_model.specs.Machine.Record.{DeviceRecord}
use Rattle.iocm_model.specs.Operation.State.{opening_state}
use Rattle.iocm_model.specs.Rules.EachRule.{limit_or_default}
use Rattle.iocm_model.specs.Laws.Trees.{KeepsTheRules}
use Rattle.iocm_model.specs.Change.Meaning.{meaning}
use Rattle.iocm_model.specs.Change.Tree.{most_leaves}
use Rattle.iocm_tree.specs.Trees.{CarriedTree, plain_tree}
use Rattle.iocm_difference.specs.Difference.{difference}
use Rattle.iocm_difference_laws.specs.Opened.{performed_between}
use Rattle.iocm_difference_laws.specs.Meaning.{IsTreeOfActions, HasRoom}

-- the device numbers of a set
abbrev pub devices_in : Configuration → ℕ → List ℕ
devices_in c set = map (λ (d : DeviceRecord). d.number) (filter (λ (d : DeviceRecord). d.set == set) (devices_of c))

-- below which number the subchannels of a set stay in a channel subsystem
abbrev pub limit_in : Configuration → ℕ → ℕ → ℕ
limit_in d css set = limit_or_default set (lookup_of d (Limit css set))

-- each limit of one configuration is at least the number of devices that another has in that set
abbrev pub HasLimitsFor : Configuration → Configuration → Type 0
HasLimitsFor d c = (css set : ℕ) → length (devices_in c set) ≤ limit_in d css set

-- where the limits of the new configuration are enough for the old one and for itself, each device
-- has room after the edits of their difference
abbrev pub DifferenceHasRoom : Type 0
DifferenceHasRoom = (c d : Configuration) → IsKeyed c → IsKeyed d → HasLimitsFor d c → HasLimitsFor d d
    → HasRoom d (performed_between c d).state.numbers

-- so the change is accepted, unless it has too many edits
abbrev pub RoomIsEnough : Type 0
RoomIsEnough = (c d : Configuration) (t : CarriedTree) → IsKeyed c → IsKeyed d → KeepsTheRules (opening_state d)
    → HasLimitsFor d c → HasLimitsFor d d → IsTreeOfActions (difference c d) t → length (difference c d) ≤ most_leaves
    → meaning (plain_tree t) (opening_state c) ≡ Ok (performed_between c d)
