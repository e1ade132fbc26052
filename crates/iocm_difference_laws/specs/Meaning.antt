-- What the change of a difference means on the machine that is opened from the old configuration.
use Rattle.std.specs.Prelude.{◌≡◌, ◌≤◌, ◌↔◌, nat_lt, true, false, if◌then◌else◌, Option, None, Some, Ok, Err, List, map}
use Rattle.std.specs.Prelude.{length}
use Rattle.std.specs.FinMap.{get}
use Rattle.std.specs.declared.cmp.Ordering.TheVariants.{Less}
use Rattle.iocm_types.specs.declared.key.Key.{Key}
use Rattle.iocm_types.specs.declared.refused.At.TheVariants as at
use Rattle.iocm_types.specs.declared.rule.Rule.TheVariants.{C2, V13}
use Rattle.iocm_types.specs.Key.{key_cmp}
use Rattle.iocm_model.specs.Machine.Record.{Rec, key_of}
use Rattle.iocm_model.specs.Machine.Configuration.{Configuration, IsKeyed, records_of}
use Rattle.iocm_model.specs.Machine.Numbering.{Numbering}
use Rattle.iocm_model.specs.Operation.State.{opening_state}
use Rattle.iocm_model.specs.Rules.EachRule.{breaks_v13}
use Rattle.iocm_model.specs.Rules.FirstBreach.{first_record}
use Rattle.iocm_model.specs.Laws.Trees.{KeepsTheRules}
use Rattle.iocm_model.specs.Change.Edit.{Action}
use Rattle.iocm_model.specs.Change.Refusal.{refusal_at}
use Rattle.iocm_model.specs.Change.Tree.{leaves_of, depth_of, most_depth, most_leaves}
use Rattle.iocm_model.specs.Change.Meaning.{Performed, Outcome, at_node, meaning}
use Rattle.iocm_tree.specs.Carried.{bare}
use Rattle.iocm_tree.specs.Trees.{CarriedTree, leaf, row, parts_from, plain_tree}
use Rattle.iocm_difference.specs.Difference.{difference}
use Rattle.iocm_difference_writer.specs.Again.{edits_in, IsOfRows}
use Rattle.iocm_difference_laws.specs.Opened.{performed_between}

-- a tree of Rows alone whose edits are these actions, in order. It isn't too deep, and where the
-- actions aren't too many it hasn't too many leaves: a Row without parts counts as a leaf
pub record IsTreeOfActions (actions : List Action) (t : CarriedTree) : Type 0 where
  pub in_rows : IsOfRows t
  pub edits : edits_in t ≡ map bare actions
  pub depth : depth_of (plain_tree t) ≤ most_depth
  pub leaves : length actions ≤ most_leaves → leaves_of (plain_tree t) ≤ most_leaves

-- one Row with a leaf for each action
abbrev pub row_of : List Action → CarriedTree
row_of actions = row (parts_from (map (λ a. leaf (bare a)) actions))

-- the first device, in the order of keys, that has a number at or above its limit
abbrev pub first_over_limit : Configuration → Numbering → Option Rec
first_over_limit d n = first_record (breaks_v13 d n) (records_of d)

-- V13 at the root of the tree, with the key of a device, if there is one; else what was performed
abbrev pub unless_over_limit : Option Rec → Performed → Outcome
unless_over_limit (Some r) performed = Err (at_node 0 (refusal_at V13 (at.Key (key_of r))))
unless_over_limit None performed = Ok performed

-- what the change of a difference comes to: C2 where it has more edits than a tree may have leaves;
-- else V13 with the first device over its limit; else its edits are performed, and nothing else
abbrev pub outcome_between : Configuration → Configuration → Outcome
outcome_between c d =
    if nat_lt most_leaves (length (difference c d)) then Err (refusal_at C2 at.Nothing)
    else let p = performed_between c d in unless_over_limit (first_over_limit d p.state.numbers) p

-- where the new configuration keeps the rules when it is opened, each tree of the difference means
-- that on the machine that is opened from the old one
abbrev pub DifferenceMeans : Type 0
DifferenceMeans = (c d : Configuration) (t : CarriedTree) → IsKeyed d → KeepsTheRules (opening_state d)
    → IsTreeOfActions (difference c d) t
    → meaning (plain_tree t) (opening_state c) ≡ outcome_between c d

-- the state that is reached has the new configuration
abbrev pub ReachesTheNew : Type 0
ReachesTheNew = (c d : Configuration) → IsKeyed d → (performed_between c d).state.config ≡ d

-- a device is over its limit, and none with a smaller key is
pub record IsLeastOverLimit (d : Configuration) (n : Numbering) (r : Rec) : Type 0 where
  pub there : get d (key_of r) ≡ Some r
  pub over : breaks_v13 d n r ≡ true
  pub least : (key : Key) (other : Rec) → get d key ≡ Some other → key_cmp key (key_of r) ≡ Less
      → breaks_v13 d n other ≡ false

-- no device is over its limit
abbrev pub HasRoom : Configuration → Numbering → Type 0
HasRoom d n = (key : Key) (r : Rec) → get d key ≡ Some r → breaks_v13 d n r ≡ false

-- the device that V13 names is the least
abbrev pub NamesTheLeast : Type 0
NamesTheLeast = (d : Configuration) (n : Numbering) (r : Rec) → IsKeyed d → first_over_limit d n ≡ Some r
    → IsLeastOverLimit d n r

-- and none is named exactly where each has room
abbrev pub NamesNoneWithRoom : Type 0
NamesNoneWithRoom = (d : Configuration) (n : Numbering) → IsKeyed d → (first_over_limit d n ≡ None) ↔ HasRoom d n

-- one Row of the actions is such a tree
abbrev pub OneRowIsATree : Type 0
OneRowIsATree = (actions : List Action) → IsTreeOfActions actions (row_of actions)
