-- What the difference of two configurations promises.
use Rattle.std.specs.Prelude.{◌≡◌, ◌≤◌, ◌↔◌, Bool, true, false, List, [], ◌∷◌, map, length}
use Rattle.std.specs.List.{All, IsDistinct, list_any}
use Rattle.std.specs.List.Sorted.{IsPermutation}
use Rattle.std.specs.Ordering.{eq_by_cmp}
use Rattle.std.specs.FinMap.{get}
use Rattle.iocm_types.specs.declared.key.Key.{Key}
use Rattle.iocm_types.specs.Key.{key_cmp}
use Rattle.iocm_model.specs.Machine.Record.{Rec, OnlineRecord, online}
use Rattle.iocm_model.specs.Machine.Configuration.{Configuration, IsKeyed}
use Rattle.iocm_model.specs.Change.Edit.{Action, modify, action_key, record_after, config_after}
use Rattle.iocm_model.specs.Change.Inverse.{action_back}
use Rattle.iocm_difference.specs.Same.{same_record}
use Rattle.iocm_difference.specs.Difference.{difference}

-- records are the same exactly where they are equal
abbrev pub SameAreEqual : Type 0
SameAreEqual = (a b : Rec) → (same_record a b ≡ true) ↔ (a ≡ b)

-- the configuration after actions, one after the other
abbrev pub config_after_all : List Action → Configuration → Configuration
config_after_all [] c = c
config_after_all (a ∷ actions) c = config_after_all actions (config_after a c)

-- whether the record of a key is edited
abbrev pub is_edited : Key → List Action → Bool
is_edited key actions = list_any (eq_by_cmp key_cmp key) (map action_key actions)

-- each action leaves at its key what a configuration has there, and at all other keys it has what
-- another has
pub record BringAcross (actions : List Action) (c d : Configuration) : Type 0 where
  pub leave : All (λ a. record_after a ≡ get d (action_key a)) actions
  pub others : (key : Key) → is_edited key actions ≡ false → get c key ≡ get d key

-- such actions lead from the other to it, in whatever order they stand
abbrev pub AnyOrderLeads : Type 0
AnyOrderLeads = (actions : List Action) (c d : Configuration) → BringAcross actions c d → config_after_all actions c ≡ d

-- the difference leads from one configuration to the other, in whatever order it is performed
abbrev pub DifferenceLeads : Type 0
DifferenceLeads = (c d : Configuration) (actions : List Action) → IsKeyed d → IsPermutation (difference c d) actions
    → config_after_all actions c ≡ d

-- no key is edited twice
abbrev pub EditsEachKeyOnce : Type 0
EditsEachKeyOnce = (c d : Configuration) → IsKeyed d → IsDistinct (eq_by_cmp key_cmp) (map action_key (difference c d))

-- a key is left alone exactly where both configurations have the same record there, or none
abbrev pub EditsWhatDiffers : Type 0
EditsWhatDiffers = (c d : Configuration) (key : Key) → IsKeyed d
    → (is_edited key (difference c d) ≡ false) ↔ (get c key ≡ get d key)

-- no shorter list of actions leads from one configuration to the other
abbrev pub DifferenceIsLeast : Type 0
DifferenceIsLeast = (c d : Configuration) (actions : List Action) → config_after_all actions c ≡ d
    → length (difference c d) ≤ length actions

-- a configuration doesn't differ from itself
abbrev pub NothingDiffers : Type 0
NothingDiffers = (c : Configuration) → difference c c ≡ []

-- an online pair is all key, so it is never modified
abbrev pub ModifiesNoPair : Type 0
ModifiesNoPair = (c d : Configuration) → IsKeyed c → IsKeyed d
    → All (λ a. (r : OnlineRecord) → a ≡ modify (online r) → ⊥) (difference c d)

-- what takes an action back that is performed in a configuration
abbrev pub back_in : Configuration → Action → Action
back_in c a = action_back (action_key a) (get c (action_key a)) (record_after a)

-- the difference the other way round has the actions that take those of the difference back
abbrev pub DifferenceGoesBack : Type 0
DifferenceGoesBack = (c d : Configuration) → IsKeyed d
    → IsPermutation (map (back_in c) (difference c d)) (difference d c)
