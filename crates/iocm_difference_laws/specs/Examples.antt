-- A change that is refused with V13 although both configurations keep the rules, as it is stated by
-- hand.
use Rattle.std.specs.Prelude.{◌≡◌, List, [], ◌∷◌, None, Some, Err}
use Rattle.iocm_types.specs.declared.refused.At.TheVariants as at
use Rattle.iocm_types.specs.declared.rule.Rule.TheVariants.{V13}
use Rattle.iocm_model.specs.Machine.Configuration.{Configuration, configuration_of}
use Rattle.iocm_model.specs.Machine.Record.{Rec, image, limit, device}
use Rattle.iocm_model.specs.Operation.State.{opening_state}
use Rattle.iocm_model.specs.Laws.Trees.{KeepsTheRules}
use Rattle.iocm_model.specs.Change.Edit.{add, delete}
use Rattle.iocm_model.specs.Change.Meaning.{meaning}
use Rattle.iocm_tree.specs.Trees.{plain_tree}
use Rattle.iocm_difference.specs.Difference.{difference}
use Rattle.iocm_examples.specs.BaseDeck.{lpa, lpb, base, shared_path, path_record, unit_on, device_record}
use Rattle.iocm_examples.specs.BaseDeck.{online_record, device_key}
use Rattle.iocm_difference_laws.specs.Meaning.{row_of, outcome_between}

-- the example deck with the last of its four devices alone, and a limit of one subchannel
abbrev pub limit_of_one : Rec
limit_of_one = limit (record { css = 0; set = 0; limit = 1 })

abbrev pub one_device : List Rec
one_device = image (record { css = 0; mif = 1; name = lpa }) ∷ image (record { css = 0; mif = 2; name = lpb })
    ∷ limit_of_one ∷ shared_path 0x50 ∷ path_record 0x51 (lpa ∷ []) (lpa ∷ lpb ∷ [])
    ∷ unit_on 0x1000 (0x50 ∷ 0x51 ∷ []) None ∷ device (device_record 3)
    ∷ online_record 0x50 lpa ∷ online_record 0x50 lpb ∷ online_record 0x51 lpa ∷ []

-- both as configurations
abbrev pub four_there : Configuration
four_there = configuration_of base

abbrev pub one_there : Configuration
one_there = configuration_of one_device

-- opened by itself, the device has the number 0, which is below the limit; on the machine that is
-- opened with four devices it keeps its number 3
pub record ADeviceKeepsItsNumber : Type 0 where
  pub old : KeepsTheRules (opening_state four_there)
  pub new : KeepsTheRules (opening_state one_there)
  pub actions : difference four_there one_there
      ≡ delete (device_key 0x1000) ∷ delete (device_key 0x1001) ∷ delete (device_key 0x1002) ∷ add limit_of_one ∷ []
  pub refused : meaning (plain_tree (row_of (difference four_there one_there))) (opening_state four_there)
      ≡ Err (record { rule = V13; node = Some 0; at = at.Key (device_key 0x1003) })
  pub outcome : outcome_between four_there one_there
      ≡ Err (record { rule = V13; node = Some 0; at = at.Key (device_key 0x1003) })
