-- The difference of configurations whose records are listed in the order of keys, computed.
use Rattle.std.proofs.Common.{◌≡◌, List, T, refl, sym, ap, ◌∙◌}
use Rattle.std.specs.List.{filter_map}
use Rattle.std.specs.FinMap.{entries, same_map, get-from_entries, get-from_sorted, entries-from_sorted}
use Rattle.std.specs.FinMap.Entries.{is_sorted}
use Rattle.iocm_types.specs.Key.{key_cmp}
use Rattle.iocm_types.specs.KeyOrder.{keys_total, keys_exact}
use Rattle.iocm_model.specs.Machine.Record.{Rec}
use Rattle.iocm_model.specs.Machine.Configuration.{configuration_of, with_keys}
use Rattle.iocm_model.specs.Change.Edit.{Action}
use Rattle.iocm_difference.specs.Difference.{by_passes}
use Rattle.iocm_difference.specs.Walks.{action_at, pairs_of}
use Rattle.iocm_difference.specs.Examples.{Leads, OneRecord, ARenamedImage, AllPasses}
use Rattle.iocm_difference.proofs.Paired.{actions_listed}

-- records in the order of keys are the entries of their configuration
pub in_order : (rs : List Rec) → T (is_sorted key_cmp (with_keys rs)) → entries (configuration_of rs) ≡ with_keys rs
in_order rs up = ap entries
    (same_map keys_total keys_exact _ _
    (λ q. get-from_entries keys_total (with_keys rs) q ∙ sym (get-from_sorted key_cmp (with_keys rs) q up)))
    ∙ entries-from_sorted key_cmp (with_keys rs) up

-- so the difference is found by a walk over them
found : (old : List Rec) (actions : List Action) (new : List Rec) → T (is_sorted key_cmp (with_keys old))
    → T (is_sorted key_cmp (with_keys new))
    → by_passes (filter_map action_at (pairs_of (with_keys old) (with_keys new))) ≡ actions → Leads old actions new
found old actions new up rise is = record {
  are = ap by_passes (sym (actions_listed (configuration_of old) (configuration_of new))
      ∙ (λ i. filter_map action_at (pairs_of (in_order old up i) (in_order new rise i)))) ∙ is;
}

pub one_record : OneRecord
one_record = record {
  none = found _ _ _ tt tt refl;
  from_nothing = found _ _ _ tt tt refl;
  device_deleted = found _ _ _ tt tt refl;
  unit_modified = found _ _ _ tt tt refl;
  operand_carried = found _ _ _ tt tt refl;
  pair_comes = found _ _ _ tt tt refl;
  pair_goes = found _ _ _ tt tt refl;
  deck_carries = found _ _ _ tt tt refl;
}

pub a_renamed_image : ARenamedImage
a_renamed_image = found _ _ _ tt tt refl

pub all_passes : AllPasses
all_passes = found _ _ _ tt tt refl
