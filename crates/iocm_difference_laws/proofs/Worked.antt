-- The example is computed on states as lists, and its difference by a walk over the records.
use Rattle.std.proofs.Common.{◌≡◌, List, [], ◌∷◌, map, Some, None, T, refl, sym, ap, ◌∙◌}
use Rattle.std.specs.Prelude.{Err}
use Rattle.std.specs.List.{filter_map}
use Rattle.std.specs.FinMap.{entries}
use Rattle.std.specs.FinMap.Entries.{is_sorted}
use Rattle.iocm_types.specs.declared.key.Key.{Key}
use Rattle.iocm_types.specs.declared.refused.At.TheVariants as at
use Rattle.iocm_types.specs.declared.rule.Rule.TheVariants.{V13}
use Rattle.iocm_types.specs.Key.{key_cmp}
use Rattle.iocm_types.specs.KeyOrder.{keys_total, keys_exact}
use Rattle.iocm_model.specs.Machine.Record.{Rec}
use Rattle.iocm_model.specs.Machine.Configuration.{IsKeyed, configuration_of, with_keys}
use Rattle.iocm_model.specs.Operation.State.{opening_state}
use Rattle.iocm_model.specs.Change.Edit.{Action, add, delete}
use Rattle.iocm_model.specs.Change.Meaning.{meaning}
use Rattle.iocm_tree.specs.Trees.{plain_tree}
use Rattle.iocm_difference.specs.Difference.{by_passes, difference}
use Rattle.iocm_difference.specs.Walks.{action_at, pairs_of}
use Rattle.iocm_difference.proofs.Paired.{actions_listed}
use Rattle.iocm_examples.specs.BaseDeck.{base, device_key}
use Rattle.iocm_examples.specs.Edits.{base_opened}
use Rattle.iocm_examples.specs.Rules.{first_breach_at_opening}
use Rattle.iocm_examples.proofs.Computed.Edits.{base_listing, base_is, plain_add, plain_delete}
use Rattle.iocm_examples.proofs.Computed.Rules.{first_breach_of_records, base_keeps_the_rules}
use Rattle.iocm_examples.proofs.Listed.Maps.{entries_in_order}
use Rattle.iocm_examples.proofs.Listed.Trees.{in_row, parts_listed, meaning_refused}
use Rattle.iocm_examples.proofs.OnLists.{states_on_lists, on_lists}
use Rattle.iocm_difference_laws.specs.Examples.{limit_of_one, one_device, four_there, one_there, ADeviceKeepsItsNumber}
use Rattle.iocm_difference_laws.specs.Meaning.{row_of}
use Rattle.iocm_difference_laws.proofs.Meaning.{difference_means}
use Rattle.iocm_difference_laws.proofs.Rows.{one_row_is_a_tree}

-- records in the order of keys are the entries of their configuration
in_order : (rs : List Rec) → T (is_sorted key_cmp (with_keys rs)) → entries (configuration_of rs) ≡ with_keys rs
in_order rs up = entries_in_order key_cmp keys_total keys_exact (with_keys rs) up

values_of : (rs : List Rec) → (es : List (Key × Rec)) → es ≡ with_keys rs → map (λ (e : Key × Rec). e.1) es ≡ rs
values_of rs es is = ap (map (λ (e : Key × Rec). e.1)) is ∙ back rs
  where
    back : (rs : List Rec) → map (λ (e : Key × Rec). e.1) (with_keys rs) ≡ rs
    back [] = refl
    back (r ∷ rs) = ap (λ xs. r ∷ xs) (back rs)

-- each under its own key
keyed : (rs : List Rec) → T (is_sorted key_cmp (with_keys rs)) → IsKeyed (configuration_of rs)
keyed rs up = in_order rs up ∙ ap with_keys (sym (values_of rs (entries (configuration_of rs)) (in_order rs up)))

found : (old new : List Rec) → T (is_sorted key_cmp (with_keys old)) → T (is_sorted key_cmp (with_keys new))
    → difference (configuration_of old) (configuration_of new)
    ≡ by_passes (filter_map action_at (pairs_of (with_keys old) (with_keys new)))
found old new up rise = ap by_passes (sym (actions_listed (configuration_of old) (configuration_of new))
    ∙ (λ i. filter_map action_at (pairs_of (in_order old up i) (in_order new rise i))))

abbrev the_actions : List Action
the_actions = delete (device_key 0x1000) ∷ delete (device_key 0x1001) ∷ delete (device_key 0x1002) ∷ add limit_of_one
    ∷ []

the_difference : difference four_there one_there ≡ the_actions
the_difference = found base one_device tt tt ∙ refl

refused_listed : meaning (plain_tree (row_of the_actions)) base_opened
    ≡ Err (record { rule = V13; node = Some 0; at = at.Key (device_key 0x1003) })
unfolding on_lists base_listing
refused_listed = meaning_refused
    (in_row (parts_listed (plain_delete (device_key 0x1000) ∷ plain_delete (device_key 0x1001)
    ∷ plain_delete (device_key 0x1002) ∷ plain_add limit_of_one ∷ [])))
    _ base_opened base_listing base_is refl

its_refusal : meaning (plain_tree (row_of (difference four_there one_there))) (opening_state four_there)
    ≡ Err (record { rule = V13; node = Some 0; at = at.Key (device_key 0x1003) })
unfolding base_opened
its_refusal = ap (λ actions. meaning (plain_tree (row_of actions)) (opening_state four_there)) the_difference
    ∙ refused_listed

new_keeps : first_breach_at_opening one_device ≡ None
unfolding states_on_lists
new_keeps = first_breach_of_records one_device ∙ refl

pub a_device_keeps_its_number : ADeviceKeepsItsNumber
a_device_keeps_its_number = record {
  old = base_keeps_the_rules;
  new = new_keeps;
  actions = the_difference;
  refused = its_refusal;
  outcome = sym (difference_means four_there one_there (row_of (difference four_there one_there)) (keyed one_device tt)
      new_keeps
      (one_row_is_a_tree (difference four_there one_there))) ∙ its_refusal;
}
