-- What is wanted in the small configuration, computed.
use Rattle.std.proofs.Common.{◌≡◌, T, List, refl, sym, ap, subst, ◌∙◌}
use Rattle.std.specs.FinMap.{entries, is_sorted, same_map, get-from_entries, get-from_sorted, entries-from_sorted}
use Rattle.iocm_types.specs.Key.{key_cmp}
use Rattle.iocm_types.specs.KeyOrder.{keys_total, keys_exact}
use Rattle.iocm_model.specs.Machine.Configuration.{configuration_of, with_keys}
use Rattle.iocm_model.specs.Machine.Record.{Rec}
use Rattle.iocm_filter.specs.RowExamples.{RowsAsWorked, some_configuration, some_records}

-- the entries of a configuration are the records of which it was made, if these are in the order of keys
pub in_order : (rs : List Rec) → T (is_sorted key_cmp (with_keys rs)) → entries (configuration_of rs) ≡ with_keys rs
in_order rs up = ap entries
    (same_map keys_total keys_exact _ _
    (λ q. get-from_entries keys_total (with_keys rs) q ∙ sym (get-from_sorted key_cmp (with_keys rs) q up)))
    ∙ entries-from_sorted key_cmp (with_keys rs) up

worked : RowsAsWorked (with_keys some_records)
unfolding lib.Count.ones
worked = search refl

pub rows_as_worked : RowsAsWorked (entries some_configuration)
rows_as_worked = subst RowsAsWorked (sym (in_order some_records tt)) worked
