-- Rows in the order of subchannels: the finite map of them, made either way, is one.
use Rattle.std.proofs.Common.{◌≡◌, List, T, sym, ◌∙◌}
use Rattle.std.specs.FinMap.{from_entries, from_sorted, is_sorted, same_map, get-from_entries, get-from_sorted}
use Rattle.iocm_types.specs.declared.sub_id.SubId.{SubId}
use Rattle.iocm_types.specs.SubId.{sub_id_cmp}
use Rattle.iocm_types.specs.KeyOrder.{sub_ids_total, sub_ids_exact}

pub as_rows : {X : Type 0} (rows : List (SubId × X)) → T (is_sorted sub_id_cmp rows)
    → from_entries {R = sub_id_cmp} rows ≡ from_sorted rows
as_rows rows up = same_map sub_ids_total sub_ids_exact _ _
    (λ x. get-from_entries sub_ids_total rows x ∙ sym (get-from_sorted sub_id_cmp rows x up))
