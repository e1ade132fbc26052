use Rattle.std.proofs.Common.{List, subst, sym, ap, ◌∙◌}
use Rattle.std.specs.List.{IsDistinct}
use Rattle.std.specs.Map.{keys_of}
use Rattle.std.specs.Ordering.{eq_by_cmp}
use Rattle.std.specs.FinMap.{from_entries}
use Rattle.iocm_types.specs.Key.{key_cmp}
use Rattle.iocm_types.specs.declared.key.Key.{Key}
use Rattle.iocm_model.specs.Machine.Record.{Rec}
use Rattle.iocm_model.specs.Machine.Configuration.{with_keys, IsKeyed}
use Rattle.iocm_config.proofs.Keyed.{keyed_made, keys_apart}
use Rattle.iocm_config.proofs.OnlineLast.{same_configuration, keys_stay_apart}
use Rattle.iocm_config.proofs.config.Config.from_records.Goals as goal

pub from_rows-requires : goal.from_rows-requires
from_rows-requires g c = subst (λ (es : List (Key × Rec)). IsDistinct (eq_by_cmp key_cmp) (keys_of es))
    (sym c.in_ok-listed.ensures)
    (keys_stay_apart (with_keys c.args.records.items) (keys_apart c.args.records.items c.requires))

pub returns : goal.returns
returns g c = c.in_ok-table.ensures.rows
    ∙ ap (λ (es : List (Key × Rec)). from_entries {R = key_cmp} es) c.in_ok-listed.ensures
    ∙ same_configuration (with_keys c.args.records.items)

pub invariant_of-result : goal.invariant_of-result
invariant_of-result g c = subst IsKeyed (sym (returns g c)) (keyed_made c.args.records.items)
