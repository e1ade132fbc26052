use Rattle.std.proofs.Common.{map, sym, ap, subst, ◌∙◌}
use Rattle.std.specs.List.{IsDistinct}
use Rattle.std.specs.Map.{keys_of}
use Rattle.std.specs.Ordering.{eq_by_cmp}
use Rattle.std.specs.FinMap.{contains_key, from_entries}
use Rattle.iocm_types.specs.Naming.{naming_cmp}
use Rattle.iocm_index.specs.Namings.{as_row}
use Rattle.iocm_index.proofs.Sorting.{apart, in_rows}
use Rattle.iocm_index.proofs.index.Index.from_namings.Goals as goal

pub from_rows-requires : goal.from_rows-requires
from_rows-requires g c =
    subst (λ rs. IsDistinct (eq_by_cmp naming_cmp) (keys_of rs))
    (sym (c.in_ok-listed.ensures ∙ ap (map as_row) c.as_slice.ensures.value))
    (apart c.in_ok-distinct.distinct.items c.in_ok-distinct.ensures.order)

pub returns-clause-linked : goal.returns-clause-linked
returns-clause-linked g c n =
    ap (λ m. contains_key m n)
    (c.in_ok-from_rows.ensures.rows
    ∙ ap from_entries (c.in_ok-listed.ensures ∙ ap (map as_row) c.as_slice.ensures.value))
    ∙ in_rows c.in_ok-distinct.distinct.items n ∙ c.in_ok-distinct.ensures.same n
