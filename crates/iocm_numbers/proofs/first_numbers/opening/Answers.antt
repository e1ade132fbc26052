-- No two rows have one place, and no number comes twice in a channel subsystem and set.
use Rattle.std.proofs.Common.{ℕ, List, sym, subst}
use Rattle.std.specs.List.{IsDistinct}
use Rattle.std.specs.Map.{keys_of}
use Rattle.std.specs.Ordering.{eq_by_cmp}
use Rattle.std.specs.FinMap.{from_entries}
use Rattle.iocm_types.specs.declared.place.Place.{Place}
use Rattle.iocm_types.specs.Place.{place_cmp}
use Rattle.iocm_numbers.specs.Numbered.{HasNoNumberTwice}
use Rattle.iocm_numbers.proofs.FirstPlaces.{places_distinct, numbers_apart}
use Rattle.iocm_numbers.proofs.first_numbers.opening.Goals as goal

pub from_rows-requires-clause-places : goal.from_rows-requires-clause-places
from_rows-requires-clause-places g c =
    subst (λ (es : List (Place × ℕ)). IsDistinct (eq_by_cmp place_cmp) (keys_of es)) (sym c.in_ok-rows.ensures)
    (places_distinct c.args.config.now.records c.has_own_keys.ensures)

pub from_rows-requires-clause-apart : goal.from_rows-requires-clause-apart
from_rows-requires-clause-apart g c =
    subst (λ (es : List (Place × ℕ)). HasNoNumberTwice (from_entries es)) (sym c.in_ok-rows.ensures)
    (numbers_apart c.args.config.now.records)
