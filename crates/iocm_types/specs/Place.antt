-- The orders of places and of number cells.
use Rattle.std.specs.Ordering.{nat_cmp, ordering_then}
use Rattle.std.specs.declared.cmp.Ordering.{Ordering}
use Rattle.iocm_types.specs.declared.place.Place.{Place}
use Rattle.iocm_types.specs.declared.place.NumberCell.{NumberCell}

-- by channel subsystem, then by set, then by device number
abbrev pub place_cmp : Place → Place → Ordering
place_cmp a b = ordering_then (nat_cmp a.css b.css) (ordering_then (nat_cmp a.set b.set) (nat_cmp a.device b.device))

-- by channel subsystem, then by set, then by number
abbrev pub cell_cmp : NumberCell → NumberCell → Ordering
cell_cmp a b = ordering_then (nat_cmp a.css b.css) (ordering_then (nat_cmp a.set b.set) (nat_cmp a.number b.number))
