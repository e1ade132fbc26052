-- From the first key of the kind on nothing is missed.
use Rattle.std.proofs.Common.{sym, ap, subst, ◌∙◌}
use Rattle.iocm_lookup.specs.Entries.{AreInOrder, in_entries}
use Rattle.iocm_lookup.specs.Kinds.{of_kind, place_of}
use Rattle.iocm_lookup.proofs.KindWalks.{all_from, in_order_from, kind_fits}
use Rattle.iocm_lookup.proofs.kind_walk.records_of_kind.Goals as goal

pub invariant_of-result : goal.invariant_of-result
invariant_of-result g c =
    subst AreInOrder (sym c.walk_from.ensures.entries)
    (in_order_from c.first.result c.args.config.now.records c.has_own_keys.ensures)

pub returns-clause-records : goal.returns-clause-records
returns-clause-records g c = ap (λ rows. of_kind (place_of c.args.kind) (in_entries rows)) c.walk_from.ensures.entries
    ∙ all_from (place_of c.args.kind) c.first.result c.first.ensures.first c.args.config.now.records
    c.has_own_keys.ensures

pub returns-clause-fits : goal.returns-clause-fits
returns-clause-fits g c = kind_fits (place_of c.args.kind) c.walk_from.result c.walk_from.ensures.fits
