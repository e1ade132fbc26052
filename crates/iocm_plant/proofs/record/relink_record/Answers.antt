use Rattle.std.proofs.Common.{List, sym, subst}
use Rattle.std.specs.FinMap.{remove}
use Rattle.std.specs.List.{AllByRecursion}
use Rattle.iocm_types.specs.declared.key.Key.{Key}
use Rattle.iocm_types.specs.declared.naming.Naming.{Naming}
use Rattle.iocm_types.specs.Naming.{naming_cmp}
use Rattle.iocm_index.specs.Namings.{namings_of}
use Rattle.iocm_lookup.specs.Indexed.{IsIndexOf}
use Rattle.iocm_plant.specs.Operating.{HasPlaceIn}
use Rattle.iocm_plant.proofs.Records.{put_alike_linked, linked}
use Rattle.iocm_plant.proofs.record.relink_record.Goals as goal

pub returns-in-Alike-clause-index : goal.returns-in-Alike-clause-index
returns-in-Alike-clause-index c =
    put_alike_linked c.args.config.now.records c.args.index.now c.args.entry.now (c.requires.alike c.in-Alike.is)
    c.requires.index

pub link-requires : goal.link-requires
link-requires c = subst (λ (ps : List Naming). AllByRecursion (HasPlaceIn naming_cmp ps) (namings_of c.args.entry.now))
    (sym c.unlink_record.ensures.namings) c.requires.namings

pub returns-clause-index : goal.returns-clause-index
returns-clause-index c = linked c.args.config.now.records c.unlink_record.new.index c.link.new.self c.args.entry.now
    (subst (λ (k : Key). IsIndexOf (remove c.args.config.now.records k) c.unlink_record.new.index) c.key-key.ensures
    c.unlink_record.ensures.index)
    c.link.ensures.linked
