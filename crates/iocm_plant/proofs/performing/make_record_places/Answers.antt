use Rattle.iocm_plant.proofs.PutAlike.{alike_has_room}
use Rattle.iocm_plant.proofs.performing.make_record_places.Goals as goal

pub returns-in-Alike-clause-namings : goal.returns-in-Alike-clause-namings
returns-in-Alike-clause-namings c =
    alike_has_room c.args.config.now.records c.args.edit.now.edit.action c.has_own_keys.ensures
    (c.requires.alike c.in-Alike.is) c.args.index.now
    c.requires.index c.has_places-in-Alike.ensures
