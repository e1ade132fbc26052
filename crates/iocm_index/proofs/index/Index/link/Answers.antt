use Rattle.iocm_index.specs.Namings.{namings_of}
use Rattle.iocm_index.proofs.Loops.{linked}
use Rattle.iocm_index.proofs.index.Index.link.Goals as goal

pub loop-place-preserved : goal.loop-place-preserved
loop-place-preserved g c =
    linked (namings_of c.args.entry.now) c.loop-place.place c.self.inside.namings c.loop-place.self-inside.namings
    c.put.new.self
    c.naming_at.result c.loop-place.invariant c.naming_at.ensures c.put.ensures.rows c.put.ensures.places
