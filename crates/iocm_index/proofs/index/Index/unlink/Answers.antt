use Rattle.iocm_index.specs.Namings.{namings_of}
use Rattle.iocm_index.proofs.Loops.{unlinked}
use Rattle.iocm_index.proofs.index.Index.unlink.Goals as goal

pub loop-place-preserved : goal.loop-place-preserved
loop-place-preserved g c =
    unlinked (namings_of c.args.entry.now) c.loop-place.place c.self.inside.namings c.loop-place.self-inside.namings
    c.take.new.self
    c.naming_at.result c.loop-place.invariant c.naming_at.ensures c.take.ensures.rows c.take.ensures.places
