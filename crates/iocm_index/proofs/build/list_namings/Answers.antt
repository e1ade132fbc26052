use Rattle.iocm_index.specs.Namings.{namings_of}
use Rattle.iocm_index.proofs.Sorting.{one_listed}
use Rattle.iocm_index.proofs.build.list_namings.Goals as goal

pub loop-place-preserved : goal.loop-place-preserved
loop-place-preserved g c =
    one_listed (namings_of c.args.entry.now) c.args.listed.now.items c.loop-place.listed.items c.push.new.self.items
    c.loop-place.place c.naming_at.result c.naming_at.ensures c.loop-place.invariant c.in_ok-push.ensures.items
