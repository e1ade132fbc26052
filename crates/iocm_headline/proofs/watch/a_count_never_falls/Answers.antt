-- What a caller has seen never falls.
use Rattle.iocm_headline.proofs.Watching.{never_falls}
use Rattle.iocm_headline.proofs.watch.a_count_never_falls.Goals as goal

pub returns : goal.returns
returns c old sights new goes = never_falls old sights new goes
