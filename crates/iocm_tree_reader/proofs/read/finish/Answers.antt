use Rattle.std.proofs.Common.{ap, inr}
use Rattle.iocm_tree_reader.specs.Reading.{finished}
use Rattle.iocm_tree_reader.specs.Views.{nodes_seen}
use Rattle.iocm_tree_reader.proofs.Stacks.{stack-more}
use Rattle.iocm_tree_reader.proofs.read.finish.Goals as goal

pub returns-in-Some : goal.returns-in-Some
returns-in-Some g c = inr (ap (finished (nodes_seen c.args.reading.top)) (stack-more _ _ _ c.in-Some.ensures.items))
