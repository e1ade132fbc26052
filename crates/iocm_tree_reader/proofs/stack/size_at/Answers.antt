use Rattle.iocm_tree_reader.proofs.Stacks.{size_next}
use Rattle.iocm_tree_reader.proofs.stack.size_at.Goals as goal

pub returns : goal.returns
returns g c = size_next c.args.stack.now c.args.at c.index-stack-at.result c.args.size c.around.result c.requires
    c.index-stack-at.is c.around.ensures
