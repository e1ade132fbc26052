use Rattle.std.proofs.Common.{subst, sym}
use Rattle.iocm_types.specs.Fault.{Gives}
use Rattle.iocm_tree_reader.specs.Reading.{ended, limited, within_limits, with_node}
use Rattle.iocm_tree_reader.specs.Views.{nodes_seen, seen, stack_seen}
use Rattle.iocm_tree_reader.proofs.Stacks.{stack-more}
use Rattle.iocm_tree_reader.proofs.read.close_within.Goals as goal

pub returns-in-Some : goal.returns-in-Some
returns-in-Some g c =
    let top = nodes_seen c.args.reading.top in
    subst (λ os. Gives seen c.put_within.result (limited c.args.line (ended c.args.line top os)))
    (sym (stack-more _ _ _ c.in-Some.ensures.items))
    (subst (λ t. Gives seen c.put_within.result
    (within_limits c.args.line (with_node t top (stack_seen c.pop.new.self.items)))) c.node_of_kind.ensures
    c.put_within.ensures)
