-- Each is computed on states as lists.
use Rattle.iocm_examples.proofs.Computed.Trees.{an_exchange, nodes_of_breaches, where_rules_hold, after_a_group}
use Rattle.iocm_examples.proofs.Computed.Trees.{empty_nodes, limits_of_trees, taken_back_later}
use Rattle.iocm_examples.proofs.trees.trees_are_as_worked.Goals as goal

pub returns-clause-exchange : goal.returns-clause-exchange
returns-clause-exchange c = an_exchange

pub returns-clause-breaches : goal.returns-clause-breaches
returns-clause-breaches c = nodes_of_breaches

pub returns-clause-rules : goal.returns-clause-rules
returns-clause-rules c = where_rules_hold

pub returns-clause-after_a_group : goal.returns-clause-after_a_group
returns-clause-after_a_group c = after_a_group

pub returns-clause-empty : goal.returns-clause-empty
returns-clause-empty c = empty_nodes

pub returns-clause-limits : goal.returns-clause-limits
returns-clause-limits c = limits_of_trees

pub returns-clause-taken_back : goal.returns-clause-taken_back
returns-clause-taken_back c = taken_back_later
