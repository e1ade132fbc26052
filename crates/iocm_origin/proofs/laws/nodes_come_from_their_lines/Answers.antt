-- A statement that gives a node gives its line.
use Rattle.iocm_origin.proofs.LinesOfNodes.{given_nodes_have_the_line}
use Rattle.iocm_origin.proofs.laws.nodes_come_from_their_lines.Goals as goal

pub returns-clause-back : goal.returns-clause-back
returns-clause-back c = given_nodes_have_the_line
