-- The four parts of the law.
use Rattle.iocm_statements.proofs.Relation.{finds_pieces, finds_no_others, cuts_balanced, cuts_no_others}
use Rattle.iocm_statements.proofs.laws.pieces_are_those_of_the_text.Goals as goal

pub returns : goal.returns
returns c = record {
  found = finds_pieces;
  only = finds_no_others;
  balanced = cuts_balanced;
  unbalanced = cuts_no_others;
}
