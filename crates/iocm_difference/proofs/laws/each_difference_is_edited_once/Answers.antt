-- The laws are proved of the definitions.
use Rattle.iocm_difference.proofs.Differences.{edits_each_key_once, edits_what_differs, modifies_no_pair}
use Rattle.iocm_difference.proofs.laws.each_difference_is_edited_once.Goals as goal

pub returns-clause-once : goal.returns-clause-once
returns-clause-once c = edits_each_key_once

pub returns-clause-differs : goal.returns-clause-differs
returns-clause-differs c = edits_what_differs

pub returns-clause-pairs : goal.returns-clause-pairs
returns-clause-pairs c = modifies_no_pair
