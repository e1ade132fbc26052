-- Each is computed once the maps are listed.
use Rattle.iocm_examples.proofs.Computed.RuleClauses.{broken_by_one_clause, online_at_a_dedicated_path}
use Rattle.iocm_examples.proofs.Computed.RuleClauses.{kept_at_the_bound}
use Rattle.iocm_examples.proofs.rules.clauses_of_rules_are_as_worked.Goals as goal

pub returns-clause-broken : goal.returns-clause-broken
returns-clause-broken c = broken_by_one_clause

pub returns-clause-online : goal.returns-clause-online
returns-clause-online c = online_at_a_dedicated_path

pub returns-clause-kept : goal.returns-clause-kept
returns-clause-kept c = kept_at_the_bound
