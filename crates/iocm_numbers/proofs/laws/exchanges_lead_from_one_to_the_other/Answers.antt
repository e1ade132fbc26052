-- The laws are proved of the definitions.
use Rattle.iocm_numbers.proofs.Exchanging.{exchange_leads, rows_fit_in, rows_have_room, changes_agree, agree_both_ways}
use Rattle.iocm_numbers.proofs.laws.exchanges_lead_from_one_to_the_other.Goals as goal

pub returns-clause-leads : goal.returns-clause-leads
returns-clause-leads c = exchange_leads

pub returns-clause-fit : goal.returns-clause-fit
returns-clause-fit c = rows_fit_in

pub returns-clause-room : goal.returns-clause-room
returns-clause-room c = rows_have_room

pub returns-clause-changes : goal.returns-clause-changes
returns-clause-changes c = changes_agree

pub returns-clause-both_ways : goal.returns-clause-both_ways
returns-clause-both_ways c = agree_both_ways
