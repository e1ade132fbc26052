use Rattle.iocm_reports.proofs.AlteredRows as rows
use Rattle.iocm_reports.proofs.laws.rows_lead_to_the_table.Goals as goal

pub returns : goal.returns
returns c = record {
  counted = rows.rows_are_counted;
  order = rows.rows_stand_in_order;
  table = rows.rows_lead_to_the_table;
  back = rows.rows_lead_back;
}
