-- What is asked of a change: a report, and of which subchannels.
use Rattle.iocm_filter.specs.Wanted.{Wanted}
use Rattle.iocm_command.specs.declared.report.Report.{Report}

pub record Question : Type 0 where
  pub report : Report
  pub wanted : Wanted
