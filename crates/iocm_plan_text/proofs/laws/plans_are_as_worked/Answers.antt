-- Summaries, notes and sections are printed as they are worked.
use Rattle.iocm_plan_text.proofs.Worked.{notes_as_worked, sections_as_worked, summaries_as_worked}
use Rattle.iocm_plan_text.proofs.laws.plans_are_as_worked.Goals as goal

pub returns-clause-summaries : goal.returns-clause-summaries
returns-clause-summaries c = summaries_as_worked

pub returns-clause-notes : goal.returns-clause-notes
returns-clause-notes c = notes_as_worked

pub returns-clause-sections : goal.returns-clause-sections
returns-clause-sections c = sections_as_worked
