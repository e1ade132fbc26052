use Rattle.iocm_lines.specs.declared.form.Form.TheVariants.{Text}
use Rattle.iocm_console.proofs.Rows.{whole_table}
use Rattle.iocm_console.proofs.table.Table.of_all.Goals as goal

pub returns-clause-forms : goal.returns-clause-forms
returns-clause-forms c form =
    whole_table form c.in_ok-cells.cells c.args.plant.state.config c.args.plant.state.numbers c.has_own_keys.ensures
    c.in_ok-cells.ensures.records c.in_ok-cells.ensures.cells

pub returns-clause-text : goal.returns-clause-text
returns-clause-text c = returns-clause-forms c Text
