use Rattle.iocm_model.specs.Machine.Numbering.{opening}
use Rattle.iocm_console.proofs.Rows.{table_is}
use Rattle.iocm_console.proofs.table.Table.at_opening.Goals as goal

pub returns : goal.returns
returns c form =
    table_is form c.in_ok-sieve.sieve c.in_ok-cells.cells c.args.config.records (opening c.args.config.records)
    c.args.filters.now c.has_own_keys.ensures c.in_ok-cells.ensures.records c.in_ok-cells.ensures.cells c.in_ok-sieve.ensures.none
    c.in_ok-sieve.ensures.some
