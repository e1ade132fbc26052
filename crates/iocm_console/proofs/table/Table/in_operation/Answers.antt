use Rattle.std.proofs.Common.{subst}
use Rattle.std.specs.Prelude.{IfSome}
use Rattle.iocm_filter.specs.Sieves.{IsSieveFor}
use Rattle.iocm_console.proofs.Rows.{table_is}
use Rattle.iocm_console.proofs.table.Table.in_operation.Goals as goal

pub returns : goal.returns
returns c form =
    table_is form c.in_ok-sieve.sieve c.in_ok-cells.cells c.args.plant.state.config c.args.plant.state.numbers
    c.args.filters.now c.has_own_keys.ensures c.in_ok-cells.ensures.records c.in_ok-cells.ensures.cells c.in_ok-sieve.ensures.none
    (subst (λ m. IfSome c.in_ok-sieve.sieve (IsSieveFor c.args.filters.now m)) c.config.ensures
    c.in_ok-sieve.ensures.some)
