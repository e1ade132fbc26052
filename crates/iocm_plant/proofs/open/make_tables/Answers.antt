use Rattle.std.proofs.Common.{Some, sym, ap, ◌∙◌}
use Rattle.iocm_plant.specs.Refusing.{refusal_by_breach}
use Rattle.iocm_plant.proofs.Opening.{opens, opening_is}
use Rattle.iocm_plant.proofs.open.make_tables.Goals as goal

pub returns-clause-operating : goal.returns-clause-operating
returns-clause-operating c =
    opens c.args.config.now.records c.in_ok-numbers.numbers.numbers c.in_ok-index.index c.in_ok-seats.seats.seats
    c.has_own_keys.ensures
    c.in_ok-numbers.ensures c.in_ok-index.ensures c.in_ok-seats.ensures

pub returns-clause-state : goal.returns-clause-state
returns-clause-state c =
    opening_is c.args.config.now.records c.in_ok-numbers.numbers.numbers c.in_ok-index.index c.in_ok-seats.seats.seats
    c.has_own_keys.ensures
    c.in_ok-numbers.ensures c.in_ok-index.ensures c.in_ok-seats.ensures

pub returns-in-Some-clause-refused : goal.returns-in-Some-clause-refused
returns-in-Some-clause-refused c =
    ap refusal_by_breach (sym c.in_ok-breach.ensures ∙ c.in-Some.is) ∙ ap Some (sym c.breach_refusal.ensures)

pub returns-clause-kept : goal.returns-clause-kept
returns-clause-kept c = ap refusal_by_breach (sym c.in_ok-breach.ensures ∙ c.in_default.is)

pub returns-clause-rules : goal.returns-clause-rules
returns-clause-rules c = sym c.in_ok-breach.ensures ∙ c.in_default.is
