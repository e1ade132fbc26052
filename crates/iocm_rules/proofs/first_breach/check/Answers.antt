-- A breach of V1 to V8; where there is none, V5 and V8 are kept; and a breach of V9 to V14, or none.
use Rattle.std.proofs.Common.{sym, ◌∙◌}
use Rattle.iocm_rules.proofs.FirstBreaches.{v5_is_kept, v8_is_kept, from_v9_is_first, to_v8_is_first}
use Rattle.iocm_rules.proofs.first_breach.check.Goals as goal

pub returns-in-Some : goal.returns-in-Some
returns-in-Some g c = to_v8_is_first c.args.config.now.records c.args.numbers.now.numbers c.in-Some.breach
    (sym c.in-Some.is ∙ c.first_to_v8.ensures)

pub first_address_twice-requires-clause-units : goal.first_address_twice-requires-clause-units
first_address_twice-requires-clause-units g c =
    v8_is_kept c.args.config.now.records (sym c.in_default.is ∙ c.first_to_v8.ensures)

pub first_shared_address-requires-clause-paths : goal.first_shared_address-requires-clause-paths
first_shared_address-requires-clause-paths g c =
    v5_is_kept c.args.config.now.records (sym c.in_default.is ∙ c.first_to_v8.ensures)

pub returns-in-Some-first_from_v9 : goal.returns-in-Some-first_from_v9
returns-in-Some-first_from_v9 g c =
    sym c.in-Some-first_from_v9.is ∙ c.first_from_v9.ensures c.args.numbers.now.numbers c.first_past_limit.ensures
    ∙ from_v9_is_first c.args.config.now.records (sym c.in_default.is ∙ c.first_to_v8.ensures)
    c.args.numbers.now.numbers

pub returns-in-None : goal.returns-in-None
returns-in-None g c = sym c.in-None.is ∙ c.first_from_v9.ensures c.args.numbers.now.numbers c.first_past_limit.ensures
    ∙ from_v9_is_first c.args.config.now.records (sym c.in_default.is ∙ c.first_to_v8.ensures)
    c.args.numbers.now.numbers
