-- A breach of V1 to V8; where there is none, V5 and V8 are kept; and what V9 to V14 answer.
use Rattle.std.proofs.Common.{sym, ◌∙◌}
use Rattle.iocm_model.specs.Machine.Numbering.{opening}
use Rattle.iocm_rules.proofs.FirstBreaches.{v5_is_kept, v8_is_kept, from_v9_is_first, to_v8_is_first}
use Rattle.iocm_rules.proofs.first_breach.check_at_opening.Goals as goal

pub returns-in-Some : goal.returns-in-Some
returns-in-Some g c = to_v8_is_first c.args.config.now.records (opening c.args.config.now.records) c.in-Some.breach
    (sym c.in-Some.is ∙ c.first_to_v8.ensures)

pub first_address_twice_at_opening-requires : goal.first_address_twice_at_opening-requires
first_address_twice_at_opening-requires g c =
    v8_is_kept c.args.config.now.records (sym c.in_default.is ∙ c.first_to_v8.ensures)

pub first_shared_address_at_opening-requires : goal.first_shared_address_at_opening-requires
first_shared_address_at_opening-requires g c =
    v5_is_kept c.args.config.now.records (sym c.in_default.is ∙ c.first_to_v8.ensures)

pub returns : goal.returns
returns g c = c.first_from_v9.ensures (opening c.args.config.now.records) c.in_ok-first_past_limit_at_opening.ensures
    ∙ from_v9_is_first c.args.config.now.records (sym c.in_default.is ∙ c.first_to_v8.ensures)
    (opening c.args.config.now.records)
