-- Each rule that the changes may break is tried at their keys alone; the others are kept.
use Rattle.std.proofs.Common.{sym, ◌∙◌}
use Rattle.iocm_rules.proofs.NearRules.{v4_only, v8_only, v9_only, v10_only, v11_only, v12_only, v13_only, near_found}
use Rattle.iocm_rules.proofs.near.check_near.Goals as goal

pub first_wrong_online_among-requires-clause-paths : goal.first_wrong_online_among-requires-clause-paths
first_wrong_online_among-requires-clause-paths g c =
    v4_only c.args.keys.now c.args.config.now.records c.args.numbers.now.numbers c.has_own_keys.ensures c.requires.near

pub first_address_twice_among-requires-clause-clashes : goal.first_address_twice_among-requires-clause-clashes
first_address_twice_among-requires-clause-clashes g c =
    v10_only c.args.keys.now c.args.config.now.records c.args.numbers.now.numbers c.has_own_keys.ensures c.requires.near

pub first_wrong_among-wrong-requires-clause-units : goal.first_wrong_among-wrong-requires-clause-units
first_wrong_among-wrong-requires-clause-units g c =
    v8_only c.args.keys.now c.args.config.now.records c.args.numbers.now.numbers c.has_own_keys.ensures c.requires.near

pub first_wrong_among-wrong-requires-clause-address : goal.first_wrong_among-wrong-requires-clause-address
first_wrong_among-wrong-requires-clause-address g c =
    v9_only c.args.keys.now c.args.config.now.records c.args.numbers.now.numbers c.has_own_keys.ensures c.requires.near

pub first_wrong_among-wrong-requires-clause-path_list : goal.first_wrong_among-wrong-requires-clause-path_list
first_wrong_among-wrong-requires-clause-path_list g c =
    v11_only c.args.keys.now c.args.config.now.records c.args.numbers.now.numbers c.has_own_keys.ensures c.requires.near

pub first_wrong_among-wrong-requires-clause-candidates : goal.first_wrong_among-wrong-requires-clause-candidates
first_wrong_among-wrong-requires-clause-candidates g c =
    v12_only c.args.keys.now c.args.config.now.records c.args.numbers.now.numbers c.has_own_keys.ensures c.requires.near

pub first_wrong_among-wrong-requires-clause-number : goal.first_wrong_among-wrong-requires-clause-number
first_wrong_among-wrong-requires-clause-number g c =
    v13_only c.args.keys.now c.args.config.now.records c.args.numbers.now.numbers c.has_own_keys.ensures c.requires.near

pub returns-in-Some : goal.returns-in-Some
returns-in-Some g c = sym c.in-Some.is ∙ c.first_of-first.ensures
    ∙ near_found c.args.keys.now c.args.config.now.records c.args.numbers.now.numbers c.has_own_keys.ensures
    c.requires.near
    c.first_wrong_online_among.result c.first_wrong_among-wrong.result.units c.first_wrong_among-wrong.result.address
    c.first_address_twice_among.result
    c.first_wrong_among-wrong.result.path_list c.first_wrong_among-wrong.result.candidates
    c.first_wrong_among-wrong.result.number
    c.first_wrong_online_among.ensures c.first_wrong_among-wrong.ensures.units c.first_wrong_among-wrong.ensures.address
    c.first_address_twice_among.ensures
    c.first_wrong_among-wrong.ensures.path_list c.first_wrong_among-wrong.ensures.candidates
    c.first_wrong_among-wrong.ensures.number

pub returns-in-None : goal.returns-in-None
returns-in-None g c = sym c.in-None.is ∙ c.first_of-first.ensures
    ∙ near_found c.args.keys.now c.args.config.now.records c.args.numbers.now.numbers c.has_own_keys.ensures
    c.requires.near
    c.first_wrong_online_among.result c.first_wrong_among-wrong.result.units c.first_wrong_among-wrong.result.address
    c.first_address_twice_among.result
    c.first_wrong_among-wrong.result.path_list c.first_wrong_among-wrong.result.candidates
    c.first_wrong_among-wrong.result.number
    c.first_wrong_online_among.ensures c.first_wrong_among-wrong.ensures.units c.first_wrong_among-wrong.ensures.address
    c.first_address_twice_among.ensures
    c.first_wrong_among-wrong.ensures.path_list c.first_wrong_among-wrong.ensures.candidates
    c.first_wrong_among-wrong.ensures.number
