-- Where no device at these keys breaks any of the rules, none breaks either of them.
use Rattle.std.proofs.Common.{sym, ◌∙◌}
use Rattle.iocm_device_rules.proofs.NoneAmong.{v8_is_kept, v9_is_kept, v11_is_kept, v12_is_kept, v13_is_kept}
use Rattle.iocm_device_rules.proofs.wrong_among.first_wrong_among.Goals as goal

pub returns-then-not-is_any_wrong-clause-units : goal.returns-then-not-is_any_wrong-clause-units
returns-then-not-is_any_wrong-clause-units g c = v8_is_kept c.args.config.now.records c.args.numbers.now.numbers
    c.has_own_keys.ensures c.args.keys.now
    (sym c.is_any_wrong.ensures ∙ c.if-not-is_any_wrong.true) c.requires.units

pub returns-then-not-is_any_wrong-clause-address : goal.returns-then-not-is_any_wrong-clause-address
returns-then-not-is_any_wrong-clause-address g c = v9_is_kept c.args.config.now.records c.args.numbers.now.numbers
    c.has_own_keys.ensures c.args.keys.now
    (sym c.is_any_wrong.ensures ∙ c.if-not-is_any_wrong.true) c.requires.address

pub returns-then-not-is_any_wrong-clause-path_list : goal.returns-then-not-is_any_wrong-clause-path_list
returns-then-not-is_any_wrong-clause-path_list g c = v11_is_kept c.args.config.now.records c.args.numbers.now.numbers
    c.has_own_keys.ensures c.args.keys.now
    (sym c.is_any_wrong.ensures ∙ c.if-not-is_any_wrong.true) c.requires.path_list

pub returns-then-not-is_any_wrong-clause-candidates : goal.returns-then-not-is_any_wrong-clause-candidates
returns-then-not-is_any_wrong-clause-candidates g c = v12_is_kept c.args.config.now.records c.args.numbers.now.numbers
    c.has_own_keys.ensures c.args.keys.now
    (sym c.is_any_wrong.ensures ∙ c.if-not-is_any_wrong.true) c.requires.candidates

pub returns-then-not-is_any_wrong-clause-number : goal.returns-then-not-is_any_wrong-clause-number
returns-then-not-is_any_wrong-clause-number g c = v13_is_kept c.args.config.now.records c.args.numbers.now.numbers
    c.has_own_keys.ensures c.args.keys.now
    (sym c.is_any_wrong.ensures ∙ c.if-not-is_any_wrong.true) c.requires.number
