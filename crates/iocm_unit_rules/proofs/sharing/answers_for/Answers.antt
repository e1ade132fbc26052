-- The tests in the order of the rule.
use Rattle.std.proofs.Common.{Bool, ◌==◌, sym, ◌∙◌}
use Rattle.std.specs.List.{list_any}
use Rattle.iocm_model.specs.Machine.Record.{UnitRecord}
use Rattle.iocm_model.specs.Rules.EachRule.{share_link, cuadd_or_zero, overlap}
use Rattle.iocm_record.specs.Meaning.{unit_of}
use Rattle.iocm_unit_rules.specs.Links.{share_link_on}
use Rattle.iocm_unit_rules.proofs.Sharers.{all_four, not_all_four}
use Rattle.iocm_unit_rules.proofs.sharing.answers_for.Goals as goal

abbrev same_cuadd : UnitRecord → UnitRecord → Bool
same_cuadd a b = cuadd_or_zero a == cuadd_or_zero b

abbrev overlaps : UnitRecord → UnitRecord → Bool
overlaps a b = list_any (λ r. list_any (overlap r) b.ranges) a.ranges

pub returns-then-answers_on_one_link : goal.returns-then-answers_on_one_link
returns-then-answers_on_one_link g c = let a = unit_of c.args.fields.now in let b = unit_of c.args.other.now in
    c.shares_links.ensures ∙ all_four (share_link_on c.args.path.now.css c.args.path.now.path a b) (share_link a b)
    (same_cuadd a b) (overlaps a b)
    (sym c.answers_on_one_link.ensures ∙ c.if-answers_on_one_link.true)

pub returns-else-answers_on_one_link : goal.returns-else-answers_on_one_link
returns-else-answers_on_one_link g c = let a = unit_of c.args.fields.now in let b = unit_of c.args.other.now in
    c.if-answers_on_one_link.false
    ∙ not_all_four (share_link_on c.args.path.now.css c.args.path.now.path a b) (share_link a b) (same_cuadd a b)
    (overlaps a b)
    (sym c.answers_on_one_link.ensures ∙ c.if-answers_on_one_link.false)
