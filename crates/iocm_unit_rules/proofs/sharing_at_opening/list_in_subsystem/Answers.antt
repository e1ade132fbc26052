-- One path more, and all.
use Rattle.std.proofs.Common.{cond, sym, ap, ◌∙◌, arith}
use Rattle.iocm_model.specs.Rules.EachRule.{links_in, cuadd_or_zero}
use Rattle.iocm_record.specs.Meaning.{unit_of}
use Rattle.iocm_unit_rules.specs.LinkNumbers.{number_on}
use Rattle.iocm_unit_rules.proofs.LinkNumbers.{path_more, path_end}
use Rattle.iocm_unit_rules.proofs.sharing_at_opening.list_in_subsystem.Goals as goal

pub loop-path-preserved : goal.loop-path-preserved
loop-path-preserved g c = record {
  small = let one = c.step-ordinal.ensures.small in let before = c.loop-path.invariant.small in omega arith;
  rest = path_more (number_on c.args.css (cuadd_or_zero (unit_of c.args.fields.now))) c.args.css
      c.as_slice-path-items.result.now (links_in c.args.css c.args.fields.now.links)
      c.loop-path.path-index c.loop-path.ordinal c.path-item.result c.loop-path-test.true c.path-item.is
      c.loop-path.listed.items c.list_on_path.new.listed.items c.step-ordinal.result
      (c.step-ordinal.ensures.value ∙ ap (λ b. cond b 1 0) c.eq.ensures) c.in_ok-list_on_path.ensures
      ∙ c.loop-path.invariant.rest;
}

pub returns : goal.returns
returns g c =
    sym (path_end (number_on c.args.css (cuadd_or_zero (unit_of c.args.fields.now))) c.args.css
    c.as_slice-path-items.result.now (links_in c.args.css c.args.fields.now.links)
    c.loop-path.path-index c.loop-path.ordinal c.loop-path.listed.items c.loop-path-test.false)
    ∙ c.loop-path.invariant.rest
