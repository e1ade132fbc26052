-- A path that is it with the link, and one that isn't.
use Rattle.std.proofs.Common.{ℕ, ◌==◌, ◌&&◌, cond, get_or, sym, ap, ◌∙◌, arith}
use Rattle.iocm_types.specs.declared.link.Link.{Link}
use Rattle.iocm_types.specs.declared.link.Link.TheVariants as link
use Rattle.iocm_model.specs.Rules.EachRule.{links_in}
use Rattle.iocm_record.specs.Meaning.{unit_of}
use Rattle.iocm_unit_rules.specs.Links.{is_on_link}
use Rattle.iocm_unit_rules.proofs.Linked.{linked_more, linked_here}
use Rattle.iocm_unit_rules.proofs.links.is_on_one_link.Goals as goal

pub returns-then-is_on_its_link : goal.returns-then-is_on_its_link
returns-then-is_on_its_link g c =
    sym (sym c.loop-own.invariant.rest
    ∙ linked_here (λ (p : ℕ × Link).
    (c.args.path.now.path == p.0) && is_on_link c.args.path.now.css (unit_of c.args.other.now) p) c.args.path.now.css
    c.as_slice-own-items.result.now
    (links_in c.args.path.now.css c.args.fields.now.links) c.loop-own.own-index c.loop-own.ordinal c.own-item.result
    c.loop-own-test.true c.own-item.is
    (sym (ap (λ ls. (c.own-item.result.css == c.args.path.now.css) && ((c.args.path.now.path == c.own-item.result.path)
    && is_on_link c.args.path.now.css (unit_of c.args.other.now)
    (c.own-item.result.path, get_or (links_in c.args.path.now.css ls) c.loop-own.ordinal link.None)))
    c.as_slice-links.ensures)
    ∙ sym c.is_on_its_link.ensures ∙ c.if-is_on_its_link.true))

pub loop-own-preserved : goal.loop-own-preserved
loop-own-preserved g c = record {
  small = let one = c.step-ordinal.ensures.small in omega arith;
  rest = linked_more (λ (p : ℕ × Link).
      (c.args.path.now.path == p.0) && is_on_link c.args.path.now.css (unit_of c.args.other.now) p) c.args.path.now.css
      c.as_slice-own-items.result.now
      (links_in c.args.path.now.css c.args.fields.now.links) c.loop-own.own-index c.loop-own.ordinal c.own-item.result
      c.loop-own-test.true c.own-item.is c.step-ordinal.result
      (c.step-ordinal.ensures.value ∙ ap (λ b. cond b 1 0) c.eq.ensures)
      (sym (ap (λ ls. (c.own-item.result.css == c.args.path.now.css)
      && ((c.args.path.now.path == c.own-item.result.path)
      && is_on_link c.args.path.now.css (unit_of c.args.other.now)
      (c.own-item.result.path, get_or (links_in c.args.path.now.css ls) c.loop-own.ordinal link.None)))
      c.as_slice-links.ensures)
      ∙ sym c.is_on_its_link.ensures ∙ c.if-is_on_its_link.false)
      ∙ c.loop-own.invariant.rest;
}
