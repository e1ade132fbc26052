-- A path that passes with its link, and one that doesn't.
use Rattle.std.proofs.Common.{ℕ, ◌==◌, ◌&&◌, cond, get_or, sym, ap, ◌∙◌, arith}
use Rattle.iocm_types.specs.declared.link.Link.{Link}
use Rattle.iocm_types.specs.declared.link.Link.TheVariants as link
use Rattle.iocm_model.specs.Rules.EachRule.{links_in, same_link}
use Rattle.iocm_unit_rules.proofs.Linked.{linked_more, linked_here}
use Rattle.iocm_unit_rules.proofs.links.is_linked.Goals as goal

pub returns-then-is_path_linked : goal.returns-then-is_path_linked
returns-then-is_path_linked g c =
    sym (sym c.loop-path.invariant.rest
    ∙ linked_here (λ (q : ℕ × Link). (c.args.number == q.0) && same_link c.args.link q.1) c.args.css
    c.as_slice-path-items.result.now (links_in c.args.css c.args.fields.now.links)
    c.loop-path.path-index c.loop-path.ordinal c.path-item.result c.loop-path-test.true c.path-item.is
    (sym (ap (λ ls. (c.path-item.result.css == c.args.css)
    && ((c.args.number == c.path-item.result.path)
    && same_link c.args.link (get_or (links_in c.args.css ls) c.loop-path.ordinal link.None)))
    c.as_slice-links.ensures) ∙ sym c.is_path_linked.ensures ∙ c.if-is_path_linked.true))

pub loop-path-preserved : goal.loop-path-preserved
loop-path-preserved g c = record {
  small = let one = c.step-ordinal.ensures.small in omega arith;
  rest = linked_more (λ (q : ℕ × Link). (c.args.number == q.0) && same_link c.args.link q.1) c.args.css
      c.as_slice-path-items.result.now (links_in c.args.css c.args.fields.now.links)
      c.loop-path.path-index c.loop-path.ordinal c.path-item.result c.loop-path-test.true c.path-item.is
      c.step-ordinal.result
      (c.step-ordinal.ensures.value ∙ ap (λ b. cond b 1 0) c.eq.ensures)
      (sym (ap (λ ls. (c.path-item.result.css == c.args.css)
      && ((c.args.number == c.path-item.result.path)
      && same_link c.args.link (get_or (links_in c.args.css ls) c.loop-path.ordinal link.None)))
      c.as_slice-links.ensures) ∙ sym c.is_path_linked.ensures ∙ c.if-is_path_linked.false)
      ∙ c.loop-path.invariant.rest;
}
