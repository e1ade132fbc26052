-- A path that passes with its link, and one that doesn't.
use Rattle.std.proofs.Common.{ℕ, ◌==◌, ◌&&◌, cond, get_or, sym, ap, ◌∙◌, arith}
use Rattle.std.specs.List.{list_any}
use Rattle.iocm_types.specs.declared.link.Link.{Link}
use Rattle.iocm_types.specs.declared.link.Link.TheVariants as link
use Rattle.iocm_model.specs.Rules.EachRule.{linked_paths, links_in, same_link}
use Rattle.iocm_record.specs.Meaning.{unit_of}
use Rattle.iocm_unit_rules.proofs.Linked.{linked_more, linked_here}
use Rattle.iocm_unit_rules.proofs.links.shares_link_in.Goals as goal

pub returns-then-is_path_shared : goal.returns-then-is_path_shared
returns-then-is_path_shared g c =
    sym (sym c.loop-path.invariant.rest
    ∙ linked_here (λ (p : ℕ × Link).
    list_any (λ (q : ℕ × Link). (p.0 == q.0) && same_link p.1 q.1)
    (linked_paths c.args.css (unit_of c.args.other.now))) c.args.css c.as_slice-path-items.result.now
    (links_in c.args.css c.args.fields.now.links)
    c.loop-path.path-index c.loop-path.ordinal c.path-item.result c.loop-path-test.true c.path-item.is
    (sym (ap (λ (l : Link). (c.path-item.result.css == c.args.css)
    && list_any (λ (q : ℕ × Link). (c.path-item.result.path == q.0) && same_link l q.1)
    (linked_paths c.args.css (unit_of c.args.other.now)))
    (c.link_at.ensures ∙ ap (λ ls. get_or (links_in c.args.css ls) c.loop-path.ordinal link.None)
    c.as_slice-links.ensures)) ∙ sym c.is_path_shared.ensures ∙ c.if-is_path_shared.true))

pub loop-path-preserved : goal.loop-path-preserved
loop-path-preserved g c = record {
  small = let one = c.step-ordinal.ensures.small in omega arith;
  rest = linked_more (λ (p : ℕ × Link).
      list_any (λ (q : ℕ × Link). (p.0 == q.0) && same_link p.1 q.1)
      (linked_paths c.args.css (unit_of c.args.other.now))) c.args.css c.as_slice-path-items.result.now
      (links_in c.args.css c.args.fields.now.links)
      c.loop-path.path-index c.loop-path.ordinal c.path-item.result c.loop-path-test.true c.path-item.is
      c.step-ordinal.result
      (c.step-ordinal.ensures.value ∙ ap (λ b. cond b 1 0) c.eq.ensures)
      (sym (ap (λ (l : Link). (c.path-item.result.css == c.args.css)
      && list_any (λ (q : ℕ × Link). (c.path-item.result.path == q.0) && same_link l q.1)
      (linked_paths c.args.css (unit_of c.args.other.now)))
      (c.link_at.ensures ∙ ap (λ ls. get_or (links_in c.args.css ls) c.loop-path.ordinal link.None)
      c.as_slice-links.ensures)) ∙ sym c.is_path_shared.ensures ∙ c.if-is_path_shared.false)
      ∙ c.loop-path.invariant.rest;
}
