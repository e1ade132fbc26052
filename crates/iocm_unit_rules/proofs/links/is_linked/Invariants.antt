-- None of the paths so far is it with the link.
use Rattle.std.proofs.Common.{◌≡◌, ◌≤◌, ℕ, ◌==◌, ◌&&◌, drop}
use Rattle.std.specs.List.{list_any}
use Rattle.iocm_types.specs.declared.link.Link.{Link}
use Rattle.iocm_model.specs.Machine.PathList.{paths_in}
use Rattle.iocm_model.specs.Rules.EachRule.{linked_paths, links_in, same_link, with_links}
use Rattle.iocm_record.specs.Meaning.{unit_of}
use Rattle.iocm_unit_rules.proofs.links.is_linked.Given as goal

abbrev pub invariant-loop-path : goal.invariant-loop-path
invariant-loop-path g l = record {
  small : l.ordinal ≤ l.path-index;
  rest : list_any (λ (q : ℕ × Link). (l.number == q.0) && same_link l.link q.1)
      (with_links (paths_in l.css (drop l.path-index l.path-items)) (drop l.ordinal (links_in l.css l.fields.links)))
      ≡ list_any (λ (q : ℕ × Link). (l.number == q.0) && same_link l.link q.1) (linked_paths l.css (unit_of l.fields));
}
