-- None of the paths so far is it with the link that the other has there.
use Rattle.std.proofs.Common.{◌≡◌, ◌≤◌, ℕ, ◌==◌, ◌&&◌, drop}
use Rattle.std.specs.List.{list_any}
use Rattle.iocm_types.specs.declared.link.Link.{Link}
use Rattle.iocm_model.specs.Machine.PathList.{paths_in}
use Rattle.iocm_model.specs.Rules.EachRule.{linked_paths, links_in, with_links}
use Rattle.iocm_record.specs.Meaning.{unit_of}
use Rattle.iocm_unit_rules.specs.Links.{is_on_link}
use Rattle.iocm_unit_rules.proofs.links.is_on_one_link.Given as goal

abbrev pub invariant-loop-own : goal.invariant-loop-own
invariant-loop-own g l = record {
  small : l.ordinal ≤ l.own-index;
  rest : list_any (λ (p : ℕ × Link). (l.path.path == p.0) && is_on_link l.path.css (unit_of l.other) p)
      (with_links (paths_in l.path.css (drop l.own-index l.own-items))
      (drop l.ordinal (links_in l.path.css l.fields.links)))
      ≡ list_any (λ (p : ℕ × Link). (l.path.path == p.0) && is_on_link l.path.css (unit_of l.other) p)
      (linked_paths l.path.css (unit_of l.fields));
}
