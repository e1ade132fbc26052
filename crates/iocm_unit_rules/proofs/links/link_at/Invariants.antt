-- The link is at its place behind those so far.
use Rattle.std.proofs.Common.{◌≡◌, get_or, drop}
use Rattle.iocm_types.specs.declared.link.Link.TheVariants as link
use Rattle.iocm_model.specs.Rules.EachRule.{links_in}
use Rattle.iocm_unit_rules.proofs.links.link_at.Given as goal

abbrev pub invariant-loop-link : goal.invariant-loop-link
invariant-loop-link l = get_or (links_in l.css (drop l.link-index l.links)) l.left link.None
    ≡ get_or (links_in l.css l.links) l.place link.None
