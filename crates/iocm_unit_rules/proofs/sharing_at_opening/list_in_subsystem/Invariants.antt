-- The addresses so far, with those on the paths that are left, are all.
use Rattle.std.proofs.Common.{◌≡◌, ◌≤◌, ◌++◌, drop, map}
use Rattle.iocm_model.specs.Machine.PathList.{paths_in}
use Rattle.iocm_model.specs.Rules.EachRule.{links_in, with_links, cuadd_or_zero}
use Rattle.iocm_record.specs.Meaning.{unit_of}
use Rattle.iocm_unit_rules.specs.LinkNumbers.{number_on, numbers_in}
use Rattle.iocm_unit_rules.proofs.sharing_at_opening.list_in_subsystem.Given as goal

abbrev pub invariant-loop-path : goal.invariant-loop-path
invariant-loop-path g l = record {
  small : l.ordinal ≤ l.path-index;
  rest : l.listed.items ++ map (number_on l.css (cuadd_or_zero (unit_of l.fields)))
      (with_links (paths_in l.css (drop l.path-index l.path-items)) (drop l.ordinal (links_in l.css l.fields.links)))
      ≡ l.fn.listed.items ++ numbers_in (unit_of l.fields) l.css;
}
