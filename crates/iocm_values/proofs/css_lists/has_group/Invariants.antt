use Rattle.std.proofs.Common.{◌≡◌, drop, map}
use Rattle.std.specs.List.{list_any}
use Rattle.iocm_values.specs.CssLists.{is_group}
use Rattle.iocm_values.specs.Value.{seen}
use Rattle.iocm_values.proofs.css_lists.has_group.Given as goal

abbrev pub invariant-loop-item : goal.invariant-loop-item
invariant-loop-item l = list_any is_group (map seen (drop l.item-index l.items)) ≡ list_any is_group (map seen l.items)
