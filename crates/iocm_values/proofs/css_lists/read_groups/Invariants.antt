use Rattle.std.proofs.Common.{◌≡◌, drop, map}
use Rattle.iocm_values.specs.CssLists.{group_of}
use Rattle.iocm_values.specs.Reading.{gathered, after_front}
use Rattle.iocm_values.specs.Value.{seen}
use Rattle.iocm_values.proofs.css_lists.read_groups.Given as goal

abbrev pub invariant-loop-item : goal.invariant-loop-item
invariant-loop-item g l =
    after_front l.found.items
    (gathered (group_of g.T.CssItem.may_lack g.T.CssItem.item) (map seen (drop l.item-index l.items)))
    ≡ gathered (group_of g.T.CssItem.may_lack g.T.CssItem.item) (map seen l.items)
