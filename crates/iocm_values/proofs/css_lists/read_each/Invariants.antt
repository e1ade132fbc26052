use Rattle.std.proofs.Common.{◌≡◌, drop, map}
use Rattle.iocm_values.specs.Reading.{every, after_front}
use Rattle.iocm_values.specs.Value.{seen}
use Rattle.iocm_values.proofs.css_lists.read_each.Given as goal

abbrev pub invariant-loop-item : goal.invariant-loop-item
invariant-loop-item g l =
    after_front l.found.items (every (g.T.CssItem.item l.css) (map seen (drop l.item-index l.items)))
    ≡ every (g.T.CssItem.item l.css) (map seen l.items)
