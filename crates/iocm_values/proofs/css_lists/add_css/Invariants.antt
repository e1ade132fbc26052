use Rattle.std.proofs.Common.{◌≡◌, ◌==◌, ◌++◌, filter, take}
use Rattle.iocm_values.proofs.css_lists.add_css.Given as goal

abbrev pub invariant-loop-item : goal.invariant-loop-item
invariant-loop-item g l =
    l.found.items ≡ l.initial.found.items ++ filter (λ x. g.T.CssItem.subsystem x == l.css) (take l.item-index l.items)
