-- The paths so far, and those that are left from a bit on.
use Rattle.std.proofs.Common.{◌≡◌, ◌++◌, drop}
use Rattle.iocm_impact_text.specs.RowText as meaning
use Rattle.iocm_impact_text.proofs.view_text.path_texts.Given as goal

abbrev pub invariant-loop-path : goal.invariant-loop-path
invariant-loop-path l = l.texts.items ++ meaning.path_texts l.view l.bit (drop l.path-index l.path-items)
    ≡ meaning.path_texts l.view 128 l.view.paths
