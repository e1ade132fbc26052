use Rattle.std.proofs.Common.{◌≡◌}
use Rattle.std.specs.List.{flat_map, range_with_len}
use Rattle.iocm_values.specs.Texts.{group_texts}
use Rattle.iocm_values.proofs.texts.by_css_text.Given as goal

-- the groups of the channel subsystems so far
abbrev pub invariant-loop-number : goal.invariant-loop-number
invariant-loop-number l = l.groups.items ≡ flat_map (group_texts l.items) (range_with_len 0 l.number)
