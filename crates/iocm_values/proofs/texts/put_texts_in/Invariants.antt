use Rattle.std.proofs.Common.{◌≡◌, ◌++◌, take}
use Rattle.iocm_values.specs.Texts.{texts_in}
use Rattle.iocm_values.proofs.texts.put_texts_in.Given as goal

-- what the items so far have of the channel subsystem
abbrev pub invariant-loop-item : goal.invariant-loop-item
invariant-loop-item l = l.found.items ≡ l.fn.found.items ++ texts_in (take l.item-index l.items) l.css
