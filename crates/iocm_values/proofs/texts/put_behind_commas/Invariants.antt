use Rattle.std.proofs.Common.{◌≡◌, ◌++◌, ◌∷◌, take}
use Rattle.std.specs.List.{flat_map}
use Rattle.iocm_values.proofs.texts.put_behind_commas.Given as goal

-- the items so far, each behind a comma
abbrev pub invariant-loop-item : goal.invariant-loop-item
invariant-loop-item l = l.text.items ≡ l.fn.text.items ++ flat_map (λ item. 44 ∷ item) (take l.item-index l.items)
