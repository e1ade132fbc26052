-- The blocks so far, and those that are left.
use Rattle.std.proofs.Common.{◌≡◌, ◌++◌, drop}
use Rattle.std.specs.List.{flat_map}
use Rattle.iocm_impact_text.specs.Texts.{next_block}
use Rattle.iocm_impact_text.proofs.block_text.put_others.Given as goal

abbrev pub invariant-loop-block : goal.invariant-loop-block
invariant-loop-block l = l.text.items ++ flat_map (next_block l.all) (drop l.block-index l.blocks)
    ≡ l.initial.text.items ++ flat_map (next_block l.all) l.blocks
