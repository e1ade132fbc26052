-- The words so far, and those that are left.
use Rattle.std.proofs.Common.{◌≡◌, ◌++◌, drop}
use Rattle.std.specs.List.{flat_map}
use Rattle.iocm_impact_text.specs.Listed.{behind_comma}
use Rattle.iocm_impact_text.proofs.listed.put_others.Given as goal

abbrev pub invariant-loop-word : goal.invariant-loop-word
invariant-loop-word l = l.text.items ++ flat_map behind_comma (drop l.word-index l.words)
    ≡ l.initial.text.items ++ flat_map behind_comma l.words
