-- The comments so far.
use Rattle.std.proofs.Common.{◌≡◌, ◌++◌, take}
use Rattle.std.specs.List.{flat_map}
use Rattle.iocm_reports.specs.Deck.{remark_line}
use Rattle.iocm_reports.proofs.deck.put_remarks.Given as goal

abbrev pub invariant-loop-pair : goal.invariant-loop-pair
invariant-loop-pair l = l.text.items ≡ l.initial.text.items
    ++ flat_map (remark_line l.config.records) (take l.pair-index l.untold)
