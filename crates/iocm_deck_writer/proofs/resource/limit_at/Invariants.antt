use Rattle.std.proofs.Common.{◌≡◌, drop}
use Rattle.std.specs.List.{find}
use Rattle.iocm_operands.specs.Limits.{is_limit_at}
use Rattle.iocm_deck_writer.proofs.resource.limit_at.Given as goal

abbrev pub invariant-loop-limit : goal.invariant-loop-limit
invariant-loop-limit l =
    find (is_limit_at l.css l.set) (drop l.limit-index l.limits) ≡ find (is_limit_at l.css l.set) l.limits
