-- The limits on the depth and the leaves of a change tree.
use Rattle.std.specs.Prelude.{nat_lt, Option, None, Some, Err, if◌then◌else◌}
use Rattle.iocm_types.specs.declared.refused.At.TheVariants.{Nothing}
use Rattle.iocm_types.specs.declared.refused.Refused.{Refused}
use Rattle.iocm_types.specs.declared.rule.Rule.TheVariants.{C1, C2}
use Rattle.iocm_model.specs.Operation.State.{State}
use Rattle.iocm_model.specs.Change.Refusal.{refusal_at}
use Rattle.iocm_model.specs.Change.Tree.{ChangeTree, depth_of, leaves_of, most_depth, most_leaves}
use Rattle.iocm_model.specs.Change.Meaning.{Outcome, if_rules_hold, node_meaning}

-- C1 for a tree that is too deep, else C2 for one with too many leaves
abbrev pub limit_refusal : ChangeTree → Option Refused
limit_refusal p =
    if nat_lt most_depth (depth_of p) then Some (refusal_at C1 Nothing)
    else if nat_lt most_leaves (leaves_of p) then Some (refusal_at C2 Nothing)
    else None

-- what a whole tree means: the refusal, if it is over a limit; else the root, then the rules
abbrev pub meaning_unless : Option Refused → ChangeTree → State → Outcome
meaning_unless (Some why) p s = Err why
meaning_unless None p s = if_rules_hold 0 (node_meaning p 0 s)
