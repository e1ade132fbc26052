-- What a change tree means in a state: a state with the edits that were performed, or a refusal
-- with its node.
use Rattle.std.specs.Prelude.{ℕ, ◌+◌, nat_lt, List, [], ◌∷◌, ◌++◌, Option, None, Some, Result, Ok, Err, if◌then◌else◌}
use Rattle.iocm_types.specs.declared.refused.At.TheVariants.{Key, Nothing}
use Rattle.iocm_types.specs.declared.refused.Refused.{Refused}
use Rattle.iocm_types.specs.declared.rule.Rule.TheVariants.{C1, C2, E3}
use Rattle.iocm_model.specs.Rules.FirstBreach.{Breach, first_breach}
use Rattle.iocm_model.specs.Operation.State.{State}
use Rattle.iocm_model.specs.Change.Edit.{Edit, state_after}
use Rattle.iocm_model.specs.Change.Refusal.{refusal_at, refusal_of}
use Rattle.iocm_model.specs.Change.Tree.{ChangeTree, Parts, leaf, row, group, choose, none, part}
use Rattle.iocm_model.specs.Change.Tree.{leaves_of, depth_of, nodes_of, most_depth, most_leaves}

-- what was done: the state that was reached, and the edits that were performed, in order
pub record Performed : Type 0 where
  pub state : State
  pub edits : List Edit

abbrev pub Outcome : Type 0
Outcome = Result Performed Refused

-- nothing was done
abbrev pub nothing_done : State → Performed
nothing_done s = record { state = s; edits = [] }

-- the refusal names this node
abbrev pub at_node : ℕ → Refused → Refused
at_node n why = record why { node = Some n }

-- a leaf: its refusal names the node; else the edit is performed
abbrev pub unless_refused : Option Refused → ℕ → Edit → State → Outcome
unless_refused (Some why) n e s = Err (at_node n why)
unless_refused None n e s = Ok (record { state = state_after e s; edits = e ∷ [] })

-- what was done before, too
abbrev pub after_run : Performed → Outcome → Outcome
after_run r (Ok next) = Ok (record { state = next.state; edits = r.edits ++ next.edits })
after_run r (Err why) = Err why

-- go on from what was done; the first refusal is the answer
abbrev pub and_then : Outcome → (State → Outcome) → Outcome
and_then (Ok r) further = after_run r (further r.state)
and_then (Err why) further = Err why

-- the first that is accepted; else go on with what else there is
abbrev pub or_else : Outcome → (Refused → Outcome) → Outcome
or_else (Ok r) further = Ok r
or_else (Err why) further = further why

-- a breach of the rules names the node whose end was checked
abbrev pub unless_broken : Option Breach → ℕ → Performed → Outcome
unless_broken (Some b) n r = Err (record { rule = b.rule; node = Some n; at = Key b.key })
unless_broken None n r = Ok r

-- the rules hold where this node ends
abbrev pub if_rules_hold : ℕ → Outcome → Outcome
if_rules_hold n (Ok r) = unless_broken (first_breach r.state.config r.state.numbers) n r
if_rules_hold n (Err why) = Err why

-- E3: a Choose without parts
abbrev pub without_parts : ℕ → Refused
without_parts n = at_node n (refusal_at E3 Nothing)

abbrev mutual
  -- a tree whose first node has this number. A Row performs its parts in order, all or none; after
  -- a Group the rules hold; a Choose performs the first part that is accepted and after which the
  -- rules hold
  pub node_meaning : ChangeTree → ℕ → State → Outcome
  node_meaning (leaf e) n s = unless_refused (refusal_of e s) n e s
  node_meaning (row ps) n s = parts_meaning ps (n + 1) s
  node_meaning (group ps) n s = if_rules_hold n (parts_meaning ps (n + 1) s)
  node_meaning (choose ps) n s = choice_meaning ps (n + 1) (without_parts n) s

  -- parts in order: the first refusal is the answer
  pub parts_meaning : Parts → ℕ → State → Outcome
  parts_meaning none n s = Ok (nothing_done s)
  parts_meaning (part p ps) n s = and_then (node_meaning p n s) (parts_meaning ps (n + nodes_of p))

  -- the first part that is accepted; where there is none, the last refusal
  pub choice_meaning : Parts → ℕ → Refused → State → Outcome
  choice_meaning none n last s = Err last
  choice_meaning (part p ps) n last s =
      or_else (if_rules_hold n (node_meaning p n s)) (λ why. choice_meaning ps (n + nodes_of p) why s)

-- a whole tree: the limits on depth (C1) and leaves (C2), then the root, then the rules
abbrev pub meaning : ChangeTree → State → Outcome
meaning p s =
    if nat_lt most_depth (depth_of p) then Err (refusal_at C1 Nothing)
    else if nat_lt most_leaves (leaves_of p) then Err (refusal_at C2 Nothing)
    else if_rules_hold 0 (node_meaning p 0 s)

-- the state that was reached, if the tree was accepted
abbrev pub state_reached : Outcome → Option State
state_reached (Ok r) = Some r.state
state_reached (Err why) = None
