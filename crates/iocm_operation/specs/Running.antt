-- A script that was run on a machine.
use Rattle.std.specs.Prelude.{◌≡◌, ◌<◌, ℕ, true, List, ◌++◌, length, Option, None}
use Rattle.std.specs.List.{AllByRecursion, flat_map}
use Rattle.iocm_board.specs.Names.{is_whole}
use Rattle.iocm_board.specs.declared.view.Made.{Made}
use Rattle.iocm_core.specs.Seen as seen
use Rattle.iocm_core.specs.declared.call.Call.{Call}
use Rattle.iocm_history.specs.Account.{state_at}
use Rattle.iocm_history.specs.Legal.{IsLegal}
use Rattle.iocm_model.specs.Change.Tree.{ChangeTree}
use Rattle.iocm_rounds.specs.declared.round.Round.{Round}
use Rattle.iocm_script.specs.declared.line.Line.{Line}
use Rattle.iocm_system.specs.Traces.{history_of}
use Rattle.iocm_system.specs.Sights.{Sight}
use Rattle.iocm_system.specs.Turns.{gained}
use Rattle.iocm_system.specs.declared.receipt.Receipt.{Receipt}
use Rattle.iocm_types.specs.declared.rule.Rule.{Rule}
use Rattle.iocm_operation.specs.declared.operated.Operated.{Operated}
use Rattle.iocm_operation.specs.declared.round.Ran.{Ran}
use Rattle.iocm_operation.specs.Marks.{Marked, all_of, of_actor, those_of}
use Rattle.iocm_operation.specs.Segments.{AreRun, Segment, answers_of, in_order}

-- each actor has made all its calls, and has a receipt for each
pub record AreAll (p q a b : List Call) (rp rq ra rb : List Receipt) (marked : Marked) : Type 0 where
  pub gained_are : (n : ℕ) → those_of n marked ≡ gained (of_actor n p q a b) (of_actor n rp rq ra rb)
  pub as_many : (n : ℕ) → length (of_actor n rp rq ra rb) ≡ length (of_actor n p q a b)

-- a round was run by a caller: it has gained receipts that are of the actors, all of them if
-- nothing stopped the round; and it is whole
pub record IsRan (p q a b : List Call) (old new : Sight) (rp rq ra rb : List Receipt)
    (stopped : Option Rule) : Type 0 where
  pub marked : Marked
  pub receipts : new.receipts ≡ old.receipts ++ all_of marked
  pub below : AllByRecursion (λ (m : Made). m.number < new.seen) new.receipts
  pub all : stopped ≡ None → AreAll p q a b rp rq ra rb marked
  pub tag : new.tag ≡ old.tag
  pub origin : new.origin ≡ old.origin
  pub whole : is_whole new.names ≡ true

abbrev pub RoundIsRan : {B : Type 0} → Round → Sight → Ran B → Type 0
RoundIsRan r me ran =
    IsRan r.p.items r.q.items r.a.items r.b.items me ran.caller
    ran.p.items ran.q.items ran.a.items ran.b.items ran.stopped

-- a script was run on a core: after the entries from before, the trace has those of the rounds,
-- one round after the other. In each the calls of each actor are those that its lines ask for, in
-- order, each once. The answers are those of the entries. The trace is a legal history, and the
-- machine is in the state to which that leads
pub record IsOperation (core : seen.Core) (ts : List ChangeTree) (rounds : List (List Line))
    (o : Operated) : Type 0 where
  pub segments : List Segment
  pub trace : o.closed.trace.entries.items ≡ core.entries ++ flat_map in_order segments
  pub each : AreRun ts rounds segments
  pub answers : o.answers.items ≡ answers_of rounds segments
  pub legal : IsLegal core.opening (history_of o.closed)
  pub state : o.closed.plant.state ≡ state_at core.opening (history_of o.closed)
