-- What a script comes to, once its last round was run and the system is closed.
use Rattle.std.proofs.Common.{◌≡◌, List, ◌++◌, length, Result, Ok, Err, IfOk, sym, ap, ◌∙◌, subst}
use Rattle.std.specs.Prelude.{map}
use Rattle.std.specs.List.{flat_map}
use Rattle.iocm_board.specs.Steps.{TellAll}
use Rattle.iocm_core.specs.Seen as seen
use Rattle.iocm_history.specs.Account.{state_at}
use Rattle.iocm_history.specs.Legal.{IsLegal}
use Rattle.iocm_model.specs.Change.Tree.{ChangeTree}
use Rattle.iocm_script.specs.declared.line.Line.{Line}
use Rattle.iocm_system.specs.Traces.{history_of}
use Rattle.iocm_system.specs.Sights.{Sight}
use Rattle.iocm_core.specs.declared.closing.Closed.{Closed}
use Rattle.iocm_types.specs.declared.rule.Rule.{Rule}
use Rattle.iocm_operation.specs.declared.operated.Operated.{Operated}
use Rattle.iocm_operation.specs.declared.placed.Placed.{Placed}
use Rattle.iocm_operation.specs.Answering.{answers_at}
use Rattle.iocm_operation.specs.Marks.{all_of}
use Rattle.iocm_operation.specs.Running.{IsOperation}
use Rattle.iocm_operation.specs.Segments.{in_order}
use Rattle.iocm_operation.specs.SoFar.{IsSoFar, segment_of}
use Rattle.iocm_operation.proofs.Lines.{AllThere, answers_of_all, numbered_there}
use Rattle.iocm_operation.proofs.Segments.{since_is}

-- what is answered of a machine that was closed
pub operation_is : (core end : seen.Core) (ts : List ChangeTree) (rounds : List (List Line)) (me out : Sight)
    (places : List Placed) (closed : Closed)
    (result : Result Operated Rule) → me.origin ≡ core → IsSoFar ts rounds me out places
    → end.opening ≡ out.origin.opening → IsLegal end.opening end.history → TellAll out.origin out.receipts end.entries
    → closed.plant.state ≡ state_at end.opening end.history → history_of closed ≡ end.history
    → closed.trace.entries.items ≡ end.entries
    → IfOk result (λ o. o.closed ≡ closed)
    → IfOk result (λ o. o.answers.items ≡ answers_at closed.trace.entries.items places)
    → IfOk result (IsOperation core ts rounds)
operation_is core end ts rounds me out places closed (Err why) mine so_far opens legal told state history entries same
    given = tt
operation_is core end ts rounds me out places closed (Ok o) mine so_far opens legal told state history entries same
    given =
    let origin : out.origin ≡ core = so_far.origin ∙ mine in
    let opening : end.opening ≡ core.opening = opens ∙ ap (λ (c : seen.Core). c.opening) origin in
    let since = since_is (length out.origin.entries) told.0 out.receipts so_far.parts told.2 so_far.receipts in
    let es = closed.trace.entries.items in
    let there : AllThere es (flat_map all_of so_far.parts) =
    subst (AllThere es) (sym told.2 ∙ so_far.receipts)
    (numbered_there es out.origin.entries told.0 (entries ∙ told.1)) in
    let history_same : history_of o.closed ≡ end.history = ap history_of same ∙ history in
    record {
      segments = map segment_of so_far.parts;
      trace = ap (λ (k : Closed). k.trace.entries.items) same ∙ entries ∙ told.1
          ∙ ap (λ es. out.origin.entries ++ es) since
          ∙ ap (λ (c : seen.Core). c.entries ++ flat_map in_order (map segment_of so_far.parts)) origin;
      each = so_far.each;
      answers = given ∙ ap (answers_at es) so_far.placed ∙ answers_of_all es rounds so_far.parts there;
      legal = subst (λ s. IsLegal s (history_of o.closed)) opening
          (subst (IsLegal end.opening) (sym history_same) legal);
      state = ap (λ (k : Closed). k.plant.state) same ∙ state ∙ ap (state_at end.opening) (sym history_same)
          ∙ ap (λ s. state_at s (history_of o.closed)) opening;
    }
