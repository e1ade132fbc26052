-- What the inverses of a change that fits a state in use leave there.
use Rattle.std.proofs.Common.{◌≡◌, Bool, true, false, not, Option, Some, None, is_some, refl, sym, ◌∙◌}
use Rattle.iocm_types.specs.declared.sub_id.SubId.{SubId}
use Rattle.iocm_types.proofs.Tests.{absent}
use Rattle.iocm_model.specs.Rules.FirstBreach.{first_breach}
use Rattle.iocm_model.specs.Operation.State.{State, seen_in, is_among}
use Rattle.iocm_model.specs.Change.Refusal.{AreQuiet}
use Rattle.iocm_model.specs.Change.Runs.{state_after_all, inverses, AreAccepted}
use Rattle.iocm_model.specs.Laws.Trees.{KeepsTheRules}
use Rattle.iocm_history.specs.Store.{store_of, store_with}
use Rattle.iocm_history.specs.Change.{Change, cells_of_change, values_before, altered}
use Rattle.iocm_history.specs.Fits.{state_before_all, keeps_the_rules, fits}
use Rattle.iocm_history.specs.InUse.{IsInUse}
use Rattle.iocm_history.proofs.OneCell.{read_values, same_store, altered_cells}
use Rattle.iocm_history.proofs.Fitting.{AreBack, all_back}
use Rattle.iocm_history.proofs.WasMade.{WasMade, carried_free}

-- the state that they leave: with the cells of the change as they were; it is in use, sees the same
-- off the altered subchannels, and the inverses are accepted where these are quiet
pub record IsTakenBack (c : Change) (u : State) : Type 0 where
  pub state : State
  pub is : state ≡ state_after_all (inverses c.edits c.from) u
  pub used : IsInUse state
  pub store : store_of state ≡ store_with (values_before c) (store_of u)
  pub seen : (x : SubId) → is_among x (altered c) ≡ false → seen_in state x ≡ seen_in u x
  pub accepted : AreQuiet u.lives (altered c) → AreAccepted (inverses c.edits c.from) u

record HasState (o : Option State) : Type 0 where
  state : State
  is : o ≡ Some state
  rules : KeepsTheRules state

has_state : (o : Option State) → keeps_the_rules o ≡ true → HasState o
has_state None h = cc
has_state (Some v) h = record {
  state = v;
  is = refl;
  rules = absent (first_breach v.config v.numbers)
      (not_there (is_some (first_breach v.config v.numbers)) h);
}
  where
    not_there : (b : Bool) → not b ≡ true → b ≡ false
    not_there true h = sym h
    not_there false h = refl

pub taken_back_where_it_fits : (c : Change) (u : State) → WasMade c → IsInUse u → fits c u ≡ true → IsTakenBack c u
taken_back_where_it_fits c u was used h =
    let there = has_state (state_before_all c.edits c.from u) h in
    let v = there.state in
    let back : AreBack c.edits c.from u v =
    all_back c.edits c.from u v was.used.sound (carried_free c was) used.sound there.is in
    record {
      state = v;
      is = back.is;
      used = record { sound = back.sound; rules = there.rules };
      store = same_store (store_of v) (store_with (values_before c) (store_of u))
          (λ q. back.cells q ∙ sym (read_values c.from (cells_of_change c) (store_of u) q));
      seen = λ x off. back.seen x (sym (altered_cells c x) ∙ off);
      accepted = λ quiet. back.accepted was.accepted (λ x on. quiet x (altered_cells c x ∙ on));
    }
