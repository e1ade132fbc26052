-- What the entry of an accepted change tells.
use Rattle.std.proofs.Common.{◌≡◌, inl, inr, ℕ, ◌+◌, Bool, true, false, cond, ◌∷◌, Option, Some, None, Ok, Err, refl}
use Rattle.std.proofs.Common.{sym, ap, subst, ◌∙◌}
use Rattle.iocm_types.specs.declared.answer.Answer.TheVariants.{Changed}
use Rattle.iocm_types.specs.declared.answer.Answer.TheVariants as answers
use Rattle.iocm_types.specs.declared.refused.Refused.{Refused}
use Rattle.iocm_types.specs.declared.sub_id.SubId.{SubId}
use Rattle.std.specs.FinMap.{get}
use Rattle.iocm_model.specs.Operation.State.{State, is_among}
use Rattle.iocm_model.specs.Operation.Step.{Step, order, device_begin, device_end, answer_in}
use Rattle.iocm_model.specs.Change.Tree.{ChangeTree}
use Rattle.iocm_model.specs.Change.Meaning.{Outcome, meaning}
use Rattle.iocm_history.specs.Entry.{Call, at, activate, begin, advance, commit, abort, undo, redo, show, Entry}
use Rattle.iocm_history.specs.Entry.{History, plain_entry}
use Rattle.iocm_history.specs.Store.{store_of}
use Rattle.iocm_history.specs.Change.{Change, change_of, effect_of_change, altered}
use Rattle.iocm_history.specs.MarkedEntry.{kept}
use Rattle.iocm_history.specs.Stage.{Stage, is_held}
use Rattle.iocm_history.specs.Account.{committed, Account, account, marked_entries, state_at}
use Rattle.iocm_history.specs.StandsOn.{stands_on}
use Rattle.iocm_history.specs.Journal.{Journal, is_in, is_past, journal_of}
use Rattle.iocm_history.specs.Legal.{unless_held, unless_staged, activated, begun, advance_answer, commit_entry}
use Rattle.iocm_history.specs.Legal.{abort_answer, unless_not_quiet, unless_stood_on, is_last_undone, show_answer}
use Rattle.iocm_history.specs.Legal.{not_quiet_of, entry_of, IsRight, IsLegal}
use Rattle.iocm_history.specs.InUse.{IsInUse}
use Rattle.iocm_history.proofs.Striking.{made, entry}
use Rattle.iocm_history.proofs.WasMade.{was_meant}
use Rattle.iocm_history.proofs.Level.{IsReady}
use Rattle.iocm_history.proofs.Settled.{IsStaged, IsSettled}
use Rattle.iocm_history.proofs.Along.{settled}
use Rattle.iocm_history.proofs.EachCall.{states_stay_in_use}

-- an entry accepted a change: it was ready in the state before, the entry tells what it wrote, and
-- what was held before the change altered
pub record HasAccepted (opening : State) (h : History) (e : Entry) (n : ℕ) : Type 0 where
  pub change : Change
  pub number : n ≡ (journal_of h).count + 1
  pub ready : IsReady change (state_at opening h)
  pub effect : e.effect ≡ effect_of_change change
  pub entries : account opening (e ∷ h) ≡ record { entries = made n change ∷ marked_entries opening h; stage = None }
  pub held : (x : SubId) → is_among x (altered change) ≡ false → is_held x (account opening h).stage ≡ false

inner : {n m : ℕ} → Changed n ≡ Changed m → n ≡ m
inner e = cc

module _ (opening : State) (h : History) (used : IsInUse opening) (legal : IsLegal opening h) where
  abbrev s : State
  s = state_at opening h

  abbrev a : Account
  a = account opening h

  abbrev b : Journal
  b = journal_of h

  abbrev Tells : Entry → Type 0
  Tells e = (n : ℕ) → e.answer ≡ Changed n → HasAccepted opening h e n

  in_use : IsInUse s
  in_use = states_stay_in_use opening h used legal

  i : IsSettled (store_of opening) b a
  i = settled opening h used legal

  from_is : (o : Outcome) → (change_of o s).from ≡ s
  from_is (Ok r) = refl
  from_is (Err why) = refl

  activation : (p : ChangeTree) (g : Option Stage) (o : Outcome) (k : ℕ) → k ≡ b.count + 1 → a.stage ≡ g
      → meaning p s ≡ o → Tells (unless_staged g (activate p) (activated p k s o))
  unfolding account
  activation p (Some g) o k number stage is n answer = cc
  activation p None (Err why) k number stage is n answer = cc
  activation p None (Ok r) k number stage is n answer = record {
    change = change_of (meaning p s) s;
    number = sym (inner answer) ∙ number;
    ready = record {
      was_made = was_meant p s r in_use is;
      config = ap (λ (z : State). z.config) (sym (from_is (meaning p s)));
      numbers = ap (λ (z : State). z.numbers) (sym (from_is (meaning p s)));
      lives = λ x on. ap (λ (z : State). get z.lives x) (sym (from_is (meaning p s)));
    };
    effect = ap (λ z. effect_of_change (change_of z s)) (sym is);
    entries = λ j. record {
      entries = made (inner answer j) (change_of (meaning p s) s) ∷ marked_entries opening h;
      stage = stage j;
    };
    held = λ x off. ap (is_held x) stage;
  }

  commitment : (g : Option Stage) (k : ℕ) → k ≡ b.count + 1 → a.stage ≡ g → Tells (commit_entry k g)
  unfolding account
  commitment None k number stage n answer = cc
  commitment (Some g) k number stage n answer = record {
    change = g.change;
    number = sym (inner answer) ∙ number;
    ready = subst (λ (o : Option Stage). IsStaged o s) stage i.stage;
    effect = refl;
    entries = λ j. record {
      entries = entry (committed (inner answer j) (stage j)) kept ∷ marked_entries opening h;
      stage = None;
    };
    held = λ x off. ap (is_held x) stage ∙ off;
  }

  begin_not : (p : ChangeTree) (g : Option Stage) (o : Outcome) → Tells (unless_staged g (begin p) (begun p o))
  begin_not p (Some g) o n answer = cc
  begin_not p None (Ok r) n answer = cc
  begin_not p None (Err why) n answer = cc

  advance_not : (g : Option Stage) → Tells (plain_entry advance (advance_answer g))
  advance_not (Some g) n answer = cc
  advance_not None n answer = cc

  abort_not : (g : Option Stage) → Tells (plain_entry abort (abort_answer g))
  abort_not (Some g) n answer = cc
  abort_not None n answer = cc

  step_not : (x : SubId) (done : Step) (held : Bool)
      → Tells (plain_entry (at x done) (unless_held held (answer_in s x done)))
  step_not x done true n answer = cc
  step_not x (order o) false n answer = cc
  step_not x device_begin false n answer = cc
  step_not x device_end false n answer = cc

  undo_not : (k : ℕ) (g : Option Stage) (here : Bool) (on : Option ℕ) (quiet : Option SubId) (why : Refused)
      → Tells (unless_staged g (undo k)
      (plain_entry (undo k) (cond here (unless_stood_on on (unless_not_quiet quiet (answers.Undone k)))
      (answers.Refused why))))
  undo_not k (Some g) here on quiet why n answer = cc
  undo_not k None true (Some m) quiet why n answer = cc
  undo_not k None true None (Some x) why n answer = cc
  undo_not k None true None None why n answer = cc
  undo_not k None false on quiet why n answer = cc

  redo_not : (k : ℕ) (g : Option Stage) (last here past : Bool) (quiet : Option SubId) (why whether other : Refused)
      → Tells (unless_staged g (redo k) (plain_entry (redo k) (cond last (unless_not_quiet quiet (answers.Redone k))
      (cond here (answers.Refused why) (cond past (answers.Refused whether) (answers.Refused other))))))
  redo_not k (Some g) last here past quiet why whether other n answer = cc
  redo_not k None true here past (Some x) why whether other n answer = cc
  redo_not k None true here past None why whether other n answer = cc
  redo_not k None false true past quiet why whether other n answer = cc
  redo_not k None false false true quiet why whether other n answer = cc
  redo_not k None false false false quiet why whether other n answer = cc

  show_not : (g : Option Stage) → Tells (unless_staged g show (plain_entry show (show_answer s b)))
  show_not (Some g) n answer = cc
  show_not None n answer = cc

  called : (c : Call) → Tells (entry_of opening h c)
  called (at x done) = step_not x done (is_held x a.stage)
  called (activate p) = activation p a.stage (meaning p s) (b.count + 1) refl refl refl
  called (begin p) = begin_not p a.stage (meaning p s)
  called advance = advance_not a.stage
  called commit = commitment a.stage (b.count + 1) refl refl
  called abort = abort_not a.stage
  called (undo k) = undo_not k a.stage (is_in k b.standing) (stands_on k a.entries s) (not_quiet_of k s a) _
  called (redo k) = redo_not k a.stage (is_last_undone k b.undone) (is_in k b.undone) (is_past k b) (not_quiet_of k s a)
      _ _ _
  called show = show_not a.stage

  pub has_accepted : (e : Entry) → IsRight opening h e → Tells e
  has_accepted e (inl same) = subst Tells (sym same) (called e.call)
  has_accepted e (inr lack) = subst Tells (sym lack.1) (λ n answer. cc)
