-- An entry after which the same changes count leaves the state, or is a step that was done.
use Rattle.std.proofs.Common.{◌≡◌, inl, inr, ℕ, ◌+◌, Bool, true, false, cond, ◌∷◌, Option, Some, None, Ok, Err, refl}
use Rattle.std.proofs.Common.{sym, subst}
use Rattle.iocm_types.specs.declared.answer.Answer.TheVariants as answers
use Rattle.iocm_types.specs.declared.refused.At.TheVariants.{Nothing}
use Rattle.iocm_types.specs.declared.refused.Refused.{Refused}
use Rattle.iocm_types.specs.declared.rule.Rule.TheVariants.{M1}
use Rattle.iocm_types.specs.declared.sub_id.SubId.{SubId}
use Rattle.iocm_model.specs.Operation.State.{State}
use Rattle.iocm_model.specs.Operation.Step.{Step, answer_in}
use Rattle.iocm_model.specs.Change.Refusal.{refusal_at}
use Rattle.iocm_model.specs.Change.Tree.{ChangeTree}
use Rattle.iocm_model.specs.Change.Meaning.{Outcome, meaning}
use Rattle.iocm_history.specs.Entry.{Call, at, activate, begin, advance, commit, abort, undo, redo, show, Entry}
use Rattle.iocm_history.specs.Entry.{History, plain_entry}
use Rattle.iocm_history.specs.Stage.{Stage, is_held}
use Rattle.iocm_history.specs.MarkedEntry.{nothing, kept}
use Rattle.iocm_history.specs.Account.{Account, account, marked_entries, state_at}
use Rattle.iocm_history.specs.StandsOn.{stands_on}
use Rattle.iocm_history.specs.Journal.{Journal, is_in, is_past, journal_of}
use Rattle.iocm_history.specs.Legal.{unless_held, unless_staged, activated, begun, advance_answer, commit_entry}
use Rattle.iocm_history.specs.Legal.{abort_answer, unless_not_quiet, unless_stood_on, is_last_undone, show_answer}
use Rattle.iocm_history.specs.Legal.{not_quiet_of, entry_of, may_lack_memory, IsRight}
use Rattle.iocm_history.specs.StageLaws.{is_done}
use Rattle.iocm_history.proofs.Striking.{entry}
use Rattle.iocm_runs.specs.RunWithout.{alters_changes}

-- an entry that leaves the state and is no step that was done, or such a step
pub data Rests (opening : State) (h : History) (e : Entry) : Type 0 where
  rests : marked_entries opening (e ∷ h) ≡ entry nothing kept ∷ marked_entries opening h
      → is_done e.call e.answer ≡ false → Rests opening h e
  steps : (x : SubId) (done : Step) → e ≡ plain_entry (at x done) (answer_in (state_at opening h) x done)
      → Rests opening h e

module _ (opening : State) (h : History) where
  abbrev a : Account
  a = account opening h

  abbrev s : State
  s = state_at opening h

  abbrev b : Journal
  b = journal_of h

  abbrev MayRest : Entry → Type 0
  MayRest e = alters_changes e.answer ≡ false → Rests opening h e

  step_rests : (x : SubId) (done : Step) (held : Bool)
      → MayRest (plain_entry (at x done) (unless_held held (answer_in s x done)))
  unfolding account
  step_rests x done true same = rests refl refl
  step_rests x done false same = steps x done refl

  activation_rests : (p : ChangeTree) (g : Option Stage) (k : ℕ) (o : Outcome)
      → MayRest (unless_staged g (activate p) (activated p k s o))
  unfolding account
  activation_rests p (Some g) k o same = rests refl refl
  activation_rests p None k (Ok r) same = cc
  activation_rests p None k (Err why) same = rests refl refl

  begin_rests : (p : ChangeTree) (g : Option Stage) (o : Outcome) → MayRest (unless_staged g (begin p) (begun p o))
  unfolding account
  begin_rests p (Some g) o same = rests refl refl
  begin_rests p None (Ok r) same = rests refl refl
  begin_rests p None (Err why) same = rests refl refl

  advance_rests : (g : Option Stage) → MayRest (plain_entry advance (advance_answer g))
  unfolding account
  advance_rests (Some g) same = rests refl refl
  advance_rests None same = rests refl refl

  commit_rests : (g : Option Stage) (k : ℕ) → MayRest (commit_entry k g)
  unfolding account
  commit_rests (Some g) k same = cc
  commit_rests None k same = rests refl refl

  abort_rests : (g : Option Stage) → MayRest (plain_entry abort (abort_answer g))
  unfolding account
  abort_rests (Some g) same = rests refl refl
  abort_rests None same = rests refl refl

  undo_rests : (n : ℕ) (g : Option Stage) (here : Bool) (on : Option ℕ) (quiet : Option SubId) (why : Refused)
      → MayRest (unless_staged g (undo n)
      (plain_entry (undo n) (cond here (unless_stood_on on (unless_not_quiet quiet (answers.Undone n)))
      (answers.Refused why))))
  unfolding account
  undo_rests n (Some g) here on quiet why same = rests refl refl
  undo_rests n None true (Some m) quiet why same = rests refl refl
  undo_rests n None true None (Some x) why same = rests refl refl
  undo_rests n None true None None why same = cc
  undo_rests n None false on quiet why same = rests refl refl

  redo_rests : (n : ℕ) (g : Option Stage) (last here past : Bool) (quiet : Option SubId) (why whether other : Refused)
      → MayRest (unless_staged g (redo n) (plain_entry (redo n) (cond last (unless_not_quiet quiet (answers.Redone n))
      (cond here (answers.Refused why) (cond past (answers.Refused whether) (answers.Refused other))))))
  unfolding account
  redo_rests n (Some g) last here past quiet why whether other same = rests refl refl
  redo_rests n None true here past (Some x) why whether other same = rests refl refl
  redo_rests n None true here past None why whether other same = cc
  redo_rests n None false true past quiet why whether other same = rests refl refl
  redo_rests n None false false true quiet why whether other same = rests refl refl
  redo_rests n None false false false quiet why whether other same = rests refl refl

  show_rests : (g : Option Stage) → MayRest (unless_staged g show (plain_entry show (show_answer s b)))
  unfolding account
  show_rests (Some g) same = rests refl refl
  show_rests None same = rests refl refl

  called_rests : (c : Call) → MayRest (entry_of opening h c)
  called_rests (at x done) = step_rests x done (is_held x a.stage)
  called_rests (activate p) = activation_rests p a.stage (b.count + 1) (meaning p s)
  called_rests (begin p) = begin_rests p a.stage (meaning p s)
  called_rests advance = advance_rests a.stage
  called_rests commit = commit_rests a.stage (b.count + 1)
  called_rests abort = abort_rests a.stage
  called_rests (undo n) = undo_rests n a.stage (is_in n b.standing) (stands_on n a.entries s) (not_quiet_of n s a) _
  called_rests (redo n) = redo_rests n a.stage (is_last_undone n b.undone) (is_in n b.undone) (is_past n b)
      (not_quiet_of n s a) _ _ _
  called_rests show = show_rests a.stage

  lack_rests : (c : Call) (why : Refused) → may_lack_memory s b a c ≡ true
      → MayRest (plain_entry c (answers.Refused why))
  unfolding account
  lack_rests (at x done) why may same = cc
  lack_rests (activate p) why may same = rests refl refl
  lack_rests (begin p) why may same = rests refl refl
  lack_rests advance why may same = rests refl refl
  lack_rests commit why may same = rests refl refl
  lack_rests abort why may same = rests refl refl
  lack_rests (undo n) why may same = rests refl refl
  lack_rests (redo n) why may same = rests refl refl
  lack_rests show why may same = rests refl refl

  pub may_rest : (e : Entry) → IsRight opening h e → alters_changes e.answer ≡ false → Rests opening h e
  may_rest e (inl same) = subst MayRest (sym same) (called_rests e.call)
  may_rest e (inr lack) = subst MayRest (sym lack.1) (lack_rests e.call (refusal_at M1 Nothing) lack.0)
