-- What an entry is: it does nothing, wherever it comes; it is a step that was done; it accepted a
-- change; or it is an accepted undo or redo.
use Rattle.std.proofs.Common.{◌≡◌, inl, inr, ℕ, ◌+◌, Bool, true, false, cond, ◌∷◌, Option, Some, None, Ok, Err, refl}
use Rattle.std.proofs.Common.{sym, subst}
use Rattle.iocm_types.specs.declared.answer.Answer.TheVariants as answers
use Rattle.iocm_types.specs.declared.refused.At.TheVariants.{Nothing}
use Rattle.iocm_types.specs.declared.refused.Refused.{Refused}
use Rattle.iocm_types.specs.declared.rule.Rule.TheVariants.{M1}
use Rattle.iocm_types.specs.declared.sub_id.SubId.{SubId}
use Rattle.iocm_model.specs.Operation.State.{State}
use Rattle.iocm_model.specs.Operation.Step.{Step, answer_in}
use Rattle.iocm_model.specs.Change.Refusal.{refusal_at}
use Rattle.iocm_model.specs.Change.Tree.{ChangeTree}
use Rattle.iocm_model.specs.Change.Meaning.{Outcome, meaning}
use Rattle.iocm_history.specs.Entry.{Call, at, activate, begin, advance, commit, abort, undo, redo, show, Entry}
use Rattle.iocm_history.specs.Entry.{History, plain_entry}
use Rattle.iocm_history.specs.MarkedEntry.{nothing, kept}
use Rattle.iocm_history.specs.Stage.{Stage, is_held}
use Rattle.iocm_history.specs.Account.{Account, account, marked_entries, state_at}
use Rattle.iocm_history.specs.StandsOn.{stands_on}
use Rattle.iocm_history.specs.Journal.{Journal, is_in, is_past, journal_of}
use Rattle.iocm_history.specs.Legal.{unless_held, unless_staged, activated, begun, advance_answer, commit_entry}
use Rattle.iocm_history.specs.Legal.{abort_answer, unless_not_quiet, unless_stood_on, is_last_undone, show_answer}
use Rattle.iocm_history.specs.Legal.{not_quiet_of, entry_of, may_lack_memory, IsRight}
use Rattle.iocm_history.specs.StageLaws.{is_done}
use Rattle.iocm_history.proofs.Striking.{entry}
use Rattle.iocm_history.specs.UndoLaws.{undo_entry}
use Rattle.iocm_history.specs.RedoLaws.{redo_entry}
use Rattle.iocm_runs.specs.LaterChanges.{with_one_less}

-- an entry that does nothing wherever it comes
pub record IsIdle (e : Entry) : Type 0 where
  pub entries : (opening : State) (g : History)
      → marked_entries opening (e ∷ g) ≡ entry nothing kept ∷ marked_entries opening g
  pub journal : (g : History) → journal_of (e ∷ g) ≡ journal_of g
  pub same : with_one_less e ≡ e
  pub undone : is_done e.call e.answer ≡ false

pub data Comes (opening : State) (h : History) (e : Entry) : Type 0 where
  idles : IsIdle e → Comes opening h e
  steps : (x : SubId) (made : Step) → e ≡ plain_entry (at x made) (answer_in (state_at opening h) x made)
      → Comes opening h e
  changes : (k : ℕ) → e.answer ≡ answers.Changed k → is_done e.call e.answer ≡ false → Comes opening h e
  undoes : (k : ℕ) → e ≡ undo_entry k → Comes opening h e
  redoes : (k : ℕ) → e ≡ redo_entry k → Comes opening h e

-- ---- entries that do nothing

abbrev is_step_call : Call → Bool
is_step_call (at x made) = true
is_step_call _ = false

idle_refused : (c : Call) (why : Refused) → is_step_call c ≡ false → IsIdle (plain_entry c (answers.Refused why))
unfolding account
idle_refused (at x made) why none = cc
idle_refused (activate p) why none = record { entries = λ o g. refl; journal = λ g. refl; same = refl; undone = refl }
idle_refused (begin p) why none = record { entries = λ o g. refl; journal = λ g. refl; same = refl; undone = refl }
idle_refused advance why none = record { entries = λ o g. refl; journal = λ g. refl; same = refl; undone = refl }
idle_refused commit why none = record { entries = λ o g. refl; journal = λ g. refl; same = refl; undone = refl }
idle_refused abort why none = record { entries = λ o g. refl; journal = λ g. refl; same = refl; undone = refl }
idle_refused (undo n) why none = record { entries = λ o g. refl; journal = λ g. refl; same = refl; undone = refl }
idle_refused (redo n) why none = record { entries = λ o g. refl; journal = λ g. refl; same = refl; undone = refl }
idle_refused show why none = record { entries = λ o g. refl; journal = λ g. refl; same = refl; undone = refl }

idle_staged : (p : ChangeTree) (k : ℕ) → IsIdle (plain_entry (begin p) (answers.Staged k))
unfolding account
idle_staged p k = record { entries = λ o g. refl; journal = λ g. refl; same = refl; undone = refl }

idle_left : (k : ℕ) → IsIdle (plain_entry advance (answers.Left k))
unfolding account
idle_left k = record { entries = λ o g. refl; journal = λ g. refl; same = refl; undone = refl }

idle_aborted : IsIdle (plain_entry abort answers.Aborted)
unfolding account
idle_aborted = record { entries = λ o g. refl; journal = λ g. refl; same = refl; undone = refl }

idle_held : (x : SubId) (made : Step) → IsIdle (plain_entry (at x made) answers.Held)
unfolding account
idle_held x made = record { entries = λ o g. refl; journal = λ g. refl; same = refl; undone = refl }

-- ---- any call

module _ (opening : State) (h : History) where
  abbrev a : Account
  a = account opening h

  abbrev s : State
  s = state_at opening h

  abbrev b : Journal
  b = journal_of h

  abbrev MayCome : Entry → Type 0
  MayCome e = Comes opening h e

  refused_comes : (c : Call) (why : Refused) → is_step_call c ≡ false → MayCome (plain_entry c (answers.Refused why))
  refused_comes c why none = idles (idle_refused c why none)

  step_comes : (x : SubId) (made : Step) (held : Bool)
      → MayCome (plain_entry (at x made) (unless_held held (answer_in s x made)))
  step_comes x made true = idles (idle_held x made)
  step_comes x made false = steps x made refl

  activation_comes : (p : ChangeTree) (g : Option Stage) (k : ℕ) (o : Outcome)
      → MayCome (unless_staged g (activate p) (activated p k s o))
  activation_comes p (Some g) k o = refused_comes (activate p) _ refl
  activation_comes p None k (Ok r) = changes k refl refl
  activation_comes p None k (Err why) = refused_comes (activate p) why refl

  begin_comes : (p : ChangeTree) (g : Option Stage) (o : Outcome) → MayCome (unless_staged g (begin p) (begun p o))
  begin_comes p (Some g) o = refused_comes (begin p) _ refl
  begin_comes p None (Ok r) = idles (idle_staged p _)
  begin_comes p None (Err why) = refused_comes (begin p) why refl

  advance_comes : (g : Option Stage) → MayCome (plain_entry advance (advance_answer g))
  advance_comes (Some g) = idles (idle_left _)
  advance_comes None = refused_comes advance _ refl

  commit_comes : (g : Option Stage) (k : ℕ) → MayCome (commit_entry k g)
  commit_comes (Some g) k = changes k refl refl
  commit_comes None k = refused_comes commit _ refl

  abort_comes : (g : Option Stage) → MayCome (plain_entry abort (abort_answer g))
  abort_comes (Some g) = idles idle_aborted
  abort_comes None = refused_comes abort _ refl

  undo_comes : (n : ℕ) (g : Option Stage) (here : Bool) (on : Option ℕ) (quiet : Option SubId) (why : Refused)
      → MayCome (unless_staged g (undo n)
      (plain_entry (undo n) (cond here (unless_stood_on on (unless_not_quiet quiet (answers.Undone n)))
      (answers.Refused why))))
  undo_comes n (Some g) here on quiet why = refused_comes (undo n) _ refl
  undo_comes n None true (Some m) quiet why = refused_comes (undo n) _ refl
  undo_comes n None true None (Some x) why = refused_comes (undo n) _ refl
  undo_comes n None true None None why = undoes n refl
  undo_comes n None false on quiet why = refused_comes (undo n) why refl

  redo_comes : (n : ℕ) (g : Option Stage) (last here past : Bool) (quiet : Option SubId) (why whether other : Refused)
      → MayCome (unless_staged g (redo n) (plain_entry (redo n) (cond last (unless_not_quiet quiet (answers.Redone n))
      (cond here (answers.Refused why) (cond past (answers.Refused whether) (answers.Refused other))))))
  redo_comes n (Some g) last here past quiet why whether other = refused_comes (redo n) _ refl
  redo_comes n None true here past (Some x) why whether other = refused_comes (redo n) _ refl
  redo_comes n None true here past None why whether other = redoes n refl
  redo_comes n None false true past quiet why whether other = refused_comes (redo n) why refl
  redo_comes n None false false true quiet why whether other = refused_comes (redo n) whether refl
  redo_comes n None false false false quiet why whether other = refused_comes (redo n) other refl

  idle_shown : (z : State) (j : Journal) → IsIdle (plain_entry show (show_answer z j))
  unfolding account
  idle_shown z j = record { entries = λ o g. refl; journal = λ g. refl; same = refl; undone = refl }

  show_comes : (g : Option Stage) → MayCome (unless_staged g show (plain_entry show (show_answer s b)))
  show_comes (Some g) = refused_comes show _ refl
  show_comes None = idles (idle_shown s b)

  called_comes : (c : Call) → MayCome (entry_of opening h c)
  called_comes (at x made) = step_comes x made (is_held x a.stage)
  called_comes (activate p) = activation_comes p a.stage (b.count + 1) (meaning p s)
  called_comes (begin p) = begin_comes p a.stage (meaning p s)
  called_comes advance = advance_comes a.stage
  called_comes commit = commit_comes a.stage (b.count + 1)
  called_comes abort = abort_comes a.stage
  called_comes (undo n) = undo_comes n a.stage (is_in n b.standing) (stands_on n a.entries s) (not_quiet_of n s a) _
  called_comes (redo n) = redo_comes n a.stage (is_last_undone n b.undone) (is_in n b.undone) (is_past n b)
      (not_quiet_of n s a) _ _ _
  called_comes show = show_comes a.stage

  no_step : (c : Call) → may_lack_memory s b a c ≡ true → is_step_call c ≡ false
  no_step (at x made) may = cc
  no_step (activate p) may = refl
  no_step (begin p) may = refl
  no_step advance may = refl
  no_step commit may = refl
  no_step abort may = refl
  no_step (undo n) may = refl
  no_step (redo n) may = refl
  no_step show may = refl

  pub comes : (e : Entry) → IsRight opening h e → Comes opening h e
  comes e (inl same) = subst MayCome (sym same) (called_comes e.call)
  comes e (inr lack) = subst MayCome (sym lack.1) (refused_comes e.call (refusal_at M1 Nothing) (no_step e.call lack.0))
