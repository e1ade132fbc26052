-- Where a redo may be accepted, it is, and does what any tree means that takes back what the undo
-- did.
use Rattle.std.proofs.Common.{◌≡◌, inl, ℕ, true, false, cond, ◌∷◌, ◌++◌, [], Some, None, sym, ap, subst, ◌∙◌}
use Rattle.std.specs.List.{list_any}
use Rattle.iocm_types.specs.declared.answer.Answer.TheVariants.{Redone}
use Rattle.iocm_types.specs.declared.answer.Answer.TheVariants as answers
use Rattle.iocm_types.specs.declared.refused.At.TheVariants.{Nothing}
use Rattle.iocm_types.specs.declared.rule.Rule.TheVariants.{J1, J3}
use Rattle.iocm_model.specs.Operation.State.{State, HasConfigAndNumbersOf}
use Rattle.iocm_model.specs.Change.Effect.{Cells, values_in, with_effect}
use Rattle.iocm_model.specs.Change.InverseTree.{TakesBack}
use Rattle.iocm_model.specs.Change.Meaning.{meaning, state_reached}
use Rattle.iocm_model.specs.Change.Refusal.{AreQuiet, refusal_at, first_not_quiet}
use Rattle.iocm_model.specs.Change.Runs.{state_after_all, cells_written_by_all, inverses}
use Rattle.iocm_model.specs.Change.Tree.{ChangeTree}
use Rattle.iocm_model.proofs.Change.RunsGoBack.{quiet_at}
use Rattle.iocm_history.specs.Account.{account, marked_entries, stage_of, state_at}
use Rattle.iocm_history.specs.Change.{Change, cells_of_change, altered}
use Rattle.iocm_history.specs.Entry.{redo, Entry, History, plain_entry}
use Rattle.iocm_history.specs.InUse.{IsInUse}
use Rattle.iocm_history.specs.Journal.{is_in, is_past, journal_of}
use Rattle.iocm_history.specs.Legal.{unless_staged, is_last_undone, redo_answer, not_quiet_of, entry_of, IsRight}
use Rattle.iocm_history.specs.Legal.{IsLegal}
use Rattle.iocm_history.specs.MarkedEntry.{altered_if, change_at}
use Rattle.iocm_history.specs.RedoLaws.{redo_entry, undoes_or_redoes, IsRedone}
use Rattle.iocm_history.specs.Store.{store_of, state_of}
use Rattle.iocm_history.specs.UndoLaws.{undo_entry}
use Rattle.iocm_history.proofs.Along.{settled}
use Rattle.iocm_history.proofs.Apart.{same_some}
use Rattle.iocm_history.proofs.EachCall.{states_stay_in_use}
use Rattle.iocm_history.proofs.OneCell.{Cell, at_subchannel, read, is_one_of, read_values, same_store, state_of_store}
use Rattle.iocm_history.proofs.OneCell.{altered_cells}
use Rattle.iocm_history.proofs.Redoing.{legal_before, redo_finds_what_the_undo_left, redo_puts_the_cells_forward}
use Rattle.iocm_history.proofs.Standing.{standing_change}
use Rattle.iocm_history.proofs.Undoing.{MayBeUndone, may_be_undone, undo_does_what_the_inverses_do}
use Rattle.iocm_history.proofs.Undoing.{standing_changes_fit}
use Rattle.iocm_history.proofs.WasMade.{WasMade}
use Rattle.iocm_history.specs.JournalLaws.{RedoMeansTheRedo}
use Rattle.iocm_history.proofs.Found.{only_these_are_there, changes_stay_there}
use Rattle.iocm_history.proofs.InversesWrite.{change_writes_back}

-- a redo is accepted where nothing is staged, its change is the last one undone, and its
-- subchannels are quiet
pub redo_right : (opening : State) (h : History) (n : ℕ) → stage_of opening h ≡ None
    → is_last_undone n (journal_of h).undone ≡ true
    → not_quiet_of n (state_at opening h) (account opening h) ≡ None → IsRight opening h (redo_entry n)
redo_right opening h n idle last quiet = inl (sym is)
  where
    is : entry_of opening h (redo n) ≡ redo_entry n
    is = (λ i. unless_staged (idle i) (redo n) (plain_entry (redo n) (redo_answer n (journal_of h) (quiet i))))
        ∙ (λ i. plain_entry (redo n)
        (cond (last i) (Redone n) (cond (is_in n (journal_of h).undone) (answers.Refused (refusal_at J3 Nothing))
        (cond (is_past n (journal_of h)) (answers.Refused (refusal_at J3 Nothing))
        (answers.Refused (refusal_at J1 Nothing))))))

-- a change that is there is there later
pub there_later : (opening : State) (new h : History) (n : ℕ) (c : Change) → IsInUse opening
    → IsLegal opening (new ++ h)
    → change_at n (marked_entries opening h) ≡ Some c → change_at n (marked_entries opening (new ++ h)) ≡ Some c
there_later opening [] h n c used legal at = at
there_later opening (e ∷ new) h n c used legal at =
    let before = there_later opening new h n c used legal.1 at in
    changes_stay_there opening (new ++ h) e n used legal
    (only_these_are_there opening (new ++ h) n c used legal.1 before).1 ∙ before

module _ (opening : State) (h between : History) (n : ℕ) (c : Change) (t : ChangeTree) (used : IsInUse opening)
    (legal : IsLegal opening (between ++ undo_entry n ∷ h))
    (first : list_any (λ (e : Entry). undoes_or_redoes n e.answer) between ≡ false)
    (last : is_last_undone n (journal_of (between ++ undo_entry n ∷ h)).undone ≡ true)
    (idle : stage_of opening (between ++ undo_entry n ∷ h) ≡ None)
    (quiet : not_quiet_of n (state_at opening (between ++ undo_entry n ∷ h))
    (account opening (between ++ undo_entry n ∷ h)) ≡ None)
    (at : change_at n (marked_entries opening h) ≡ Some c)
    (takes : TakesBack t (inverses c.edits c.from) (state_at opening h)) where
  abbrev now : History
  now = between ++ undo_entry n ∷ h

  abbrev s : State
  s = state_at opening h

  abbrev u : State
  u = state_at opening now

  abbrev v : State
  v = state_at opening (redo_entry n ∷ now)

  abbrev back_cells : Cells
  back_cells = cells_written_by_all (inverses c.edits c.from) s

  redone : IsRedone opening h between n
  redone = record { used = used; legal = (redo_right opening now n idle last quiet, legal); first = first }

  legal_undo : IsLegal opening (undo_entry n ∷ h)
  legal_undo = legal_before opening between (undo_entry n ∷ h) legal

  -- ---- the undo

  may : MayBeUndone s (journal_of h) (account opening h) n
  may = may_be_undone opening h n legal_undo.0

  was : WasMade c
  was = let stood = (settled opening h used legal_undo.1).level.standing n may.here in
      subst WasMade (same_some stood.change c
      (sym (standing_change (store_of opening) n (marked_entries opening h) stood) ∙ at)) stood.was_made

  -- its edits wrote the cells of the change
  same_cells : (q : Cell) → is_one_of back_cells q ≡ is_one_of (cells_of_change c) q
  same_cells q = change_writes_back c s was (states_stay_in_use opening h used legal_undo.1)
      (standing_changes_fit opening h n c used legal_undo.1 may.here at may.none) q

  -- ---- now

  like : HasConfigAndNumbersOf u (state_after_all (inverses c.edits c.from) s)
  like = subst (HasConfigAndNumbersOf u) (undo_does_what_the_inverses_do opening h n c used legal_undo at).1
      (redo_finds_what_the_undo_left opening h between n redone)

  quiet_now : AreQuiet u.lives (altered c)
  quiet_now =
      let here : change_at n (marked_entries opening now) ≡ Some c =
      there_later opening between (undo_entry n ∷ h) n c used legal
      (changes_stay_there opening h (undo_entry n) n used legal_undo
      (only_these_are_there opening h n c used legal_undo.1 at).1 ∙ at) in
      quiet_at u.lives (altered c) (ap (λ o. first_not_quiet u.lives (altered_if o)) (sym here) ∙ quiet)

  back_quiet : AreQuiet u.lives back_cells.subchannels
  back_quiet x on = quiet_now x (altered_cells c x ∙ sym (same_cells (at_subchannel x)) ∙ on)

  -- the cells as they were before the undo are those that the redo gives
  forth : with_effect (values_in s back_cells) u ≡ v
  forth =
      ap state_of (same_store _ _
      (λ q. read_values s back_cells (store_of u) q
      ∙ ap (λ b. cond b (read (store_of s) q) (read (store_of u) q)) (same_cells q)
      ∙ sym (read_values s (cells_of_change c) (store_of u) q)))
      ∙ ap state_of (sym (redo_puts_the_cells_forward opening h between n c redone at))
      ∙ state_of_store v (states_stay_in_use opening (redo_entry n ∷ now) used redone.legal).sound

  pub redo_done : IsLegal opening (redo_entry n ∷ now) × (state_reached (meaning t u) ≡ Some v)
  redo_done = (redone.legal, takes u like back_quiet ∙ ap Some forth)

pub redo_means_the_redo : RedoMeansTheRedo
redo_means_the_redo = redo_done
