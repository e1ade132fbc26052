-- What an accepted undo leaves.
use Rattle.std.proofs.Common.{◌≡◌, inl, inr, ℕ, ◌≤◌, length, Bool, true, false, cond, ◌∷◌, Option, Some, None, refl}
use Rattle.std.proofs.Common.{sym, ap, subst, ◌∙◌}
use Rattle.iocm_types.specs.declared.answer.Answer.TheVariants.{Undone}
use Rattle.iocm_types.specs.declared.answer.Answer.TheVariants as answers
use Rattle.iocm_types.specs.declared.refused.Refused.{Refused}
use Rattle.iocm_types.specs.declared.sub_id.SubId.{SubId}
use Rattle.iocm_model.specs.Operation.State.{State}
use Rattle.iocm_model.specs.Change.Refusal.{AreQuiet, first_not_quiet}
use Rattle.iocm_model.specs.Change.Runs.{state_after_all, inverses, AreAccepted}
use Rattle.iocm_model.specs.Change.Tree.{most_leaves}
use Rattle.iocm_model.specs.Change.InverseTree.{inverse_tree}
use Rattle.iocm_model.specs.Change.Meaning.{meaning, state_reached}
use Rattle.iocm_model.specs.Laws.Trees.{KeepsTheRules}
use Rattle.iocm_model.proofs.Change.RunsGoBack.{quiet_at}
use Rattle.iocm_model.proofs.Change.Trees.{inverse_tree_means}
use Rattle.iocm_history.specs.Entry.{undo, Entry, History, plain_entry}
use Rattle.iocm_history.specs.Store.{Store, store_of, state_of, store_with}
use Rattle.iocm_history.specs.Change.{Change, values_before, altered}
use Rattle.iocm_history.specs.Fits.{fits}
use Rattle.iocm_history.specs.MarkedEntry.{altered_if, change_at}
use Rattle.iocm_history.specs.Stage.{Stage}
use Rattle.iocm_history.specs.Account.{Account, account, marked_entries, state_at}
use Rattle.iocm_history.specs.StandsOn.{stands_on}
use Rattle.iocm_history.specs.Journal.{Journal, is_in, journal_of}
use Rattle.iocm_history.specs.Legal.{unless_staged, unless_not_quiet, unless_stood_on, not_quiet_of, IsRight, IsLegal}
use Rattle.iocm_history.specs.InUse.{IsInUse}
use Rattle.iocm_history.specs.UndoLaws.{undo_entry, UndoPutsTheCellsBack, UndoDoesWhatTheInversesDo}
use Rattle.iocm_history.specs.UndoLaws.{UndoDoesWhatTheInverseTreeDoes, StandingChangesAreThere, StandingChangesFit}
use Rattle.iocm_history.proofs.OneCell.{state_of_store}
use Rattle.iocm_history.proofs.Apart.{same_some}
use Rattle.iocm_history.proofs.Standing.{standing_change}
use Rattle.iocm_history.proofs.Fitted.{IsTakenBack}
use Rattle.iocm_history.proofs.Settled.{IsSettled, level_is, free, back, undo_leaves}
use Rattle.iocm_history.proofs.Along.{settled}

-- ---- what an accepted undo tells

-- nothing is staged, the change stands, nothing stands on it, and its subchannels are quiet
pub record MayBeUndone (s : State) (b : Journal) (a : Account) (n : ℕ) : Type 0 where
  pub idle : a.stage ≡ None
  pub here : is_in n b.standing ≡ true
  pub none : stands_on n a.entries s ≡ None
  pub quiet : not_quiet_of n s a ≡ None

accepted_by : (n : ℕ) (g : Option Stage) (here : Bool) (on : Option ℕ) (quiet : Option SubId) (why : Refused)
    → Undone n ≡ (unless_staged g (undo n)
    (plain_entry (undo n) (cond here (unless_stood_on on (unless_not_quiet quiet (Undone n)))
    (answers.Refused why)))).answer
    → (g ≡ None) × (here ≡ true) × (on ≡ None) × (quiet ≡ None)
accepted_by n (Some g) here on quiet why is = cc
accepted_by n None false on quiet why is = cc
accepted_by n None true (Some k) quiet why is = cc
accepted_by n None true None (Some x) why is = cc
accepted_by n None true None None why is = (refl, refl, refl, refl)

pub may_be_undone : (opening : State) (h : History) (n : ℕ) → IsRight opening h (undo_entry n)
    → MayBeUndone (state_at opening h) (journal_of h) (account opening h) n
may_be_undone opening h n (inl same) =
    let s = state_at opening h in let a = account opening h in
    let parts = accepted_by n a.stage (is_in n (journal_of h).standing) (stands_on n a.entries s) (not_quiet_of n s a) _
    (ap (λ (e : Entry). e.answer) same) in
    record { idle = parts.0; here = parts.1; none = parts.2; quiet = parts.3 }
may_be_undone opening h n (inr lack) = let other = ap (λ (e : Entry). e.answer) lack.1 in cc

-- ---- what it leaves

module _ (opening : State) (h : History) (n : ℕ) (c : Change) (used : IsInUse opening)
    (legal : IsLegal opening (undo_entry n ∷ h))
    (at : change_at n (marked_entries opening h) ≡ Some c) where
  abbrev a : Account
  a = account opening h

  abbrev m : Store
  m = store_of opening

  i : IsSettled m (journal_of h) a
  i = settled opening h used legal.1

  may : MayBeUndone (state_at opening h) (journal_of h) a n
  may = may_be_undone opening h n legal.0

  -- the change is the one that stands
  change_is : (i.level.standing n may.here).change ≡ c
  change_is = same_some _ c (sym (standing_change m n a.entries (i.level.standing n may.here)) ∙ at)

  now_is : state_at opening h ≡ i.level.state
  now_is = level_is m (journal_of h) a i

  -- it is taken back
  taken : IsTakenBack c (state_at opening h)
  taken = subst (IsTakenBack c) (sym now_is)
      (subst (λ d. IsTakenBack d i.level.state) change_is (back m (journal_of h) a i n may.here may.none))

  quiet : AreQuiet (state_at opening h).lives (altered c)
  quiet = quiet_at (state_at opening h).lives (altered c)
      (ap (λ o. first_not_quiet (state_at opening h).lives (altered_if o)) (sym at) ∙ may.quiet)

  after_is : state_at opening (undo_entry n ∷ h) ≡ taken.state
  unfolding account
  after_is =
      let stood = back m (journal_of h) a i n may.here may.none in
      ap state_of (undo_leaves m (journal_of h) a i n may.here may.none) ∙ state_of_store stood.state stood.used.sound
      ∙ stood.is ∙ (λ j. state_after_all (inverses (change_is j).edits (change_is j).from) (sym now_is j))
      ∙ sym taken.is

  pub cells_back : store_of (state_at opening (undo_entry n ∷ h))
      ≡ store_with (values_before c) (store_of (state_at opening h))
  cells_back = ap store_of after_is ∙ taken.store

  pub inverses_done : AreAccepted (inverses c.edits c.from) (state_at opening h)
      × (state_at opening (undo_entry n ∷ h) ≡ state_after_all (inverses c.edits c.from) (state_at opening h))
  inverses_done = (taken.accepted quiet, after_is ∙ taken.is)

  few : length c.edits ≤ most_leaves
  few = subst (λ (d : Change). length d.edits ≤ most_leaves) change_is (i.level.standing n may.here).was_made.few

  pub inverse_tree_done : state_reached (meaning (inverse_tree c.edits c.from) (state_at opening h))
      ≡ Some (state_at opening (undo_entry n ∷ h))
  inverse_tree_done = inverse_tree_means c.edits c.from (state_at opening h) few (taken.accepted quiet)
      (subst KeepsTheRules taken.is taken.used.rules)
      ∙ ap Some (sym taken.is ∙ sym after_is)

pub undo_puts_the_cells_back : UndoPutsTheCellsBack
undo_puts_the_cells_back = cells_back

pub undo_does_what_the_inverses_do : UndoDoesWhatTheInversesDo
undo_does_what_the_inverses_do = inverses_done

pub undo_does_what_the_inverse_tree_does : UndoDoesWhatTheInverseTreeDoes
undo_does_what_the_inverse_tree_does = inverse_tree_done

-- ---- standing changes

pub standing_changes_are_there : StandingChangesAreThere
standing_changes_are_there opening h n used legal here =
    let i = settled opening h used legal in let stood = i.level.standing n here in
    (stood.change, standing_change (store_of opening) n (marked_entries opening h) stood)

pub standing_changes_fit : StandingChangesFit
standing_changes_fit opening h n c used legal here at none =
    let i = settled opening h used legal in let stood = i.level.standing n here in
    let same : stood.change ≡ c =
    same_some stood.change c (sym (standing_change (store_of opening) n (marked_entries opening h) stood) ∙ at) in
    (λ j. fits (sym same j) (level_is (store_of opening) (journal_of h) (account opening h) i j))
    ∙ (free (store_of opening) (journal_of h) (account opening h) i n here none).fit
