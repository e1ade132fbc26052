-- The run without an undo and its redo is a run, where only steps came between them.
use Rattle.std.proofs.Common.{◌≡◌, ℕ, Bool, true, false, cond, ◌&&◌, not, [], ◌∷◌, ◌++◌, List, Option, Some, refl, sym}
use Rattle.std.proofs.Common.{ap, ◌∙◌}
use Rattle.std.proofs.lemmas.Bool.{not-true, or_parts, or_from}
use Rattle.std.specs.List.{list_any}
use Rattle.std.specs.FinMap.{get}
use Rattle.iocm_types.specs.declared.answer.Answer.{Answer}
use Rattle.iocm_types.specs.declared.answer.Answer.TheVariants as answers
use Rattle.iocm_types.specs.declared.sub_id.SubId.{SubId}
use Rattle.iocm_model.specs.Machine.Record.{Rec}
use Rattle.iocm_model.specs.Machine.Numbering.{cells_of}
use Rattle.iocm_model.specs.Operation.State.{State, is_among, seen_in}
use Rattle.iocm_history.specs.Entry.{Entry, History}
use Rattle.iocm_history.specs.Store.{Store, store_of, state_of}
use Rattle.iocm_history.specs.Change.{Change, cells_of_change, altered}
use Rattle.iocm_history.specs.MarkedEntry.{change_at, altered_if, altered_by_change}
use Rattle.iocm_history.specs.Stage.{is_held}
use Rattle.iocm_history.specs.Account.{Account, account, state_at}
use Rattle.iocm_history.specs.Journal.{Journal, is_in, without, journal_after, journal_of}
use Rattle.iocm_history.specs.Legal.{IsLegal}
use Rattle.iocm_history.specs.InUse.{IsInUse}
use Rattle.iocm_history.specs.StageLaws.{is_done}
use Rattle.iocm_history.specs.UndoLaws.{undo_entry}
use Rattle.iocm_history.specs.RedoLaws.{redo_entry, undoes_or_redoes, IsRedone}
use Rattle.iocm_history.proofs.OneCell.{Cell, at_key, at_number, at_subchannel, of_record, of_device, of_live, read}
use Rattle.iocm_history.proofs.OneCell.{is_one_of, read_values, same_store, state_of_store, altered_cells, live_read}
use Rattle.iocm_history.proofs.Numbers.{in_front_again}
use Rattle.iocm_history.proofs.Standing.{IsStanding, standing_change}
use Rattle.iocm_history.proofs.Fitted.{IsTakenBack}
use Rattle.iocm_history.proofs.Settled.{IsSettled, level_is, back, undo_leaves, not_undone, without_first}
use Rattle.iocm_history.proofs.Along.{settled}
use Rattle.iocm_history.proofs.Redoing.{legal_before, redo_puts_the_cells_forward}
use Rattle.iocm_history.proofs.EachCall.{states_stay_in_use}
use Rattle.iocm_history.proofs.Undoing.{MayBeUndone, may_be_undone, undo_puts_the_cells_back}
use Rattle.iocm_runs.specs.RunWithout.{alters_changes, is_at, steps_off}
use Rattle.iocm_runs.specs.RedoneRun.{run_without_both, IsRunWithoutBoth, RedoneRunsAreRuns}
use Rattle.iocm_runs.proofs.Beside.{pick, StartsBeside, IsBeside, along}

-- ---- entries by which no other changes count

no_redo : (n : ℕ) (answer : Answer) → alters_changes answer ≡ false → undoes_or_redoes n answer ≡ false
no_redo n (answers.Changed k) none = cc
no_redo n (answers.Undone k) none = cc
no_redo n (answers.Redone k) none = cc
no_redo n (answers.Io io) none = refl
no_redo n (answers.Begun was) none = refl
no_redo n (answers.Ended was) none = refl
no_redo n answers.Held none = refl
no_redo n (answers.Staged k) none = refl
no_redo n (answers.Left k) none = refl
no_redo n answers.Aborted none = refl
no_redo n (answers.Shown counts) none = refl
no_redo n (answers.Refused why) none = refl

none_of_it : (n : ℕ) (h : History) → list_any (λ (l : Entry). alters_changes l.answer) h ≡ false
    → list_any (λ (l : Entry). undoes_or_redoes n l.answer) h ≡ false
none_of_it n [] none = refl
none_of_it n (l ∷ h) none =
    let both = or_parts (alters_changes l.answer) _ none in
    or_from (undoes_or_redoes n l.answer) _ (no_redo n l.answer both.0) (none_of_it n h both.1)

same_journal : (answer : Answer) (b : Journal) → alters_changes answer ≡ false → journal_after answer b ≡ b
same_journal (answers.Changed k) b none = cc
same_journal (answers.Undone k) b none = cc
same_journal (answers.Redone k) b none = cc
same_journal (answers.Io io) b none = refl
same_journal (answers.Begun was) b none = refl
same_journal (answers.Ended was) b none = refl
same_journal answers.Held b none = refl
same_journal (answers.Staged k) b none = refl
same_journal (answers.Left k) b none = refl
same_journal answers.Aborted b none = refl
same_journal (answers.Shown counts) b none = refl
same_journal (answers.Refused why) b none = refl

journal_stays : (g since : History) → list_any (λ (l : Entry). alters_changes l.answer) since ≡ false
    → journal_of (since ++ g) ≡ journal_of g
journal_stays g [] none = refl
journal_stays g (l ∷ since) none =
    let both = or_parts (alters_changes l.answer) _ none in
    same_journal l.answer (journal_of (since ++ g)) both.0 ∙ journal_stays g since both.1

journal_left : (xs : List SubId) (g since : History) → list_any (λ (l : Entry). alters_changes l.answer) since ≡ false
    → journal_of (steps_off xs since ++ g) ≡ journal_of g
journal_left xs g [] none = refl
journal_left xs g (l ∷ since) none =
    let both = or_parts (alters_changes l.answer) _ none in
    by both.0 (is_done l.call l.answer && not (is_at xs l.call)) (journal_left xs g since both.1)
  where
    by : alters_changes l.answer ≡ false → (b : Bool) → journal_of (steps_off xs since ++ g) ≡ journal_of g
        → journal_of (cond b (l ∷ steps_off xs since) (steps_off xs since) ++ g) ≡ journal_of g
    by none true more = same_journal l.answer (journal_of (steps_off xs since ++ g)) none ∙ more
    by none false more = more

record_inner : (x y : Option Rec) → of_record x ≡ of_record y → x ≡ y
record_inner x y e = cc

device_inner : (x y : Option ℕ) → of_device x ≡ of_device y → x ≡ y
device_inner x y e = cc

-- ---- an undo and its redo

module _ (opening : State) (h : History) (n : ℕ) (used : IsInUse opening)
    (legal_undo : IsLegal opening (undo_entry n ∷ h)) where
  abbrev m : Store
  m = store_of opening

  abbrev a : Account
  a = account opening h

  abbrev xs : List SubId
  xs = altered_by_change n a.entries

  -- before the undo and after it
  abbrev r : State
  r = state_at opening h

  abbrev t : State
  t = state_at opening (undo_entry n ∷ h)

  abbrev i : IsSettled m (journal_of h) a
  i = settled opening h used legal_undo.1

  abbrev may : MayBeUndone r (journal_of h) a n
  may = may_be_undone opening h n legal_undo.0

  abbrev stood : IsStanding m n a.entries
  stood = i.level.standing n may.here

  abbrev c : Change
  c = stood.change

  there : change_at n a.entries ≡ Some c
  there = standing_change m n a.entries stood

  xs_is : xs ≡ altered c
  xs_is = ap altered_if there

  abbrev taken : IsTakenBack c i.level.state
  taken = back m (journal_of h) a i n may.here may.none

  t_is : t ≡ taken.state
  unfolding account
  t_is = ap state_of (undo_leaves m (journal_of h) a i n may.here may.none)
      ∙ state_of_store taken.state taken.used.sound

  -- a cell that the change didn't write is as before the undo
  not_written : (q : Cell) → is_one_of (cells_of_change c) q ≡ false → read (store_of t) q ≡ read (store_of r) q
  not_written q off = ap (λ z. read z q) (undo_puts_the_cells_back opening h n c used legal_undo there)
      ∙ read_values c.from (cells_of_change c) (store_of r) q
      ∙ ap (λ b. cond b (read (store_of c.from) q) (read (store_of r) q)) off

  starts : StartsBeside opening xs (undo_entry n ∷ h) h
  starts = record {
    used = used;
    legal_with = legal_undo;
    legal_without = legal_undo.1;
    sees = λ x off. ap (λ z. seen_in z x) t_is ∙ taken.seen x (ap (is_among x) (sym xs_is) ∙ off)
        ∙ ap (λ z. seen_in z x) (sym (level_is m (journal_of h) a i));
    off = λ x off. live_read (store_of t) (store_of r) x
        (not_written (at_subchannel x) (sym (altered_cells c x) ∙ ap (is_among x) (sym xs_is) ∙ off));
    held = λ x off. ap (is_held x) may.idle;
  }

  -- ---- the redo

  module _ (between : History) (legal : IsLegal opening (redo_entry n ∷ between ++ undo_entry n ∷ h))
      (alone : list_any (λ (l : Entry). alters_changes l.answer) between ≡ false) where
    abbrev b : IsBeside opening xs (undo_entry n ∷ h) h between
    b = along opening xs (undo_entry n ∷ h) h starts between legal.1 alone

    abbrev before : History
    before = between ++ undo_entry n ∷ h

    abbrev left : History
    left = run_without_both opening n between h

    abbrev s : State
    s = state_at opening before

    abbrev u : State
    u = state_at opening left

    abbrev v : State
    v = state_at opening (redo_entry n ∷ before)

    redone : IsRedone opening h between n
    redone = record { used = used; legal = legal; first = none_of_it n between alone }

    by : (q : Cell) → cond (is_one_of (cells_of_change c) q) (read (store_of r) q) (read (store_of s) q)
        ≡ read (store_of u) q
    by (at_key k) = pick of_record (is_one_of (cells_of_change c) (at_key k)) (get r.config k) (get s.config k)
        (get u.config k)
        (λ on. ap (λ z. get z k) (sym b.beside.config_without))
        (λ off. ap (λ z. get z k) b.beside.config_with
        ∙ record_inner (get t.config k) (get r.config k) (not_written (at_key k) off)
        ∙ ap (λ z. get z k) (sym b.beside.config_without))
    by (at_number k) = pick of_device (is_one_of (cells_of_change c) (at_number k)) (get (cells_of r.numbers) k)
        (get (cells_of s.numbers) k) (get (cells_of u.numbers) k)
        (λ on. ap (λ z. get (cells_of z) k) (sym b.beside.numbers_without))
        (λ off. ap (λ z. get (cells_of z) k) b.beside.numbers_with
        ∙ device_inner (get (cells_of t.numbers) k) (get (cells_of r.numbers) k) (not_written (at_number k) off)
        ∙ ap (λ z. get (cells_of z) k) (sym b.beside.numbers_without))
    by (at_subchannel x) = pick of_live (is_among x (cells_of_change c).subchannels) (get r.lives x) (get s.lives x)
        (get u.lives x)
        (λ on. sym (b.beside.on x (ap (is_among x) xs_is ∙ altered_cells c x ∙ on)))
        (λ off. b.beside.off x (ap (is_among x) xs_is ∙ altered_cells c x ∙ off))

    same : store_of v ≡ store_of u
    same = redo_puts_the_cells_forward opening h between n c redone there
        ∙ same_store _ _ (λ q. read_values r (cells_of_change c) (store_of s) q ∙ by q)

    none_undone : is_in n (journal_of h).undone ≡ false
    none_undone = not_undone m n (journal_of h).undone a.entries (journal_of h).standing may.here i.chain

    pub both_gone : IsRunWithoutBoth opening h between n
    both_gone = record {
      legal = b.legal;
      state = sym (state_of_store v (states_stay_in_use opening (redo_entry n ∷ before) used legal).sound)
          ∙ ap state_of same
          ∙ state_of_store u (states_stay_in_use opening left used b.legal).sound;
      standing = λ k. ap (λ (j : Journal). is_in k (n ∷ j.standing)) (journal_stays (undo_entry n ∷ h) between alone)
          ∙ in_front_again n k (journal_of h).standing may.here
          ∙ ap (λ (j : Journal). is_in k j.standing) (sym (journal_left xs h between alone));
      undone = ap (λ (j : Journal). without n j.undone) (journal_stays (undo_entry n ∷ h) between alone)
          ∙ without_first n (journal_of h).undone none_undone
          ∙ ap (λ (j : Journal). j.undone) (sym (journal_left xs h between alone));
    }

pub redone_runs_are_runs : RedoneRunsAreRuns
redone_runs_are_runs opening h between n r =
    both_gone opening h n r.used (legal_before opening between (undo_entry n ∷ h) r.legal.1) between r.legal
    (not-true _ r.alone)
