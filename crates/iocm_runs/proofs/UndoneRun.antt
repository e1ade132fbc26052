-- The run without an undone change is a run, where only steps came since the change.
use Rattle.std.proofs.Common.{◌≡◌, ℕ, true, false, cond, ◌∷◌, ◌++◌, List, Some, sym, ap, ◌∙◌}
use Rattle.std.proofs.lemmas.Bool.{not-true}
use Rattle.std.specs.List.{list_any}
use Rattle.std.specs.FinMap.{get, keys}
use Rattle.iocm_types.specs.declared.sub_id.SubId.{SubId}
use Rattle.iocm_types.specs.KeyOrder.{sub_ids_total, sub_ids_exact}
use Rattle.iocm_model.specs.Machine.Numbering.{cells_of}
use Rattle.iocm_model.specs.Operation.State.{State, is_among, views_of, seen_in}
use Rattle.iocm_model.specs.Change.Runs.{state_after_all}
use Rattle.iocm_model.proofs.Maps.Cells.{get_with_cells_as}
use Rattle.iocm_model.proofs.Change.RunsGoBack.{off_sight, off_keys, off_cells}
use Rattle.iocm_history.specs.Entry.{Entry, History}
use Rattle.iocm_history.specs.Store.{store_of, state_of, store_with}
use Rattle.iocm_history.specs.Change.{Change, effect_of_change, cells_of_change, altered}
use Rattle.iocm_history.specs.MarkedEntry.{change_at}
use Rattle.iocm_history.specs.Account.{replay, Account, account, marked_entries, state_at}
use Rattle.iocm_history.specs.Journal.{journal_of}
use Rattle.iocm_history.specs.Legal.{IsLegal}
use Rattle.iocm_history.specs.UndoLaws.{undo_entry}
use Rattle.iocm_history.specs.InUse.{IsInUse}
use Rattle.iocm_history.proofs.OneCell.{Cell, at_key, at_number, at_subchannel, of_record, of_device, of_live, read}
use Rattle.iocm_history.proofs.OneCell.{is_one_of, read_values, same_store, state_of_store, altered_cells}
use Rattle.iocm_history.proofs.Passing.{change_here}
use Rattle.iocm_history.proofs.Level.{state_changed, changed_store, state_changed_in_use}
use Rattle.iocm_history.proofs.Along.{settled}
use Rattle.iocm_history.proofs.Redoing.{store_now, legal_before}
use Rattle.iocm_history.proofs.EachCall.{states_stay_in_use}
use Rattle.iocm_history.proofs.Undoing.{undo_puts_the_cells_back}
use Rattle.iocm_runs.specs.RunWithout.{alters_changes, altered_by, run_without}
use Rattle.iocm_runs.specs.UndoneRun.{IsRunWithout, UndoneRunsAreRuns}
use Rattle.iocm_runs.proofs.Accepted.{HasAccepted, has_accepted}
use Rattle.iocm_runs.proofs.Beside.{pick, StartsBeside, IsBeside, along}

module _ (opening : State) (h : History) (e : Entry) (n : ℕ) (used : IsInUse opening)
    (legal_e : IsLegal opening (e ∷ h)) (accepted : HasAccepted opening h e n) where
  abbrev c : Change
  c = accepted.change

  abbrev xs : List SubId
  xs = altered_by e

  -- before the change and after it
  abbrev r : State
  r = state_at opening h

  abbrev t : State
  t = state_at opening (e ∷ h)

  abbrev with_it : History → History
  with_it since = since ++ e ∷ h

  abbrev without_it : History → History
  without_it since = run_without e since h

  xs_is : xs ≡ altered c
  xs_is = ap (λ f. keys f.lives) accepted.effect

  r_used : IsInUse r
  r_used = states_stay_in_use opening h used legal_e.1

  t_is : t ≡ state_changed c r
  t_is =
      ap (λ (a : Account). state_of (replay (store_of opening) a.entries)) accepted.entries
      ∙ ap (λ m. state_of (store_with (effect_of_change c) m))
      (store_now (store_of opening) (journal_of h) (account opening h) (settled opening h used legal_e.1))
      ∙ ap state_of (changed_store c r accepted.ready r_used)
      ∙ state_of_store (state_changed c r) (state_changed_in_use c r accepted.ready r_used).sound

  not_written : (x : SubId) → is_among x xs ≡ false → is_among x (cells_of_change c).subchannels ≡ false
  not_written x off = sym (altered_cells c x) ∙ ap (is_among x) (sym xs_is) ∙ off

  sees : (x : SubId) → is_among x xs ≡ false → seen_in t x ≡ seen_in r x
  sees x off = ap (λ z. seen_in z x) t_is ∙ off_sight c.edits c.from x (not_written x off)
      ∙ (λ i. get (views_of (sym accepted.ready.config i) (sym accepted.ready.numbers i)) x)

  starts : StartsBeside opening xs (e ∷ h) h
  starts = record {
    used = used;
    legal_with = legal_e;
    legal_without = legal_e.1;
    sees = sees;
    off = λ x off. ap (λ z. get z.lives x) t_is
        ∙ get_with_cells_as sub_ids_total sub_ids_exact (state_after_all c.edits c.from).lives
        (cells_of_change c).subchannels r.lives x
        ∙ ap (λ b. cond b (get (state_after_all c.edits c.from).lives x) (get r.lives x)) (not_written x off);
    held = λ x off. accepted.held x (ap (is_among x) (sym xs_is) ∙ off);
  }

  -- ---- the undo

  undone : (since : History) → IsLegal opening (undo_entry n ∷ with_it since)
      → list_any (λ (l : Entry). alters_changes l.answer) since ≡ false
      → IsRunWithout opening h since e n
  undone since legal none = record {
    legal = b.legal;
    state = sym (state_of_store v v_used.sound) ∙ ap state_of same ∙ state_of_store u u_used.sound;
  }
    where
      b : IsBeside opening xs (e ∷ h) h since
      b = along opening xs (e ∷ h) h starts since legal.1 none

      there : change_at n (marked_entries opening (with_it since)) ≡ Some c
      there = b.there n ∙ ap (λ (a : Account). change_at n a.entries) accepted.entries
          ∙ change_here n c (marked_entries opening h)

      s : State
      s = state_at opening (with_it since)

      u : State
      u = state_at opening (without_it since)

      v : State
      v = state_at opening (undo_entry n ∷ with_it since)

      v_used : IsInUse v
      v_used = states_stay_in_use opening (undo_entry n ∷ with_it since) used legal

      u_used : IsInUse u
      u_used = states_stay_in_use opening (without_it since) used b.legal

      by : (q : Cell) → cond (is_one_of (cells_of_change c) q) (read (store_of c.from) q) (read (store_of s) q)
          ≡ read (store_of u) q
      by (at_key k) = pick of_record (is_one_of (cells_of_change c) (at_key k)) (get c.from.config k) (get s.config k)
          (get u.config k)
          (λ on. ap (λ z. get z k) (sym accepted.ready.config ∙ sym b.beside.config_without))
          (λ off. ap (λ z. get z k) (b.beside.config_with ∙ ap (λ (z : State). z.config) t_is)
          ∙ off_keys c.edits c.from k off
          ∙ ap (λ z. get z k) (sym accepted.ready.config ∙ sym b.beside.config_without))
      by (at_number k) = pick of_device (is_one_of (cells_of_change c) (at_number k)) (get (cells_of c.from.numbers) k)
          (get (cells_of s.numbers) k) (get (cells_of u.numbers) k)
          (λ on. ap (λ z. get (cells_of z) k) (sym accepted.ready.numbers ∙ sym b.beside.numbers_without))
          (λ off. ap (λ z. get (cells_of z) k) (b.beside.numbers_with ∙ ap (λ (z : State). z.numbers) t_is)
          ∙ off_cells c.edits c.from k off
          ∙ ap (λ z. get (cells_of z) k) (sym accepted.ready.numbers ∙ sym b.beside.numbers_without))
      by (at_subchannel x) = pick of_live (is_among x (cells_of_change c).subchannels) (get c.from.lives x)
          (get s.lives x) (get u.lives x)
          (λ on. let here : is_among x (altered c) ≡ true = altered_cells c x ∙ on in
          sym (accepted.ready.lives x here) ∙ sym (b.beside.on x (ap (is_among x) xs_is ∙ here)))
          (λ off. b.beside.off x (ap (is_among x) xs_is ∙ altered_cells c x ∙ off))

      same : store_of v ≡ store_of u
      same = undo_puts_the_cells_back opening (with_it since) n c used legal there
          ∙ same_store _ _ (λ q. read_values c.from (cells_of_change c) (store_of s) q ∙ by q)

pub undone_runs_are_runs : UndoneRunsAreRuns
undone_runs_are_runs opening h since e n r =
    let legal_e : IsLegal opening (e ∷ h) = legal_before opening since (e ∷ h) r.legal.1 in
    undone opening h e n r.used legal_e (has_accepted opening h r.used legal_e.1 e legal_e.0 n r.accepted) since r.legal
    (not-true _ r.alone)
