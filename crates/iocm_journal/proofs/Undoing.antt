-- An undo that was performed: journal and machine are then those of the history with it.
use Rattle.std.proofs.Common.{◌≡◌, ◌≢◌, ◌⊎◌, inl, inr, ℕ, ◌+◌, ◌<◌, ◌≤◌, Bool, true, false, ◌&&◌, not, cond, eqb}
use Rattle.std.proofs.Common.{Some, None, Ok, List, [], ◌∷◌, ◌++◌, length, map, refl, sym, ap, subst, ◌∙◌, arith}
use Rattle.std.proofs.lemmas.Bool.{eq-eqb, ne_eqb}
use Rattle.std.proofs.lemmas.List.{length-set, map-append, reverse-append}
use Rattle.std.proofs.lemmas.Option.{slice_get_within}
use Rattle.std.specs.List.{slice_get, AllByRecursion}
use Rattle.iocm_model.specs.Operation.State.{State}
use Rattle.iocm_model.specs.Change.InverseTree.{inverse_tree, TakesBack}
use Rattle.iocm_model.specs.Change.Meaning.{meaning, state_reached}
use Rattle.iocm_model.specs.Change.Runs.{inverses}
use Rattle.iocm_history.specs.Entry.{History}
use Rattle.iocm_history.specs.MarkedEntry.{change_at}
use Rattle.iocm_history.specs.Account.{account, marked_entries, stage_of, state_at}
use Rattle.iocm_history.specs.Journal.{is_in, journal_of}
use Rattle.iocm_history.specs.UndoLaws.{undo_entry}
use Rattle.iocm_history.proofs.Numbers.{is_in_without, not_in_without}
use Rattle.iocm_tree.specs.Trees.{plain_tree, tree_of}
use Rattle.iocm_activate.specs.declared.effect.Effect.{Effect}
use Rattle.iocm_activate.specs.Done.{edits_of}
use Rattle.iocm_plant.specs.Operating.{Operating}
use Rattle.iocm_history.specs.Reckoning.{last_undone}
use Rattle.iocm_journal.specs.Answering.{IsNext, undo_made}
use Rattle.iocm_journal.specs.Kept.{IsKept, IsRedoable}
use Rattle.iocm_journal.specs.Now.{IsNow}
use Rattle.iocm_journal.specs.Moving.{WasUndone, no_more}
use Rattle.iocm_journal.specs.declared.kept.Kept.{Kept}
use Rattle.iocm_journal.specs.declared.kept.Undone.{Undone}
use Rattle.iocm_journal.specs.Journaled.{Journaled}
use Rattle.iocm_journal.proofs.GoingOn.{MeansWith, all_redoable_still}
use Rattle.iocm_history.proofs.Found.{changes_stay_there}
use Rattle.iocm_history.proofs.UndoMeans.{undo_means_the_undo}
use Rattle.iocm_history.proofs.Facts.{undone_were_accepted, one_less_stands}
use Rattle.iocm_journal.proofs.Rows.{inverse_tree_performs}
use Rattle.iocm_journal.proofs.Taken.{of_set, in_reverse, all_by_number, all_append}
use Rattle.iocm_journal.specs.Deciding.{greatest_now, not_quiet_now}

same_some : {A : Type 0} (a b : A) → Some a ≡ Some b → a ≡ b
same_some a b e = cc

and_true : (b : Bool) → (b && true) ≡ b
and_true true = refl
and_true false = refl

-- nothing is staged after an undo where nothing was
still_idle : (opening : State) (h : History) (n : ℕ) → stage_of opening h ≡ None
    → stage_of opening (undo_entry n ∷ h) ≡ None
unfolding account
still_idle opening h n idle = idle

module _ {opening : State} {h : History} {i : Journaled} {fs : List Effect} {p : Operating}
    (now : IsNow opening h i fs p) (place : ℕ) (f : Effect)
    (at_f : slice_get fs place ≡ Some f) (j : Journaled) (q : Operating) (w : WasUndone i place p.state q.state j)
    (stands : w.kept.stands ≡ true)
    (on : greatest_now opening h (place + 1) ≡ None)
    (quiet : not_quiet_now opening h (place + 1) ≡ None) where
  abbrev n : ℕ
  n = place + 1

  it : IsKept opening h n w.kept f
  it = now.journal.kept place w.kept f w.there at_f

  here : is_in n (journal_of h).standing ≡ true
  here = sym it.stands ∙ stands

  meant : MeansWith opening h (undo_entry n) (inverse_tree it.change.edits it.change.from)
  meant = undo_means_the_undo opening h n it.change now.journal.used now.journal.legal now.idle here on quiet it.there

  place_is : (journal_of h).count ≡ length i.changes
  place_is = now.journal.count

  within : place < length i.changes
  within = slice_get_within i.changes place w.kept w.there

  -- ---- each change

  another : (m : ℕ) (k : Kept) (g : Effect) → m ≤ (journal_of h).count → m ≢ n → IsKept opening h m k g
      → IsKept opening (undo_entry n ∷ h) m k g
  another m k g few other was = record {
    change = was.change;
    there = changes_stay_there opening h (undo_entry n) m now.journal.used meant.0 few ∙ was.there;
    inverse = was.inverse;
    performed = was.performed;
    effect = was.effect;
    stands = was.stands ∙ sym (is_in_without n m (journal_of h).standing
        ∙ ap (λ b. is_in m (journal_of h).standing && not b) (ne_eqb n m (λ e. other (sym e)))
        ∙ and_true (is_in m (journal_of h).standing));
    undone = was.undone ∙ sym (ap (λ b. cond b (journal_of h).count (last_undone m h)) (ne_eqb m n other));
  }

  the_one : (g : Effect) → slice_get fs place ≡ Some g
      → IsKept opening (undo_entry n ∷ h) n (no_more (length i.changes) w.kept) g
  the_one g at_g = let was = now.journal.kept place w.kept g w.there at_g in record {
    change = was.change;
    there = changes_stay_there opening h (undo_entry n) n now.journal.used meant.0 (let all = place_is in
        let few = within in omega arith) ∙ was.there;
    inverse = was.inverse;
    performed = was.performed;
    effect = was.effect;
    stands = sym (not_in_without n (journal_of h).standing);
    undone = sym place_is ∙ sym (ap (λ b. cond b (journal_of h).count (last_undone n h)) (eq-eqb n n refl));
  }

  each : (m : ℕ) (k : Kept) (g : Effect) → slice_get j.changes m ≡ Some k → slice_get fs m ≡ Some g
      → IsKept opening (undo_entry n ∷ h) (m + 1) k g
  each m k g at_k at_g =
      by (of_set i.changes place (no_more (length i.changes) w.kept) m k (sym (ap (λ xs. slice_get xs m) w.changes)
      ∙ at_k))
    where
      by : ((m ≢ place) × (slice_get i.changes m ≡ Some k)) ⊎ ((m ≡ place) × (no_more (length i.changes) w.kept ≡ k))
          → IsKept opening (undo_entry n ∷ h) (m + 1) k g
      by (inl old) = another (m + 1) k g
          (let low = slice_get_within i.changes m k old.1 in let all = place_is in omega arith)
          (λ e. old.0 (omega (arith, e))) (now.journal.kept m k g old.1 at_g)
      by (inr new) = subst (λ z. IsKept opening (undo_entry n ∷ h) (z + 1) k g) (sym new.0)
          (subst (λ z. IsKept opening (undo_entry n ∷ h) n z g) new.1
          (the_one g (sym (ap (slice_get fs) new.0) ∙ at_g)))

  -- ---- those that are undone

  not_this : (m : ℕ) → is_in m (map (λ (u : Undone). u.number) i.undone) ≡ true → eqb m n ≡ false
  not_this m among =
      let undone : is_in m (journal_of h).undone ≡ true =
      sym (ap (is_in m) now.journal.undone ∙ in_reverse m (journal_of h).undone) ∙ among in
      let off = (undone_were_accepted opening h m now.journal.used now.journal.legal undone).2 in
      ne_eqb m n (λ same. let on_it : is_in m (journal_of h).standing ≡ true =
      ap (λ z. is_in z (journal_of h).standing) same ∙ here in let no : true ≡ false = sym on_it ∙ off in cc)

  before_still : AllByRecursion (IsRedoable opening (undo_entry n ∷ h)) i.undone
  before_still = all_redoable_still opening h (undo_entry n) i.undone
      (all_by_number (λ (u : Undone). u.number) (λ m. eqb m n ≡ false) i.undone not_this) now.journal.redoable

  reached : state_reached (meaning (inverse_tree it.change.edits it.change.from) p.state) ≡ Some q.state
  reached = sym (ap (λ t. state_reached (meaning t p.state)) it.inverse) ∙ w.means

  redo_takes_back : TakesBack (plain_tree (tree_of w.last.redo)) (inverses it.change.edits it.change.from)
      (state_at opening h)
  redo_takes_back =
      let edits : edits_of (meaning (plain_tree (tree_of w.kept.inverse)) p.state)
      ≡ inverses it.change.edits it.change.from
      = ap (λ t. edits_of (meaning t p.state)) it.inverse
      ∙ inverse_tree_performs it.change.edits it.change.from p.state q.state reached in
      subst (TakesBack (plain_tree (tree_of w.last.redo)) (inverses it.change.edits it.change.from)) now.state
      (subst (λ es. TakesBack (plain_tree (tree_of w.last.redo)) es p.state) edits w.takes_back)

  the_last : IsRedoable opening (undo_entry n ∷ h) w.last
  the_last = record {
    between = [];
    before = h;
    parts = ap (λ m. undo_entry m ∷ h) (sym w.number);
    last = refl;
    change = it.change;
    there = ap (λ m. change_at m (marked_entries opening h)) w.number ∙ it.there;
    takes_back = redo_takes_back;
  }

  -- ---- the whole

  state_is : q.state ≡ state_at opening (undo_entry n ∷ h)
  state_is =
      same_some q.state (state_at opening (undo_entry n ∷ h))
      (sym reached ∙ ap (λ s. state_reached (meaning (inverse_tree it.change.edits it.change.from) s)) now.state
      ∙ meant.1)

  pub undone_now : IsNext opening h (undo_made n (Ok tt)) j fs q
  undone_now = record {
    right = meant.0.0;
    now = record {
      journal = record {
        used = now.journal.used;
        legal = meant.0;
        count = place_is ∙ sym (ap length w.changes ∙ length-set i.changes place (no_more (length i.changes) w.kept));
        effects = now.journal.effects
            ∙ sym (ap length w.changes ∙ length-set i.changes place (no_more (length i.changes) w.kept));
        kept = each;
        standing = (let less = one_less_stands opening h n now.journal.used now.journal.legal here in
            let was = now.journal.standing in let is = w.standing in omega arith);
        undone = ap (map (λ (u : Undone). u.number)) w.undone
            ∙ map-append (λ (u : Undone). u.number) i.undone (w.last ∷ [])
            ∙ (λ z. now.journal.undone z ++ w.number z ∷ []) ∙ sym (reverse-append (n ∷ []) (journal_of h).undone);
        redoable = subst (AllByRecursion (IsRedoable opening (undo_entry n ∷ h))) (sym w.undone)
            (all_append (IsRedoable opening (undo_entry n ∷ h)) i.undone (w.last ∷ []) before_still (the_last, tt));
      };
      idle = still_idle opening h n now.idle;
      state = state_is;
    };
  }
