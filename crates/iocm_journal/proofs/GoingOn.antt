-- A journal of a history is one of the history with an entry more.
use Rattle.std.proofs.Common.{◌≡◌, ◌⊎◌, inl, inr, ℕ, zero, suc, ◌+◌, ◌≤◌, true, false, Some, List, [], ◌∷◌, ◌++◌}
use Rattle.std.proofs.Common.{length, map, reverse, Vec, Global, refl, sym, ap, subst, ◌∙◌, arith}
use Rattle.std.proofs.lemmas.Bool.{or_from, eq-eqb, ne_eqb}
use Rattle.std.proofs.lemmas.List.{length-append}
use Rattle.std.proofs.lemmas.Option.{slice_get_within}
use Rattle.std.specs.List.{slice_get, AllByRecursion}
use Rattle.iocm_types.specs.declared.answer.Answer.TheVariants as answers
use Rattle.iocm_model.specs.Operation.State.{State}
use Rattle.iocm_model.specs.Change.InverseTree.{inverse_tree}
use Rattle.iocm_model.specs.Change.Meaning.{meaning, state_reached}
use Rattle.iocm_model.specs.Change.Tree.{ChangeTree}
use Rattle.iocm_history.specs.Entry.{Entry, History}
use Rattle.iocm_history.specs.Change.{Change, effect_of_change}
use Rattle.iocm_history.specs.MarkedEntry.{change_at}
use Rattle.iocm_history.specs.Account.{marked_entries, state_at}
use Rattle.iocm_history.specs.Journal.{is_in, journal_after, journal_of}
use Rattle.iocm_history.specs.Legal.{IsLegal, IsRight}
use Rattle.iocm_history.specs.RedoLaws.{undoes_or_redoes}
use Rattle.iocm_tree.specs.Trees.{plain_tree, tree_of}
use Rattle.iocm_tree.specs.declared.tree.Tree.{Tree}
use Rattle.iocm_plant.specs.declared.touched.Touched.{Touched}
use Rattle.iocm_activate.specs.Done.{AreToldBy}
use Rattle.iocm_activate.specs.Effects.{effect_in}
use Rattle.iocm_activate.specs.Told.{told_of_all}
use Rattle.iocm_activate.specs.declared.effect.Effect.{Effect}
use Rattle.iocm_history.specs.Reckoning.{undone_then, last_undone}
use Rattle.iocm_journal.specs.Accepting.{Accepts, newly_kept}
use Rattle.iocm_journal.specs.Answering.{LeavesTheJournal}
use Rattle.iocm_journal.specs.Kept.{IsKept, IsRedoable}
use Rattle.iocm_journal.specs.Now.{IsJournalOf}
use Rattle.iocm_journal.specs.declared.kept.Kept.{Kept}
use Rattle.iocm_journal.specs.declared.kept.Undone.{Undone}
use Rattle.iocm_journal.specs.Journaled.{Journaled}
use Rattle.iocm_journal.proofs.Answers.{same_journal, same_undone, no_undo}
use Rattle.iocm_history.proofs.Found.{changes_stay_there}
use Rattle.iocm_journal.proofs.NeverUndone.{never_undone}

-- ---- places

-- an item of a list to which one was added is one of the list, or the new one
pub of_pushed : {A : Type 0} (xs : List A) (x : A) (n : ℕ) (y : A) → slice_get (xs ++ x ∷ []) n ≡ Some y
    → (slice_get xs n ≡ Some y) ⊎ ((n ≡ length xs) × (x ≡ y))
of_pushed [] x zero y is = inr (refl, cc)
of_pushed [] x (suc n) y is = cc
of_pushed (z ∷ xs) x zero y is = inl is
of_pushed (z ∷ xs) x (suc n) y is = by (of_pushed xs x n y is)
  where
    by : (slice_get xs n ≡ Some y) ⊎ ((n ≡ length xs) × (x ≡ y))
        → (slice_get xs n ≡ Some y) ⊎ ((suc n ≡ suc (length xs)) × (x ≡ y))
    by (inl it) = inl it
    by (inr it) = inr (ap suc it.0, it.1)

one_more : (n : ℕ) → n + 1 ≡ suc n
one_more n = omega arith

-- a history with an entry is legal, and leads to what a tree means in the state before
abbrev pub MeansWith : State → History → Entry → ChangeTree → Type 0
MeansWith opening h e t =
    IsLegal opening (e ∷ h) × (state_reached (meaning t (state_at opening h)) ≡ Some (state_at opening (e ∷ h)))

-- ---- a change that is undone stays so

module _ (opening : State) (h : History) (e : Entry) where
  pub redoable_still : (u : Undone) → undoes_or_redoes u.number e.answer ≡ false → IsRedoable opening h u
      → IsRedoable opening (e ∷ h) u
  redoable_still u none r = record {
    between = e ∷ r.between;
    before = r.before;
    parts = ap (λ g. e ∷ g) r.parts;
    last = or_from (undoes_or_redoes u.number e.answer) _ none r.last;
    change = r.change;
    there = r.there;
    takes_back = r.takes_back;
  }

  pub all_redoable_still : (us : List Undone)
      → AllByRecursion (λ (u : Undone). undoes_or_redoes u.number e.answer ≡ false) us
      → AllByRecursion (IsRedoable opening h) us → AllByRecursion (IsRedoable opening (e ∷ h)) us
  all_redoable_still [] none all = tt
  all_redoable_still (u ∷ us) none all = (redoable_still u none.0 all.0, all_redoable_still us none.1 all.1)

-- ---- an entry that leaves the journal

module _ (opening : State) (h : History) (e : Entry) (j : Journaled) (fs : List Effect)
    (i : IsJournalOf opening h j fs) (right : IsRight opening h e)
    (stays : LeavesTheJournal e.answer) where
  journal_same : journal_of (e ∷ h) ≡ journal_of h
  journal_same = same_journal e.answer (journal_of h) stays

  kept_still : (n : ℕ) (k : Kept) (f : Effect) → n ≤ (journal_of h).count → IsKept opening h n k f
      → IsKept opening (e ∷ h) n k f
  kept_still n k f within it = record {
    change = it.change;
    there = changes_stay_there opening h e n i.used (right, i.legal) within ∙ it.there;
    inverse = it.inverse;
    performed = it.performed;
    effect = it.effect;
    stands = it.stands ∙ sym (ap (λ b. is_in n b.standing) journal_same);
    undone = it.undone ∙ sym (same_undone n e.answer (journal_of h).count (last_undone n h) stays);
  }

  none_undone : (us : List Undone) → AllByRecursion (λ (u : Undone). undoes_or_redoes u.number e.answer ≡ false) us
  none_undone [] = tt
  none_undone (u ∷ us) = (no_undo u.number e.answer stays, none_undone us)

  pub goes_on : IsJournalOf opening (e ∷ h) j fs
  goes_on = record {
    used = i.used;
    legal = (right, i.legal);
    count = ap (λ b. b.count) journal_same ∙ i.count;
    effects = i.effects;
    kept = λ n k f at_k at_f. kept_still (n + 1) k f (let within = slice_get_within j.changes n k at_k in
        let all = i.count in omega arith) (i.kept n k f at_k at_f);
    standing = i.standing ∙ sym (ap (λ b. length b.standing) journal_same);
    undone = i.undone ∙ sym (ap (λ b. reverse b.undone) journal_same);
    redoable = all_redoable_still opening h e j.undone (none_undone j.undone) i.redoable;
  }

-- ---- a change that is accepted

module _ (opening : State) (h : History) (e : Entry) (j : Journaled) (fs : List Effect)
    (i : IsJournalOf opening h j fs) (right : IsRight opening h e)
    (answer : e.answer ≡ answers.Changed ((journal_of h).count + 1)) (c : Change)
    (there : change_at ((journal_of h).count + 1) (marked_entries opening (e ∷ h)) ≡ Some c) where
  abbrev count : ℕ
  count = (journal_of h).count

  journal_then : journal_of (e ∷ h)
      ≡ record { count = count + 1; standing = (count + 1) ∷ (journal_of h).standing; undone = [] }
  journal_then = ap (λ a. journal_after a (journal_of h)) answer

  undone_stays : (n : ℕ) → last_undone n (e ∷ h) ≡ last_undone n h
  undone_stays n = ap (λ a. undone_then n a count (last_undone n h)) answer

  older : (n : ℕ) (k : Kept) (f : Effect) → n ≤ count → IsKept opening h n k f → IsKept opening (e ∷ h) n k f
  older n k f within it = record {
    change = it.change;
    there = changes_stay_there opening h e n i.used (right, i.legal) within ∙ it.there;
    inverse = it.inverse;
    performed = it.performed;
    effect = it.effect;
    stands = it.stands ∙ sym (ap (λ b. is_in n b.standing) journal_then ∙ in_rest);
    undone = it.undone ∙ sym (undone_stays n);
  }
    where
      in_rest : is_in n ((count + 1) ∷ (journal_of h).standing) ≡ is_in n (journal_of h).standing
      in_rest = rw (ne_eqb n (count + 1) (λ same. omega arith)) refl

  newest : (k : Kept) (f : Effect) → k.stands ≡ true → k.undone_after ≡ 0
      → plain_tree (tree_of k.inverse) ≡ inverse_tree c.edits c.from
      → AreToldBy k.performed.items (told_of_all c.edits c.from) → effect_in f ≡ effect_of_change c
      → IsKept opening (e ∷ h) (count + 1) k f
  newest k f stands never inverse performed effect = record {
    change = c;
    there = there;
    inverse = inverse;
    performed = performed;
    effect = effect;
    stands = stands ∙ sym (ap (λ b. is_in (count + 1) b.standing) journal_then
        ∙ rw (eq-eqb (count + 1) (count + 1) refl) refl);
    undone = never ∙ sym (undone_stays (count + 1)
        ∙ never_undone opening h (count + 1) i.used i.legal (inr (omega arith)));
  }

  accepted : (j' : Journaled) (k : Kept) (f : Effect) → j'.changes ≡ j.changes ++ k ∷ [] → j'.standing ≡ j.standing + 1
      → j'.undone ≡ []
      → k.stands ≡ true → k.undone_after ≡ 0 → plain_tree (tree_of k.inverse) ≡ inverse_tree c.edits c.from
      → AreToldBy k.performed.items (told_of_all c.edits c.from)
      → effect_in f ≡ effect_of_change c → IsJournalOf opening (e ∷ h) j' (fs ++ f ∷ [])
  accepted j' k f changes standing undone stands never inverse performed effect = record {
    used = i.used;
    legal = (right, i.legal);
    count = ap (λ b. b.count) journal_then ∙ ap (λ n. n + 1) i.count ∙ sym longer;
    effects = length-append fs (f ∷ []) ∙ ap (λ n. n + 1) i.effects ∙ sym longer;
    kept = each;
    standing = standing ∙ ap (λ n. n + 1) i.standing ∙ one_more (length (journal_of h).standing)
        ∙ sym (ap (λ b. length b.standing) journal_then);
    undone = ap (map (λ (u : Undone). u.number)) undone ∙ sym (ap (λ b. reverse b.undone) journal_then);
    redoable = subst (AllByRecursion (IsRedoable opening (e ∷ h))) (sym undone) tt;
  }
    where
      longer : length j'.changes ≡ length j.changes + 1
      longer = ap length changes ∙ length-append j.changes (k ∷ [])

      old_kept : (n : ℕ) (l : Kept) (g : Effect) → slice_get j.changes n ≡ Some l → slice_get fs n ≡ Some g
          → IsKept opening (e ∷ h) (n + 1) l g
      old_kept n l g at_l at_g = older (n + 1) l g (let within = slice_get_within j.changes n l at_l in
          let all = i.count in omega arith) (i.kept n l g at_l at_g)

      new_kept : (n : ℕ) (l : Kept) (g : Effect) → n ≡ length j.changes → k ≡ l → f ≡ g
          → IsKept opening (e ∷ h) (n + 1) l g
      new_kept n l g at is_k is_f = subst (λ z. IsKept opening (e ∷ h) (z + 1) l g) (i.count ∙ sym at)
          (subst (λ z. IsKept opening (e ∷ h) (count + 1) z g) is_k
          (subst (λ z. IsKept opening (e ∷ h) (count + 1) k z) is_f
          (newest k f stands never inverse performed effect)))

      by : (n : ℕ) (l : Kept) (g : Effect) → (slice_get j.changes n ≡ Some l) ⊎ ((n ≡ length j.changes) × (k ≡ l))
          → (slice_get fs n ≡ Some g) ⊎ ((n ≡ length fs) × (f ≡ g)) → IsKept opening (e ∷ h) (n + 1) l g
      by n l g (inl at_l) (inl at_g) = old_kept n l g at_l at_g
      by n l g (inr at_l) (inr at_g) = new_kept n l g at_l.0 at_l.1 at_g.1
      by n l g (inl at_l) (inr at_g) = let within = slice_get_within j.changes n l at_l in let same = i.effects in
          let end = at_g.0 in absurd (omega arith)
      by n l g (inr at_l) (inl at_g) = let within = slice_get_within fs n g at_g in let same = i.effects in
          let end = at_l.0 in absurd (omega arith)

      each : (n : ℕ) (l : Kept) (g : Effect) → slice_get j'.changes n ≡ Some l → slice_get (fs ++ f ∷ []) n ≡ Some g
          → IsKept opening (e ∷ h) (n + 1) l g
      each n l g at_l at_g = by n l g (of_pushed j.changes k n l (sym (ap (λ xs. slice_get xs n) changes) ∙ at_l))
          (of_pushed fs f n g at_g)

-- a journal that keeps one more change accepts it
pub accepts : (inverse : Tree Global) (performed : Vec Touched Global) (j j' : Journaled)
    → j'.changes ≡ j.changes ++ newly_kept inverse performed ∷ [] → j'.standing ≡ j.standing + 1 → j'.undone ≡ []
    → Accepts inverse performed j j'
accepts inverse performed j j' changes standing undone = record {
  changes = changes;
  standing = standing;
  undone = undone;
  takes_in = λ opening h fs e f i a. accepted opening h e j fs i a.right a.answer a.change a.there
      j' (newly_kept inverse performed) f changes standing undone refl refl a.takes_back a.told a.wrote;
}
