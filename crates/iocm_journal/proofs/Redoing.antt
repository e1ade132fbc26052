-- A redo that was performed: journal and machine are then those of the history with it.
use Rattle.std.proofs.Common.{◌≡◌, ◌≢◌, ◌⊎◌, inl, inr, ℕ, suc, ◌+◌, ◌<◌, ◌≤◌, true, false, ◌||◌, eqb, Some, None, Ok}
use Rattle.std.proofs.Common.{List, [], ◌∷◌, ◌++◌, length, map, reverse, refl, sym, ap, subst, ◌∙◌, arith}
use Rattle.std.proofs.lemmas.Bool.{eq-eqb, ne_eqb}
use Rattle.std.proofs.lemmas.List.{length-set, map-append, reverse-append, reverse-reverse}
use Rattle.std.proofs.lemmas.Option.{slice_get_within}
use Rattle.std.specs.List.{slice_get, list_any, AllByRecursion}
use Rattle.iocm_model.specs.Operation.State.{State}
use Rattle.iocm_model.specs.Change.InverseTree.{TakesBack}
use Rattle.iocm_model.specs.Change.Meaning.{meaning, state_reached}
use Rattle.iocm_model.specs.Change.Runs.{inverses}
use Rattle.iocm_model.specs.Change.Tree.{ChangeTree}
use Rattle.iocm_history.specs.Entry.{Entry, History}
use Rattle.iocm_history.specs.Change.{Change}
use Rattle.iocm_history.specs.MarkedEntry.{change_at, with_change}
use Rattle.iocm_history.specs.Store.{store_of}
use Rattle.iocm_history.specs.Account.{account, marked_entries, stage_of, state_at}
use Rattle.iocm_history.specs.Journal.{is_in, without, journal_of}
use Rattle.iocm_history.specs.Legal.{is_last_undone, IsLegal}
use Rattle.iocm_history.specs.InUse.{IsInUse}
use Rattle.iocm_history.specs.UndoLaws.{undo_entry}
use Rattle.iocm_history.specs.RedoLaws.{redo_entry, undoes_or_redoes}
use Rattle.iocm_history.proofs.Along.{settled}
use Rattle.iocm_history.proofs.Settled.{not_undone, without_first}
use Rattle.iocm_history.proofs.Undone.{AreUndone}
use Rattle.iocm_tree.specs.Trees.{plain_tree, tree_of}
use Rattle.iocm_activate.specs.declared.effect.Effect.{Effect}
use Rattle.iocm_plant.specs.Operating.{Operating}
use Rattle.iocm_journal.specs.Answering.{IsNext, redo_made}
use Rattle.iocm_journal.specs.Kept.{IsKept, IsRedoable}
use Rattle.iocm_journal.specs.Now.{IsNow}
use Rattle.iocm_journal.specs.Moving.{WasRedone, again}
use Rattle.iocm_journal.specs.declared.kept.Kept.{Kept}
use Rattle.iocm_journal.specs.declared.kept.Undone.{Undone}
use Rattle.iocm_journal.specs.Journaled.{Journaled}
use Rattle.iocm_journal.proofs.GoingOn.{MeansWith, all_redoable_still}
use Rattle.iocm_history.proofs.Found.{changes_stay_there}
use Rattle.iocm_history.proofs.RedoMeans.{redo_means_the_redo}
use Rattle.iocm_journal.specs.Standing.{is_last, redo_at_end}
use Rattle.iocm_journal.proofs.Places.{ends_with, redo_item}
use Rattle.iocm_journal.proofs.Taken.{of_set, in_reverse, all_by_number, all_first, all_second}
use Rattle.iocm_journal.specs.Deciding.{not_quiet_now}

one_more : (m : ℕ) → m + 1 ≡ suc m
one_more m = omega arith

same_some : {A : Type 0} (a b : A) → Some a ≡ Some b → a ≡ b
same_some a b e = cc

-- nothing is staged after a redo where nothing was
still_idle : (opening : State) (h : History) (n : ℕ) → stage_of opening h ≡ None
    → stage_of opening (redo_entry n ∷ h) ≡ None
unfolding account
still_idle opening h n idle = idle

-- the last one undone is undone once
undone_once : (opening : State) (h : History) (n : ℕ) (us : List ℕ) → IsInUse opening → IsLegal opening h
    → (journal_of h).undone ≡ n ∷ us → is_in n us ≡ false
undone_once opening h n us used legal undone =
    let i = settled opening h used legal in
    let chain : AreUndone (store_of opening) (account opening h).entries (journal_of h).standing (n ∷ us)
    = subst (AreUndone (store_of opening) (account opening h).entries (journal_of h).standing) undone i.chain in
    not_undone (store_of opening) n us (with_change n (account opening h).entries) (n ∷ (journal_of h).standing)
    (first n (journal_of h).standing) chain.1
  where
    first : (m : ℕ) (ms : List ℕ) → is_in m (m ∷ ms) ≡ true
    first m ms = rw (eq-eqb m m refl) refl

-- a redo means what it does, where the history is what came since the undo and what came before
redo_means : (opening : State) (now h between : History) (n : ℕ) (c : Change) (t : ChangeTree)
    → now ≡ between ++ undo_entry n ∷ h → IsInUse opening → IsLegal opening now
    → list_any (λ (e : Entry). undoes_or_redoes n e.answer) between ≡ false
    → is_last_undone n (journal_of now).undone ≡ true → stage_of opening now ≡ None → not_quiet_now opening now n ≡ None
    → change_at n (marked_entries opening h) ≡ Some c → TakesBack t (inverses c.edits c.from) (state_at opening h)
    → MeansWith opening now (redo_entry n) t
redo_means opening now h between n c t parts used legal last first idle quiet there back =
    subst (λ g. IsLegal opening g → is_last_undone n (journal_of g).undone ≡ true → stage_of opening g ≡ None
    → not_quiet_now opening g n ≡ None → MeansWith opening g (redo_entry n) t) (sym parts)
    (λ lawful first_one none is_quiet.
    redo_means_the_redo opening h between n c t used lawful last first_one none is_quiet there back)
    legal first idle quiet

module _ {opening : State} {h : History} {i : Journaled} {fs : List Effect} {p : Operating}
    (now : IsNow opening h i fs p) (place : ℕ)
    (rest : List Undone) (last : Undone) (split : i.undone ≡ rest ++ last ∷ []) (is_number : last.number ≡ place + 1)
    (quiet : not_quiet_now opening h (place + 1) ≡ None) where
  abbrev top : ℕ
  top = place + 1

  abbrev below : List ℕ
  below = reverse (map (λ (u : Undone). u.number) rest)

  -- it is the last one undone
  undone_is : (journal_of h).undone ≡ top ∷ below
  undone_is =
      sym (turned (journal_of h).undone) ∙ ap reverse (sym now.journal.undone)
      ∙ ap (λ us. reverse (map (λ (u : Undone). u.number) us)) split
      ∙ ap reverse (map-append (λ (u : Undone). u.number) rest (last ∷ []))
      ∙ reverse-append (map (λ (u : Undone). u.number) rest) (last.number ∷ []) ∙ ap (λ m. m ∷ below) is_number
    where
      turned : (ns : List ℕ) → reverse (reverse ns) ≡ ns
      turned ns = reverse-reverse ns

  new_here : is_in top below ≡ false
  new_here = undone_once opening h top below now.journal.used now.journal.legal undone_is

  first_is : is_last_undone top (journal_of h).undone ≡ true
  first_is = ap (is_last_undone top) undone_is ∙ eq-eqb top top refl

  last_one : IsRedoable opening h last
  last_one =
      (all_second (IsRedoable opening h) rest (last ∷ [])
      (subst (AllByRecursion (IsRedoable opening h)) split now.journal.redoable)).0

  meant : MeansWith opening h (redo_entry top) (plain_tree (tree_of last.redo))
  meant = redo_means opening h last_one.before last_one.between top last_one.change (plain_tree (tree_of last.redo))
      (last_one.parts ∙ ap (λ m. last_one.between ++ undo_entry m ∷ last_one.before) is_number) now.journal.used
      now.journal.legal
      (sym (ap (λ m. list_any (λ (e : Entry). undoes_or_redoes m e.answer) last_one.between) is_number)
      ∙ last_one.last) first_is now.idle quiet
      (sym (ap (λ m. change_at m (marked_entries opening last_one.before)) is_number) ∙ last_one.there)
      last_one.takes_back

-- what the tree means that is kept for the last one undone
pub last_means : {opening : State} {h : History} {i : Journaled} {fs : List Effect} {p : Operating}
    (now : IsNow opening h i fs p) (place : ℕ)
    → is_last i.undone (place + 1) ≡ true
    → not_quiet_now opening h (place + 1) ≡ None
    → state_reached (meaning (redo_at_end i.undone) p.state) ≡ Some (state_at opening (redo_entry (place + 1) ∷ h))
last_means {i = i} now place is_it quiet =
    let e = ends_with i.undone (place + 1) is_it in
    (λ z. state_reached (meaning ((redo_item i.undone e.last e.at_last) z) (now.state z)))
    ∙ (meant now place e.rest e.last e.split e.number quiet).1

module _ {opening : State} {h : History} {i : Journaled} {fs : List Effect} {p : Operating}
    (now : IsNow opening h i fs p) (place : ℕ)
    (j : Journaled) (q : Operating) (w : WasRedone i place p.state q.state j)
    (quiet : not_quiet_now opening h (place + 1) ≡ None) where
  abbrev n : ℕ
  n = place + 1

  abbrev others : List ℕ
  others = reverse (map (λ (u : Undone). u.number) j.undone)

  undone_here : (journal_of h).undone ≡ n ∷ others
  undone_here = undone_is now place j.undone w.last w.undone w.number quiet

  none_here : is_in n others ≡ false
  none_here = new_here now place j.undone w.last w.undone w.number quiet

  meant_here : MeansWith opening h (redo_entry n) (plain_tree (tree_of w.last.redo))
  meant_here = meant now place j.undone w.last w.undone w.number quiet

  place_is : (journal_of h).count ≡ length i.changes
  place_is = now.journal.count

  within : place < length i.changes
  within = slice_get_within i.changes place w.kept w.there

  -- ---- each change

  another : (m : ℕ) (k : Kept) (g : Effect) → m ≤ (journal_of h).count → m ≢ n → IsKept opening h m k g
      → IsKept opening (redo_entry n ∷ h) m k g
  another m k g few other was = record {
    change = was.change;
    there = changes_stay_there opening h (redo_entry n) m now.journal.used meant_here.0 few ∙ was.there;
    inverse = was.inverse;
    performed = was.performed;
    effect = was.effect;
    stands = was.stands ∙ sym (ap (λ b. b || is_in m (journal_of h).standing) (ne_eqb m n other));
    undone = was.undone;
  }

  the_one : (g : Effect) → slice_get fs place ≡ Some g → IsKept opening (redo_entry n ∷ h) n (again w.kept) g
  the_one g at_g = let was = now.journal.kept place w.kept g w.there at_g in record {
    change = was.change;
    there = changes_stay_there opening h (redo_entry n) n now.journal.used meant_here.0 (let all = place_is in
        let few = within in omega arith) ∙ was.there;
    inverse = was.inverse;
    performed = was.performed;
    effect = was.effect;
    stands = sym (ap (λ b. b || is_in n (journal_of h).standing) (eq-eqb n n refl));
    undone = was.undone;
  }

  each : (m : ℕ) (k : Kept) (g : Effect) → slice_get j.changes m ≡ Some k → slice_get fs m ≡ Some g
      → IsKept opening (redo_entry n ∷ h) (m + 1) k g
  each m k g at_k at_g = by
      (of_set i.changes place (again w.kept) m k (sym (ap (λ xs. slice_get xs m) w.changes) ∙ at_k))
    where
      by : ((m ≢ place) × (slice_get i.changes m ≡ Some k)) ⊎ ((m ≡ place) × (again w.kept ≡ k))
          → IsKept opening (redo_entry n ∷ h) (m + 1) k g
      by (inl old) = another (m + 1) k g
          (let low = slice_get_within i.changes m k old.1 in let all = place_is in omega arith)
          (λ e. old.0 (omega (arith, e))) (now.journal.kept m k g old.1 at_g)
      by (inr new) = subst (λ z. IsKept opening (redo_entry n ∷ h) (z + 1) k g) (sym new.0)
          (subst (λ z. IsKept opening (redo_entry n ∷ h) n z g) new.1
          (the_one g (sym (ap (slice_get fs) new.0) ∙ at_g)))

  -- ---- those that are undone still

  not_this : (m : ℕ) → is_in m (map (λ (u : Undone). u.number) j.undone) ≡ true → eqb m n ≡ false
  not_this m among =
      ne_eqb m n (λ same. let here : is_in n others ≡ true = sym (ap (λ z. is_in z others) same)
      ∙ in_reverse m (map (λ (u : Undone). u.number) j.undone) ∙ among in
      let no : true ≡ false = sym here ∙ none_here in cc)

  rest_still : AllByRecursion (IsRedoable opening (redo_entry n ∷ h)) j.undone
  rest_still = all_redoable_still opening h (redo_entry n) j.undone
      (all_by_number (λ (u : Undone). u.number) (λ m. eqb m n ≡ false) j.undone not_this)
      (all_first (IsRedoable opening h) j.undone (w.last ∷ [])
      (subst (AllByRecursion (IsRedoable opening h)) w.undone now.journal.redoable))

  -- ---- the whole

  state_is : q.state ≡ state_at opening (redo_entry n ∷ h)
  state_is =
      same_some q.state (state_at opening (redo_entry n ∷ h))
      (sym w.means ∙ ap (λ s. state_reached (meaning (plain_tree (tree_of w.last.redo)) s)) now.state ∙ meant_here.1)

  pub redone_now : IsNext opening h (redo_made n (Ok tt)) j fs q
  redone_now = record {
    right = meant_here.0.0;
    now = record {
      journal = record {
        used = now.journal.used;
        legal = meant_here.0;
        count = place_is ∙ sym (ap length w.changes ∙ length-set i.changes place (again w.kept));
        effects = now.journal.effects ∙ sym (ap length w.changes ∙ length-set i.changes place (again w.kept));
        kept = each;
        standing = w.standing ∙ ap (λ m. m + 1) now.journal.standing ∙ one_more (length (journal_of h).standing);
        undone = sym (reverse-reverse (map (λ (u : Undone). u.number) j.undone))
            ∙ ap reverse (sym (ap (without n) undone_here ∙ without_first n others none_here));
        redoable = rest_still;
      };
      idle = still_idle opening h n now.idle;
      state = state_is;
    };
  }
