-- What an accepted redo leaves, where its change was undone before with no undo or redo of it
-- between.
use Rattle.std.proofs.Common.{◌≡◌, ◌⊎◌, inl, inr, ℕ, ◌+◌, Bool, true, false, cond, ◌||◌, eqb, List, [], ◌∷◌, ◌++◌}
use Rattle.std.proofs.Common.{length, take, Option, Some, None, refl, sym, ap, subst, ◌∙◌, arith}
use Rattle.std.proofs.lemmas.Bool.{or_parts, or_left, or_right, eq-eqb, eqb-true}
use Rattle.std.specs.List.{list_any}
use Rattle.iocm_types.specs.declared.answer.Answer.TheVariants.{Undone, Redone}
use Rattle.iocm_types.specs.declared.answer.Answer.TheVariants as answers
use Rattle.iocm_types.specs.declared.refused.Refused.{Refused}
use Rattle.iocm_types.specs.declared.sub_id.SubId.{SubId}
use Rattle.iocm_model.specs.Machine.Numbering.{numbering_of}
use Rattle.iocm_model.specs.Operation.State.{State, is_among, HasConfigAndNumbersOf}
use Rattle.iocm_types.specs.declared.live.Live.{Live}
use Rattle.iocm_model.specs.Operation.Step.{Step}
use Rattle.iocm_model.specs.Change.Effect.{values_in}
use Rattle.iocm_history.specs.Entry.{redo, Entry, History, plain_entry}
use Rattle.iocm_history.specs.Store.{Store, store_of, state_of, store_with}
use Rattle.iocm_history.specs.Change.{Change, cells_of_change, altered}
use Rattle.iocm_history.specs.MarkedEntry.{Act, step, change, undoing, nothing, Mark, kept, undone_with, lost}
use Rattle.iocm_history.specs.MarkedEntry.{MarkedEntry, effect_of_act, effect_of_entry, is_change, is_undo, is_step_on}
use Rattle.iocm_history.specs.MarkedEntry.{altered_if, change_at, struck_if, strike, restore, taken_back}
use Rattle.iocm_history.specs.MarkedEntry.{without_change, with_change, altered_by_change}
use Rattle.iocm_history.specs.Stage.{Stage}
use Rattle.iocm_history.specs.Account.{replay, Account, account_after, account, marked_entries, state_at}
use Rattle.iocm_history.specs.StandsOn.{changes_in}
use Rattle.iocm_types.specs.declared.refused.At.TheVariants.{Nothing}
use Rattle.iocm_types.specs.declared.rule.Rule.TheVariants.{J1, J3}
use Rattle.iocm_model.specs.Change.Refusal.{refusal_at}
use Rattle.iocm_history.specs.Journal.{Journal, is_past, is_in, without, journal_after, journal_of}
use Rattle.iocm_history.specs.Legal.{unless_staged, unless_not_quiet, is_last_undone, not_quiet_of, IsRight, IsLegal}
use Rattle.iocm_history.specs.InUse.{IsInUse}
use Rattle.iocm_history.specs.UndoLaws.{undo_entry, struck_steps}
use Rattle.iocm_history.specs.RedoLaws.{redo_entry, undoes_or_redoes, IsRedone, RedoTakesUndoBack}
use Rattle.iocm_history.specs.RedoLaws.{RedoFindsWhatTheUndoLeft, RedoPutsTheCellsForward}
use Rattle.iocm_history.proofs.OneCell.{Cell, at_key, at_number, read, written, is_one_of, none_written, read_values}
use Rattle.iocm_history.proofs.OneCell.{same_store, records_read, numbers_read}
use Rattle.iocm_history.proofs.Marks.{taken_back_strike}
use Rattle.iocm_history.proofs.Remarked.{change_strike}
use Rattle.iocm_history.proofs.Striking.{has, entry, skipped, alike, inert, IsOnSteps, IsOffSteps}
use Rattle.iocm_history.proofs.Apart.{on_altered, off_altered, stays_without}
use Rattle.iocm_history.proofs.Numbers.{first_or_rest}
use Rattle.iocm_history.proofs.Passing.{change_past}
use Rattle.iocm_history.proofs.Level.{no_change_and}
use Rattle.iocm_history.proofs.Standing.{IsStanding}
use Rattle.iocm_history.proofs.Undone.{redone_is, AreUndone, undoing_inert, inert_replay}
use Rattle.iocm_history.proofs.Settled.{IsSettled, state_now, settled_in_use, level_is, nothing_inert, struck_is}
use Rattle.iocm_history.proofs.Settled.{not_undone, without_first}
use Rattle.iocm_history.proofs.Along.{IsEvent, idles, steps, changes, undoes, redoes, is_event, settled}
use Rattle.iocm_history.proofs.ItFits.{passes_steps, record_off, device_off}
use Rattle.iocm_history.proofs.Undoing.{may_be_undone}
use Rattle.iocm_history.proofs.SinceUndo.{IsSince, IsUndoneAt, undone_more, undone_by_another, redone_another}
use Rattle.iocm_history.proofs.SinceUndo.{last_undone}

-- ---- what an accepted redo tells

accepted_by : (n : ℕ) (g : Option Stage) (last here past : Bool) (quiet : Option SubId) (why whether other : Refused)
    → Redone n ≡ (unless_staged g (redo n) (plain_entry (redo n) (cond last (unless_not_quiet quiet (Redone n))
    (cond here (answers.Refused why) (cond past (answers.Refused whether) (answers.Refused other)))))).answer
    → last ≡ true
accepted_by n (Some g) last here past quiet why whether other is = cc
accepted_by n None true here past quiet why whether other is = refl
accepted_by n None false true past quiet why whether other is = cc
accepted_by n None false false true quiet why whether other is = cc
accepted_by n None false false false quiet why whether other is = cc

was_last : (opening : State) (h : History) (n : ℕ) → IsRight opening h (redo_entry n)
    → is_last_undone n (journal_of h).undone ≡ true
was_last opening h n (inl same) = accepted_by n (account opening h).stage (is_last_undone n (journal_of h).undone)
    (is_in n (journal_of h).undone) (is_past n (journal_of h))
    (not_quiet_of n (state_at opening h) (account opening h)) (refusal_at J3 Nothing) (refusal_at J3 Nothing)
    (refusal_at J1 Nothing) (ap (λ (e : Entry). e.answer) same)
was_last opening h n (inr lack) = let other = ap (λ (e : Entry). e.answer) lack.1 in cc

first_is : (n : ℕ) (us : List ℕ) → is_last_undone n us ≡ true → (vs : List ℕ) × (us ≡ n ∷ vs)
first_is n [] last = cc
first_is n (u ∷ us) last = (us, ap (λ j. j ∷ us) (sym (eqb-true n u last)))

among_last : (n : ℕ) (us : List ℕ) → is_last_undone n us ≡ true → is_in n us ≡ true
among_last n [] last = cc
among_last n (u ∷ us) last = ap (λ b. b || is_in n us) last

-- ---- along what came since the undo

-- an event that neither undoes nor redoes the change
module _ (m : Store) (b : Journal) (a : Account) (settled_a : IsSettled m b a) (n k : ℕ)
    (early : List MarkedEntry) where
  abbrev IsUndoneAfter : Entry → Type 0
  IsUndoneAfter e = IsUndoneAt n (k + 1) early (journal_after e.answer b).undone
      (account_after e.call e.answer (state_now m a) a).entries

  put : (e : Entry) (us : List ℕ) (ls : List MarkedEntry) → (journal_after e.answer b).undone ≡ us
      → (account_after e.call e.answer (state_now m a) a).entries ≡ ls
      → IsUndoneAt n (k + 1) early us ls → IsUndoneAfter e
  put e us ls undone entries u =
      subst (λ vs. IsUndoneAt n (k + 1) early vs (account_after e.call e.answer (state_now m a) a).entries) (sym undone)
      (subst (IsUndoneAt n (k + 1) early us) (sym entries) u)

  not_it : (j : ℕ) → undoes_or_redoes n (Undone j) ≡ false → n ≡ j → ⊥
  not_it j other same = let here : eqb n j ≡ true = eq-eqb n j same in let no : true ≡ false = sym here ∙ other in cc

  rest_of : (j : ℕ) (us : List ℕ) → is_in j us ≡ false → without j (j ∷ us) ≡ us
  rest_of j us none = without_first j us none

  next : (e : Entry) → IsEvent m b a e → undoes_or_redoes n e.answer ≡ false
      → is_in n (journal_after e.answer b).undone ≡ true
      → (is_in n b.undone ≡ true → IsUndoneAt n k early b.undone a.entries) → IsUndoneAfter e
  next e (idles g staged account_is journal_is) other here earlier =
      put e b.undone (entry nothing kept ∷ a.entries) (ap (λ (c : Journal). c.undone) journal_is)
      (ap (λ (c : Account). c.entries) account_is)
      (undone_more n k early b.undone (entry nothing kept) a.entries (λ j. refl) (λ v among. refl)
      (earlier (sym (ap (λ (c : Journal). is_in n c.undone) journal_is) ∙ here)))
  next e (steps x done off account_is journal_is) other here earlier =
      put e b.undone _ (ap (λ (c : Journal). c.undone) journal_is) (ap (λ (c : Account). c.entries) account_is)
      (undone_more n k early b.undone (entry (step x done _) kept) a.entries (λ j. refl) (λ v among. refl)
      (earlier (sym (ap (λ (c : Journal). is_in n c.undone) journal_is) ∙ here)))
  next e (changes c g ready idle account_is journal_is) other here earlier =
      let none : is_in n (journal_after e.answer b).undone ≡ false =
      ap (λ (d : Journal). is_in n d.undone) journal_is in
      let no : true ≡ false = sym here ∙ none in cc
  next e (undoes j stands none idle answer account_is journal_is) other here earlier =
      let apart = not_it j (sym (ap (undoes_or_redoes n) answer) ∙ other) in
      let among : is_in n (j ∷ b.undone) ≡ true = sym (ap (λ (d : Journal). is_in n d.undone) journal_is) ∙ here in
      let before : is_in n b.undone ≡ true = later (first_or_rest n j b.undone among) apart in
      put e (j ∷ b.undone) (entry (undoing j) kept ∷ without_change j a.entries)
      (ap (λ (d : Journal). d.undone) journal_is) (ap (λ (d : Account). d.entries) account_is)
      (undone_by_another n k j early b.undone a.entries (entry (undoing j) kept ∷ without_change j a.entries)
      ((λ i. with_change j (entry (undoing j) kept ∷ struck_is m b a settled_a j stands none i))
      ∙ redone_is m a.entries b.standing settled_a.level j stands)
      (not_undone m j b.undone a.entries b.standing stands settled_a.chain) (earlier before))
    where
      later : (n ≡ j) ⊎ (is_in n b.undone ≡ true) → (n ≡ j → ⊥) → is_in n b.undone ≡ true
      later (inl same) apart = absurd (apart same)
      later (inr among) apart = among
  next e (redoes j us undone idle answer account_is journal_is) other here earlier =
      let apart = not_it j (sym (ap (undoes_or_redoes n) answer) ∙ other) in
      let chain = subst (AreUndone m a.entries b.standing) undone settled_a.chain in
      let gone : is_in j us ≡ false =
      not_undone m j us (with_change j a.entries) (j ∷ b.standing) (or_left (eqb j j) _ (eq-eqb j j refl))
      chain.1 in
      let rest : without j b.undone ≡ us = ap (without j) undone ∙ rest_of j us gone in
      let among : is_in n us ≡ true =
      sym (ap (λ (d : Journal). is_in n d.undone) journal_is ∙ ap (is_in n) rest) ∙ here in
      let before : is_in n b.undone ≡ true = ap (is_in n) undone ∙ or_right (eqb n j) _ among in
      put e us (entry nothing kept ∷ with_change j a.entries) (ap (λ (d : Journal). d.undone) journal_is ∙ rest)
      (ap (λ (d : Account). d.entries) account_is)
      (undone_more n k early us (entry nothing kept) (with_change j a.entries) (λ i. refl) (λ v h. refl)
      (redone_another n k j early us a.entries (λ same. apart (sym same))
      (subst (λ vs. IsUndoneAt n k early vs a.entries) undone (earlier before))))

module _ (opening : State) (h : History) (n : ℕ) (used : IsInUse opening) where
  abbrev now : History → History
  now between = between ++ undo_entry n ∷ h

  since_base : IsLegal opening (now [])
      → IsUndoneAt n 0 (marked_entries opening h) (journal_of (now [])).undone (marked_entries opening (now []))
  unfolding account
  since_base legal = record {
    later = [];
    earlier = (journal_of h).undone;
    undone = refl;
    others = refl;
    since = record { front = []; is = refl; long = refl; no_change = λ j. refl; no_undo = refl };
  }

  since_undo : (between : History) → IsLegal opening (now between)
      → list_any (λ (e : Entry). undoes_or_redoes n e.answer) between ≡ false
      → is_in n (journal_of (now between)).undone ≡ true
      → IsUndoneAt n (length between) (marked_entries opening h) (journal_of (now between)).undone
      (marked_entries opening (now between))
  unfolding account
  since_undo [] legal others here = since_base legal
  since_undo (e ∷ between) legal others here =
      let i = settled opening (now between) used legal.1 in
      let both = or_parts _ _ others in
      subst (λ k. IsUndoneAt n k (marked_entries opening h) (journal_of (now (e ∷ between))).undone
      (marked_entries opening (now (e ∷ between)))) (omega arith)
      (next (store_of opening) (journal_of (now between)) (account opening (now between)) i n (length between)
      (marked_entries opening h) e
      (is_event (store_of opening) (journal_of (now between)) (account opening (now between)) i e legal.0) both.0 here
      (λ there. since_undo between legal.1 both.1 there))

-- ---- what the redo leaves

-- the replay of entries on entries is a replay after a replay
replay_append : (m : Store) (new ls : List MarkedEntry) → replay m (new ++ ls) ≡ replay (replay m ls) new
replay_append m [] ls = refl
replay_append m (l ∷ new) ls = ap (store_with (effect_of_entry l)) (replay_append m new ls)

take_front : (front rest : List MarkedEntry) → take (length front) (front ++ rest) ≡ front
take_front [] rest = take_none rest
  where
    take_none : (ls : List MarkedEntry) → take 0 ls ≡ []
    take_none [] = refl
    take_none (l ∷ ls) = refl
take_front (l ∷ front) rest = ap (λ ms. l ∷ ms) (take_front front rest)

-- no change is among entries
none_counts : (ls : List MarkedEntry) → ((j : ℕ) → has (is_change j) ls ≡ false) → changes_in ls ≡ []
none_counts [] none = refl
none_counts (l ∷ ls) none =
    no_change_and l.mark l.act (changes_in ls) (λ j. (or_parts (is_change j l.act) _ (none j)).0)
    ∙ none_counts ls (λ j. (or_parts (is_change j l.act) _ (none j)).1)

pub legal_before : (opening : State) (new h : History) → IsLegal opening (new ++ h) → IsLegal opening h
legal_before opening [] h legal = legal
legal_before opening (e ∷ new) h legal = legal_before opening new h legal.1

module _ (xs : List SubId) (n : ℕ) (rest : List MarkedEntry) where
  -- a redo walks back to the undo
  restored : (front : List MarkedEntry) → has (is_undo n) front ≡ false
      → restore xs n (front ++ entry (undoing n) kept ∷ rest) ≡ struck_steps xs lost front
      ++ entry (undoing n) kept ∷ taken_back n rest
  unfolding restore
  restored [] none = let same : eqb n n ≡ true = eq-eqb n n refl in
      ap (λ b. cond b (entry (undoing n) kept ∷ taken_back n rest) (entry (undoing n) kept ∷ restore xs n rest)) same
  restored (l ∷ front) none =
      let both = or_parts (is_undo n l.act) _ none in
      let all = front ++ entry (undoing n) kept ∷ rest in
      ap (λ b. cond b (l ∷ taken_back n all) (struck_if (is_step_on xs l.act) lost l ∷ restore xs n all)) both.0
      ∙ ap (λ ms. struck_if (is_step_on xs l.act) lost l ∷ ms) (restored front both.1)

module _ (m : Store) (q : Cell) (xs : List SubId) where
  lost_writes : (mark : Mark) (a : Act) → written (effect_of_entry (struck_if true lost (entry a mark))) q ≡ None
  lost_writes kept a = none_written q
  lost_writes (undone_with k) a = none_written q
  lost_writes lost a = none_written q

  -- a cell that no step elsewhere writes is left by them
  front_on : IsOnSteps xs q → (front rest : List MarkedEntry) → ((j : ℕ) → has (is_change j) front ≡ false)
      → read (replay m (struck_steps xs lost front ++ rest)) q ≡ read (replay m rest) q
  front_on on [] rest none = refl
  front_on on (l ∷ front) rest none =
      skipped m q (struck_if (is_step_on xs l.act) lost l) (struck_steps xs lost front ++ rest)
      (by l.mark l.act (λ j. (or_parts (is_change j l.act) _ (none j)).0))
      ∙ front_on on front rest (λ j. (or_parts (is_change j l.act) _ (none j)).1)
    where
      step_by : (b : Bool) (mark : Mark) (x : SubId) (done : Step) (live : Option Live) → is_among x xs ≡ b
          → written (effect_of_entry (struck_if b lost (entry (step x done live) mark))) q ≡ None
      step_by true mark x done live is = lost_writes mark (step x done live)
      step_by false mark x done live is = inert m q mark (step x done live) (on x done live is)

      by : (mark : Mark) (a : Act) → ((j : ℕ) → is_change j a ≡ false)
          → written (effect_of_entry (struck_if (is_step_on xs a) lost (entry a mark))) q ≡ None
      by mark (step x done live) other = step_by (is_among x xs) mark x done live refl
      by mark (change k c) other = let same : eqb k k ≡ true = eq-eqb k k refl in let no : true ≡ false =
          sym same ∙ other k in cc
      by mark (undoing k) other = inert m q mark (undoing k) (none_written q)
      by mark nothing other = inert m q mark nothing (none_written q)

  -- a cell that no step there writes is written as it was
  front_off : IsOffSteps xs q → (front rest others : List MarkedEntry)
      → read (replay m rest) q ≡ read (replay m others) q
      → read (replay m (struck_steps xs lost front ++ rest)) q ≡ read (replay m (front ++ others)) q
  front_off off [] rest others same = same
  front_off off (l ∷ front) rest others same = by (is_step_on xs l.act) refl (front_off off front rest others same)
    where
      step_writes_not : (a : Act) → is_step_on xs a ≡ true → written (effect_of_act a) q ≡ None
      step_writes_not (step x done live) on = off x done live on
      step_writes_not (change k c) on = cc
      step_writes_not (undoing k) on = cc
      step_writes_not nothing on = cc

      by : (b : Bool) → is_step_on xs l.act ≡ b
          → read (replay m (struck_steps xs lost front ++ rest)) q ≡ read (replay m (front ++ others)) q
          → read (replay m (struck_if b lost l ∷ (struck_steps xs lost front ++ rest))) q
          ≡ read (replay m (l ∷ (front ++ others))) q
      by true on more =
          skipped m q (struck_if true lost l) (struck_steps xs lost front ++ rest) (lost_writes l.mark l.act) ∙ more
          ∙ sym (skipped m q l (front ++ others) (inert m q l.mark l.act (step_writes_not l.act on)))
      by false on more = alike m q l l (struck_steps xs lost front ++ rest) (front ++ others) refl more

-- what a settled account comes to, as a store
pub store_now : (m : Store) (b : Journal) (a : Account) → IsSettled m b a
    → replay m a.entries ≡ store_of (state_now m a)
store_now m b a i = i.level.is ∙ ap store_of (sym (level_is m b a i))

module _ (opening : State) (h between : History) (n : ℕ) (r : IsRedone opening h between n) where
  abbrev m : Store
  m = store_of opening

  abbrev before : History
  before = between ++ undo_entry n ∷ h

  abbrev ls : List MarkedEntry
  ls = marked_entries opening before

  abbrev early : List MarkedEntry
  early = marked_entries opening h

  abbrev xs : List SubId
  xs = altered_by_change n ls

  legal_undo : IsLegal opening (undo_entry n ∷ h)
  legal_undo = legal_before opening between (undo_entry n ∷ h) r.legal.1

  i : IsSettled m (journal_of before) (account opening before)
  i = settled opening before r.used r.legal.1

  last : is_last_undone n (journal_of before).undone ≡ true
  last = was_last opening before n r.legal.0

  s : IsSince n (length between) early ls
  s = let first = first_is n (journal_of before).undone last in
      last_undone n (length between) early first.0 ls
      (subst (λ us. IsUndoneAt n (length between) early us ls) first.1
      (since_undo opening h n r.used between r.legal.1 r.first (among_last n (journal_of before).undone last)))

  stood : IsStanding m n early
  stood = (settled opening h r.used legal_undo.1).level.standing n (may_be_undone opening h n legal_undo.0).here

  -- the entries before the undo come back
  with_it : with_change n ls ≡ struck_steps xs lost s.front ++ entry (undoing n) kept ∷ early
  with_it = ap (restore xs n) s.is ∙ restored xs n (without_change n early) s.front s.no_undo
      ∙ ap (λ ms. struck_steps xs lost s.front ++ entry (undoing n) kept ∷ ms)
      (taken_back_strike (altered_by_change n early) n early stood.unmarked)

  front_is : s.front ≡ take (length between) ls
  front_is = sym (take_front s.front (entry (undoing n) kept ∷ without_change n early))
      ∙ (λ j. take (s.long j) (sym s.is j))

  redone_entries : marked_entries opening (redo_entry n ∷ before) ≡ entry nothing kept ∷ with_change n ls
  unfolding account
  redone_entries = refl

  redone_replay : replay m (marked_entries opening (redo_entry n ∷ before))
      ≡ replay m (struck_steps xs lost s.front ++ entry (undoing n) kept ∷ early)
  redone_replay = ap (replay m) redone_entries ∙ inert_replay m (entry nothing kept) (with_change n ls) nothing_inert
      ∙ ap (replay m) with_it

  pub takes_back : state_at opening (redo_entry n ∷ before)
      ≡ state_of (replay (replay m early) (struck_steps xs lost (take (length between) ls)))
  takes_back = ap state_of
      (redone_replay ∙ replay_append m (struck_steps xs lost s.front) (entry (undoing n) kept ∷ early)
      ∙ (λ j. replay (inert_replay m (entry (undoing n) kept) early (undoing_inert n) j)
      (struck_steps xs lost (front_is j))))

  -- ---- the configuration and the numbers before it

  undone_entries : marked_entries opening (undo_entry n ∷ h) ≡ entry (undoing n) kept ∷ without_change n early
  unfolding account
  undone_entries = refl

  same_cell : (q : Cell) → IsOnSteps [] q
      → read (replay m ls) q ≡ read (replay m (marked_entries opening (undo_entry n ∷ h))) q
  same_cell q off = (λ j. read (replay m (s.is j)) q)
      ∙ passes_steps m q off s.front (entry (undoing n) kept ∷ without_change n early) (none_counts s.front s.no_change)
      ∙ (λ j. read (replay m (sym undone_entries j)) q)

  pub finds : HasConfigAndNumbersOf (state_at opening before) (state_at opening (undo_entry n ∷ h))
  finds = record {
    config = records_read (replay m ls) (replay m (marked_entries opening (undo_entry n ∷ h)))
        (λ key. same_cell (at_key key) (record_off key));
    numbers = ap numbering_of
        (numbers_read (replay m ls) (replay m (marked_entries opening (undo_entry n ∷ h)))
        (λ c. same_cell (at_number c) (device_off c)));
    lived = (settled_in_use m (journal_of before) (account opening before) i).sound.lived;
  }

  -- ---- cell by cell

  module _ (c : Change) (at : change_at n early ≡ Some c) where
    at_now : change_at n ls ≡ Some c
    at_now = ap (change_at n) s.is
        ∙ change_past n (entry (undoing n) kept ∷ without_change n early) s.front (s.no_change n)
        ∙ change_strike (altered_by_change n early) n n early ∙ at

    xs_is : xs ≡ altered c
    xs_is = ap altered_if at_now

    early_is : without_change n early ≡ strike (altered c) n early
    early_is = ap (λ o. strike (altered_if o) n early) at

    by : (b : Bool) (q : Cell) → is_one_of (cells_of_change c) q ≡ b
        → read (replay m (struck_steps xs lost s.front ++ entry (undoing n) kept ∷ early)) q
        ≡ cond b (read (replay m early) q) (read (replay m ls) q)
    by true q is =
        (λ j. read (replay m (struck_steps (xs_is j) lost s.front ++ entry (undoing n) kept ∷ early)) q)
        ∙ front_on m q (altered c) (on_altered c q is) s.front (entry (undoing n) kept ∷ early) s.no_change
        ∙ skipped m q (entry (undoing n) kept) early (none_written q)
    by false q is =
        (λ j. read (replay m (struck_steps (xs_is j) lost s.front ++ entry (undoing n) kept ∷ early)) q)
        ∙ front_off m q (altered c) (off_altered c q is) s.front (entry (undoing n) kept ∷ early)
        (entry (undoing n) kept ∷ without_change n early)
        (skipped m q (entry (undoing n) kept) early (none_written q) ∙ sym (stays_without m n c early at q is)
        ∙ (λ j. read (replay m (sym early_is j)) q)
        ∙ sym (skipped m q (entry (undoing n) kept) (without_change n early) (none_written q)))
        ∙ (λ j. read (replay m (sym s.is j)) q)

    i_after : IsSettled m (journal_of (redo_entry n ∷ before)) (account opening (redo_entry n ∷ before))
    i_after = settled opening (redo_entry n ∷ before) r.used r.legal

    i_early : IsSettled m (journal_of h) (account opening h)
    i_early = settled opening h r.used legal_undo.1

    pub forward : store_of (state_at opening (redo_entry n ∷ before))
        ≡ store_with (values_in (state_at opening h) (cells_of_change c)) (store_of (state_at opening before))
    forward = same_store _ _ (λ q.
        ap (λ z. read z q) (sym (store_now m (journal_of (redo_entry n ∷ before))
        (account opening (redo_entry n ∷ before)) i_after) ∙ redone_replay)
        ∙ by (is_one_of (cells_of_change c) q) q refl
        ∙ (λ j. cond (is_one_of (cells_of_change c) q)
        (read (store_now m (journal_of h) (account opening h) i_early j) q)
        (read (store_now m (journal_of before) (account opening before) i j) q))
        ∙ sym (read_values (state_at opening h) (cells_of_change c) (store_of (state_at opening before)) q))

pub redo_takes_undo_back : RedoTakesUndoBack
redo_takes_undo_back = takes_back

pub redo_finds_what_the_undo_left : RedoFindsWhatTheUndoLeft
redo_finds_what_the_undo_left = finds

pub redo_puts_the_cells_forward : RedoPutsTheCellsForward
redo_puts_the_cells_forward opening h between n c r at = forward opening h between n r c at
