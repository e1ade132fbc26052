-- Entries of which these changes stand: each stands, no other counts, and what they come to is a
-- state in use.
use Rattle.std.proofs.Common.{◌≡◌, ◌≢◌, ⊎_elim, inl, inr, ◌⊎◌, ℕ, ◌+◌, ◌<◌, ◌≤◌, Bool, true, false, cond, eqb, List, []}
use Rattle.std.proofs.Common.{◌∷◌, Option, Some, None, is_some, refl, sym, ap, subst, ◌∙◌, arith}
use Rattle.std.proofs.lemmas.Bool.{or_left, or_right, eq-eqb, ne_eqb, cases_lt, false_from_ne_true}
use Rattle.std.specs.Option.{unwrap_or}
use Rattle.std.specs.Ordering.{eq_by_cmp}
use Rattle.std.specs.FinMap.{get, entries}
use Rattle.iocm_types.specs.declared.live.Live.{Live}
use Rattle.iocm_types.specs.declared.sub_id.SubId.{SubId}
use Rattle.iocm_types.specs.SubId.{sub_id_cmp}
use Rattle.iocm_types.specs.KeyOrder.{sub_ids_total, sub_ids_exact}
use Rattle.iocm_types.proofs.Found.{same_key}
use Rattle.iocm_model.specs.Machine.Numbering.{cells_of}
use Rattle.iocm_model.specs.Change.Maps.{with_value, with_cells, cells_at}
use Rattle.iocm_model.specs.Change.Effect.{Effect}
use Rattle.iocm_model.specs.Operation.State.{State, views_of, seen_in, is_among}
use Rattle.iocm_model.specs.Operation.Step.{Step}
use Rattle.iocm_model.specs.Change.Runs.{state_after_all}
use Rattle.iocm_model.proofs.Maps.Cells.{get_with_value, get_with_cells_as}
use Rattle.iocm_model.proofs.Change.RunsGoBack.{off_sight, off_keys, off_cells}
use Rattle.iocm_history.specs.Store.{Store, store_of, store_with, state_of}
use Rattle.iocm_history.specs.Change.{Change, effect_of_change, cells_of_change, values_before, altered}
use Rattle.iocm_history.specs.MarkedEntry.{Act, step, change, undoing, nothing, Mark, kept, undone_with, lost}
use Rattle.iocm_history.specs.MarkedEntry.{MarkedEntry, effect_of_act, effect_of_entry, is_change, strike}
use Rattle.iocm_history.specs.Account.{replay}
use Rattle.iocm_history.specs.StandsOn.{Numbered, since, change_and, changes_in, numbers_of}
use Rattle.iocm_history.specs.Journal.{is_in, without}
use Rattle.iocm_history.specs.MarkLaws.{IsUnmarked}
use Rattle.iocm_history.specs.InUse.{IsInUse}
use Rattle.iocm_history.proofs.OneCell.{Cell, at_key, at_number, at_subchannel, of_record, of_device, of_live, read}
use Rattle.iocm_history.proofs.OneCell.{written, is_one_of, read_with, read_values, none_written, step_writes}
use Rattle.iocm_history.proofs.OneCell.{same_store, state_of_store, altered_cells}
use Rattle.iocm_history.proofs.Striking.{has, made, entry, skipped}
use Rattle.iocm_history.proofs.Apart.{AreApart, undone_store}
use Rattle.iocm_history.proofs.Numbers.{first_or_rest, in_without, among_without}
use Rattle.iocm_history.proofs.Passing.{changes_struck, struck_not_counted}
use Rattle.iocm_history.proofs.Standing.{IsStanding, standing_since, standing_change, standing_there, one_more}
use Rattle.iocm_history.proofs.Standing.{still_standing}
use Rattle.iocm_history.proofs.WasMade.{WasMade, left_in_use}
use Rattle.iocm_history.proofs.Fitted.{IsTakenBack}

pub record IsLevel (m : Store) (ls : List MarkedEntry) (ns : List ℕ) : Type 0 where
  pub standing : (k : ℕ) → is_in k ns ≡ true → IsStanding m k ls
  pub only : (k : ℕ) → is_in k (numbers_of (changes_in ls)) ≡ true → is_in k ns ≡ true
  pub state : State
  pub is : replay m ls ≡ store_of state
  pub used : IsInUse state

-- what they come to, read as a state, is that state
pub level_state : (m : Store) (ls : List MarkedEntry) (ns : List ℕ) → (v : IsLevel m ls ns)
    → state_of (replay m ls) ≡ v.state
level_state m ls ns v = ap state_of v.is ∙ state_of_store v.state v.used.sound

-- the changes may be named in any order
pub level_like : (m : Store) (ls : List MarkedEntry) (ns os : List ℕ) → ((k : ℕ) → is_in k ns ≡ is_in k os)
    → IsLevel m ls ns → IsLevel m ls os
level_like m ls ns os same v = record {
  standing = λ k among. v.standing k (same k ∙ among);
  only = λ k among. sym (same k) ∙ v.only k among;
  state = v.state;
  is = v.is;
  used = v.used;
}

-- ---- an entry that writes nothing

-- an entry that is no change, writes nothing, and isn't struck by an undo
pub record IsInert (l : MarkedEntry) : Type 0 where
  pub other : (j : ℕ) → is_change j l.act ≡ false
  pub writes : (q : Cell) → written (effect_of_entry l) q ≡ None
  pub fresh : (k : ℕ) → l.mark ≢ undone_with k

pub no_change_and : (mark : Mark) (a : Act) (ds : List Numbered) → ((j : ℕ) → is_change j a ≡ false)
    → change_and mark a ds ≡ ds
no_change_and kept (change n c) ds other = let same : eqb n n ≡ true = eq-eqb n n refl in let none = other n in
    let no : true ≡ false = sym same ∙ none in cc
no_change_and kept (step x done l) ds other = refl
no_change_and kept (undoing n) ds other = refl
no_change_and kept nothing ds other = refl
no_change_and (undone_with k) a ds other = refl
no_change_and lost a ds other = refl

pub inert_front : (m : Store) (ls : List MarkedEntry) (ns : List ℕ) (l : MarkedEntry) → IsInert l → IsLevel m ls ns
    → IsLevel m (l ∷ ls) ns
inert_front m ls ns l i v = record {
  standing = λ k among. one_more m k ls l (λ j low. i.other j) (i.fresh k) (v.standing k among);
  only = λ k among. v.only k
      (ap (λ ds. is_in k (numbers_of ds)) (sym (no_change_and l.mark l.act (changes_in ls) i.other)) ∙ among);
  state = v.state;
  is = same_store _ _ (λ q. skipped m q l ls (i.writes q)) ∙ v.is;
  used = v.used;
}

-- ---- a step that counts

unwrap_by : {A : Type 0} (b : Bool) (x d : A) → unwrap_or (cond b (Some x) None) d ≡ cond b x d
unwrap_by true x d = refl
unwrap_by false x d = refl

value_by : (b : Bool) (x y : Option Live) → cond b (of_live x) (of_live y) ≡ of_live (cond b x y)
value_by true x y = refl
value_by false x y = refl

-- a state with this live record at a subchannel
abbrev pub with_live : State → SubId → Option Live → State
with_live s x l = record { config = s.config; numbers = s.numbers; lives = with_value s.lives x l }

-- that is what a step writes
pub step_store : (s : State) (x : SubId) (done : Step) (l : Option Live)
    → store_with (effect_of_act (step x done l)) (store_of s) ≡ store_of (with_live s x l)
step_store s x done l = same_store _ _ by
  where
    f : Effect
    f = effect_of_act (step x done l)

    by : (q : Cell) → read (store_with f (store_of s)) q ≡ read (store_of (with_live s x l)) q
    by (at_key k) = read_with f (store_of s) (at_key k)
        ∙ ap (λ o. unwrap_or o (of_record (get s.config k))) (none_written (at_key k))
    by (at_number c) = read_with f (store_of s) (at_number c)
        ∙ ap (λ o. unwrap_or o (of_device (get (cells_of s.numbers) c))) (none_written (at_number c))
    by (at_subchannel y) = read_with f (store_of s) (at_subchannel y)
        ∙ ap (λ o. unwrap_or o (of_live (get s.lives y))) (step_writes x y done l)
        ∙ unwrap_by (eq_by_cmp sub_id_cmp y x) (of_live l) (of_live (get s.lives y))
        ∙ value_by (eq_by_cmp sub_id_cmp y x) l (get s.lives y)
        ∙ ap of_live (sym (get_with_value sub_ids_total sub_ids_exact s.lives x l y))

-- a live record where something is seen, or none where nothing is, leaves a state in use
pub with_live_in_use : (s : State) (x : SubId) (l : Option Live) → is_some l ≡ is_some (seen_in s x) → IsInUse s
    → IsInUse (with_live s x l)
with_live_in_use s x l right used = record {
  sound = record {
    keyed = used.sound.keyed;
    numbered = used.sound.numbered;
    lived = λ y. ap is_some (get_with_value sub_ids_total sub_ids_exact s.lives x l y)
        ∙ by y (eq_by_cmp sub_id_cmp y x) refl;
  };
  rules = used.rules;
}
  where
    by : (y : SubId) (b : Bool) → eq_by_cmp sub_id_cmp y x ≡ b
        → is_some (cond b l (get s.lives y)) ≡ is_some (seen_in s y)
    by y true is = right ∙ ap (λ z. is_some (seen_in s z)) (sym (same_key sub_id_cmp sub_ids_exact y x is))
    by y false is = used.sound.lived y

pub step_front : (m : Store) (ls : List MarkedEntry) (ns : List ℕ) (x : SubId) (done : Step) (l : Option Live)
    (v : IsLevel m ls ns)
    → is_some l ≡ is_some (seen_in v.state x) → IsLevel m (entry (step x done l) kept ∷ ls) ns
step_front m ls ns x done l v right = record {
  standing = λ k among. one_more m k ls (entry (step x done l) kept) (λ j low. refl) (λ e. cc) (v.standing k among);
  only = v.only;
  state = with_live v.state x l;
  is = ap (store_with (effect_of_act (step x done l))) v.is ∙ step_store v.state x done l;
  used = with_live_in_use v.state x l right v.used;
}

-- ---- a new change

-- no change has a greater number than this, and no entry is struck by its undo
pub record IsAhead (count : ℕ) (ls : List MarkedEntry) : Type 0 where
  pub none : (j : ℕ) → count < j → has (is_change j) ls ≡ false
  pub unmarked : (j : ℕ) → count < j → IsUnmarked j ls

-- a change is ready in a state: it was made in one with its configuration and numbers, and with its
-- live records where the change alters them
pub record IsReady (c : Change) (s : State) : Type 0 where
  pub was_made : WasMade c
  pub config : s.config ≡ c.from.config
  pub numbers : s.numbers ≡ c.from.numbers
  pub lives : (x : SubId) → is_among x (altered c) ≡ true → get s.lives x ≡ get c.from.lives x

-- the state that it leaves
abbrev pub state_changed : Change → State → State
state_changed c s = let t = state_after_all c.edits c.from in
    record {
      config = t.config;
      numbers = t.numbers;
      lives = with_cells (entries (cells_at t.lives (cells_of_change c).subchannels)) s.lives;
    }

module _ (c : Change) (s : State) (ready : IsReady c s) (used : IsInUse s) where
  abbrev t : State
  t = state_after_all c.edits c.from

  abbrev live_cells : List SubId
  live_cells = (cells_of_change c).subchannels

  pub state_changed_in_use : IsInUse (state_changed c s)
  state_changed_in_use =
      let left = left_in_use c ready.was_made in record {
        sound = record {
          keyed = left.sound.keyed;
          numbered = left.sound.numbered;
          lived = λ x. ap is_some (get_with_cells_as sub_ids_total sub_ids_exact t.lives live_cells s.lives x)
              ∙ by x (is_among x live_cells) refl;
        };
        rules = left.rules;
      }
    where
      by : (x : SubId) (b : Bool) → is_among x live_cells ≡ b
          → is_some (cond b (get t.lives x) (get s.lives x)) ≡ is_some (seen_in t x)
      by x true is = (left_in_use c ready.was_made).sound.lived x
      by x false is = used.sound.lived x ∙ (λ i. is_some (get (views_of (ready.config i) (ready.numbers i)) x))
          ∙ ap is_some (sym (off_sight c.edits c.from x is))

  -- that is what it writes
  pub changed_store : store_with (effect_of_change c) (store_of s) ≡ store_of (state_changed c s)
  changed_store = same_store _ _ (λ q. read_values t (cells_of_change c) (store_of s) q ∙ by q)
    where
      pick : {A B : Type 0} (f : A → B) (b : Bool) (x y z : A) → (b ≡ false → y ≡ z) → (b ≡ true → x ≡ z)
          → cond b (f x) (f y) ≡ f z
      pick f true x y z off on = ap f (on refl)
      pick f false x y z off on = ap f (off refl)

      live_by : (b : Bool) (x y : Option Live) → cond b (of_live x) (of_live y) ≡ of_live (cond b x y)
      live_by true x y = refl
      live_by false x y = refl

      by : (q : Cell) → cond (is_one_of (cells_of_change c) q) (read (store_of t) q) (read (store_of s) q)
          ≡ read (store_of (state_changed c s)) q
      by (at_key k) = pick of_record (is_one_of (cells_of_change c) (at_key k)) (get t.config k) (get s.config k)
          (get t.config k)
          (λ off. ap (λ z. get z k) ready.config ∙ sym (off_keys c.edits c.from k off)) (λ on. refl)
      by (at_number n) = pick of_device (is_one_of (cells_of_change c) (at_number n)) (get (cells_of t.numbers) n)
          (get (cells_of s.numbers) n) (get (cells_of t.numbers) n)
          (λ off. ap (λ z. get (cells_of z) n) ready.numbers ∙ sym (off_cells c.edits c.from n off)) (λ on. refl)
      by (at_subchannel x) = live_by (is_among x live_cells) (get t.lives x) (get s.lives x)
          ∙ ap of_live (sym (get_with_cells_as sub_ids_total sub_ids_exact t.lives live_cells s.lives x))

  -- its cells are as they were when it was made
  pub ready_cells : (q : Cell) → is_one_of (cells_of_change c) q ≡ true → read (store_of s) q ≡ read (store_of c.from) q
  ready_cells (at_key k) on = ap (λ z. of_record (get z k)) ready.config
  ready_cells (at_number n) on = ap (λ z. of_device (get (cells_of z) n)) ready.numbers
  ready_cells (at_subchannel x) on = ap of_live (ready.lives x (altered_cells c x ∙ on))

module _ (m : Store) (ls : List MarkedEntry) (ns : List ℕ) (count : ℕ) (ahead : IsAhead count ls)
    (v : IsLevel m ls ns) where
  -- a change that is there has a number that was given
  pub counted : (k : ℕ) → has (is_change k) ls ≡ true → k ≤ count
  counted k there = ⊎_elim (λ more. let none = ahead.none k more in let no : true ≡ false = sym there ∙ none in cc)
      (λ low. low) (cases_lt count k)

  module _ (c : Change) (ready : IsReady c v.state) where
    new_standing : IsStanding m (count + 1) (made (count + 1) c ∷ ls)
    new_standing = record {
      change = c;
      newer = [];
      older = ls;
      parts = refl;
      others = refl;
      first = λ j there. let low = counted j there in omega arith;
      was_made = ready.was_made;
      cells = λ q on. ap (λ z. read z q) v.is ∙ ready_cells c v.state ready v.used q on;
      near = λ earlier. record {
        records = ap (λ (z : Store). z.records) v.is ∙ ready.config;
        numbers = ap (λ (z : Store). z.numbers) v.is ∙ ap cells_of ready.numbers;
      };
      unmarked = ((λ e. cc), ahead.unmarked (count + 1) (omega arith));
    }

    stands : (k : ℕ) → (k ≡ count + 1) ⊎ (is_in k ns ≡ true) → IsStanding m k (made (count + 1) c ∷ ls)
    stands k (inl same) = subst (λ j. IsStanding m j (made (count + 1) c ∷ ls)) (sym same) new_standing
    stands k (inr among) =
        let low = counted k (standing_there m k ls (v.standing k among)) in
        one_more m k ls (made (count + 1) c) (λ j below. ne_eqb j (count + 1) (λ e. omega arith)) (λ e. cc)
        (v.standing k among)

    among_more : (k : ℕ) → (k ≡ count + 1) ⊎ (is_in k (numbers_of (changes_in ls)) ≡ true)
        → is_in k ((count + 1) ∷ ns) ≡ true
    among_more k (inl same) = or_left (eqb k (count + 1)) _ (eq-eqb k (count + 1) same)
    among_more k (inr among) = or_right (eqb k (count + 1)) _ (v.only k among)

    pub change_front : IsLevel m (made (count + 1) c ∷ ls) ((count + 1) ∷ ns)
    change_front = record {
      standing = λ k among. stands k (first_or_rest k (count + 1) ns among);
      only = λ k among. among_more k (first_or_rest k (count + 1) (numbers_of (changes_in ls)) among);
      state = state_changed c v.state;
      is = ap (store_with (effect_of_change c)) v.is ∙ changed_store c v.state ready v.used;
      used = state_changed_in_use c v.state ready v.used;
    }

-- ---- an undo

module _ (m : Store) (ls : List MarkedEntry) (ns : List ℕ) (v : IsLevel m ls ns) (n : ℕ)
    (here : is_in n ns ≡ true) where
  abbrev stood : IsStanding m n ls
  stood = v.standing n here

  abbrev c : Change
  c = stood.change

  -- the entries after it
  abbrev pub after_undo : List MarkedEntry
  after_undo = entry (undoing n) kept ∷ strike (altered c) n ls

  module _ (apart : AreApart (effect_of_change c) (changes_in (since n ls))) (back : IsTakenBack c v.state) where
    -- what they come to
    pub undone_is : replay m after_undo ≡ store_of back.state
    undone_is =
        same_store _ _ (λ q. skipped m q (entry (undoing n) kept) (strike (altered c) n ls) (none_written q))
        ∙ (λ i. replay m (strike (altered c) n (stood.parts i)))
        ∙ undone_store m n c stood.newer stood.older stood.others
        (subst (λ (ms : List MarkedEntry). AreApart (effect_of_change c) (changes_in ms)) (standing_since m n ls stood)
        apart) stood.cells
        ∙ (λ i. store_with (values_before c) (replay m (sym stood.parts i))) ∙ ap (store_with (values_before c)) v.is
        ∙ sym back.store

    others_stand : (k : ℕ) → is_in k (without n ns) ≡ true → IsStanding m k after_undo
    others_stand k among =
        let both = in_without n k ns among in
        still_standing m n c k ls both.1 (standing_change m n ls stood) apart (v.standing k both.0)

    not_itself : is_in n (numbers_of (changes_in (strike (altered c) n ls))) ≡ false
    not_itself =
        (λ i. is_in n (numbers_of (changes_in (strike (altered c) n (stood.parts i)))))
        ∙ struck_not_counted (altered c) n c stood.newer stood.older stood.others
        (false_from_ne_true _ (λ there. let low : n < n = stood.first n there in omega arith))

    only_others : (k : ℕ) → is_in k (numbers_of (changes_in (strike (altered c) n ls))) ≡ true
        → is_in k (without n ns) ≡ true
    only_others k among =
        among_without n k ns (v.only k (changes_struck (altered c) n k ls among))
        (λ same. let now : is_in n (numbers_of (changes_in (strike (altered c) n ls)))
        ≡ true = subst (λ j. is_in j (numbers_of (changes_in (strike (altered c) n ls))) ≡ true) (sym same) among in
        let no : true ≡ false = sym now ∙ not_itself in cc)

    pub undo_front : IsLevel m after_undo (without n ns)
    undo_front = record {
      standing = others_stand;
      only = only_others;
      state = back.state;
      is = undone_is;
      used = back.used;
    }
