-- A standing change among the entries of a history, and that it goes on standing.
use Rattle.std.proofs.Common.{◌≡◌, ◌≢◌, ℕ, ◌<◌, ◌≤◌, Bool, true, false, cond, eqb, List, [], ◌∷◌, ◌++◌, Some, is_some}
use Rattle.std.proofs.Common.{refl, sym, ap, subst, ◌∙◌, arith}
use Rattle.std.proofs.lemmas.Bool.{or_from, or_left, or_right, eq-eqb, ne_eqb}
use Rattle.iocm_types.specs.declared.sub_id.SubId.{SubId}
use Rattle.iocm_model.specs.Machine.Numbering.{cells_of}
use Rattle.iocm_model.specs.Operation.State.{State}
use Rattle.iocm_history.specs.Store.{Store}
use Rattle.iocm_history.specs.Change.{Change, effect_of_change, cells_of_change, altered, share_a_cell}
use Rattle.iocm_history.specs.MarkedEntry.{Act, step, change, undoing, nothing, kept, undone_with, MarkedEntry}
use Rattle.iocm_history.specs.MarkedEntry.{is_change, change_at, strike}
use Rattle.iocm_history.specs.Account.{replay}
use Rattle.iocm_history.specs.StandsOn.{since, changes_in, undo_and, undos_in, is_kept, counts}
use Rattle.iocm_history.specs.Journal.{is_in}
use Rattle.iocm_history.specs.MarkLaws.{IsUnmarked}
use Rattle.iocm_history.proofs.OneCell.{Cell, written, is_one_of, change_writes, not_shared}
use Rattle.iocm_history.proofs.Remarked.{not_new_strike, unmarked_then}
use Rattle.iocm_history.proofs.Striking.{has, made, entry}
use Rattle.iocm_history.proofs.Apart.{AreApart, apart_second, HasCellsBefore, stays_without}
use Rattle.iocm_history.proofs.Passing.{has_struck, undos_struck, has_append, changes_append, since_past, since_here}
use Rattle.iocm_history.proofs.Passing.{counts_past, counts_here, change_past, change_here, change_there, strike_append}
use Rattle.iocm_history.proofs.Passing.{strike_other, counts_struck, not_counted}
use Rattle.iocm_history.proofs.WasMade.{WasMade}

-- the records and the numbers of a store are those of a state
pub record HasRecordsAndNumbersOf (m : Store) (s : State) : Type 0 where
  pub records : m.records ≡ s.config
  pub numbers : m.numbers ≡ cells_of s.numbers

-- each earlier change that was undone among some entries counts
abbrev pub EarlierCount : ℕ → List MarkedEntry → List MarkedEntry → Type 0
EarlierCount k newer ls = (j : ℕ) → is_in j (undos_in newer) ≡ true → j < k → counts j ls ≡ true

-- the change of this number stands. It counts; the entries before it have its cells as they were
-- when it was made, and also all records and numbers if the earlier changes that were undone since
-- count again; older changes have smaller numbers; its undo marks nothing
pub record IsStanding (m : Store) (k : ℕ) (ls : List MarkedEntry) : Type 0 where
  pub change : Change
  pub newer : List MarkedEntry
  pub older : List MarkedEntry
  pub parts : ls ≡ newer ++ made k change ∷ older
  pub others : has (is_change k) newer ≡ false
  pub first : (j : ℕ) → has (is_change j) older ≡ true → j < k
  pub was_made : WasMade change
  pub cells : HasCellsBefore (replay m older) change
  pub near : EarlierCount k newer ls → HasRecordsAndNumbersOf (replay m older) change.from
  pub unmarked : IsUnmarked k ls

module _ (m : Store) (k : ℕ) (ls : List MarkedEntry) (s : IsStanding m k ls) where
  -- it is the change of its number
  pub standing_change : change_at k ls ≡ Some s.change
  standing_change = ap (change_at k) s.parts ∙ change_past k (made k s.change ∷ s.older) s.newer s.others
      ∙ change_here k s.change s.older

  pub standing_counts : counts k ls ≡ true
  standing_counts = ap (counts k) s.parts ∙ counts_past k (made k s.change ∷ s.older) s.newer s.others
      ∙ counts_here k s.change s.older

  -- the entries since it are the newer ones
  pub standing_since : since k ls ≡ s.newer
  standing_since = ap (since k) s.parts ∙ since_past k (made k s.change ∷ s.older) s.newer s.others
      ∙ ap (λ ms. s.newer ++ ms) (since_here k s.change s.older) ∙ append_none s.newer
    where
      append_none : (ms : List MarkedEntry) → ms ++ [] ≡ ms
      append_none [] = refl
      append_none (l ∷ ms) = ap (λ os. l ∷ os) (append_none ms)

  -- it is there
  pub standing_there : has (is_change k) ls ≡ true
  standing_there = ap (has (is_change k)) s.parts ∙ has_append (is_change k) s.newer (made k s.change ∷ s.older)
      ∙ or_right (has (is_change k) s.newer) _ (or_left (eqb k k) _ (eq-eqb k k refl))

-- ---- one entry more

later_undo : (j : ℕ) (a : Act) (us : List ℕ) → is_in j us ≡ true → is_in j (undo_and a us) ≡ true
later_undo j (step x done l) us is = is
later_undo j (change n c) us is = is
later_undo j (undoing n) us is = or_right (eqb j n) _ is
later_undo j nothing us is = is

-- an entry that is no change of such a number, and isn't struck by the undo of the change, only
-- lengthens what came since
pub one_more : (m : Store) (k : ℕ) (ls : List MarkedEntry) (l : MarkedEntry)
    → ((j : ℕ) → j ≤ k → is_change j l.act ≡ false) → l.mark ≢ undone_with k
    → IsStanding m k ls → IsStanding m k (l ∷ ls)
one_more m k ls l others fresh s = record {
  change = s.change;
  newer = l ∷ s.newer;
  older = s.older;
  parts = ap (λ ms. l ∷ ms) s.parts;
  others = or_from (is_change k l.act) _ (others k (omega arith)) s.others;
  first = s.first;
  was_made = s.was_made;
  cells = s.cells;
  near = λ earlier. s.near
      (λ j among low. sym (past j (others j (omega arith)))
      ∙ earlier j (later_undo j l.act (undos_in s.newer) among) low);
  unmarked = (fresh, s.unmarked);
}
  where
    past : (j : ℕ) → is_change j l.act ≡ false → counts j (l ∷ ls) ≡ counts j ls
    past j other = ap (λ b. cond b (is_kept l.mark) (counts j ls)) other

-- ---- the undo of another change

-- the undo of a change that shares no cell with it: it goes on standing
module _ (m : Store) (n : ℕ) (c : Change) (k : ℕ) (ls : List MarkedEntry) (other : n ≢ k) (at : change_at n ls ≡ Some c)
    (apart : AreApart (effect_of_change c) (changes_in (since n ls))) (s : IsStanding m k ls) where
  abbrev xs : List SubId
  xs = altered c

  -- where it is newer than that change, they share no cell
  apart_from : has (is_change n) s.newer ≡ false → share_a_cell (effect_of_change c) (effect_of_change s.change) ≡ false
  apart_from none =
      let past : since n ls ≡ s.newer ++ since n (made k s.change ∷ s.older) =
      ap (since n) s.parts ∙ since_past n (made k s.change ∷ s.older) s.newer none in
      let apart_k : eqb n k ≡ false = ne_eqb n k other in
      let here : since n (made k s.change ∷ s.older) ≡ made k s.change ∷ since n s.older =
      ap (λ b. cond b [] (made k s.change ∷ since n s.older)) apart_k in
      let whole = subst (λ (ms : List MarkedEntry). AreApart (effect_of_change c) (changes_in ms))
      (past ∙ ap (λ ms. s.newer ++ ms) here) apart in
      let parts = subst (AreApart (effect_of_change c)) (changes_append s.newer (made k s.change ∷ since n s.older))
      whole in
      (apart_second (effect_of_change c) (changes_in s.newer) (changes_in (made k s.change ∷ since n s.older)) parts).0

  not_written : (b : Bool) (q : Cell) → is_one_of (cells_of_change c) q ≡ b
      → is_one_of (cells_of_change s.change) q ≡ true
      → share_a_cell (effect_of_change c) (effect_of_change s.change) ≡ false → b ≡ false
  not_written false q is own apart_k = refl
  not_written true q is own apart_k =
      let none = not_shared (effect_of_change c) (effect_of_change s.change) apart_k q (change_writes c q ∙ is) in
      let there : is_some (written (effect_of_change s.change) q) ≡ true = change_writes s.change q ∙ own in
      let gone : is_some (written (effect_of_change s.change) q) ≡ false = ap is_some none in
      cc

  older_change : has (is_change n) s.newer ≡ false → change_at n s.older ≡ Some c
  older_change none =
      let apart_k : eqb n k ≡ false = ne_eqb n k other in
      sym (ap (λ b. cond b (Some s.change) (change_at n s.older)) apart_k)
      ∙ sym (change_past n (made k s.change ∷ s.older) s.newer none) ∙ sym (ap (change_at n) s.parts) ∙ at

  -- the entries before it have its cells as they were
  older_cells : has (is_change n) s.newer ≡ false → HasCellsBefore (replay m (strike xs n s.older)) s.change
  older_cells none q own =
      stays_without m n c s.older (older_change none) q
      (not_written (is_one_of (cells_of_change c) q) q refl own (apart_from none)) ∙ s.cells q own

  -- the entries after the undo
  abbrev after : List MarkedEntry
  after = entry (undoing n) kept ∷ strike xs n ls

  still_unmarked : IsUnmarked k after
  still_unmarked = ((λ e. cc), unmarked_then k ls (strike xs n ls) (not_new_strike xs k n other ls) s.unmarked)

  still_earlier : EarlierCount k (entry (undoing n) kept ∷ strike xs n s.newer) after → EarlierCount k s.newer ls
  still_earlier earlier j among low =
      counts_struck xs n j ls (earlier j (or_right (eqb j n) _ (ap (is_in j) (undos_struck xs n s.newer) ∙ among)) low)

  -- the undone change is older: it doesn't count any more
  not_again : (P : Type 0) → n < k → EarlierCount k (entry (undoing n) kept ∷ strike xs n s.newer) after → P
  not_again P low earlier =
      let again : counts n (strike xs n ls) ≡ true = earlier n (or_left (eqb n n) _ (eq-eqb n n refl)) low in
      let gone = not_counted xs n ls in
      let no : true ≡ false = sym again ∙ gone in
      cc

  pub stands_by : (b : Bool) → has (is_change n) s.newer ≡ b → IsStanding m k after
  stands_by true is = record {
    change = s.change;
    newer = entry (undoing n) kept ∷ strike xs n s.newer;
    older = s.older;
    parts = ap (λ ms. entry (undoing n) kept ∷ ms)
        (ap (strike xs n) s.parts ∙ strike_append xs n s.newer (made k s.change ∷ s.older)
        ∙ ap (λ b. strike xs n s.newer ++ cond b (made k s.change ∷ s.older) (strike xs n (made k s.change ∷ s.older)))
        is);
    others = has_struck (is_change k) xs n s.newer ∙ s.others;
    first = s.first;
    was_made = s.was_made;
    cells = s.cells;
    near = λ earlier. s.near (still_earlier earlier);
    unmarked = still_unmarked;
  }
  stands_by false is = record {
    change = s.change;
    newer = entry (undoing n) kept ∷ strike xs n s.newer;
    older = strike xs n s.older;
    parts = ap (λ ms. entry (undoing n) kept ∷ ms)
        (ap (strike xs n) s.parts ∙ strike_append xs n s.newer (made k s.change ∷ s.older)
        ∙ ap (λ b. strike xs n s.newer ++ cond b (made k s.change ∷ s.older) (strike xs n (made k s.change ∷ s.older)))
        is
        ∙ ap (λ ms. strike xs n s.newer ++ ms) (strike_other xs n k s.change s.older other));
    others = has_struck (is_change k) xs n s.newer ∙ s.others;
    first = λ j there. s.first j (sym (has_struck (is_change j) xs n s.older) ∙ there);
    was_made = s.was_made;
    cells = older_cells is;
    near = λ earlier. not_again (HasRecordsAndNumbersOf (replay m (strike xs n s.older)) s.change.from)
        (s.first n (there is)) earlier;
    unmarked = still_unmarked;
  }
    where
      there : has (is_change n) s.newer ≡ false → has (is_change n) s.older ≡ true
      there none = change_there n s.older (ap is_some (older_change none))

  -- it goes on standing
  pub still_standing : IsStanding m k after
  still_standing = stands_by (has (is_change n) s.newer) refl
