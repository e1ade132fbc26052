-- A standing change on which nothing stands fits, and no later change shares a cell with it.
use Rattle.std.proofs.Common.{◌≡◌, ℕ, ◌<◌, Bool, true, false, cond, not, ◌&&◌, ◌||◌, eqb, nat_lt, List, [], ◌∷◌, ◌++◌}
use Rattle.std.proofs.Common.{filter, None, refl, sym, ap, subst, ◌∙◌}
use Rattle.std.proofs.lemmas.Bool.{eqb-true, lt-ltb, and_from}
use Rattle.std.specs.Option.{option_map}
use Rattle.std.specs.FinMap.{get, get-empty}
use Rattle.iocm_types.specs.Key.{key_cmp}
use Rattle.iocm_types.specs.Place.{cell_cmp}
use Rattle.iocm_model.specs.Machine.Numbering.{numbering_of}
use Rattle.iocm_model.specs.Operation.State.{State, HasConfigAndNumbersOf}
use Rattle.iocm_model.specs.Change.Runs.{state_after_all}
use Rattle.iocm_model.proofs.Numbers.Cells.{cells_give_numbers}
use Rattle.iocm_model.proofs.Change.RunsGoBack.{off_keys, off_cells}
use Rattle.iocm_history.specs.Store.{Store, store_of}
use Rattle.iocm_history.specs.Change.{Change, effect_of_change, cells_of_change, share_a_cell}
use Rattle.iocm_history.specs.Fits.{fits}
use Rattle.iocm_history.specs.MarkedEntry.{Act, step, change, undoing, nothing, Mark, kept, undone_with, lost}
use Rattle.iocm_history.specs.MarkedEntry.{MarkedEntry}
use Rattle.iocm_history.specs.Account.{replay}
use Rattle.iocm_history.specs.StandsOn.{Numbered, since, change_and, changes_in, undos_in, counts, undone_since}
use Rattle.iocm_history.specs.StandsOn.{numbers_of, standing_on, greatest, greatest_on, stands_on}
use Rattle.iocm_history.specs.Journal.{is_in}
use Rattle.iocm_history.proofs.OneCell.{Cell, at_key, at_number, of_record, of_device, read, is_one_of, read_values}
use Rattle.iocm_history.proofs.OneCell.{none_written, records_read, numbers_read}
use Rattle.iocm_history.proofs.Striking.{made, entry, passed, IsOnSteps}
use Rattle.iocm_history.proofs.Apart.{AreApart}
use Rattle.iocm_history.proofs.Standing.{IsStanding, HasRecordsAndNumbersOf, EarlierCount, standing_change}
use Rattle.iocm_history.proofs.Standing.{standing_since}
use Rattle.iocm_history.proofs.Level.{IsLevel}
use Rattle.iocm_history.proofs.WasMade.{left_in_use}
use Rattle.iocm_history.proofs.FitsAsMade.{fits_as_made}

-- ---- nothing stands on it

pub none_greatest : (ns : List ℕ) → greatest ns ≡ None → ns ≡ []
none_greatest [] is = refl
none_greatest (n ∷ ns) is = cc

no_numbers : (ds : List Numbered) → numbers_of ds ≡ [] → ds ≡ []
no_numbers [] is = refl
no_numbers (d ∷ ds) is = cc

no_first : {A : Type 0} (xs ys : List A) → xs ++ ys ≡ [] → xs ≡ []
no_first [] ys is = refl
no_first (x ∷ xs) ys is = cc

no_second : {A : Type 0} (xs ys : List A) → xs ++ ys ≡ [] → ys ≡ []
no_second [] ys is = is
no_second (x ∷ xs) ys is = cc

none_share : (c : Change) (ds : List Numbered)
    → filter (λ (d : Numbered). share_a_cell (effect_of_change c) (effect_of_change d.1)) ds ≡ []
    → AreApart (effect_of_change c) ds
none_share c [] is = tt
none_share c (d ∷ ds) is = by (share_a_cell (effect_of_change c) (effect_of_change d.1)) refl is (none_share c ds)
  where
    by : (b : Bool) → share_a_cell (effect_of_change c) (effect_of_change d.1) ≡ b
        → cond b (d ∷ filter (λ (d : Numbered). share_a_cell (effect_of_change c) (effect_of_change d.1)) ds)
        (filter (λ (d : Numbered). share_a_cell (effect_of_change c) (effect_of_change d.1)) ds) ≡ []
        → (filter (λ (d : Numbered). share_a_cell (effect_of_change c) (effect_of_change d.1)) ds ≡ []
        → AreApart (effect_of_change c) ds)
        → AreApart (effect_of_change c) (d ∷ ds)
    by true e is more = cc
    by false e is more = (e, more is)

none_undone : (k : ℕ) (ls : List MarkedEntry) (us : List ℕ) → filter (λ m. nat_lt m k && not (counts m ls)) us ≡ []
    → (j : ℕ) → is_in j us ≡ true → j < k → counts j ls ≡ true
none_undone k ls [] none j among low = cc
none_undone k ls (u ∷ us) none j among low =
    by (eqb j u) (nat_lt u k && not (counts u ls)) refl refl among none (none_undone k ls us)
  where
    counted : (b : Bool) → (nat_lt u k && not b) ≡ false → nat_lt u k ≡ true → b ≡ true
    counted true none less = refl
    counted false none less = let now : (nat_lt u k && true) ≡ true = and_from _ _ less refl in let no : true ≡ false =
        sym now ∙ none in cc

    by : (b d : Bool) → eqb j u ≡ b → (nat_lt u k && not (counts u ls)) ≡ d → (b || is_in j us) ≡ true
        → cond d (u ∷ filter (λ m. nat_lt m k && not (counts m ls)) us)
        (filter (λ m. nat_lt m k && not (counts m ls)) us) ≡ []
        → (filter (λ m. nat_lt m k && not (counts m ls)) us ≡ [] → (j : ℕ) → is_in j us ≡ true → j < k
        → counts j ls ≡ true) → counts j ls ≡ true
    by b true e f among none more = cc
    by false false e f among none more = more none j among low
    by true false e f among none more =
        let same = eqb-true j u e in
        ap (λ i. counts i ls) same ∙ counted (counts u ls) f (lt-ltb u k (subst (λ i. i < k) same low))

-- ---- steps leave the records and the numbers

-- a cell that no step writes is left by entries of which no change counts
pub passes_steps : (m : Store) (q : Cell) → IsOnSteps [] q → (newer older : List MarkedEntry) → changes_in newer ≡ []
    → read (replay m (newer ++ older)) q ≡ read (replay m older) q
passes_steps m q off [] older none = refl
passes_steps m q off (l ∷ newer) older none = by l.mark l.act (changes_in newer) none (passes_steps m q off newer older)
  where
    rest : List MarkedEntry
    rest = newer ++ older

    by : (mark : Mark) (a : Act) (ds : List Numbered) → change_and mark a ds ≡ []
        → (ds ≡ [] → read (replay m rest) q ≡ read (replay m older) q)
        → read (replay m (entry a mark ∷ rest)) q ≡ read (replay m older) q
    by kept (step x done live) ds none more = passed m q (step x done live) kept rest (off x done live refl) ∙ more none
    by kept (change n c) ds none more = cc
    by kept (undoing n) ds none more = passed m q (undoing n) kept rest (none_written q) ∙ more none
    by kept nothing ds none more = passed m q nothing kept rest (none_written q) ∙ more none
    by (undone_with k) a ds none more = passed m q a (undone_with k) rest (none_written q) ∙ more none
    by lost a ds none more = passed m q a lost rest (none_written q) ∙ more none

pub record_off : (key : _) → IsOnSteps [] (at_key key)
record_off key x done l off = ap (option_map of_record) (get-empty key_cmp key)

pub device_off : (c : _) → IsOnSteps [] (at_number c)
device_off c x done l off = ap (option_map of_device) (get-empty cell_cmp c)

pick : {A : Type 0} (b : Bool) (x y z : A) → (b ≡ false → y ≡ z) → (b ≡ true → x ≡ z) → cond b x y ≡ z
pick true x y z off on = on refl
pick false x y z off on = off refl

-- ---- the state now has the configuration and the numbers that the change left

module _ (m : Store) (k : ℕ) (ls : List MarkedEntry) (ns : List ℕ) (v : IsLevel m ls ns) (s : IsStanding m k ls) where
  abbrev c : Change
  c = s.change

  abbrev t : State
  t = state_after_all c.edits c.from

  module _ (none : changes_in s.newer ≡ []) (like : HasRecordsAndNumbersOf (replay m s.older) c.from) where
    now : (q : Cell) → IsOnSteps [] q
        → (is_one_of (cells_of_change c) q ≡ false → read (replay m s.older) q ≡ read (store_of t) q)
        → read (store_of v.state) q ≡ read (store_of t) q
    now q off same =
        ap (λ z. read z q) (sym v.is) ∙ (λ i. read (replay m (s.parts i)) q)
        ∙ passes_steps m q off s.newer (made k c ∷ s.older) none
        ∙ read_values t (cells_of_change c) (replay m s.older) q
        ∙ pick (is_one_of (cells_of_change c) q) (read (store_of t) q) (read (replay m s.older) q) (read (store_of t) q)
        same (λ on. refl)

    like_now : HasConfigAndNumbersOf v.state t
    like_now =
        let records = records_read (store_of v.state) (store_of t)
        (λ key. now (at_key key) (record_off key)
        (λ off. ap (λ z. of_record (get z key)) like.records
        ∙ ap of_record (sym (off_keys c.edits c.from key off)))) in
        let cells = numbers_read (store_of v.state) (store_of t)
        (λ n. now (at_number n) (device_off n)
        (λ off. ap (λ z. of_device (get z n)) like.numbers ∙ ap of_device (sym (off_cells c.edits c.from n off))))
        in
        record {
          config = records;
          numbers = sym (cells_give_numbers v.state.config v.state.numbers v.used.sound.numbered)
              ∙ ap numbering_of cells
              ∙ cells_give_numbers t.config t.numbers (left_in_use c s.was_made).sound.numbered;
          lived = v.used.sound.lived;
        }

  -- where no later change counts, and the earlier ones that were undone since do, it fits
  pub fits_alone : changes_in s.newer ≡ [] → EarlierCount k s.newer ls → fits c v.state ≡ true
  fits_alone none earlier = fits_as_made c v.state s.was_made (like_now none (s.near earlier))

  -- it fits, and it is apart from all later ones
  pub record IsFree : Type 0 where
    pub fit : fits c v.state ≡ true
    pub apart : AreApart (effect_of_change c) (changes_in (since k ls))

  free_by : (b : Bool) → fits c v.state ≡ b → standing_on k c ls b ≡ [] → IsFree
  free_by true is none = record {
    fit = is;
    apart = none_share c (changes_in (since k ls)) (no_numbers _ none);
  }
  free_by false is none =
      let no_later = no_numbers (changes_in (since k ls))
      (no_first (numbers_of (changes_in (since k ls))) (undone_since k ls) none) in
      let no_undone = no_second (numbers_of (changes_in (since k ls))) (undone_since k ls) none in
      let newer : changes_in s.newer ≡ [] = ap changes_in (sym (standing_since m k ls s)) ∙ no_later in
      let earlier : EarlierCount k s.newer ls = λ j among low. none_undone k ls (undos_in (since k ls)) no_undone j
      (ap (λ ms. is_in j (undos_in ms)) (standing_since m k ls s) ∙ among) low in
      let fitted = fits_alone newer earlier in
      let no : true ≡ false = sym fitted ∙ is in cc

  -- where nothing stands on it
  pub free_where_nothing_stands : stands_on k ls v.state ≡ None → IsFree
  free_where_nothing_stands none =
      free_by (fits c v.state) refl
      (none_greatest (standing_on k c ls (fits c v.state))
      (ap (λ o. greatest_on k o ls v.state) (sym (standing_change m k ls s)) ∙ none))
