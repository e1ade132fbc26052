-- Changes that share no cell with an undone one: its undo gives its cells back what they had before
-- it, and leaves all others.
use Rattle.std.proofs.Common.{◌≡◌, ℕ, Bool, true, false, cond, List, [], ◌∷◌, ◌++◌, Some, None, is_some, refl, sym, ap}
use Rattle.std.proofs.Common.{◌∙◌}
use Rattle.std.specs.Option.{option_map}
use Rattle.std.specs.FinMap.{get-empty}
use Rattle.iocm_types.specs.Key.{key_cmp}
use Rattle.iocm_types.specs.Place.{cell_cmp}
use Rattle.iocm_types.proofs.Tests.{absent}
use Rattle.iocm_model.specs.Change.Effect.{Effect}
use Rattle.iocm_history.specs.Store.{Store, store_of, store_with}
use Rattle.iocm_history.specs.Change.{Change, effect_of_change, cells_of_change, values_before, altered, share_a_cell}
use Rattle.iocm_history.specs.MarkedEntry.{MarkedEntry, is_change, change_at, strike}
use Rattle.iocm_history.specs.Account.{replay}
use Rattle.iocm_history.specs.StandsOn.{Numbered, changes_in}
use Rattle.iocm_history.proofs.OneCell.{Cell, at_key, at_number, at_subchannel, of_record, of_device, read, written}
use Rattle.iocm_history.proofs.OneCell.{is_one_of, read_values, same_store, altered_cells, change_writes, not_shared}
use Rattle.iocm_history.proofs.Striking.{has, made, IsOffSteps, IsOnSteps, off_steps, on_steps, unwritten, NoneWrites}
use Rattle.iocm_history.proofs.Striking.{written_before}
use Rattle.iocm_history.proofs.Passing.{change_past, change_here}

-- none of these changes wrote a cell that this effect wrote
abbrev pub AreApart : Effect → List Numbered → Type 0
AreApart f [] = Unit {0}
AreApart f (d ∷ ds) = (share_a_cell f (effect_of_change d.1) ≡ false) × AreApart f ds

pub apart_second : (f : Effect) (ds es : List Numbered) → AreApart f (ds ++ es) → AreApart f es
apart_second f [] es all = all
apart_second f (d ∷ ds) es all = apart_second f ds es all.1

-- so none writes at a cell that it wrote
pub none_writes : (f : Effect) (ds : List Numbered) (q : Cell) → AreApart f ds → is_some (written f q) ≡ true
    → NoneWrites q ds
none_writes f [] q all has = tt
none_writes f (d ∷ ds) q all has = (not_shared f (effect_of_change d.1) all.0 q has, none_writes f ds q all.1 has)

-- ---- the steps on the subchannels of a change

-- a cell that it didn't write is off the steps on them
pub off_altered : (c : Change) (q : Cell) → is_one_of (cells_of_change c) q ≡ false → IsOffSteps (altered c) q
off_altered c (at_key k) off x done l on = ap (option_map of_record) (get-empty key_cmp k)
off_altered c (at_number n) off x done l on = ap (option_map of_device) (get-empty cell_cmp n)
off_altered c (at_subchannel y) off x done l on = off_steps (altered c) y (altered_cells c y ∙ off) x done l on

-- and one that it wrote is off all other steps
pub on_altered : (c : Change) (q : Cell) → is_one_of (cells_of_change c) q ≡ true → IsOnSteps (altered c) q
on_altered c (at_key k) on x done l off = ap (option_map of_record) (get-empty key_cmp k)
on_altered c (at_number n) on x done l off = ap (option_map of_device) (get-empty cell_cmp n)
on_altered c (at_subchannel y) on x done l off = on_steps (altered c) y (altered_cells c y ∙ on) x done l off

-- a change writes nothing off its cells
pub writes_not : (c : Change) (q : Cell) → is_one_of (cells_of_change c) q ≡ false
    → written (effect_of_change c) q ≡ None
writes_not c q off = absent (written (effect_of_change c) q) (change_writes c q ∙ off)

pub same_some : (a b : Change) → Some a ≡ Some b → a ≡ b
same_some a b e = cc

-- ---- what the undo leaves

-- the entries before a change have its cells as they were when it was made
abbrev pub HasCellsBefore : Store → Change → Type 0
HasCellsBefore m c = (q : Cell) → is_one_of (cells_of_change c) q ≡ true → read m q ≡ read (store_of c.from) q

module _ (m : Store) (n : ℕ) (c : Change) where
  -- with the change struck out, a cell that it didn't write stays
  pub stays_without : (ls : List MarkedEntry) → change_at n ls ≡ Some c → (q : Cell)
      → is_one_of (cells_of_change c) q ≡ false
      → read (replay m (strike (altered c) n ls)) q ≡ read (replay m ls) q
  stays_without ls at q off =
      unwritten m q (altered c) n (off_altered c q off) ls
      (λ d found. let same : c ≡ d = same_some c d (sym at ∙ found) in
      ap (λ (z : Change). written (effect_of_change z) q) (sym same) ∙ writes_not c q off)

  module _ (newer older : List MarkedEntry) (others : has (is_change n) newer ≡ false)
      (apart : AreApart (effect_of_change c) (changes_in newer))
      (before : HasCellsBefore (replay m older) c) where
    abbrev all : List MarkedEntry
    all = newer ++ made n c ∷ older

    change_is : change_at n all ≡ Some c
    change_is = change_past n (made n c ∷ older) newer others ∙ change_here n c older

    cell_undone : (b : Bool) (q : Cell) → is_one_of (cells_of_change c) q ≡ b
        → read (replay m (strike (altered c) n all)) q ≡ cond b (read (store_of c.from) q) (read (replay m all) q)
    cell_undone true q is =
        written_before m q (altered c) n (on_altered c q is) c newer older others
        (none_writes (effect_of_change c) (changes_in newer) q apart (change_writes c q ∙ is)) ∙ before q is
    cell_undone false q is = stays_without all change_is q is

    -- the undo puts the cells of the change back
    pub undone_store : replay m (strike (altered c) n all) ≡ store_with (values_before c) (replay m all)
    undone_store = same_store _ _
        (λ q. cell_undone (is_one_of (cells_of_change c) q) q refl
        ∙ sym (read_values c.from (cells_of_change c) (replay m all) q))
