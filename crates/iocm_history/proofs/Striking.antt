-- What striking out a change and steps does to the replay, cell by cell.
use Rattle.std.proofs.Common.{◌≡◌, ℕ, Bool, true, false, cond, eqb, List, [], ◌∷◌, ◌++◌, Option, Some, None, refl, sym}
use Rattle.std.proofs.Common.{ap, ◌∙◌}
use Rattle.std.proofs.lemmas.Bool.{or_parts, eq-eqb}
use Rattle.std.specs.List.{list_any}
use Rattle.std.specs.Option.{unwrap_or}
use Rattle.iocm_types.specs.declared.live.Live.{Live}
use Rattle.iocm_types.specs.declared.sub_id.SubId.{SubId}
use Rattle.iocm_types.specs.SubId.{sub_id_cmp}
use Rattle.iocm_types.specs.KeyOrder.{sub_ids_exact}
use Rattle.iocm_types.proofs.Found.{same_key}
use Rattle.std.specs.Ordering.{eq_by_cmp}
use Rattle.iocm_model.specs.Change.Effect.{Effect}
use Rattle.iocm_model.specs.Operation.State.{is_among}
use Rattle.iocm_model.specs.Operation.Step.{Step}
use Rattle.iocm_history.specs.Store.{Store}
use Rattle.iocm_history.specs.Change.{Change, effect_of_change}
use Rattle.iocm_history.specs.MarkedEntry.{Act, step, change, undoing, nothing, Mark, kept, undone_with, lost}
use Rattle.iocm_history.specs.MarkedEntry.{MarkedEntry, effect_of_act, effect_if_kept, effect_of_entry, is_change}
use Rattle.iocm_history.specs.MarkedEntry.{is_step_on, change_or, change_at, struck_mark, struck, struck_if, strike}
use Rattle.iocm_history.specs.Account.{replay}
use Rattle.iocm_history.specs.StandsOn.{Numbered, change_and, changes_in}
use Rattle.iocm_history.proofs.OneCell.{Cell, at_subchannel, Value, of_live, read, written, none_written, read_with}
use Rattle.iocm_history.proofs.OneCell.{step_writes}

-- ---- tests of entries

-- some entry of these passes a test of its act
abbrev pub has : (Act → Bool) → List MarkedEntry → Bool
has test ls = list_any (λ (l : MarkedEntry). test l.act) ls

-- a change as it is made
abbrev pub made : ℕ → Change → MarkedEntry
made n c = record { act = change n c; mark = kept }

-- an entry
abbrev pub entry : Act → Mark → MarkedEntry
entry a mark = record { act = a; mark = mark }

-- ---- what entries write

module _ (m : Store) (q : Cell) where
  -- an entry that doesn't write a cell leaves it
  pub skipped : (l : MarkedEntry) (ls : List MarkedEntry) → written (effect_of_entry l) q ≡ None
      → read (replay m (l ∷ ls)) q ≡ read (replay m ls) q
  skipped l ls none = read_with (effect_of_entry l) (replay m ls) q ∙ ap (λ o. unwrap_or o (read (replay m ls) q)) none

  pub passed : (a : Act) (mark : Mark) (ls : List MarkedEntry)
      → written (effect_if_kept mark (effect_of_act a)) q ≡ None
      → read (replay m (entry a mark ∷ ls)) q ≡ read (replay m ls) q
  passed a mark ls none = skipped (entry a mark) ls none

  -- two entries that write the same at a cell, after entries that leave the same there
  pub alike : (l k : MarkedEntry) (ls ks : List MarkedEntry)
      → written (effect_of_entry l) q ≡ written (effect_of_entry k) q
      → read (replay m ls) q ≡ read (replay m ks) q → read (replay m (l ∷ ls)) q ≡ read (replay m (k ∷ ks)) q
  alike l k ls ks same rest =
      read_with (effect_of_entry l) (replay m ls) q ∙ (λ i. unwrap_or (same i) (rest i))
      ∙ sym (read_with (effect_of_entry k) (replay m ks) q)

  -- an act that doesn't write a cell doesn't, struck or not
  pub inert : (mark : Mark) (a : Act) → written (effect_of_act a) q ≡ None
      → written (effect_if_kept mark (effect_of_act a)) q ≡ None
  inert kept a none = none
  inert (undone_with n) a none = none_written q
  inert lost a none = none_written q

  -- nor does one that is struck
  pub by_undo : (n : ℕ) (mark : Mark) (f : Effect)
      → written (effect_if_kept (struck_mark (undone_with n) mark) f) q ≡ None
  by_undo n kept f = none_written q
  by_undo n (undone_with k) f = none_written q
  by_undo n lost f = none_written q

-- ---- steps write at their subchannel alone

-- a cell that no step on these subchannels writes; and one that no step elsewhere writes
abbrev pub IsOffSteps : List SubId → Cell → Type 0
IsOffSteps xs q = (x : SubId) (done : Step) (l : Option Live) → is_among x xs ≡ true
    → written (effect_of_act (step x done l)) q ≡ None

abbrev pub IsOnSteps : List SubId → Cell → Type 0
IsOnSteps xs q = (x : SubId) (done : Step) (l : Option Live) → is_among x xs ≡ false
    → written (effect_of_act (step x done l)) q ≡ None

apart : (b : Bool) (x y : SubId) (v : Value) → (b ≡ true → ⊥) → cond b (Some v) None ≡ None
apart true x y v other = absurd (other refl)
apart false x y v other = refl

-- a subchannel that isn't among these is off the steps on them; one that is, is off all other steps
pub off_steps : (xs : List SubId) (y : SubId) → is_among y xs ≡ false → IsOffSteps xs (at_subchannel y)
off_steps xs y off x done l on = step_writes x y done l ∙ apart (eq_by_cmp sub_id_cmp y x) x y (of_live l)
    (λ e. let same : is_among y xs
    ≡ is_among x xs = ap (λ z. is_among z xs) (same_key sub_id_cmp sub_ids_exact y x e) in cc)

pub on_steps : (xs : List SubId) (y : SubId) → is_among y xs ≡ true → IsOnSteps xs (at_subchannel y)
on_steps xs y on x done l off = step_writes x y done l ∙ apart (eq_by_cmp sub_id_cmp y x) x y (of_live l)
    (λ e. let same : is_among y xs
    ≡ is_among x xs = ap (λ z. is_among z xs) (same_key sub_id_cmp sub_ids_exact y x e) in cc)

-- ---- cells that neither the change nor a step on these subchannels wrote stay

module _ (m : Store) (q : Cell) (xs : List SubId) (n : ℕ) (off : IsOffSteps xs q) where
  -- an act that is the change, or a step on these subchannels
  own_writes : (a : Act) (further : Option Change) → is_change n a ≡ true
      → ((c : Change) → change_or n a further ≡ Some c → written (effect_of_change c) q ≡ None)
      → written (effect_of_act a) q ≡ None
  own_writes (step x done l) further is none = cc
  own_writes (change k c) further is none = none c (ap (λ b. cond b (Some c) further) is)
  own_writes (undoing k) further is none = cc
  own_writes nothing further is none = cc

  later_change : (a : Act) (further : Option Change) → is_change n a ≡ false → change_or n a further ≡ further
  later_change (step x done l) further is = refl
  later_change (change k c) further is = ap (λ b. cond b (Some c) further) is
  later_change (undoing k) further is = refl
  later_change nothing further is = refl

  step_on_writes : (a : Act) → is_step_on xs a ≡ true → written (effect_of_act a) q ≡ None
  step_on_writes (step x done l) on = off x done l on
  step_on_writes (change k c) on = cc
  step_on_writes (undoing k) on = cc
  step_on_writes nothing on = cc

  -- an entry struck or not writes the same there
  struck_alike : (b : Bool) (l : MarkedEntry) (ls ks : List MarkedEntry) → is_step_on xs l.act ≡ b
      → read (replay m ks) q ≡ read (replay m ls) q
      → read (replay m (struck_if b (undone_with n) l ∷ ks)) q ≡ read (replay m (l ∷ ls)) q
  struck_alike true l ls ks on rest =
      let none = step_on_writes l.act on in
      skipped m q (struck (undone_with n) l) ks (inert m q (struck_mark (undone_with n) l.mark) l.act none) ∙ rest
      ∙ sym (skipped m q l ls (inert m q l.mark l.act none))
  struck_alike false l ls ks on rest = alike m q l l ks ls refl rest

  unwritten_at : (b : Bool) (l : MarkedEntry) (ls : List MarkedEntry) → is_change n l.act ≡ b
      → ((c : Change) → change_at n (l ∷ ls) ≡ Some c → written (effect_of_change c) q ≡ None)
      → (((c : Change) → change_at n ls ≡ Some c → written (effect_of_change c) q ≡ None)
      → read (replay m (strike xs n ls)) q ≡ read (replay m ls) q)
      → read (replay m (cond b (struck (undone_with n) l ∷ ls)
      (struck_if (is_step_on xs l.act) (undone_with n) l ∷ strike xs n ls))) q ≡ read (replay m (l ∷ ls)) q
  unwritten_at true l ls is own more =
      let none = own_writes l.act (change_at n ls) is own in
      skipped m q (struck (undone_with n) l) ls (inert m q (struck_mark (undone_with n) l.mark) l.act none)
      ∙ sym (skipped m q l ls (inert m q l.mark l.act none))
  unwritten_at false l ls is own more =
      struck_alike (is_step_on xs l.act) l ls (strike xs n ls) refl
      (more (λ c at. own c (later_change l.act (change_at n ls) is ∙ at)))

  -- striking out the change leaves such a cell
  pub unwritten : (ls : List MarkedEntry)
      → ((c : Change) → change_at n ls ≡ Some c → written (effect_of_change c) q ≡ None)
      → read (replay m (strike xs n ls)) q ≡ read (replay m ls) q
  unfolding strike
  unwritten [] own = refl
  unwritten (l ∷ ls) own = unwritten_at (is_change n l.act) l ls refl own (unwritten ls)

-- ---- a cell that the change wrote is as it was before the change

-- none of these changes writes a cell
abbrev pub NoneWrites : Cell → List Numbered → Type 0
NoneWrites q [] = Unit {0}
NoneWrites q (d ∷ ds) = (written (effect_of_change d.1) q ≡ None) × NoneWrites q ds

module _ (m : Store) (q : Cell) (xs : List SubId) (n : ℕ) (on : IsOnSteps xs q) where
  -- an entry of a step: struck, or off this cell
  step_struck : (b : Bool) (x : SubId) (done : Step) (live : Option Live) (mark : Mark) (ks : List MarkedEntry)
      → is_among x xs ≡ b
      → read (replay m (struck_if b (undone_with n) (record { act = step x done live; mark = mark }) ∷ ks)) q
      ≡ read (replay m ks) q
  step_struck true x done live mark ks is =
      skipped m q (record { act = step x done live; mark = struck_mark (undone_with n) mark }) ks
      (by_undo m q n mark (effect_of_act (step x done live)))
  step_struck false x done live mark ks is =
      skipped m q (record { act = step x done live; mark = mark }) ks
      (inert m q mark (step x done live) (on x done live is))

  entry_struck : (mark : Mark) (a : Act) (further : List Numbered) (ks : List MarkedEntry) → is_change n a ≡ false
      → NoneWrites q (change_and mark a further)
      → (read (replay m (struck_if (is_step_on xs a) (undone_with n) (record { act = a; mark = mark }) ∷ ks)) q
      ≡ read (replay m ks) q) × NoneWrites q further
  entry_struck kept (step x done live) further ks is none = (step_struck (is_among x xs) x done live kept ks refl, none)
  entry_struck (undone_with k) (step x done live) further ks is none =
      (step_struck (is_among x xs) x done live (undone_with k) ks refl, none)
  entry_struck lost (step x done live) further ks is none = (step_struck (is_among x xs) x done live lost ks refl, none)
  entry_struck kept (change k c) further ks is none = (passed m q (change k c) kept ks none.0, none.1)
  entry_struck (undone_with j) (change k c) further ks is none =
      (passed m q (change k c) (undone_with j) ks (none_written q), none)
  entry_struck lost (change k c) further ks is none = (passed m q (change k c) lost ks (none_written q), none)
  entry_struck kept (undoing k) further ks is none = (passed m q (undoing k) kept ks (none_written q), none)
  entry_struck (undone_with j) (undoing k) further ks is none =
      (passed m q (undoing k) (undone_with j) ks (none_written q), none)
  entry_struck lost (undoing k) further ks is none = (passed m q (undoing k) lost ks (none_written q), none)
  entry_struck kept nothing further ks is none = (passed m q nothing kept ks (none_written q), none)
  entry_struck (undone_with j) nothing further ks is none =
      (passed m q nothing (undone_with j) ks (none_written q), none)
  entry_struck lost nothing further ks is none = (passed m q nothing lost ks (none_written q), none)

  -- the change, struck, writes nothing
  made_struck : (c : Change) (older : List MarkedEntry)
      → read (replay m (strike xs n (made n c ∷ older))) q ≡ read (replay m older) q
  unfolding strike
  made_struck c older = let same : eqb n n ≡ true = eq-eqb n n refl in
      ap (λ b. read (replay m (cond b (struck (undone_with n) (made n c) ∷ older) (made n c ∷ strike xs n older))) q)
      same
      ∙ skipped m q (struck (undone_with n) (made n c)) older (none_written q)

  by_number : (b : Bool) (l : MarkedEntry) (ls older : List MarkedEntry) → is_change n l.act ≡ b → b ≡ false
      → read (replay m (struck_if (is_step_on xs l.act) (undone_with n) l ∷ strike xs n ls)) q ≡ read (replay m older) q
      → read (replay m (cond b (struck (undone_with n) l ∷ ls)
      (struck_if (is_step_on xs l.act) (undone_with n) l ∷ strike xs n ls))) q ≡ read (replay m older) q
  by_number true l ls older is not_it more = cc
  by_number false l ls older is not_it more = more

  -- with the change struck out, such a cell is as it was before it
  pub written_before : (c : Change) (newer older : List MarkedEntry) → has (is_change n) newer ≡ false
      → NoneWrites q (changes_in newer)
      → read (replay m (strike xs n (newer ++ made n c ∷ older))) q ≡ read (replay m older) q
  unfolding strike
  written_before c [] older others none = made_struck c older
  written_before c (l ∷ newer) older others none =
      let both = or_parts _ _ others in
      let front = entry_struck l.mark l.act (changes_in newer) (strike xs n (newer ++ made n c ∷ older)) both.0 none in
      by_number (is_change n l.act) l (newer ++ made n c ∷ older) older refl both.0
      (front.0 ∙ written_before c newer older both.1 front.1)
