-- Marked entries with their effects as lists: what striking, restoring and replaying them does.
use Rattle.std.proofs.Common.{◌≡◌, ℕ, ◌==◌, Bool, true, false, Option, Some, None, List, [], ◌∷◌, map, if◌then◌else◌}
use Rattle.std.proofs.Common.{refl, ap, ◌∙◌}
use Rattle.std.specs.Option.{option_map}
use Rattle.std.specs.FinMap.{put, entries, empty, entries-insert}
use Rattle.iocm_types.specs.declared.answer.Answer.{Answer}
use Rattle.iocm_types.specs.declared.answer.Answer.TheVariants.{Changed, Undone, Redone, Shown, Refused, Io, Begun}
use Rattle.iocm_types.specs.declared.answer.Answer.TheVariants.{Ended, Held, Staged, Left, Aborted}
use Rattle.iocm_types.specs.declared.live.Live.{Live}
use Rattle.iocm_types.specs.declared.sub_id.SubId.{SubId}
use Rattle.iocm_types.specs.Key.{key_cmp}
use Rattle.iocm_types.specs.Place.{cell_cmp}
use Rattle.iocm_types.specs.SubId.{sub_id_cmp}
use Rattle.iocm_types.specs.KeyOrder.{keys_total, keys_exact, cells_total, cells_exact, sub_ids_total, sub_ids_exact}
use Rattle.iocm_model.specs.Operation.State.{State, is_among}
use Rattle.iocm_model.specs.Change.Effect.{Effect}
use Rattle.iocm_model.specs.Operation.Step.{Step}
use Rattle.iocm_history.specs.Entry.{no_effect}
use Rattle.iocm_history.specs.Store.{Store, store_of, state_of, store_with}
use Rattle.iocm_history.specs.Change.{Change, effect_of_change}
use Rattle.iocm_history.specs.MarkedEntry.{Act, step, change, undoing, nothing, Mark, kept, undone_with, lost}
use Rattle.iocm_history.specs.MarkedEntry.{MarkedEntry, effect_of_act, effect_if_kept, effect_of_entry, is_change}
use Rattle.iocm_history.specs.MarkedEntry.{is_undo, is_step_on, change_or, change_at, altered_if, altered_by_change}
use Rattle.iocm_history.specs.MarkedEntry.{struck_mark, struck_if, strike, unstruck_mark, taken_back, restore}
use Rattle.iocm_history.specs.MarkedEntry.{entries_after}
use Rattle.iocm_history.specs.Account.{replay}
use Rattle.iocm_examples.proofs.Listed.Maps.{put_all, put_cells, cond_seen, entries-empty, entries-with_cells}
use Rattle.iocm_examples.proofs.Listed.Maps.{entries-from_entries}
use Rattle.iocm_examples.proofs.Listed.Views.{Records, CellList, cells_listed, cells_seen, numbering_listed}
use Rattle.iocm_examples.proofs.Listed.Views.{numbering_seen}
use Rattle.iocm_examples.proofs.Listed.States.{LiveList, ListedState, listing, ListedEdit}
use Rattle.iocm_examples.proofs.Listed.Effects.{ListedEffect, effect_listing, edits_from, effect_listed, effect_seen}
use Rattle.iocm_examples.proofs.Listed.Fits.{edits_listing}

-- a change with its edits, the state that they were performed in, and what they wrote
pub record ListedChange : Type 0 where
  pub edits : List ListedEdit
  pub from : ListedState
  pub effect : ListedEffect

abbrev pub change_listing : Change → ListedChange
change_listing c = record
    { edits = edits_listing c.edits; from = listing c.from; effect = effect_listing (effect_of_change c) }

-- edits with their live records in order
abbrev pub edits_in_order : List ListedEdit → List ListedEdit
edits_in_order es = map (λ (e : ListedEdit).
    record { action = e.action; places = e.places; lives = put_all sub_id_cmp e.lives }) es

in_order : (es : List ListedEdit) → edits_listing (edits_from es) ≡ edits_in_order es
in_order [] = refl
in_order (e ∷ es) = λ i.
    record { action = e.action; places = e.places; lives = entries-from_entries sub_ids_total sub_ids_exact e.lives i }
    ∷ in_order es i

-- a change by these edits in a state
abbrev pub changed_by : List ListedEdit → ListedState → ListedChange
changed_by es y = record { edits = edits_in_order es; from = y; effect = effect_listed es y }

pub changed_is : (es : List ListedEdit) (s : State)
    → change_listing (record { edits = edits_from es; from = s }) ≡ changed_by es (listing s)
changed_is es s = λ i. record { edits = in_order es i; from = listing s; effect = effect_seen es s i }

-- what an entry did, with its effect as lists
pub data ListedAct : Type 0 where
  a_step : SubId → Step → Option Live → ListedAct
  a_change : ℕ → ListedChange → ListedAct
  an_undo : ℕ → ListedAct
  no_act : ListedAct

abbrev pub act_listing : Act → ListedAct
act_listing (step x s l) = a_step x s l
act_listing (change n c) = a_change n (change_listing c)
act_listing (undoing n) = an_undo n
act_listing nothing = no_act

-- an entry with its mark
pub record ListedLine : Type 0 where
  pub act : ListedAct
  pub mark : Mark

abbrev pub line_listing : MarkedEntry → ListedLine
line_listing l = record { act = act_listing l.act; mark = l.mark }

-- lines, each with its act as lists
abbrev pub lines_listing : List MarkedEntry → List ListedLine
lines_listing ls = map line_listing ls

-- the change of a number
abbrev pub changes_at : ℕ → ListedAct → Bool
changes_at n (a_change m c) = n == m
changes_at n _ = false

-- the undo of a change
abbrev pub undoes_at : ℕ → ListedAct → Bool
undoes_at n (an_undo m) = n == m
undoes_at n _ = false

-- a step on one of these subchannels
abbrev pub steps_on : List SubId → ListedAct → Bool
steps_on xs (a_step x s l) = is_among x xs
steps_on xs _ = false

-- an act is a change of this number where its listing is
pub changes_seen : (n : ℕ) (a : Act) → is_change n a ≡ changes_at n (act_listing a)
changes_seen n (step x s l) = refl
changes_seen n (change m c) = refl
changes_seen n (undoing m) = refl
changes_seen n nothing = refl

-- an act is an undo of this number where its listing is
undoes_seen : (n : ℕ) (a : Act) → is_undo n a ≡ undoes_at n (act_listing a)
undoes_seen n (step x s l) = refl
undoes_seen n (change m c) = refl
undoes_seen n (undoing m) = refl
undoes_seen n nothing = refl

-- an act is a step on these subchannels where its listing is
steps_seen : (xs : List SubId) (a : Act) → is_step_on xs a ≡ steps_on xs (act_listing a)
steps_seen xs (step x s l) = refl
steps_seen xs (change m c) = refl
steps_seen xs (undoing m) = refl
steps_seen xs nothing = refl

-- the change of a number
abbrev pub change_or_line : ℕ → ListedAct → Option ListedChange → Option ListedChange
change_or_line n (a_change m c) further = if n == m then Some c else further
change_or_line n _ further = further

abbrev pub change_in : ℕ → List ListedLine → Option ListedChange
change_in n [] = None
change_in n (l ∷ ls) = change_or_line n l.act (change_in n ls)

or_seen : (n : ℕ) (a : Act) (o : Option Change)
    → option_map change_listing (change_or n a o) ≡ change_or_line n (act_listing a) (option_map change_listing o)
or_seen n (step x s l) o = refl
or_seen n (change m c) o = cond_seen (option_map change_listing) (n == m) (Some c) o
or_seen n (undoing m) o = refl
or_seen n nothing o = refl

pub change_seen : (n : ℕ) (ls : List MarkedEntry)
    → option_map change_listing (change_at n ls) ≡ change_in n (lines_listing ls)
change_seen n [] = refl
change_seen n (l ∷ ls) = or_seen n l.act (change_at n ls) ∙ ap (change_or_line n (act_listing l.act)) (change_seen n ls)

-- the subchannels that it altered
abbrev pub altered_of : Option ListedChange → List SubId
altered_of (Some c) = map (λ e. e.0) c.effect.lives
altered_of None = []

abbrev pub altered_in : ℕ → List ListedLine → List SubId
altered_in n ls = altered_of (change_in n ls)

altered_is : (o : Option Change) → altered_if o ≡ altered_of (option_map change_listing o)
altered_is (Some c) = refl
altered_is None = refl

-- the altered subchannels are those of the listed effect
pub altered_seen : (n : ℕ) (ls : List MarkedEntry) → altered_by_change n ls ≡ altered_in n (lines_listing ls)
altered_seen n ls = altered_is (change_at n ls) ∙ ap altered_of (change_seen n ls)

-- a line that is struck by this mark
abbrev pub struck_line : Mark → ListedLine → ListedLine
struck_line by l = record { act = l.act; mark = struck_mark by l.mark }

-- a line that is struck where this holds
abbrev pub struck_line_if : Bool → Mark → ListedLine → ListedLine
struck_line_if true by l = struck_line by l
struck_line_if false by l = l

-- a line is struck as its listing is
struck_seen : (b : Bool) (by : Mark) (l : MarkedEntry)
    → line_listing (struck_if b by l) ≡ struck_line_if b by (line_listing l)
struck_seen true by l = refl
struck_seen false by l = refl

-- an undo of this change on listed lines
unfoldable pub strike_lines : List SubId → ℕ → List ListedLine → List ListedLine
strike_lines xs n [] = []
strike_lines xs n (l ∷ ls) = if changes_at n l.act then struck_line (undone_with n) l ∷ ls
    else struck_line_if (steps_on xs l.act) (undone_with n) l ∷ strike_lines xs n ls

-- an undo strikes the same listed lines
strike_seen : (xs : List SubId) (n : ℕ) (ls : List MarkedEntry)
    → lines_listing (strike xs n ls) ≡ strike_lines xs n (lines_listing ls)
unfolding strike strike_lines
strike_seen xs n [] = refl
strike_seen xs n (l ∷ ls) = cond_seen lines_listing (is_change n l.act) _ _
    ∙ (λ i. if changes_seen n l.act i then struck_line (undone_with n) (line_listing l) ∷ lines_listing ls
    else (struck_seen (is_step_on xs l.act) (undone_with n) l
    ∙ ap (λ b. struck_line_if b (undone_with n) (line_listing l)) (steps_seen xs l.act)) i ∷ strike_seen xs n ls i)

-- what an undo of this change struck comes back
abbrev pub back_lines : ℕ → List ListedLine → List ListedLine
back_lines n ls = map (λ (l : ListedLine). record { act = l.act; mark = unstruck_mark n l.mark }) ls

-- the same listed lines come back
back_seen : (n : ℕ) (ls : List MarkedEntry) → lines_listing (taken_back n ls) ≡ back_lines n (lines_listing ls)
back_seen n [] = refl
back_seen n (l ∷ ls) = ap (λ rest. record { act = act_listing l.act; mark = unstruck_mark n l.mark } ∷ rest)
    (back_seen n ls)

-- a redo of this change on listed lines
unfoldable pub restore_lines : List SubId → ℕ → List ListedLine → List ListedLine
restore_lines xs n [] = []
restore_lines xs n (l ∷ ls) = if undoes_at n l.act then l ∷ back_lines n ls
    else struck_line_if (steps_on xs l.act) lost l ∷ restore_lines xs n ls

-- a redo strikes and takes back the same listed lines
restore_seen : (xs : List SubId) (n : ℕ) (ls : List MarkedEntry)
    → lines_listing (restore xs n ls) ≡ restore_lines xs n (lines_listing ls)
unfolding restore restore_lines
restore_seen xs n [] = refl
restore_seen xs n (l ∷ ls) = cond_seen lines_listing (is_undo n l.act) _ _
    ∙ (λ i. if undoes_seen n l.act i then line_listing l ∷ back_seen n ls i
    else (struck_seen (is_step_on xs l.act) lost l
    ∙ ap (λ b. struck_line_if b lost (line_listing l)) (steps_seen xs l.act)) i ∷ restore_seen xs n ls i)

-- the earlier lines after an answer
abbrev pub remarked_lines : Answer → List ListedLine → List ListedLine
remarked_lines (Undone n) ls = strike_lines (altered_in n ls) n ls
remarked_lines (Redone n) ls = restore_lines (altered_in n ls) n ls
remarked_lines _ ls = ls

-- an answer leaves the same listed lines
pub remarked_seen : (a : Answer) (ls : List MarkedEntry)
    → lines_listing (entries_after a ls) ≡ remarked_lines a (lines_listing ls)
remarked_seen (Undone n) ls =
    strike_seen (altered_by_change n ls) n ls ∙ ap (λ xs. strike_lines xs n (lines_listing ls)) (altered_seen n ls)
remarked_seen (Redone n) ls =
    restore_seen (altered_by_change n ls) n ls ∙ ap (λ xs. restore_lines xs n (lines_listing ls)) (altered_seen n ls)
remarked_seen (Io a) ls = refl
remarked_seen (Begun a) ls = refl
remarked_seen (Ended a) ls = refl
remarked_seen (Changed n) ls = refl
remarked_seen (Shown a) ls = refl
remarked_seen (Refused a) ls = refl
remarked_seen Held ls = refl
remarked_seen (Staged a) ls = refl
remarked_seen (Left a) ls = refl
remarked_seen Aborted ls = refl

-- ---- cells

-- a store as lists in order
pub record ListedStore : Type 0 where
  pub records : Records
  pub cells : CellList
  pub lives : LiveList

abbrev pub store_listing : Store → ListedStore
store_listing m = record { records = entries m.records; cells = entries m.numbers; lives = entries m.lives }

-- the store of a state, and the state of a store
abbrev pub store_in : ListedState → ListedStore
store_in y = record { records = y.records; cells = cells_listed y.numbers; lives = y.lives }

abbrev pub state_from : ListedStore → ListedState
state_from m = record { records = m.records; numbers = numbering_listed m.cells; lives = m.lives }

store_in_seen : (s : State) → store_listing (store_of s) ≡ store_in (listing s)
store_in_seen s = λ i. record { records = entries s.config; cells = cells_seen s.numbers i; lives = entries s.lives }

state_from_seen : (m : Store) → listing (state_of m) ≡ state_from (store_listing m)
state_from_seen m = λ i.
    record { records = entries m.records; numbers = numbering_seen m.numbers i; lives = entries m.lives }

-- cells overwritten
abbrev pub store_with_listed : ListedEffect → ListedStore → ListedStore
store_with_listed f m = record {
  records = put_cells key_cmp f.records m.records;
  cells = put_cells cell_cmp f.numbers m.cells;
  lives = put_cells sub_id_cmp f.lives m.lives;
}

store_with_seen : (f : Effect) (m : Store)
    → store_listing (store_with f m) ≡ store_with_listed (effect_listing f) (store_listing m)
store_with_seen f m = λ i. record {
  records = entries-with_cells keys_total keys_exact (entries f.records) m.records i;
  cells = entries-with_cells cells_total cells_exact (entries f.numbers) m.numbers i;
  lives = entries-with_cells sub_ids_total sub_ids_exact (entries f.lives) m.lives i;
}

-- what a line writes
abbrev pub writes_none : ListedEffect
writes_none = record { records = []; numbers = []; lives = [] }

abbrev pub act_writes : ListedAct → ListedEffect
act_writes (a_step x s l) = record { records = []; numbers = []; lives = (x, l) ∷ [] }
act_writes (a_change n c) = c.effect
act_writes (an_undo n) = writes_none
act_writes no_act = writes_none

abbrev pub line_writes : Mark → ListedEffect → ListedEffect
line_writes kept f = f
line_writes _ f = writes_none

none_seen : effect_listing no_effect ≡ writes_none
none_seen = λ i. record {
  records = entries-empty keys_total keys_exact i;
  numbers = entries-empty cells_total cells_exact i;
  lives = entries-empty sub_ids_total sub_ids_exact i;
}

act_writes_seen : (a : Act) → effect_listing (effect_of_act a) ≡ act_writes (act_listing a)
act_writes_seen (step x s l) = λ i. record {
  records = entries-empty keys_total keys_exact i;
  numbers = entries-empty cells_total cells_exact i;
  lives = (entries-insert sub_ids_total empty x l ∙ ap (put sub_id_cmp x l) (entries-empty sub_ids_total sub_ids_exact))
      i;
}
act_writes_seen (change n c) = refl
act_writes_seen (undoing n) = none_seen
act_writes_seen nothing = none_seen

line_writes_seen : (mark : Mark) (f : Effect)
    → effect_listing (effect_if_kept mark f) ≡ line_writes mark (effect_listing f)
line_writes_seen kept f = refl
line_writes_seen (undone_with n) f = none_seen
line_writes_seen lost f = none_seen

-- the store that lines give, the latest first
unfoldable pub replay_lines : ListedStore → List ListedLine → ListedStore
replay_lines m [] = m
replay_lines m (l ∷ ls) = store_with_listed (line_writes l.mark (act_writes l.act)) (replay_lines m ls)

replay_seen : (m : Store) (ls : List MarkedEntry)
    → store_listing (replay m ls) ≡ replay_lines (store_listing m) (lines_listing ls)
unfolding replay_lines
replay_seen m [] = refl
replay_seen m (l ∷ ls) = store_with_seen (effect_of_entry l) (replay m ls)
    ∙ (λ i. store_with_listed
    ((line_writes_seen l.mark (effect_of_act l.act) ∙ ap (line_writes l.mark) (act_writes_seen l.act)) i)
    (replay_seen m ls i))

-- the state that lines give
abbrev pub state_by : ListedState → List ListedLine → ListedState
state_by y ls = state_from (replay_lines (store_in y) ls)

pub store_by_seen : (opening : State) (ls : List MarkedEntry)
    → store_listing (replay (store_of opening) ls) ≡ replay_lines (store_in (listing opening)) (lines_listing ls)
store_by_seen opening ls =
    replay_seen (store_of opening) ls ∙ ap (λ m. replay_lines m (lines_listing ls)) (store_in_seen opening)

pub state_by_seen : (opening : State) (ls : List MarkedEntry)
    → listing (state_of (replay (store_of opening) ls)) ≡ state_by (listing opening) (lines_listing ls)
state_by_seen opening ls = state_from_seen (replay (store_of opening) ls) ∙ ap state_from (store_by_seen opening ls)
