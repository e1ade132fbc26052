-- Which entries of a history are struck, and by which undo.
use Rattle.std.specs.Prelude.{ℕ, ◌==◌, Bool, true, false, if◌then◌else◌, Option, None, Some, List, [], ◌∷◌, map}
use Rattle.std.specs.FinMap.{empty, insert}
use Rattle.iocm_types.specs.declared.answer.Answer.{Answer}
use Rattle.iocm_types.specs.declared.answer.Answer.TheVariants as answers
use Rattle.iocm_types.specs.declared.live.Live.{Live}
use Rattle.iocm_types.specs.declared.sub_id.SubId.{SubId}
use Rattle.iocm_model.specs.Operation.State.{is_among}
use Rattle.iocm_model.specs.Change.Effect.{Effect}
use Rattle.iocm_model.specs.Operation.Step.{Step}
use Rattle.iocm_history.specs.Entry.{no_effect}
use Rattle.iocm_history.specs.Change.{Change, effect_of_change, altered}

-- what an entry did: a step with the live record that it left, or none; an accepted change with its
-- number; an accepted undo; or nothing that counts here
pub data Act : Type 0 where
  step : SubId → Step → Option Live → Act
  change : ℕ → Change → Act
  undoing : ℕ → Act
  nothing : Act

-- whether an entry counts: it does; the undo of this change struck it; the redo of some change
-- struck it, for good
pub data Mark : Type 0 where
  kept : Mark
  undone_with : ℕ → Mark
  lost : Mark

-- an entry with its mark
pub record MarkedEntry : Type 0 where
  pub act : Act
  pub mark : Mark

-- the cells that an act overwrites: a step the live record of its subchannel, a change what it
-- wrote
abbrev pub effect_of_act : Act → Effect
effect_of_act (step x made l) = record no_effect { lives = insert empty x l }
effect_of_act (change n c) = effect_of_change c
effect_of_act (undoing n) = no_effect
effect_of_act nothing = no_effect

-- unless it is struck
abbrev pub effect_if_kept : Mark → Effect → Effect
effect_if_kept kept f = f
effect_if_kept _ f = no_effect

abbrev pub effect_of_entry : MarkedEntry → Effect
effect_of_entry l = effect_if_kept l.mark (effect_of_act l.act)

abbrev pub is_change : ℕ → Act → Bool
is_change n (change m c) = n == m
is_change n _ = false

abbrev pub is_undo : ℕ → Act → Bool
is_undo n (undoing m) = n == m
is_undo n _ = false

-- a step on one of these subchannels
abbrev pub is_step_on : List SubId → Act → Bool
is_step_on xs (step x made l) = is_among x xs
is_step_on xs _ = false

-- the change of a number, if it is there
abbrev pub change_or : ℕ → Act → Option Change → Option Change
change_or n (change m c) further = if n == m then Some c else further
change_or n _ further = further

abbrev pub change_at : ℕ → List MarkedEntry → Option Change
change_at n [] = None
change_at n (l ∷ ls) = change_or n l.act (change_at n ls)

-- the subchannels that it altered
abbrev pub altered_if : Option Change → List SubId
altered_if (Some c) = altered c
altered_if None = []

abbrev pub altered_by_change : ℕ → List MarkedEntry → List SubId
altered_by_change n ls = altered_if (change_at n ls)

-- what already is struck stays as it is
abbrev pub struck_mark : Mark → Mark → Mark
struck_mark by kept = by
struck_mark by m = m

abbrev pub struck : Mark → MarkedEntry → MarkedEntry
struck by l = record { act = l.act; mark = struck_mark by l.mark }

abbrev pub struck_if : Bool → Mark → MarkedEntry → MarkedEntry
struck_if true by l = struck by l
struck_if false by l = l

-- an undo strikes the change, and each step since on these subchannels
unfoldable pub strike : List SubId → ℕ → List MarkedEntry → List MarkedEntry
strike xs n [] = []
strike xs n (l ∷ ls) = if is_change n l.act then struck (undone_with n) l ∷ ls
    else struck_if (is_step_on xs l.act) (undone_with n) l ∷ strike xs n ls

-- what an undo of this change struck comes back
abbrev pub unstruck_mark : ℕ → Mark → Mark
unstruck_mark n kept = kept
unstruck_mark n (undone_with m) = if n == m then kept else undone_with m
unstruck_mark n lost = lost

abbrev pub unstruck : ℕ → MarkedEntry → MarkedEntry
unstruck n l = record { act = l.act; mark = unstruck_mark n l.mark }

abbrev pub taken_back : ℕ → List MarkedEntry → List MarkedEntry
taken_back n ls = map (unstruck n) ls

-- a redo takes back what the last undo of the change newly struck, and strikes each step since that
-- undo on these subchannels
unfoldable pub restore : List SubId → ℕ → List MarkedEntry → List MarkedEntry
restore xs n [] = []
restore xs n (l ∷ ls) = if is_undo n l.act then l ∷ taken_back n ls
    else struck_if (is_step_on xs l.act) lost l ∷ restore xs n ls

-- without a change, and with it again: its subchannels are those that it altered
abbrev pub without_change : ℕ → List MarkedEntry → List MarkedEntry
without_change n ls = strike (altered_by_change n ls) n ls

abbrev pub with_change : ℕ → List MarkedEntry → List MarkedEntry
with_change n ls = restore (altered_by_change n ls) n ls

-- the earlier entries after an answer
abbrev pub entries_after : Answer → List MarkedEntry → List MarkedEntry
entries_after (answers.Undone n) ls = without_change n ls
entries_after (answers.Redone n) ls = with_change n ls
entries_after _ ls = ls
