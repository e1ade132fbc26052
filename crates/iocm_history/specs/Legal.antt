-- Which entry a call makes after a history, and legal histories.
use Rattle.std.specs.Prelude.{◌≡◌, ◌⊎◌, ℕ, ◌+◌, ◌==◌, length, nat_lt, Bool, true, false, not, ◌&&◌}
use Rattle.std.specs.Prelude.{if◌then◌else◌, Option, None, Some, is_none, List, [], ◌∷◌, Ok, Err}
use Rattle.std.specs.FinMap.{len}
use Rattle.iocm_types.specs.declared.answer.Answer.{Answer}
use Rattle.iocm_types.specs.declared.answer.Answer.TheVariants.{Held, Changed, Staged, Left, Aborted}
use Rattle.iocm_types.specs.declared.answer.Answer.TheVariants.{Undone, Redone, Shown, Refused}
use Rattle.iocm_types.specs.declared.refused.At.TheVariants.{Subchannel, Nothing}
use Rattle.iocm_types.specs.declared.refused.At.TheVariants as place
use Rattle.iocm_types.specs.declared.rule.Rule.TheVariants.{J1, J2, J3, B1, M1, O1, O2}
use Rattle.iocm_types.specs.declared.sub_id.SubId.{SubId}
use Rattle.iocm_model.specs.Operation.State.{State, views_in}
use Rattle.iocm_model.specs.Change.Refusal.{refusal_at, first_not_quiet}
use Rattle.iocm_model.specs.Change.Runs.{effect_of}
use Rattle.iocm_model.specs.Change.Tree.{ChangeTree, depth_of, leaves_of, most_depth, most_leaves}
use Rattle.iocm_model.specs.Change.Meaning.{Outcome, meaning}
use Rattle.iocm_model.specs.Operation.Step.{answer_in}
use Rattle.iocm_history.specs.Entry.{Call, at, activate, begin, advance, commit, abort}
use Rattle.iocm_history.specs.Entry.{undo, redo, show, Entry, History, plain_entry}
use Rattle.iocm_history.specs.Change.{effect_of_change}
use Rattle.iocm_history.specs.MarkedEntry.{altered_by_change}
use Rattle.iocm_history.specs.Stage.{Stage, once_more, is_held, left_of}
use Rattle.iocm_history.specs.Account.{Account, state_in, account}
use Rattle.iocm_history.specs.StandsOn.{stands_on}
use Rattle.iocm_history.specs.Journal.{Journal, is_in, is_past, journal_of}

-- ---- steps

-- the answer to a step: Held where the staged change alters its subchannel
abbrev pub unless_held : Bool → Answer → Answer
unless_held true answer = Held
unless_held false answer = answer

-- ---- changes

-- O1: a change is staged
abbrev pub unless_staged : Option Stage → Call → Entry → Entry
unless_staged (Some g) call e = plain_entry call (Refused (refusal_at O1 Nothing))
unless_staged None call e = e

-- an activation that gets this number: its change with what it wrote, or the refusal
abbrev pub activated : ChangeTree → ℕ → State → Outcome → Entry
activated p n s (Ok r) = record { call = activate p; answer = Changed n; effect = effect_of r.edits s }
activated p n s (Err why) = plain_entry (activate p) (Refused why)

-- a Begin: how many edits its change has, or the refusal
abbrev pub begun : ChangeTree → Outcome → Entry
begun p (Ok r) = plain_entry (begin p) (Staged (length r.edits))
begun p (Err why) = plain_entry (begin p) (Refused why)

-- an Advance: the edits that are left after it; O2 where nothing is staged
abbrev pub advance_answer : Option Stage → Answer
advance_answer (Some g) = Left (left_of (once_more g))
advance_answer None = Refused (refusal_at O2 Nothing)

-- a Commit that gets this number: the staged change with what it wrote; O2
abbrev pub commit_entry : ℕ → Option Stage → Entry
commit_entry n (Some g) = record { call = commit; answer = Changed n; effect = effect_of_change g.change }
commit_entry n None = plain_entry commit (Refused (refusal_at O2 Nothing))

-- an Abort; O2
abbrev pub abort_answer : Option Stage → Answer
abort_answer (Some g) = Aborted
abort_answer None = Refused (refusal_at O2 Nothing)

-- ---- undo and redo

-- B1 of an undo or a redo: the least subchannel of the change that isn't quiet, with no node
abbrev pub unless_not_quiet : Option SubId → Answer → Answer
unless_not_quiet (Some x) answer = Refused (refusal_at B1 (Subchannel x))
unless_not_quiet None answer = answer

-- J2 names the greatest change that stands on another
abbrev pub unless_stood_on : Option ℕ → Answer → Answer
unless_stood_on (Some m) answer = Refused (refusal_at J2 (place.Change m))
unless_stood_on None answer = answer

-- undo: J1 no such standing change; J2 a change stands on it; B1
abbrev pub undo_answer : ℕ → List ℕ → Option ℕ → Option SubId → Answer
undo_answer n standing on not_quiet =
    if is_in n standing then unless_stood_on on (unless_not_quiet not_quiet (Undone n))
    else Refused (refusal_at J1 Nothing)

-- the last one undone of those that are undone now
abbrev pub is_last_undone : ℕ → List ℕ → Bool
is_last_undone n [] = false
is_last_undone n (m ∷ ms) = n == m

-- redo: J1 no such change that was undone; J3 not the last one undone, or past; B1
abbrev pub redo_answer : ℕ → Journal → Option SubId → Answer
redo_answer n b not_quiet =
    if is_last_undone n b.undone then unless_not_quiet not_quiet (Redone n)
    else if is_in n b.undone then Refused (refusal_at J3 Nothing)
    else if is_past n b then Refused (refusal_at J3 Nothing)
    else Refused (refusal_at J1 Nothing)

-- ---- entries

-- what a machine counts
abbrev pub show_answer : State → Journal → Answer
show_answer s b =
    Shown (record {
      records = len s.config;
      subchannels = len (views_in s);
      standing = length b.standing;
      undone = length b.undone;
    })

-- the least subchannel of a change that isn't quiet in a state
abbrev pub not_quiet_of : ℕ → State → Account → Option SubId
not_quiet_of n s a = first_not_quiet s.lives (altered_by_change n a.entries)

-- the entry that a call makes in a state, with which changes stand and what the history comes to
abbrev pub entry_in : State → Journal → Account → Call → Entry
entry_in s b a (at x made) = plain_entry (at x made) (unless_held (is_held x a.stage) (answer_in s x made))
entry_in s b a (activate p) = unless_staged a.stage (activate p) (activated p (b.count + 1) s (meaning p s))
entry_in s b a (begin p) = unless_staged a.stage (begin p) (begun p (meaning p s))
entry_in s b a advance = plain_entry advance (advance_answer a.stage)
entry_in s b a commit = commit_entry (b.count + 1) a.stage
entry_in s b a abort = plain_entry abort (abort_answer a.stage)
entry_in s b a (undo n) =
    unless_staged a.stage (undo n)
    (plain_entry (undo n) (undo_answer n b.standing (stands_on n a.entries s) (not_quiet_of n s a)))
entry_in s b a (redo n) = unless_staged a.stage (redo n) (plain_entry (redo n) (redo_answer n b (not_quiet_of n s a)))
entry_in s b a show = unless_staged a.stage show (plain_entry show (show_answer s b))

-- the entry that a call makes after a history, where memory is there
abbrev pub entry_of : State → History → Call → Entry
entry_of opening h call = let a = account opening h in entry_in (state_in opening a) (journal_of h) a call

-- a change tree is neither too deep (C1), nor has it too many leaves (C2)
abbrev pub is_within_limits : ChangeTree → Bool
is_within_limits p = not (nat_lt most_depth (depth_of p)) && not (nat_lt most_leaves (leaves_of p))

-- whether a call may want memory in a state: where nothing is staged, the activation or the Begin
-- of a tree within the limits, the undo of a change that stands, and the redo that is done again
abbrev pub may_lack_memory : State → Journal → Account → Call → Bool
may_lack_memory s b a (activate p) = is_none a.stage && is_within_limits p
may_lack_memory s b a (begin p) = is_none a.stage && is_within_limits p
may_lack_memory s b a (undo n) = is_none a.stage && is_in n b.standing
may_lack_memory s b a (redo n) = is_none a.stage && (is_last_undone n b.undone && is_none (not_quiet_of n s a))
may_lack_memory s b a _ = false

-- whether it may after a history
abbrev pub may_lack_memory_after : State → History → Call → Bool
may_lack_memory_after opening h call =
    let a = account opening h in may_lack_memory (state_in opening a) (journal_of h) a call

-- an entry is right after a history: it is the one that its call makes, or lack of memory (M1)
abbrev pub IsRight : State → History → Entry → Type 0
IsRight opening h e = (e ≡ entry_of opening h e.call)
    ⊎ ((may_lack_memory_after opening h e.call ≡ true) × (e ≡ plain_entry e.call (Refused (refusal_at M1 Nothing))))

-- each entry is right after those before it
abbrev pub IsLegal : State → History → Type 0
IsLegal opening [] = Unit {0}
IsLegal opening (e ∷ h) = IsRight opening h e × IsLegal opening h
