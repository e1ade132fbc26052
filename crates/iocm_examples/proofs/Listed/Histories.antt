-- Histories as lists: what each call makes of the lines, of what is staged, of the book and of the
-- answers so far.
use Rattle.std.proofs.Common.{◌≡◌, ℕ, zero, suc, ◌+◌, ◌-◌, Bool, true, false, Ok, Err, Option, Some, None, List, []}
use Rattle.std.proofs.Common.{◌∷◌, map, length, take, refl, sym, ap, subst, ◌∙◌}
use Rattle.std.specs.List.{fold}
use Rattle.std.specs.Option.{option_map}
use Rattle.std.specs.FinMap.{find, get-entries, len-entries}
use Rattle.iocm_types.specs.declared.answer.Answer.{Answer}
use Rattle.iocm_types.specs.declared.answer.Answer.TheVariants.{Changed, Undone, Redone, Shown, Refused, Io, Begun}
use Rattle.iocm_types.specs.declared.answer.Answer.TheVariants.{Ended, Held, Staged, Left, Aborted}
use Rattle.iocm_types.specs.declared.refused.At.TheVariants.{Nothing}
use Rattle.iocm_types.specs.declared.rule.Rule.{Rule}
use Rattle.iocm_types.specs.declared.rule.Rule.TheVariants.{O1, O2}
use Rattle.iocm_types.specs.declared.sub_id.SubId.{SubId}
use Rattle.iocm_types.specs.SubId.{sub_id_cmp}
use Rattle.iocm_model.specs.Operation.State.{State, views_in, is_among}
use Rattle.iocm_model.specs.Change.Refusal.{refusal_at, first_not_quiet}
use Rattle.iocm_model.specs.Change.Meaning.{Outcome, meaning}
use Rattle.iocm_model.specs.Operation.Step.{Step, order, device_begin, device_end, after_step, answer_in}
use Rattle.iocm_history.specs.Entry.{Call, at, activate, begin, advance, commit, abort, undo, redo, show, Entry}
use Rattle.iocm_history.specs.Entry.{History, plain_entry}
use Rattle.iocm_history.specs.Change.{change_of}
use Rattle.iocm_history.specs.MarkedEntry.{kept, MarkedEntry, altered_by_change}
use Rattle.iocm_history.specs.Stage.{Stage, advanced, is_held}
use Rattle.iocm_history.specs.Account.{committed, act_of, Account, account_after, account, marked_entries, state_at}
use Rattle.iocm_history.specs.StandsOn.{stands_on}
use Rattle.iocm_history.specs.Journal.{Journal, journal_after, journal_of}
use Rattle.iocm_history.specs.Legal.{unless_held, unless_staged, activated, begun, advance_answer, commit_entry}
use Rattle.iocm_history.specs.Legal.{abort_answer, undo_answer, redo_answer, show_answer, not_quiet_of, entry_of}
use Rattle.iocm_history.specs.Run.{run, answers_of}
use Rattle.iocm_examples.proofs.Listed.Views.{views_seen}
use Rattle.iocm_examples.proofs.Listed.States.{ListedState, listing, views_at, ListedEdit, busy_listed, busy_seen}
use Rattle.iocm_examples.proofs.Listed.States.{answer_listed, answer_seen, after_step_listed, after_step_seen}
use Rattle.iocm_examples.proofs.Listed.Effects.{edits_from}
use Rattle.iocm_examples.proofs.Listed.Trees.{ListedPlan, plan_from, ListedOutcome, outcome_listing, meaning_listed}
use Rattle.iocm_examples.proofs.Listed.Trees.{meaning_seen}
use Rattle.iocm_examples.proofs.Listed.Entries.{ListedChange, change_listing, changed_by, changed_is, ListedAct, a_step}
use Rattle.iocm_examples.proofs.Listed.Entries.{a_change, an_undo, no_act, act_listing, ListedLine, lines_listing}
use Rattle.iocm_examples.proofs.Listed.Entries.{altered_in, altered_seen, remarked_lines, remarked_seen, state_by}
use Rattle.iocm_examples.proofs.Listed.Entries.{state_by_seen}
use Rattle.iocm_examples.proofs.Listed.StandsOn.{stands_on_lines, stands_on_seen}

-- ---- accounts

-- what is staged
pub record ListedStage : Type 0 where
  pub change : ListedChange
  pub edits : ℕ
  pub advances : ℕ

abbrev stage_listing : Stage → ListedStage
stage_listing g = record { change = change_listing g.change; edits = length g.change.edits; advances = g.advances }

abbrev stages_listing : Option Stage → Option ListedStage
stages_listing g = option_map stage_listing g

-- what was made so far: the lines, what is staged, the book, and the answers, the latest first
pub record ListedHistory : Type 0 where
  pub marked : List ListedLine
  pub stage : Option ListedStage
  pub journal : Journal
  pub answers : List Answer

-- a history with its effects as lists
abbrev pub history_listing : State → History → ListedHistory
history_listing opening h = record {
  marked = lines_listing (marked_entries opening h);
  stage = stages_listing (account opening h).stage;
  journal = journal_of h;
  answers = answers_of h;
}

-- one more entry, that counts
abbrev made : Answer → ListedAct → Option ListedStage → ListedHistory → ListedHistory
made a act g m = record {
  marked = record { act = act; mark = kept } ∷ remarked_lines a m.marked;
  stage = g;
  journal = journal_after a m.journal;
  answers = a ∷ m.answers;
}

-- an entry that is added, listed
made_seen : (opening : State) (e : Entry) (h : History) (act : ListedAct) (g : Option ListedStage)
    → act_listing (act_of e.call e.answer (state_at opening h) (account opening h).stage) ≡ act
    → stages_listing (account_after e.call e.answer (state_at opening h) (account opening h)).stage ≡ g
    → history_listing opening (e ∷ h) ≡ made e.answer act g (history_listing opening h)
unfolding account
made_seen opening e h act g did staged = λ i. record {
  marked = record { act = did i; mark = kept } ∷ remarked_seen e.answer (marked_entries opening h) i;
  stage = staged i;
  journal = journal_after e.answer (journal_of h);
  answers = e.answer ∷ answers_of h;
}

-- ---- calls

-- calls whose trees are of listed edits; an activation or a begin comes with the edits that it
-- performs, if it is accepted
pub data ListedCall : Type 0 where
  stepping : SubId → Step → ListedCall
  activating : ListedPlan → List ListedEdit → ListedCall
  beginning : ListedPlan → List ListedEdit → ListedCall
  advancing : ListedCall
  committing : ListedCall
  aborting : ListedCall
  undoes : ℕ → ListedCall
  redoes : ℕ → ListedCall
  shows : ListedCall

-- the call itself
abbrev pub call_from : ListedCall → Call
call_from (stepping x s) = at x s
call_from (activating p es) = activate (plan_from p)
call_from (beginning p es) = begin (plan_from p)
call_from advancing = advance
call_from committing = commit
call_from aborting = abort
call_from (undoes n) = undo n
call_from (redoes n) = redo n
call_from shows = show

abbrev pub calls_from : List ListedCall → List Call
calls_from cs = map call_from cs

-- a call that is refused
abbrev refused_lines : Rule → ListedHistory → ListedHistory
refused_lines rule m = made (Refused (refusal_at rule Nothing)) no_act m.stage m

-- a step: held, or done
abbrev held_by : SubId → Option ListedStage → Bool
held_by x (Some g) = is_among x (map (λ e. e.0) g.change.effect.lives)
held_by x None = false

abbrev step_lines : Bool → SubId → Step → ListedState → ListedHistory → ListedHistory
step_lines true x s y m = made Held no_act m.stage m
step_lines false x s y m =
    made (answer_listed y x s) (a_step x s (find sub_id_cmp x (after_step_listed x s y).lives)) m.stage m

-- an activation with this outcome, as the change of this number or refused
abbrev activated_lines : List ListedEdit → ℕ → ListedState → ListedOutcome → ListedHistory → ListedHistory
activated_lines es n y (Ok r) m = made (Changed n) (a_change n (changed_by es y)) m.stage m
activated_lines es n y (Err why) m = made (Refused why) no_act m.stage m

abbrev activate_lines : Option ListedStage → ListedPlan → List ListedEdit → ListedState → ListedHistory → ListedHistory
activate_lines (Some g) p es y m = refused_lines O1 m
activate_lines None p es y m = activated_lines es (m.journal.count + 1) y (meaning_listed p y) m

-- a Begin
abbrev begun_lines : List ListedEdit → ListedState → ListedOutcome → ListedHistory → ListedHistory
begun_lines es y (Ok r) m =
    made (Staged (length es)) no_act (Some (record { change = changed_by es y; edits = length es; advances = 0 })) m
begun_lines es y (Err why) m = made (Refused why) no_act m.stage m

abbrev begin_lines : Option ListedStage → ListedPlan → List ListedEdit → ListedState → ListedHistory → ListedHistory
begin_lines (Some g) p es y m = refused_lines O1 m
begin_lines None p es y m = begun_lines es y (meaning_listed p y) m

abbrev more_lines : ListedStage → ListedStage
more_lines g = record { change = g.change; edits = g.edits; advances = g.advances + 1 }

abbrev advance_lines : Option ListedStage → ListedHistory → ListedHistory
advance_lines (Some g) m = made (Left (g.edits - (g.advances + 1))) no_act (Some (more_lines g)) m
advance_lines None m = refused_lines O2 m

abbrev commit_lines : Option ListedStage → ListedHistory → ListedHistory
commit_lines (Some g) m = made (Changed (m.journal.count + 1)) (a_change (m.journal.count + 1) g.change) None m
commit_lines None m = refused_lines O2 m

abbrev abort_lines : Option ListedStage → ListedHistory → ListedHistory
abort_lines (Some g) m = made Aborted no_act None m
abort_lines None m = refused_lines O2 m

-- what an undo did, by its answer
abbrev undo_act : Answer → ListedAct
undo_act (Undone n) = an_undo n
undo_act _ = no_act

-- an undo with this answer
abbrev undone_lines : Answer → ListedHistory → ListedHistory
undone_lines a m = made a (undo_act a) m.stage m

abbrev undo_lines : Option ListedStage → ℕ → ListedState → ListedHistory → ListedHistory
undo_lines (Some g) n y m = refused_lines O1 m
undo_lines None n y m = undone_lines
    (undo_answer n m.journal.standing (stands_on_lines n m.marked y) (busy_listed y.lives (altered_in n m.marked))) m

abbrev redo_lines : Option ListedStage → ℕ → ListedState → ListedHistory → ListedHistory
redo_lines (Some g) n y m = refused_lines O1 m
redo_lines None n y m = made (redo_answer n m.journal (busy_listed y.lives (altered_in n m.marked))) no_act m.stage m

-- what a machine counts, of a listed state
abbrev show_answer_listed : ListedState → Journal → Answer
show_answer_listed y b =
    Shown (record {
      records = length y.records;
      subchannels = length (views_at y);
      standing = length b.standing;
      undone = length b.undone;
    })

abbrev show_lines : Option ListedStage → ListedState → ListedHistory → ListedHistory
show_lines (Some g) y m = refused_lines O1 m
show_lines None y m = made (show_answer_listed y m.journal) no_act m.stage m

-- what a call makes in a listed state
abbrev called : ListedCall → ListedState → ListedHistory → ListedHistory
called (stepping x s) y m = step_lines (held_by x m.stage) x s y m
called (activating p es) y m = activate_lines m.stage p es y m
called (beginning p es) y m = begin_lines m.stage p es y m
called advancing y m = advance_lines m.stage m
called committing y m = commit_lines m.stage m
called aborting y m = abort_lines m.stage m
called (undoes n) y m = undo_lines m.stage n y m
called (redoes n) y m = redo_lines m.stage n y m
called shows y m = show_lines m.stage y m

-- what a call makes after a listed history
unfoldable pub call_listed : ListedState → ListedCall → ListedHistory → ListedHistory
call_listed y c m = called c (state_by y m.marked) m

-- the edits that come with a call are those that it performs
abbrev HasEdits : List ListedEdit → ListedOutcome → Type 0
HasEdits es (Ok r) = r.edits ≡ edits_from es
HasEdits es (Err why) = Unit {0}

-- a call comes with the edits that it performs in this state
abbrev ComesRight : ListedCall → ListedState → Type 0
ComesRight (activating p es) y = HasEdits es (meaning_listed p y)
ComesRight (beginning p es) y = HasEdits es (meaning_listed p y)
ComesRight _ y = Unit {0}

-- the history after these calls
unfoldable pub calls_listed : ListedState → List ListedCall → ListedHistory → ListedHistory
calls_listed y [] m = m
calls_listed y (c ∷ cs) m = calls_listed y cs (call_listed y c m)

-- a call comes with its edits, and so do those after it; only an activation and a begin have any
abbrev AndRight : ListedCall → ListedState → Type 0 → Type 0
AndRight (activating p es) y rest = HasEdits es (meaning_listed p y) × rest
AndRight (beginning p es) y rest = HasEdits es (meaning_listed p y) × rest
AndRight _ y rest = rest

-- each call comes with its edits
unfoldable pub ComeRight : ListedState → List ListedCall → ListedHistory → Type 0
ComeRight y [] m = Unit {0}
ComeRight y (c ∷ cs) m = AndRight c (state_by y m.marked) (ComeRight y cs (call_listed y c m))

-- the call itself comes with its edits
right_now : (c : ListedCall) (y : ListedState) (rest : Type 0) → AndRight c y rest → ComesRight c y
right_now (activating p es) y rest right = right.0
right_now (beginning p es) y rest right = right.0
right_now (stepping x s) y rest right = tt
right_now advancing y rest right = tt
right_now committing y rest right = tt
right_now aborting y rest right = tt
right_now (undoes n) y rest right = tt
right_now (redoes n) y rest right = tt
right_now shows y rest right = tt

-- so do those after it
right_later : (c : ListedCall) (y : ListedState) (rest : Type 0) → AndRight c y rest → rest
right_later (activating p es) y rest right = right.1
right_later (beginning p es) y rest right = right.1
right_later (stepping x s) y rest right = right
right_later advancing y rest right = right
right_later committing y rest right = right
right_later aborting y rest right = right
right_later (undoes n) y rest right = right
right_later (redoes n) y rest right = right
right_later shows y rest right = right

-- a call that comes with its edits, before others that do
right_first : (c : ListedCall) (y : ListedState) (rest : Type 0) → ComesRight c y → rest → AndRight c y rest
right_first (activating p es) y rest now later = (now, later)
right_first (beginning p es) y rest now later = (now, later)
right_first (stepping x s) y rest now later = later
right_first advancing y rest now later = later
right_first committing y rest now later = later
right_first aborting y rest now later = later
right_first (undoes n) y rest now later = later
right_first (redoes n) y rest now later = later
right_first shows y rest now later = later

-- the state of a history
state_seen : (opening : State) (h : History)
    → listing (state_at opening h) ≡ state_by (listing opening) (history_listing opening h).marked
state_seen opening h = state_by_seen opening (marked_entries opening h)

-- the first subchannel of a change that isn't quiet is that of the listing
busy_is : (s : State) (n : ℕ) (ls : List MarkedEntry) (y : ListedState) → listing s ≡ y
    → first_not_quiet s.lives (altered_by_change n ls) ≡ busy_listed y.lives (altered_in n (lines_listing ls))
busy_is s n ls y is = busy_seen s.lives (altered_by_change n ls)
    ∙ (λ i. busy_listed ((is i).lives) (altered_seen n ls i))

-- what a machine counts is what its listing counts
show_answer_is : (s : State) (b : Journal) → show_answer s b ≡ show_answer_listed (listing s) b
show_answer_is s b = λ i. Shown (record {
  records = len-entries s.config i;
  subchannels = (len-entries (views_in s) ∙ ap length (views_seen s.config s.numbers)) i;
  standing = length b.standing;
  undone = length b.undone;
})

held_seen : (x : SubId) (g : Option Stage) → is_held x g ≡ held_by x (stages_listing g)
held_seen x (Some g) = refl
held_seen x None = refl

abbrev IsGiven : Outcome → Type 0
IsGiven (Ok r) = Unit {0}
IsGiven (Err why) = ⊥

-- the change that an accepted tree means
meant_is : (es : List ListedEdit) (o : Outcome) (s : State) → HasEdits es (outcome_listing o) → IsGiven o
    → change_listing (change_of o s) ≡ changed_by es (listing s)
meant_is es (Ok r) s right given = ap (λ fs. change_listing (record { edits = fs; from = s })) right ∙ changed_is es s
meant_is es (Err why) s right given = absurd given

length_is : (es : List ListedEdit) → length (edits_from es) ≡ length es
length_is [] = refl
length_is (e ∷ es) = ap suc (length_is es)

module _ (opening : State) (h : History) where
  abbrev a : Account
  a = account opening h

  abbrev s : State
  s = state_at opening h

  abbrev y : ListedState
  y = listing s

  abbrev m : ListedHistory
  m = history_listing opening h

  abbrev n : ℕ
  n = (journal_of h).count + 1

  -- what an entry is listed as
  abbrev after : Entry → ListedHistory
  after e = history_listing opening (e ∷ h)

  step_is : (x : SubId) (p : Step) (b : Bool)
      → after (plain_entry (at x p) (unless_held b (answer_in s x p))) ≡ step_lines b x p y m
  step_is x p true = made_seen opening (plain_entry (at x p) Held) h no_act m.stage refl refl
  step_is x (order o) false = made_seen opening (plain_entry (at x (order o)) (answer_in s x (order o))) h
      (a_step x (order o) (find sub_id_cmp x (after_step_listed x (order o) y).lives)) m.stage
      (ap (a_step x (order o))
      (get-entries (after_step x (order o) s).lives x
      ∙ ap (λ (z : ListedState). find sub_id_cmp x z.lives) (after_step_seen x (order o) s))) refl
      ∙ ap (λ r. made r (a_step x (order o) (find sub_id_cmp x (after_step_listed x (order o) y).lives)) m.stage m)
      (answer_seen s x (order o))
  step_is x device_begin false = made_seen opening (plain_entry (at x device_begin) (answer_in s x device_begin)) h
      (a_step x device_begin (find sub_id_cmp x (after_step_listed x device_begin y).lives)) m.stage
      (ap (a_step x device_begin)
      (get-entries (after_step x device_begin s).lives x
      ∙ ap (λ (z : ListedState). find sub_id_cmp x z.lives) (after_step_seen x device_begin s))) refl
      ∙ ap (λ r. made r (a_step x device_begin (find sub_id_cmp x (after_step_listed x device_begin y).lives)) m.stage
      m) (answer_seen s x device_begin)
  step_is x device_end false = made_seen opening (plain_entry (at x device_end) (answer_in s x device_end)) h
      (a_step x device_end (find sub_id_cmp x (after_step_listed x device_end y).lives)) m.stage
      (ap (a_step x device_end)
      (get-entries (after_step x device_end s).lives x
      ∙ ap (λ (z : ListedState). find sub_id_cmp x z.lives) (after_step_seen x device_end s))) refl
      ∙ ap (λ r. made r (a_step x device_end (find sub_id_cmp x (after_step_listed x device_end y).lives)) m.stage m)
      (answer_seen s x device_end)

  activated_is : (p : ListedPlan) (es : List ListedEdit) (o : Outcome) → meaning (plan_from p) s ≡ o
      → HasEdits es (outcome_listing o)
      → after (activated (plan_from p) n s o) ≡ activated_lines es n y (outcome_listing o) m
  activated_is p es (Ok r) is right = made_seen opening (activated (plan_from p) n s (Ok r)) h
      (a_change n (changed_by es y)) m.stage
      (ap (a_change n) (ap (λ o. change_listing (change_of o s)) is ∙ meant_is es (Ok r) s right tt)) refl
  activated_is p es (Err why) is right =
      made_seen opening (activated (plan_from p) n s (Err why)) h no_act m.stage refl refl

  activate_is : (p : ListedPlan) (es : List ListedEdit) (g : Option Stage) → a.stage ≡ g
      → HasEdits es (outcome_listing (meaning (plan_from p) s))
      → after (unless_staged g (activate (plan_from p)) (activated (plan_from p) n s (meaning (plan_from p) s)))
      ≡ activate_lines (stages_listing g) p es y m
  activate_is p es (Some g) is right =
      made_seen opening (plain_entry (activate (plan_from p)) (Refused (refusal_at O1 Nothing))) h no_act m.stage refl
      refl
  activate_is p es None is right =
      activated_is p es (meaning (plan_from p) s) refl right ∙ ap (λ o. activated_lines es n y o m) (meaning_seen p s)

  begun_is : (p : ListedPlan) (es : List ListedEdit) (o : Outcome) → meaning (plan_from p) s ≡ o
      → HasEdits es (outcome_listing o)
      → after (begun (plan_from p) o) ≡ begun_lines es y (outcome_listing o) m
  begun_is p es (Ok r) is right =
      let change_is = ap (λ o. change_listing (change_of o s)) is ∙ meant_is es (Ok r) s right tt in
      let count : length r.edits ≡ length es = ap length right ∙ length_is es in
      let edits : length (change_of (meaning (plan_from p) s) s).edits ≡ length es =
      ap (λ o. length (change_of o s).edits) is ∙ count in
      made_seen opening (begun (plan_from p) (Ok r)) h no_act
      (Some (record { change = changed_by es y; edits = length es; advances = 0 })) refl
      (λ i. Some (record { change = change_is i; edits = edits i; advances = 0 }))
      ∙ ap (λ k. made (Staged k) no_act (Some (record { change = changed_by es y; edits = length es; advances = 0 })) m)
      count
  begun_is p es (Err why) is right = made_seen opening (begun (plan_from p) (Err why)) h no_act m.stage refl refl

  begin_is : (p : ListedPlan) (es : List ListedEdit) (g : Option Stage)
      → HasEdits es (outcome_listing (meaning (plan_from p) s))
      → after (unless_staged g (begin (plan_from p)) (begun (plan_from p) (meaning (plan_from p) s)))
      ≡ begin_lines (stages_listing g) p es y m
  begin_is p es (Some g) right =
      made_seen opening (plain_entry (begin (plan_from p)) (Refused (refusal_at O1 Nothing))) h no_act m.stage refl refl
  begin_is p es None right =
      begun_is p es (meaning (plan_from p) s) refl right ∙ ap (λ o. begun_lines es y o m) (meaning_seen p s)

  advance_is : (g : Option Stage) → a.stage ≡ g
      → after (plain_entry advance (advance_answer g)) ≡ advance_lines (stages_listing g) m
  advance_is (Some g) is = made_seen opening (plain_entry advance (advance_answer (Some g))) h no_act
      (Some (more_lines (stage_listing g))) refl
      (ap (λ o. stages_listing (advanced o)) is)
  advance_is None is = made_seen opening (plain_entry advance (advance_answer None)) h no_act m.stage refl refl

  commit_is : (g : Option Stage) → a.stage ≡ g → after (commit_entry n g) ≡ commit_lines (stages_listing g) m
  commit_is (Some g) is = made_seen opening (commit_entry n (Some g)) h (a_change n (change_listing g.change)) None
      (ap (λ o. act_listing (committed n o)) is) refl
  commit_is None is = made_seen opening (commit_entry n None) h no_act m.stage refl refl

  abort_is : (g : Option Stage) → after (plain_entry abort (abort_answer g)) ≡ abort_lines (stages_listing g) m
  abort_is (Some g) = made_seen opening (plain_entry abort (abort_answer (Some g))) h no_act None refl refl
  abort_is None = made_seen opening (plain_entry abort (abort_answer None)) h no_act m.stage refl refl

  undone_is : (k : ℕ) (r : Answer) → after (plain_entry (undo k) r) ≡ undone_lines r m
  undone_is k (Undone j) = made_seen opening (plain_entry (undo k) (Undone j)) h (an_undo j) m.stage refl refl
  undone_is k (Redone j) = made_seen opening (plain_entry (undo k) (Redone j)) h no_act m.stage refl refl
  undone_is k (Io r) = made_seen opening (plain_entry (undo k) (Io r)) h no_act m.stage refl refl
  undone_is k (Begun r) = made_seen opening (plain_entry (undo k) (Begun r)) h no_act m.stage refl refl
  undone_is k (Ended r) = made_seen opening (plain_entry (undo k) (Ended r)) h no_act m.stage refl refl
  undone_is k Held = made_seen opening (plain_entry (undo k) Held) h no_act m.stage refl refl
  undone_is k (Changed j) = made_seen opening (plain_entry (undo k) (Changed j)) h no_act m.stage refl refl
  undone_is k (Staged j) = made_seen opening (plain_entry (undo k) (Staged j)) h no_act m.stage refl refl
  undone_is k (Left j) = made_seen opening (plain_entry (undo k) (Left j)) h no_act m.stage refl refl
  undone_is k Aborted = made_seen opening (plain_entry (undo k) Aborted) h no_act m.stage refl refl
  undone_is k (Shown r) = made_seen opening (plain_entry (undo k) (Shown r)) h no_act m.stage refl refl
  undone_is k (Refused r) = made_seen opening (plain_entry (undo k) (Refused r)) h no_act m.stage refl refl

  undo_is : (k : ℕ) (g : Option Stage)
      → after (unless_staged g (undo k)
      (plain_entry (undo k) (undo_answer k (journal_of h).standing (stands_on k a.entries s) (not_quiet_of k s a))))
      ≡ undo_lines (stages_listing g) k y m
  undo_is k (Some g) = made_seen opening (plain_entry (undo k) (Refused (refusal_at O1 Nothing))) h no_act m.stage refl
      refl
  undo_is k None = undone_is k (undo_answer k (journal_of h).standing (stands_on k a.entries s) (not_quiet_of k s a))
      ∙ (λ i. undone_lines (undo_answer k (journal_of h).standing (stands_on_seen k a.entries s i)
      (busy_is s k a.entries y refl i)) m)

  redo_is : (k : ℕ) (g : Option Stage)
      → after (unless_staged g (redo k) (plain_entry (redo k) (redo_answer k (journal_of h) (not_quiet_of k s a))))
      ≡ redo_lines (stages_listing g) k y m
  redo_is k (Some g) = made_seen opening (plain_entry (redo k) (Refused (refusal_at O1 Nothing))) h no_act m.stage refl
      refl
  redo_is k None = made_seen opening (plain_entry (redo k) (redo_answer k (journal_of h) (not_quiet_of k s a))) h no_act
      m.stage refl refl
      ∙ ap (λ busy. made (redo_answer k (journal_of h) busy) no_act m.stage m) (busy_is s k a.entries y refl)

  show_is : (g : Option Stage)
      → after (unless_staged g show (plain_entry show (show_answer s (journal_of h))))
      ≡ show_lines (stages_listing g) y m
  show_is (Some g) = made_seen opening (plain_entry show (Refused (refusal_at O1 Nothing))) h no_act m.stage refl refl
  show_is None = made_seen opening (plain_entry show (show_answer s (journal_of h))) h no_act m.stage refl refl
      ∙ ap (λ r. made r no_act m.stage m) (show_answer_is s (journal_of h))

  right_seen : (p : ListedPlan) (es : List ListedEdit) → HasEdits es (meaning_listed p y)
      → HasEdits es (outcome_listing (meaning (plan_from p) s))
  right_seen p es right = subst (HasEdits es) (sym (meaning_seen p s)) right

  -- what a call makes after a history that is listed
  called_is : (c : ListedCall) → ComesRight c y → after (entry_of opening h (call_from c)) ≡ called c y m
  called_is (stepping x p) right =
      step_is x p (is_held x a.stage) ∙ ap (λ b. step_lines b x p y m) (held_seen x a.stage)
  called_is (activating p es) right = activate_is p es a.stage refl (right_seen p es right)
  called_is (beginning p es) right = begin_is p es a.stage (right_seen p es right)
  called_is advancing right = advance_is a.stage refl
  called_is committing right = commit_is a.stage refl
  called_is aborting right = abort_is a.stage
  called_is (undoes k) right = undo_is k a.stage
  called_is (redoes k) right = redo_is k a.stage
  called_is shows right = show_is a.stage

-- what a call makes after a history that is listed
call_is : (opening : State) (y : ListedState) → listing opening ≡ y → (c : ListedCall) (h : History) (m : ListedHistory)
    → history_listing opening h ≡ m → ComesRight c (state_by y m.marked)
    → history_listing opening (entry_of opening h (call_from c) ∷ h) ≡ call_listed y c m
unfolding call_listed
call_is opening y is c h m so right =
    let state : listing (state_at opening h) ≡ state_by y m.marked =
    state_seen opening h ∙ (λ i. state_by (is i) (so i).marked) in
    called_is opening h c (subst (ComesRight c) (sym state) right) ∙ (λ i. called c (state i) (so i))

-- what calls make, one after the other
calls_are : (opening : State) (y : ListedState) → listing opening ≡ y
    → (cs : List ListedCall) (h : History) (m : ListedHistory)
    → history_listing opening h ≡ m → ComeRight y cs m
    → history_listing opening (fold (λ g call. entry_of opening g call ∷ g) h (calls_from cs)) ≡ calls_listed y cs m
unfolding calls_listed ComeRight
calls_are opening y is [] h m so right = so
calls_are opening y is (c ∷ cs) h m so right =
    let rest = ComeRight y cs (call_listed y c m) in
    let now = right_now c (state_by y m.marked) rest right in
    calls_are opening y is cs _ (call_listed y c m) (call_is opening y is c h m so now)
    (right_later c (state_by y m.marked) rest right)

-- nothing was called
abbrev pub uncalled : ListedHistory
uncalled = record {
  marked = [];
  stage = None;
  journal = record { count = 0; standing = []; undone = [] };
  answers = [];
}

-- the empty history is listed so
nothing_called : (opening : State) → history_listing opening [] ≡ uncalled
unfolding account
nothing_called opening = refl

-- the history of a run, listed
pub run_is : (opening : State) (y : ListedState) → listing opening ≡ y → (cs : List ListedCall)
    → ComeRight y cs uncalled
    → history_listing opening (run opening (calls_from cs)) ≡ calls_listed y cs uncalled
run_is opening y is cs right = calls_are opening y is cs [] uncalled (nothing_called opening) right

-- its last state, listed
pub last_state_is : (opening : State) (y : ListedState) → listing opening ≡ y → (cs : List ListedCall)
    → ComeRight y cs uncalled
    → listing (state_at opening (run opening (calls_from cs))) ≡ state_by y (calls_listed y cs uncalled).marked
last_state_is opening y is cs right = state_seen opening (run opening (calls_from cs))
    ∙ (λ i. state_by (is i) (run_is opening y is cs right i).marked)

-- the first calls come right where all do
pub first_come_right : (y : ListedState) (n : ℕ) (cs : List ListedCall) (m : ListedHistory) → ComeRight y cs m
    → ComeRight y (take n cs) m
unfolding ComeRight
first_come_right y zero cs m right = tt
first_come_right y (suc n) [] m right = tt
first_come_right y (suc n) (c ∷ cs) m right =
    let now = state_by y m.marked in
    let next = call_listed y c m in
    let rest = ComeRight y cs next in
    right_first c now (ComeRight y (take n cs) next) (right_now c now rest right)
    (first_come_right y n cs next (right_later c now rest right))
