-- What each call does to the state of a legal history.
use Rattle.std.proofs.Common.{◌≡◌, inl, inr, Bool, true, false, cond, List, ◌∷◌, Option, Some, None, refl, sym, ap}
use Rattle.std.proofs.Common.{subst, ◌∙◌}
use Rattle.std.specs.Ordering.{eq_by_cmp}
use Rattle.std.specs.FinMap.{get, get-insert, same_map}
use Rattle.iocm_types.specs.declared.answer.Answer.{Answer}
use Rattle.iocm_types.specs.declared.answer.Answer.TheVariants.{Held, Staged, Left, Aborted, Shown}
use Rattle.iocm_types.specs.declared.answer.Answer.TheVariants as answers
use Rattle.iocm_types.specs.declared.live.Live.{Live}
use Rattle.iocm_types.specs.declared.sub_id.SubId.{SubId}
use Rattle.iocm_types.specs.declared.view.View.{View}
use Rattle.iocm_types.specs.SubId.{sub_id_cmp}
use Rattle.iocm_types.specs.KeyOrder.{sub_ids_total, sub_ids_exact}
use Rattle.iocm_types.proofs.Found.{same_key}
use Rattle.iocm_model.specs.Operation.State.{State, Lives}
use Rattle.iocm_model.specs.Operation.Step.{Step, order, device_begin, device_end, subchannel_in, live_after_step}
use Rattle.iocm_model.specs.Operation.Step.{lives_after_step, after_step, answer_in}
use Rattle.iocm_model.specs.Change.Maps.{with_value}
use Rattle.iocm_model.specs.Laws.Trees.{IsRunFrom}
use Rattle.iocm_model.proofs.Maps.Cells.{get_with_value}
use Rattle.iocm_model.proofs.Change.RunsGoBack.{accepted_carry, writes_its_effect}
use Rattle.iocm_model.proofs.Change.Steps.{steps_stay_sound}
use Rattle.iocm_model.proofs.Change.Trees.{accepted_trees_are_runs}
use Rattle.iocm_history.specs.Entry.{Call, at, activate, begin, advance, commit, abort, undo, redo, show, Entry}
use Rattle.iocm_history.specs.Entry.{History}
use Rattle.iocm_history.specs.Store.{store_of, state_of, store_with}
use Rattle.iocm_history.specs.Change.{change_of, effect_of_change}
use Rattle.iocm_history.specs.MarkedEntry.{step, nothing, kept, MarkedEntry, effect_of_act, entries_after}
use Rattle.iocm_history.specs.Stage.{Stage, is_held}
use Rattle.iocm_history.specs.Account.{replay, act_of, Account, state_in, account, state_at}
use Rattle.iocm_history.specs.Journal.{journal_of}
use Rattle.iocm_history.specs.Legal.{unless_held, entry_of, may_lack_memory_after, IsRight, IsLegal}
use Rattle.iocm_history.specs.HistoryLaws.{StatesStayInUse, StepsStep, ActivationsDoWhatTheyMean, LeavesTheState}
use Rattle.iocm_history.specs.HistoryLaws.{OtherCallsLeaveTheState}
use Rattle.iocm_history.specs.InUse.{IsInUse}
use Rattle.iocm_history.proofs.OneCell.{state_of_store}
use Rattle.iocm_history.proofs.Striking.{entry}
use Rattle.iocm_history.proofs.Level.{with_live, step_store, with_live_in_use}
use Rattle.iocm_history.proofs.Undone.{inert_replay}
use Rattle.iocm_history.proofs.Settled.{settled_in_use, level_is, nothing_inert}
use Rattle.iocm_history.proofs.Along.{settled}

pub states_stay_in_use : StatesStayInUse
states_stay_in_use opening h used legal =
    settled_in_use (store_of opening) (journal_of h) (account opening h) (settled opening h used legal)

-- ---- steps

-- the live record that a step leaves, put there, is what the step does
put_there : (x : SubId) (made : Step) (p : Option (View × Live)) (lives : Lives)
    → with_value lives x (get (lives_after_step x made p lives) x) ≡ lives_after_step x made p lives
put_there x made p lives = same_map sub_ids_total sub_ids_exact _ _ (λ y.
    get_with_value sub_ids_total sub_ids_exact lives x (get (lives_after_step x made p lives) x) y
    ∙ by p y (eq_by_cmp sub_id_cmp y x) refl)
  where
    by : (p : Option (View × Live)) (y : SubId) (b : Bool) → eq_by_cmp sub_id_cmp y x ≡ b
        → cond b (get (lives_after_step x made p lives) x) (get lives y) ≡ get (lives_after_step x made p lives) y
    by p y true is = ap (get (lives_after_step x made p lives)) (sym (same_key sub_id_cmp sub_ids_exact y x is))
    by None y false is = refl
    by (Some q) y false is =
        sym (get-insert sub_ids_total lives x (live_after_step made q.0 q.1) y
        ∙ ap (λ b. cond b (Some (live_after_step made q.0 q.1)) (get lives y)) is)

pub after_step_is : (s : State) (x : SubId) (made : Step)
    → with_live s x (get (after_step x made s).lives x) ≡ after_step x made s
after_step_is s x made =
    λ i. record { config = s.config; numbers = s.numbers; lives = put_there x made (subchannel_in s x) s.lives i }

stepped : (opening : State) (h : History) (x : SubId) (made : Step) → IsInUse opening → IsLegal opening h
    → let s = state_at opening h in
    state_of (store_with (effect_of_act (step x made (get (after_step x made s).lives x)))
    (replay (store_of opening) (account opening h).entries)) ≡ after_step x made s
stepped opening h x made used legal =
    let i = settled opening h used legal in
    let s = state_at opening h in let l = get (after_step x made s).lives x in
    let is = level_is (store_of opening) (journal_of h) (account opening h) i in
    let in_use = settled_in_use (store_of opening) (journal_of h) (account opening h) i in
    let now : replay (store_of opening) (account opening h).entries ≡ store_of s = i.level.is ∙ ap store_of (sym is) in
    ap (λ m. state_of (store_with (effect_of_act (step x made l)) m)) now ∙ ap state_of (step_store s x made l)
    ∙ state_of_store (with_live s x l)
    (with_live_in_use s x l ((steps_stay_sound x made s in_use.sound).lived x) in_use).sound
    ∙ after_step_is s x made

pub steps_step : StepsStep
unfolding account
steps_step opening h x (order o) used legal = stepped opening h x (order o) used legal
steps_step opening h x device_begin used legal = stepped opening h x device_begin used legal
steps_step opening h x device_end used legal = stepped opening h x device_end used legal

-- ---- activations

pub activations_do_what_they_mean : ActivationsDoWhatTheyMean
unfolding account
activations_do_what_they_mean opening h p n done used legal is =
    let i = settled opening h used legal in
    let s = state_at opening h in
    let at_level = level_is (store_of opening) (journal_of h) (account opening h) i in
    let in_use = settled_in_use (store_of opening) (journal_of h) (account opening h) i in
    let now : replay (store_of opening) (account opening h).entries ≡ store_of s =
    i.level.is ∙ ap store_of (sym at_level) in
    let run : IsRunFrom s done = accepted_trees_are_runs p s done is in
    (λ j. state_of (store_with (effect_of_change (change_of (is j) s)) (now j)))
    ∙ writes_its_effect done.edits s in_use.sound (accepted_carry done.edits s run.accepted) ∙ sym run.state

-- ---- calls that leave the state

abbrev is_step_call : Call → Bool
is_step_call (at x made) = true
is_step_call _ = false

holds_not : true ≡ false → ⊥
holds_not e = cc

idle_act : (call : Call) (answer : Answer) (s : State) (g : Option Stage) → is_step_call call ≡ false
    → LeavesTheState answer → act_of call answer s g ≡ nothing
idle_act (activate p) Held s g none stays = refl
idle_act (activate p) (Staged k) s g none stays = refl
idle_act (activate p) (Left k) s g none stays = refl
idle_act (activate p) Aborted s g none stays = refl
idle_act (activate p) (Shown counts) s g none stays = refl
idle_act (activate p) (answers.Refused why) s g none stays = refl
idle_act (activate p) (answers.Io io) s g none stays = absurd stays
idle_act (activate p) (answers.Begun was) s g none stays = absurd stays
idle_act (activate p) (answers.Ended was) s g none stays = absurd stays
idle_act (activate p) (answers.Changed m) s g none stays = absurd stays
idle_act (activate p) (answers.Undone m) s g none stays = absurd stays
idle_act (activate p) (answers.Redone m) s g none stays = absurd stays
idle_act commit Held s g none stays = refl
idle_act commit (Staged k) s g none stays = refl
idle_act commit (Left k) s g none stays = refl
idle_act commit Aborted s g none stays = refl
idle_act commit (Shown counts) s g none stays = refl
idle_act commit (answers.Refused why) s g none stays = refl
idle_act commit (answers.Io io) s g none stays = absurd stays
idle_act commit (answers.Begun was) s g none stays = absurd stays
idle_act commit (answers.Ended was) s g none stays = absurd stays
idle_act commit (answers.Changed m) s g none stays = absurd stays
idle_act commit (answers.Undone m) s g none stays = absurd stays
idle_act commit (answers.Redone m) s g none stays = absurd stays
idle_act (undo n) Held s g none stays = refl
idle_act (undo n) (Staged k) s g none stays = refl
idle_act (undo n) (Left k) s g none stays = refl
idle_act (undo n) Aborted s g none stays = refl
idle_act (undo n) (Shown counts) s g none stays = refl
idle_act (undo n) (answers.Refused why) s g none stays = refl
idle_act (undo n) (answers.Io io) s g none stays = absurd stays
idle_act (undo n) (answers.Begun was) s g none stays = absurd stays
idle_act (undo n) (answers.Ended was) s g none stays = absurd stays
idle_act (undo n) (answers.Changed m) s g none stays = absurd stays
idle_act (undo n) (answers.Undone m) s g none stays = absurd stays
idle_act (undo n) (answers.Redone m) s g none stays = absurd stays
idle_act (at x made) answer s g none stays = absurd (holds_not none)
idle_act (begin p) answer s g none stays = refl
idle_act advance answer s g none stays = refl
idle_act abort answer s g none stays = refl
idle_act (redo n) answer s g none stays = refl
idle_act show answer s g none stays = refl

same_entries : (answer : Answer) (ls : List MarkedEntry) → LeavesTheState answer → entries_after answer ls ≡ ls
same_entries Held ls stays = refl
same_entries (Staged k) ls stays = refl
same_entries (Left k) ls stays = refl
same_entries Aborted ls stays = refl
same_entries (Shown counts) ls stays = refl
same_entries (answers.Refused why) ls stays = refl
same_entries (answers.Io io) ls stays = absurd stays
same_entries (answers.Begun was) ls stays = absurd stays
same_entries (answers.Ended was) ls stays = absurd stays
same_entries (answers.Changed m) ls stays = absurd stays
same_entries (answers.Undone m) ls stays = absurd stays
same_entries (answers.Redone m) ls stays = absurd stays

module _ (opening : State) (h : History) where
  abbrev a : Account
  a = account opening h

  abbrev s : State
  s = state_in opening a

  idle_state : (call : Call) (answer : Answer) → LeavesTheState answer → act_of call answer s a.stage ≡ nothing
      → state_of (replay (store_of opening)
      (entry (act_of call answer s a.stage) kept ∷ entries_after answer a.entries)) ≡ s
  idle_state call answer stays is =
      (λ i. state_of (replay (store_of opening) (entry (is i) kept ∷ same_entries answer a.entries stays i)))
      ∙ ap state_of (inert_replay (store_of opening) (entry nothing kept) a.entries nothing_inert)

  held_act : (x : SubId) (made : Step) (held : Bool) → LeavesTheState (unless_held held (answer_in s x made))
      → act_of (at x made) (unless_held held (answer_in s x made)) s a.stage ≡ nothing
  held_act x made true stays = refl
  held_act x (order o) false stays = absurd stays
  held_act x device_begin false stays = absurd stays
  held_act x device_end false stays = absurd stays

  -- by whether the call is a step
  leaves : (call : Call) (e : Entry) → e.call ≡ call → IsRight opening h e → LeavesTheState e.answer
      → act_of e.call e.answer s a.stage ≡ nothing
  leaves call e is right stays = by call is
    where
      step_leaves : (x : SubId) (made : Step) → e.call ≡ at x made → IsRight opening h e
          → act_of e.call e.answer s a.stage ≡ nothing
      step_leaves x made is (inl same) =
          let answer : e.answer ≡ unless_held (is_held x a.stage) (answer_in s x made)
          = ap (λ (z : Entry). z.answer) same ∙ ap (λ c. (entry_of opening h c).answer) is in
          (λ i. act_of (is i) (answer i) s a.stage)
          ∙ held_act x made (is_held x a.stage) (subst LeavesTheState answer stays)
      step_leaves x made is (inr lack) = absurd (holds_not (sym lack.0 ∙ ap (may_lack_memory_after opening h) is))

      other : is_step_call e.call ≡ false → act_of e.call e.answer s a.stage ≡ nothing
      other none = idle_act e.call e.answer s a.stage none stays

      by : (call : Call) → e.call ≡ call → act_of e.call e.answer s a.stage ≡ nothing
      by (at x made) is = step_leaves x made is right
      by (activate p) is = other (ap is_step_call is)
      by (begin p) is = other (ap is_step_call is)
      by advance is = other (ap is_step_call is)
      by commit is = other (ap is_step_call is)
      by abort is = other (ap is_step_call is)
      by (undo n) is = other (ap is_step_call is)
      by (redo n) is = other (ap is_step_call is)
      by show is = other (ap is_step_call is)

pub other_calls_leave_the_state : OtherCallsLeaveTheState
unfolding account
other_calls_leave_the_state opening h e used legal stays =
    idle_state opening h e.call e.answer stays (leaves opening h e.call e refl legal.0 stays)
