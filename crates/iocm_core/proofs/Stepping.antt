-- Steps at subchannels, held or not.
use Rattle.std.proofs.Common.{◌≡◌, true, false, Option, Some, None, List, ◌∷◌, IsTrue, refl, sym, ap, subst, ◌∙◌}
use Rattle.iocm_types.specs.declared.answer.Answer.{Answer}
use Rattle.iocm_types.specs.declared.answer.Answer.TheVariants as answers
use Rattle.iocm_types.specs.declared.sub_id.SubId.{SubId}
use Rattle.iocm_model.specs.Operation.State.{State}
use Rattle.iocm_model.specs.Operation.Step.{Step, order, device_begin, device_end, after_step, answer_in}
use Rattle.iocm_history.specs.Entry.{at, Entry, History, plain_entry, no_effect}
use Rattle.iocm_history.specs.Legal.{IsRight}
use Rattle.iocm_activate.specs.Effects.{Listed}
use Rattle.iocm_activate.specs.declared.effect.Effect.{Effect}
use Rattle.iocm_journal.specs.Now.{IsJournalOf}
use Rattle.iocm_journal.specs.Journaled.{Journaled}
use Rattle.iocm_core.specs.Told.{entry_told, effect_told}
use Rattle.iocm_history.specs.Account.{account, state_at, stage_of}
use Rattle.iocm_history.specs.Stage.{Stage, is_held}
use Rattle.iocm_history.proofs.EachCall.{steps_step}
use Rattle.iocm_plant.specs.Operating.{Operating, KeepsRoom}
use Rattle.iocm_stage.specs.StageLaws.{StepsElsewherePassAStage}
use Rattle.iocm_stage.specs.declared.staged.Staged.{Staged}
use Rattle.iocm_journal.specs.Answering.{LeavesTheJournal}
use Rattle.iocm_journal.specs.JournalLaws.{OtherEntriesLeaveIt}
use Rattle.iocm_core.specs.Running.{IsStagedAs, HasRoomFor, IsInstallationOf, IsAnswered}
use Rattle.iocm_core.specs.declared.installation.Installation.{Installation}
use Rattle.iocm_core.proofs.Idling.{idle_now}
use Rattle.iocm_core.proofs.Rightness.{held_right, step_right}

-- a step that is held leaves the installation
held_stage : (opening : State) (h : History) (x : SubId) (made : Step)
    → stage_of opening (plain_entry (at x made) answers.Held ∷ h) ≡ stage_of opening h
unfolding account
held_stage opening h x made = refl

pub held_answered : OtherEntriesLeaveIt → (opening : State) (h : History) (m : Installation) (x : SubId) (made : Step)
    → IsInstallationOf opening h m → is_held x (stage_of opening h) ≡ true
    → IsAnswered opening h (at x made) answers.Held m
held_answered others opening h m x made it held = let right = held_right opening h x made held in record {
  right = right;
  is = idle_now others opening h m (plain_entry (at x made) answers.Held) it right tt tt (held_stage opening h x made);
}

-- a step's answer leaves journal and stage
step_journal : (s : State) (x : SubId) (made : Step) → LeavesTheJournal (answer_in s x made)
step_journal s x (order o) = tt
step_journal s x device_begin = tt
step_journal s x device_end = tt

step_stage : (opening : State) (h : History) (s : State) (x : SubId) (made : Step)
    → stage_of opening (plain_entry (at x made) (answer_in s x made) ∷ h) ≡ stage_of opening h
unfolding account
step_stage opening h s x (order o) = refl
step_stage opening h s x device_begin = refl
step_stage opening h s x device_end = refl

-- it tells of no change
nothing_told : (fs : List Effect) (s : State) (x : SubId) (made : Step)
    → effect_told fs (answer_in s x made) ≡ no_effect
nothing_told fs s x (order o) = refl
nothing_told fs s x device_begin = refl
nothing_told fs s x device_end = refl

-- what a step does to a stage, or to the machine where nothing is staged
record WasStepped (g : Option Stage) (staged : Option Staged) (s : State) (x : SubId) (made : Step)
    (p q : Operating) : Type 0 where
  stage : IsStagedAs g staged (after_step x made s) q
  answer : answer_in p.state x made ≡ answer_in s x made

stepped : StepsElsewherePassAStage → (g : Option Stage) (staged : Option Staged) (s : State) (x : SubId) (made : Step)
    (p q : Operating) → IsStagedAs g staged s p → is_held x g ≡ false
    → q.state ≡ after_step x made p.state → KeepsRoom p.room q.room → WasStepped g staged s x made p q
stepped law None None s x made p q is off state room =
    record { stage = state ∙ ap (after_step x made) is; answer = ap (λ z. answer_in z x made) is }
stepped law (Some t) (Some g) s x made p q is off state room = let passed = law g t s x made p q is off state room in
    record { stage = passed.stage; answer = passed.answer }
stepped law None (Some g) s x made p q is off state room = absurd is
stepped law (Some t) None s x made p q is off state room = absurd is

module _ (law : StepsElsewherePassAStage) (others : OtherEntriesLeaveIt) (opening : State) (h : History)
    (m n : Installation) (x : SubId) (made : Step) (it : IsInstallationOf opening h m)
    (off : is_held x (stage_of opening h) ≡ false) (state : n.plant.state ≡ after_step x made m.plant.state)
    (room : KeepsRoom m.plant.room n.plant.room)
    (journal : n.journal ≡ m.journal) (staged : n.stage ≡ m.stage) (changes : n.changes ≡ m.changes) where
  was : WasStepped (stage_of opening h) m.stage (state_at opening h) x made m.plant n.plant
  was = stepped law (stage_of opening h) m.stage (state_at opening h) x made m.plant n.plant it.stage off state room

  abbrev e : Entry
  e = plain_entry (at x made) (answer_in (state_at opening h) x made)

  after : state_at opening (e ∷ h) ≡ after_step x made (state_at opening h)
  after = steps_step opening h x made it.journal.used it.journal.legal

  moved_on : IsInstallationOf opening (e ∷ h) n
  moved_on = record {
    journal = subst (λ j. IsJournalOf opening (e ∷ h) j n.changes.items) (sym journal)
        (subst (λ (fs : _). IsJournalOf opening (e ∷ h) m.journal fs.items) (sym changes)
        (others opening h e m.journal m.changes.items it.journal (step_right opening h x made off)
        (step_journal (state_at opening h) x made)));
    stage = subst (λ g. IsStagedAs g n.stage (state_at opening (e ∷ h)) n.plant)
        (sym (step_stage opening h (state_at opening h) x made))
        (subst (λ s. IsStagedAs (stage_of opening h) n.stage s n.plant) (sym after)
        (subst (λ g. IsStagedAs (stage_of opening h) g (after_step x made (state_at opening h)) n.plant) (sym staged)
        was.stage));
    room = the_room;
  }
    where
      with_stage : (g : Option Staged) → HasRoomFor g m → HasRoomFor g n
      with_stage None had = tt
      with_stage (Some g) had = record {
        changes = subst (λ (fs : Listed). IsTrue fs.has_room) (sym changes) had.changes;
        journal = subst (λ (j : Journaled). IsTrue j.has_room) (sym journal) had.journal;
      }

      the_room : HasRoomFor n.stage n
      the_room = subst (λ g. HasRoomFor g n) (sym staged) (with_stage m.stage it.room)

  entry_is : entry_told n.changes.items (at x made) (answer_in (state_at opening h) x made) ≡ e
  entry_is = ap (λ f. record { call = at x made; answer = answer_in (state_at opening h) x made; effect = f })
      (nothing_told n.changes.items (state_at opening h) x made)

  -- the installation is that of the history with the step, as the machine answered it
  pub step_answered : (answer : Answer) → answer ≡ answer_in m.plant.state x made
      → IsAnswered opening h (at x made) answer n
  step_answered answer is = subst (λ a. IsAnswered opening h (at x made) a n) (sym (is ∙ was.answer)) (record {
    right = subst (IsRight opening h) (sym entry_is) (step_right opening h x made off);
    is = subst (λ z. IsInstallationOf opening (z ∷ h) n) (sym entry_is) moved_on;
  })
