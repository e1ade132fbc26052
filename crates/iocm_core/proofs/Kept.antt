-- What an installation's stage says of its history, and installations that keep what they had.
use Rattle.std.proofs.Common.{◌≡◌, true, false, is_some, Option, MatchOption, Some, None, Result, Ok, Err}
use Rattle.std.proofs.Common.{is_err, OnOk, List, ◌∷◌, length, refl, sym, ap, subst, ◌∙◌}
use Rattle.std.proofs.lemmas.Bool.{false≢true}
use Rattle.std.proofs.lemmas.List.{length-map, length-reverse}
use Rattle.std.specs.FinMap.{len}
use Rattle.iocm_types.specs.declared.answer.Answer.{Answer}
use Rattle.iocm_types.specs.declared.answer.Answer.TheVariants as answers
use Rattle.iocm_types.specs.declared.answer.Counts.{Counts}
use Rattle.iocm_types.specs.declared.refused.Refused.{Refused}
use Rattle.iocm_model.specs.Operation.State.{State, views_in}
use Rattle.iocm_model.specs.Change.Runs.{state_after_all}
use Rattle.iocm_model.specs.Laws.Trees.{KeepsTheRules}
use Rattle.iocm_history.specs.Entry.{Call, show, History, no_effect, plain_entry}
use Rattle.iocm_history.specs.Account.{state_at, stage_of}
use Rattle.iocm_history.specs.Journal.{journal_of}
use Rattle.iocm_history.specs.Legal.{show_answer, IsRight}
use Rattle.iocm_history.specs.Machine.{edits_advanced, machine_at}
use Rattle.iocm_history.specs.Stage.{Stage}
use Rattle.iocm_history.proofs.EachCall.{states_stay_in_use}
use Rattle.iocm_plant.specs.Operating.{Operating}
use Rattle.iocm_activate.specs.declared.effect.Effect.{Effect}
use Rattle.iocm_journal.specs.Answering.{GoOnBy, IsNext}
use Rattle.iocm_journal.specs.JournalLaws.{OneThatKeepsTheSameIsOne, OtherEntriesLeaveIt}
use Rattle.iocm_journal.specs.Now.{IsJournalOf, IsNow, BelongTogether}
use Rattle.iocm_journal.specs.Journaled.{Journaled}
use Rattle.iocm_journal.specs.declared.kept.Undone.{Undone}
use Rattle.iocm_stage.specs.Staged.{IsStaged, IsStageOf}
use Rattle.iocm_stage.specs.declared.staged.Staged.{Staged}
use Rattle.iocm_core.specs.Accepting.{KeepsTheRest}
use Rattle.iocm_core.specs.Running.{IsStagedAs, HasRoomFor, IsInstallationOf, IsRunning, IsAnswered}
use Rattle.iocm_core.specs.Told.{effect_told, entry_told}
use Rattle.iocm_core.specs.declared.installation.Installation.{Installation}
use Rattle.iocm_core.proofs.Idling.{idle_now, shown_stage, refused_now}
use Rattle.iocm_core.proofs.Rightness.{show_right}

-- what holds of a success
pub on_ok : {A E : Type 0} {P : Type 0} (r : Result A E) → false ≡ is_err r → OnOk r P → P
on_ok (Ok x) is p = p
on_ok (Err e) is p = absurd (false≢true is)

-- ---- what is staged

pub record Staging (opening : State) (h : History) (g : Staged) (p : Operating) : Type 0 where
  pub stage : Stage
  pub there : stage_of opening h ≡ Some stage
  pub is : IsStageOf g stage (state_at opening h) p

staged_by : (opening : State) (h : History) (g : Staged) (p : Operating) (t : Option Stage) → stage_of opening h ≡ t
    → IsStagedAs t (Some g) (state_at opening h) p → Staging opening h g p
staged_by opening h g p (Some t) is staged = record { stage = t; there = is; is = staged }
staged_by opening h g p None is staged = absurd staged

pub staging : (opening : State) (h : History) (m : Installation) (g : Staged) → IsInstallationOf opening h m
    → m.stage ≡ Some g → Staging opening h g m.plant
staging opening h m g it is =
    staged_by opening h g m.plant (stage_of opening h) refl
    (subst (λ o. IsStagedAs (stage_of opening h) o (state_at opening h) m.plant) is it.stage)

pub record Idle (opening : State) (h : History) (p : Operating) : Type 0 where
  pub none : stage_of opening h ≡ None
  pub state : p.state ≡ state_at opening h

idle_by : (opening : State) (h : History) (p : Operating) (t : Option Stage) → stage_of opening h ≡ t
    → IsStagedAs t None (state_at opening h) p → Idle opening h p
idle_by opening h p None is state = record { none = is; state = state }
idle_by opening h p (Some t) is state = absurd state

pub idle : (opening : State) (h : History) (m : Installation) → IsInstallationOf opening h m → m.stage ≡ None
    → Idle opening h m.plant
idle opening h m it is =
    idle_by opening h m.plant (stage_of opening h) refl
    (subst (λ o. IsStagedAs (stage_of opening h) o (state_at opening h) m.plant) is it.stage)

-- the state that the machine is in
now_by : (t : Option Stage) (g : Option Staged) (s : State) (p : Operating) → IsStagedAs t g s p
    → p.state ≡ state_after_all (edits_advanced t) s
now_by None None s p state = state
now_by (Some t) (Some g) s p staged = staged.along.state
now_by None (Some g) s p staged = absurd staged
now_by (Some t) None s p staged = absurd staged

pub state_now : (opening : State) (h : History) (m : Installation) → IsInstallationOf opening h m
    → m.plant.state ≡ machine_at opening h
state_now opening h m it = now_by (stage_of opening h) m.stage (state_at opening h) m.plant it.stage

-- by whether something is staged
pub none_if : (g : Option Staged) → false ≡ is_some g → g ≡ None
none_if None is = refl
none_if (Some g) is = absurd (false≢true is)

staged_if_by : (opening : State) (h : History) (o : Option Stage) (g : Option Staged) (s : State) (p : Operating)
    → stage_of opening h ≡ o → IsStagedAs o g s p → true ≡ is_some g
    → (t : Stage) × (stage_of opening h ≡ Some t)
staged_if_by opening h (Some t) g s p there is some = (t, there)
staged_if_by opening h None None s p there is some = absurd (false≢true (sym some))
staged_if_by opening h None (Some g) s p there is some = absurd is

pub staged_if : (opening : State) (h : History) (m : Installation) → IsInstallationOf opening h m
    → true ≡ is_some m.stage → (t : Stage) × (stage_of opening h ≡ Some t)
staged_if opening h m it some =
    staged_if_by opening h (stage_of opening h) m.stage (state_at opening h) m.plant refl it.stage some

pub is_staged : (m : Installation) (g : Staged) → IsRunning m → m.stage ≡ Some g → IsStaged g m.plant
is_staged m g r is = let s = staging r.opening r.history m g r.is is in
    record { stage = s.stage; before = state_at r.opening r.history; is = s.is }

pub staged_or_none : (m : Installation) → IsRunning m → (g : Option Staged) → m.stage ≡ g
    → MatchOption g (Unit {0}) (λ s. IsStaged s m.plant)
staged_or_none m r None is = tt
staged_or_none m r (Some g) is = is_staged m g r is

-- the machine keeps the rules where nothing is staged
pub rules_kept : (m : Installation) → IsRunning m → m.stage ≡ None → KeepsTheRules m.plant.state
rules_kept m r none =
    let i = idle r.opening r.history m r.is none in
    subst KeepsTheRules (sym i.state)
    (states_stay_in_use r.opening r.history r.is.journal.used r.is.journal.legal).rules

-- as many are undone
pub undone_count : (opening : State) (h : History) (j : Journaled) (fs : List Effect) → IsJournalOf opening h j fs
    → length j.undone ≡ length (journal_of h).undone
undone_count opening h j fs i = sym (length-map j.undone (λ (u : Undone). u.number)) ∙ ap length i.undone
    ∙ length-reverse (journal_of h).undone

-- ---- an installation that keeps the rest, where nothing is staged

pub kept_idle : OneThatKeepsTheSameIsOne → (opening : State) (h : History) (m n : Installation)
    → IsInstallationOf opening h m → m.stage ≡ None → n.stage ≡ None → n.plant.state ≡ m.plant.state
    → KeepsTheRest m n
    → IsInstallationOf opening h n
kept_idle as_before opening h m n it was none same rest =
    let i = idle opening h m it was in record {
      journal =
          subst (IsJournalOf opening h n.journal) (sym rest.changes)
          (as_before opening h m.journal n.journal m.changes.items rest.journal it.journal);
      stage = subst (λ g. IsStagedAs g n.stage (state_at opening h) n.plant) (sym i.none)
          (subst (λ g. IsStagedAs None g (state_at opening h) n.plant) (sym none) (same ∙ i.state));
      room = subst (λ g. HasRoomFor g n) (sym none) tt;
    }

-- ---- refusals

pub refuses : OtherEntriesLeaveIt → (opening : State) (h : History) (m : Installation) (call : Call) (why : Refused)
    → IsInstallationOf opening h m → IsRight opening h (plain_entry call (answers.Refused why))
    → IsAnswered opening h call (answers.Refused why) m
refuses others opening h m call why it right =
    record { right = right; is = refused_now others opening h m call why it right }

-- ---- what is counted

pub shown_answered : OtherEntriesLeaveIt → (opening : State) (h : History) (m : Installation) (counts : Counts)
    → IsInstallationOf opening h m → m.stage ≡ None
    → counts.records ≡ len m.plant.state.config → counts.subchannels ≡ len (views_in m.plant.state)
    → counts.standing ≡ m.journal.standing → counts.undone ≡ length m.journal.undone
    → IsAnswered opening h show (answers.Shown counts) m
shown_answered others opening h m counts it none records subchannels standing undone =
    let i = idle opening h m it none in
    let is : answers.Shown counts ≡ show_answer (state_at opening h) (journal_of h) = λ z. answers.Shown (record {
      records = (records ∙ ap (λ (s : State). len s.config) i.state) z;
      subchannels = (subchannels ∙ ap (λ s. len (views_in s)) i.state) z;
      standing = (standing ∙ it.journal.standing) z;
      undone = (undone ∙ undone_count opening h m.journal m.changes.items it.journal) z;
    }) in
    let right = show_right opening h (answers.Shown counts) i.none is in
    record {
      right = right;
      is = idle_now others opening h m (plain_entry show (answers.Shown counts)) it right tt tt
          (shown_stage opening h counts);
    }

-- ---- where what was staged is taken out of the installation, since nothing was
pub refuses_taken : OtherEntriesLeaveIt → (opening : State) (h : History) (m n : Installation) (call : Call)
    (why : Refused) → IsInstallationOf opening h m → m.stage ≡ None
    → n.plant ≡ m.plant → n.journal ≡ m.journal → n.stage ≡ None → n.changes ≡ m.changes
    → IsRight opening h (plain_entry call (answers.Refused why))
    → IsAnswered opening h call (answers.Refused why) n
refuses_taken others opening h m n call why it none plant journal gone changes right =
    subst (IsAnswered opening h call (answers.Refused why))
    (λ i. record { plant = sym plant i; journal = sym journal i; stage = (none ∙ sym gone) i; changes = sym changes i })
    (refuses others opening h m call why it right)

-- ---- what a journal's call leaves

pub now_of : (opening : State) (h : History) (m : Installation) → IsInstallationOf opening h m → m.stage ≡ None
    → IsNow opening h m.journal m.changes.items m.plant
now_of opening h m it none = let i = idle opening h m it none in
    record { journal = it.journal; idle = i.none; state = i.state }

pub together : (m : Installation) → IsRunning m → m.stage ≡ None → BelongTogether m.journal m.changes.items m.plant
together m r none = record { opening = r.opening; history = r.history; now = now_of r.opening r.history m r.is none }

pub next_answered : (opening : State) (h : History) (call : Call) (answer : Answer) (n : Installation)
    → IsNext opening h (plain_entry call answer) n.journal n.changes.items n.plant
    → n.stage ≡ None → effect_told n.changes.items answer ≡ no_effect → IsAnswered opening h call answer n
next_answered opening h call answer n next none told =
    let e : entry_told n.changes.items call answer ≡ plain_entry call answer
    = ap (λ f. record { call = call; answer = answer; effect = f }) told in record {
      right = subst (IsRight opening h) (sym e) next.right;
      is = subst (λ z. IsInstallationOf opening (z ∷ h) n) (sym e) (record {
        journal = next.now.journal;
        stage = subst (λ g. IsStagedAs g n.stage (state_at opening (plain_entry call answer ∷ h)) n.plant)
            (sym next.now.idle)
            (subst (λ g. IsStagedAs None g (state_at opening (plain_entry call answer ∷ h)) n.plant) (sym none)
            next.now.state);
        room = subst (λ g. HasRoomFor g n) (sym none) tt;
      });
    }

-- an undo or a redo by the journal is answered as the journal goes on
pub journal_answered : {opening : State} {h : History} {m : Installation} (it : IsInstallationOf opening h m)
    (none : m.stage ≡ None)
    (call : Call) (answer : Answer) (j : Journaled) (p : Operating)
    → GoOnBy (plain_entry call answer) m.changes.items m.journal m.plant j p
    → effect_told m.changes.items answer ≡ no_effect
    → IsAnswered opening h call answer (record m { plant = p; journal = j })
journal_answered {opening = opening} {h = h} {m = m} it none call answer j p goes told =
    next_answered opening h call answer (record m { plant = p; journal = j })
    (goes opening h (now_of opening h m it none)) none told
