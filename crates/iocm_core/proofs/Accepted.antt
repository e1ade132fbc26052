-- A change that is accepted.
use Rattle.std.proofs.Common.{◌≡◌, ℕ, ◌+◌, ◌-◌, length, Some, None, List, [], ◌∷◌, ◌++◌, refl, sym, ap, subst, ◌∙◌}
use Rattle.std.proofs.Common.{arith}
use Rattle.std.specs.Option.{option_map_or}
use Rattle.std.specs.List.{slice_get}
use Rattle.iocm_types.specs.declared.answer.Answer.TheVariants as answers
use Rattle.iocm_model.specs.Operation.State.{State}
use Rattle.iocm_history.specs.Change.{Change, effect_of_change}
use Rattle.iocm_history.specs.Entry.{Call, Entry, History, no_effect}
use Rattle.iocm_history.specs.MarkedEntry.{change_at}
use Rattle.iocm_history.specs.Account.{marked_entries, state_at, stage_of}
use Rattle.iocm_history.specs.Journal.{journal_of}
use Rattle.iocm_history.specs.Legal.{IsRight}
use Rattle.iocm_activate.specs.Effects.{effect_in}
use Rattle.iocm_activate.specs.declared.done.Done.{Done}
use Rattle.iocm_activate.specs.declared.effect.Effect.{Effect}
use Rattle.iocm_journal.specs.Now.{IsJournalOf}
use Rattle.iocm_stage.specs.Staged.{Tells}
use Rattle.iocm_core.specs.Accepting.{AcceptsOne}
use Rattle.iocm_core.specs.Running.{IsStagedAs, HasRoomFor, IsInstallationOf, IsAnswered}
use Rattle.iocm_core.specs.Told.{effect_told, entry_told}
use Rattle.iocm_core.specs.declared.installation.Installation.{Installation}

-- one that is put behind a list is there
at_end : {A : Type 0} (xs : List A) (x : A) → slice_get (xs ++ x ∷ []) (length xs) ≡ Some x
at_end [] x = refl
at_end (y ∷ xs) x = at_end xs x

-- the answer with the newest change's number tells of it
pub told_newest : (fs : List Effect) (f : Effect) (n : ℕ) → n ≡ length fs + 1
    → effect_told (fs ++ f ∷ []) (answers.Changed n) ≡ effect_in f
told_newest fs f n is =
    let place : n - 1 ≡ length fs = omega (arith, is) in
    ap (λ k. option_map_or effect_in (slice_get (fs ++ f ∷ []) k) no_effect) place
    ∙ ap (λ o. option_map_or effect_in o no_effect) (at_end fs f)

module _ (opening : State) (h : History) (m n : Installation) (it : IsInstallationOf opening h m) (call : Call)
    (done : Done) (c : Change) (told : Tells done c)
    (accepts : AcceptsOne done m n) where
  abbrev number : ℕ
  number = length m.journal.changes + 1

  abbrev e : Entry
  e = record { call = call; answer = answers.Changed ((journal_of h).count + 1); effect = effect_of_change c }

  number_is : number ≡ (journal_of h).count + 1
  number_is = ap (λ k. k + 1) (sym it.journal.count)

  -- the entry is that of the change
  pub entry_is : entry_told n.changes.items call (answers.Changed number) ≡ e
  entry_is =
      let effect : effect_told n.changes.items (answers.Changed number) ≡ effect_of_change c
      = ap (λ fs. effect_told fs (answers.Changed number)) accepts.changes
      ∙ told_newest m.changes.items done.effect number (ap (λ k. k + 1) (sym it.journal.effects)) ∙ told.effect in
      λ z. record { call = call; answer = answers.Changed (number_is z); effect = effect z }

  pub accepted_now : IsRight opening h e
      → change_at ((journal_of h).count + 1) (marked_entries opening (e ∷ h)) ≡ Some c → n.stage ≡ None
      → stage_of opening (e ∷ h) ≡ None → n.plant.state ≡ state_at opening (e ∷ h)
      → IsAnswered opening h call (answers.Changed number) n
  accepted_now right there none idle state = record {
    right = subst (IsRight opening h) (sym entry_is) right;
    is = subst (λ z. IsInstallationOf opening (z ∷ h) n) (sym entry_is) (record {
      journal = subst (IsJournalOf opening (e ∷ h) n.journal) (sym accepts.changes)
          (accepts.journal.takes_in opening h m.changes.items e done.effect it.journal
          (record {
            right = right;
            answer = refl;
            change = c;
            there = there;
            takes_back = told.inverse;
            told = told.performed;
            wrote = told.effect;
          }));
      stage = subst (λ g. IsStagedAs g n.stage (state_at opening (e ∷ h)) n.plant) (sym idle)
          (subst (λ g. IsStagedAs None g (state_at opening (e ∷ h)) n.plant) (sym none) state);
      room = subst (λ g. HasRoomFor g n) (sym none) tt;
    });
  }
