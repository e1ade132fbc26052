-- Where an undo may be accepted, it is, and does what the inverse tree of its change means.
use Rattle.std.proofs.Common.{◌≡◌, inl, ℕ, true, cond, ◌∷◌, None, sym, ◌∙◌}
use Rattle.iocm_types.specs.declared.answer.Answer.TheVariants.{Undone}
use Rattle.iocm_types.specs.declared.answer.Answer.TheVariants as answers
use Rattle.iocm_types.specs.declared.refused.At.TheVariants.{Nothing}
use Rattle.iocm_types.specs.declared.rule.Rule.TheVariants.{J1}
use Rattle.iocm_model.specs.Change.Refusal.{refusal_at}
use Rattle.iocm_model.specs.Operation.State.{State}
use Rattle.iocm_history.specs.Account.{account, marked_entries, stage_of, state_at}
use Rattle.iocm_history.specs.Entry.{undo, History, plain_entry}
use Rattle.iocm_history.specs.Journal.{is_in, journal_of}
use Rattle.iocm_history.specs.Legal.{unless_staged, undo_answer, not_quiet_of, entry_of, IsRight, IsLegal}
use Rattle.iocm_history.specs.StandsOn.{stands_on}
use Rattle.iocm_history.specs.UndoLaws.{undo_entry}
use Rattle.iocm_history.proofs.Undoing.{undo_does_what_the_inverse_tree_does}
use Rattle.iocm_history.specs.JournalLaws.{UndoMeansTheUndo}

-- an undo is accepted where nothing is staged, its change stands, nothing stands on it, and its
-- subchannels are quiet
pub undo_right : (opening : State) (h : History) (n : ℕ) → stage_of opening h ≡ None
    → is_in n (journal_of h).standing ≡ true
    → stands_on n (marked_entries opening h) (state_at opening h) ≡ None
    → not_quiet_of n (state_at opening h) (account opening h) ≡ None
    → IsRight opening h (undo_entry n)
undo_right opening h n idle here none quiet = inl (sym is)
  where
    is : entry_of opening h (undo n) ≡ undo_entry n
    is = (λ i. unless_staged (idle i) (undo n) (plain_entry (undo n)
        (undo_answer n (journal_of h).standing (stands_on n (marked_entries opening h) (state_at opening h))
        (not_quiet_of n (state_at opening h) (account opening h)))))
        ∙ (λ i. plain_entry (undo n) (undo_answer n (journal_of h).standing (none i) (quiet i)))
        ∙ (λ i. plain_entry (undo n) (cond (here i) (Undone n) (answers.Refused (refusal_at J1 Nothing))))

pub undo_means_the_undo : UndoMeansTheUndo
undo_means_the_undo opening h n c used legal idle here none quiet at =
    let more : IsLegal opening (undo_entry n ∷ h) = (undo_right opening h n idle here none quiet, legal) in
    (more, undo_does_what_the_inverse_tree_does opening h n c used more at)
